-- `digits::put_decimal` meets its contract, for every number of 64 bits.
use mir.Facts.{to_z-of_z}
use Rattle.digits.proofs.Signs.{signed}
use Rattle.digits.proofs.put_decimal.Goals as goal

pub returns : goal.returns
returns c = signed c.args.z (rw (to_z-of_z c.ranges.z) at c.put_sign-next.ensures) (rw (c.unsigned_abs.ensures.value, to_z-of_z c.ranges.z) at c.put_digits.ensures)
