-- `digits::lay_decimal` meets its contract, for every number of 64 bits.
use mir.Facts.{to_z-of_z}
use Rattle.digits.proofs.Writing.{nothing, same_bytes}
use Rattle.digits.proofs.Signs.{minus, no_minus, signed}
use Rattle.digits.proofs.lay_decimal.Goals as goal

pub returns-then-z-lt0 : goal.returns-then-z-lt0
returns-then-z-lt0 c = signed c.args.z (same_bytes (minus c.args.z (rw (to_z-of_z c.ranges.z) at c.if-z-lt0.true)) c.lay-first.ensures) (rw (c.unsigned_abs.ensures.value, to_z-of_z c.ranges.z) at c.lay_digits.ensures)

pub returns : goal.returns
returns c = signed c.args.z (same_bytes (no_minus c.args.z (rw (to_z-of_z c.ranges.z) at c.if-z-lt0.false)) (nothing _ _)) (rw (c.unsigned_abs-2.ensures.value, to_z-of_z c.ranges.z) at c.lay_digits-2.ensures)
