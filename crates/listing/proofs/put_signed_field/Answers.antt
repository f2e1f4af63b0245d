-- `listing::put_signed_field` meets its contract: a number of 64 bits has at most 20 bytes.
use native.Mathlib.Omega.{arith}
use Rattle.digits.proofs.Digits.{decimal-64}
use lib.Signed.{nat_abs-le}
use mir.Facts.{to_z-of_z}
use Rattle.listing.proofs.put_signed_field.Goals as goal

pub returns-clause-upper_bound : goal.returns-clause-upper_bound
returns-clause-upper_bound c = let w = rw (to_z-of_z c.ranges.z) at c.put_decimal.ensures.ends in omega (arith, c.put-next.ensures.ends, w, decimal-64 c.args.z (nat_abs-le c.args.z c.ranges.z.sfits))
