-- `pen::number_length` meets its contract: one byte more for the space before a number that is not the first.
use native.Mathlib.Omega.{arith}
use mir.Facts.{to_z-of_z}
use Rattle.digits.proofs.Signs.{lent}
use Rattle.digits.proofs.Digits.{decimal-64}
use Rattle.pen.proofs.number_length.Goals as goal

pub overflow_add-result : goal.overflow_add-result
overflow_add-result c = let e = rw (to_z-of_z c.ranges.z) at c.decimal_length-own.ensures in let l = decimal-64 c.args.z (lent c.args.z c.ranges.z.sfits).1 in omega (arith, e, l)
