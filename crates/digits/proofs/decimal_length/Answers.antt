-- `digits::decimal_length` meets its contract: the digits of the size, and one byte more before a negative number.
use mathlib.Core.Path.{ap}
use native.Mathlib.Omega.{arith}
use lib.ListN.{length}
use mir.Facts.{to_z-of_z}
use Rattle.digits.proofs.Signs.{minus, no_minus, decimal-length}
use Rattle.digits.proofs.Digits.{digits-64}
use Rattle.digits.proofs.decimal_length.Goals as goal

pub overflow_add-result : goal.overflow_add-result
overflow_add-result c = let e = c.digit_count-count.ensures in let l = digits-64 c.unsigned_abs.result (omega arith) in omega (arith, e, l)

pub returns-then-z-lt0 : goal.returns-then-z-lt0
returns-then-z-lt0 c = let e = rw (c.unsigned_abs.ensures.value, to_z-of_z c.ranges.z) at c.digit_count-count.ensures in let m = ap length (minus c.args.z (rw (to_z-of_z c.ranges.z) at c.if-z-lt0.true)) in omega (arith, e, m, decimal-length c.args.z)

pub returns : goal.returns
returns c = let e = rw (c.unsigned_abs.ensures.value, to_z-of_z c.ranges.z) at c.digit_count-count.ensures in let m = ap length (no_minus c.args.z (rw (to_z-of_z c.ranges.z) at c.if-z-lt0.false)) in omega (arith, e, m, decimal-length c.args.z)
