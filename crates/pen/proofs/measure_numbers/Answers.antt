-- `pen::measure_numbers` meets its contract, by the invariant of `write_numbers` in a room of no bytes.
use native.Mathlib.Omega.{arith}
use lib.Dec.{eqb}
use lib.IntN.{pos}
use lib.ListN.{get_or}
use Rattle.digits.proofs.Writing.{only_counted}
use Rattle.digits.proofs.Signs.{lent}
use Rattle.pen.proofs.Numbers.{first-along, next-along, all_along, number-64}
use Rattle.pen.proofs.measure_numbers.Goals as goal

pub loop-i-init : goal.loop-i-init
loop-i-init c = first-along _ _ _

pub overflow_add-at : goal.overflow_add-at
overflow_add-at c = let z = lent (get_or c.args.numbers.now c.loop-i.i (pos 0)) (omega arith) in let e = rw z.0 at c.number_length-at.ensures in let l = number-64 (eqb c.loop-i.i 0) (get_or c.args.numbers.now c.loop-i.i (pos 0)) z.1 in omega (arith, e, l, c.loop-i.invariant.short)

pub loop-i-preserved : goal.loop-i-preserved
loop-i-preserved c = let z = lent (get_or c.args.numbers.now c.loop-i.i (pos 0)) (omega arith) in next-along c.loop-i.invariant (omega arith) z.1 (only_counted (omega arith) (let e = rw z.0 at c.number_length-at.ensures in omega (arith, e)))

pub returns : goal.returns
returns c = ((all_along c.loop-i.invariant c.loop-i-test.false).ends, omega (arith, c.loop-i.invariant.short))
