-- `pen::write_numbers` meets its contract: the loop's invariant says how many numbers are written.
use native.Mathlib.Omega.{arith}
use lib.IntN.{pos}
use lib.ListN.{get_or}
use Rattle.digits.proofs.Signs.{lent}
use Rattle.pen.proofs.Numbers.{first-along, next-along, all_along}
use Rattle.pen.proofs.write_numbers.Goals as goal

pub loop-i-init : goal.loop-i-init
loop-i-init g c = first-along _ _ _

pub loop-i-preserved : goal.loop-i-preserved
loop-i-preserved g c = let z = lent (get_or c.args.numbers.now c.loop-i.i (pos 0)) (omega arith) in next-along c.loop-i.invariant (omega arith) z.1 (rw z.0 at c.write_number-at.ensures)

pub returns-clause-writes : goal.returns-clause-writes
returns-clause-writes g c = all_along c.loop-i.invariant c.loop-i-test.false
