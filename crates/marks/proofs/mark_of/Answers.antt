-- `mark_of` meets its contract: none of the names passed is this one.
use native.Mathlib.Omega.{arith}
use Rattle.marks.specs.Noted.{marked, unmarked}
use Rattle.marks.proofs.mark_of.Goals as goal

pub returns-then-names-i : goal.returns-then-names-i
returns-then-names-i c = marked (omega arith) c.loop-i.invariant c.if-names-i.true

pub returns : goal.returns
returns c = unmarked (λ k h. c.loop-i.invariant k (omega arith))
