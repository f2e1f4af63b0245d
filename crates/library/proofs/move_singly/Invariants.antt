-- `move_singly` meets its contract: words go down from the first on.
use Rattle.library.specs.Moving.{Moved}
use Rattle.library.proofs.move_singly.Given as goal

abbrev pub invariant-loop-k : goal.invariant-loop-k
invariant-loop-k l = Moved l.initial.bodies l.from l.to l.k l.bodies
