-- `position_of` meets its contract: the pass keeps line and column of the next byte (Passes).
use lib.ListN.{take}
use Rattle.position.proofs.Passes.{Counted}
use Rattle.position.proofs.position_of.Given as goal

abbrev pub invariant-loop-b : goal.invariant-loop-b
invariant-loop-b l = Counted (take l.b-index l.before) l.line l.column
