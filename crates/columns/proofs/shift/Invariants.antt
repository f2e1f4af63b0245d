-- `shift` meets its contract: numbers go up from the last on.
use Rattle.columns.proofs.Putting.{Shifting}
use Rattle.columns.proofs.shift.Given as goal

abbrev pub invariant-loop-k : goal.invariant-loop-k
invariant-loop-k l = Shifting l.initial.column l.before l.row l.k l.column
