-- `move_fours` meets its contract, four by four.
use Rattle.std.proofs.Common.{◌≤◌, ◌-◌}
use Rattle.library.specs.Moving.{Moved}
use Rattle.library.proofs.move_fours.Given as goal

abbrev pub invariant-loop-k : goal.invariant-loop-k
invariant-loop-k l = (l.k ≤ l.n) × Moved l.initial.bodies l.from l.to l.k l.bodies

abbrev pub decreases-loop-k : goal.decreases-loop-k
decreases-loop-k l = l.n - l.k
