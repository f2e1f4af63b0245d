-- `shift` meets its contract: numbers go up from the last on.
use Rattle.std.proofs.Common.{◌≤◌, ◌*◌}
use Rattle.library.proofs.Entering.{Shifting}
use Rattle.library.proofs.shift.Given as goal

abbrev pub invariant-loop-k : goal.invariant-loop-k
invariant-loop-k l = (5 * l.i ≤ l.k) × Shifting l.initial.rows l.live l.k l.rows
