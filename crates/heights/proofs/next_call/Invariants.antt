-- `next_call` meets its contract: `Ahead` holds before each command.
use Prim.Native.Nat.{◌-◌}
use Rattle.heights.proofs.Nexts.{Ahead}
use Rattle.heights.proofs.next_call.Given as goal

abbrev pub invariant-loop-at : goal.invariant-loop-at
invariant-loop-at l = Ahead l.bodies l.from l.end l.at

abbrev pub decreases-loop-at : goal.decreases-loop-at
decreases-loop-at l = l.end - l.at
