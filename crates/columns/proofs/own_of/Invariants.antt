-- `own_of` meets its contract: `Adding` holds before each command.
use Prim.Native.Nat.{◌+◌, ◌-◌}
use Rattle.columns.proofs.Adding.{Adding}
use Rattle.columns.proofs.own_of.Given as goal

abbrev pub invariant-loop-at : goal.invariant-loop-at
invariant-loop-at l = Adding l.bodies l.from l.many l.names.numbers l.names.count l.at l.shapes l.calls l.layers l.layer

abbrev pub decreases-loop-at : goal.decreases-loop-at
decreases-loop-at l = l.from + l.many - l.at
