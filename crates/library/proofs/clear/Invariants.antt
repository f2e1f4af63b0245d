-- `clear` meets its contract, part by part.
use Rattle.library.specs.Clearing.{Cleared}
use lib.ListN.{length}
use Prim.Native.Nat.{◌-◌}
use Rattle.library.proofs.clear.Given as goal

abbrev pub invariant-loop-i : goal.invariant-loop-i
invariant-loop-i l = Cleared l.initial.bodies l.bodies l.i

abbrev pub decreases-loop-i : goal.decreases-loop-i
decreases-loop-i l = length l.initial.bodies - l.i
