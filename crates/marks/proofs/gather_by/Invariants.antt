-- `gather_by` meets its contract: `Gathering` holds before each command, and what is left of the text falls.
use Prim.Native.Nat.{◌-◌}
use lib.ListN.{length}
use Rattle.marks.proofs.Gathering.{Gathering}
use Rattle.marks.proofs.gather_by.Given as goal

abbrev pub invariant-loop-c : goal.invariant-loop-c
invariant-loop-c l = Gathering l.text l.names l.words l.spot

abbrev pub decreases-loop-c : goal.decreases-loop-c
decreases-loop-c l = length l.text - l.spot.at
