-- `checked` meets its contract: Checking holds before each piece, and what is left of the text falls.
use Prim.Native.Nat.{◌-◌}
use lib.ListN.{length}
use Rattle.checking.proofs.Checking.{Checking}
use Rattle.checking.proofs.checked.Given as goal

abbrev pub invariant-loop-n : goal.invariant-loop-n
invariant-loop-n l = Checking l.text l.spot l.s l.c

abbrev pub decreases-loop-n : goal.decreases-loop-n
decreases-loop-n l = length l.text - l.spot.at
