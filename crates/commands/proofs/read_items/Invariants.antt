-- `read_items` meets its contract: Wording holds before each piece, and what is left of the text falls.
use Prim.Native.Nat.{◌-◌}
use lib.ListN.{length}
use Rattle.commands.proofs.Wording.{Wording}
use Rattle.commands.proofs.read_items.Given as goal

abbrev pub invariant-loop-spot : goal.invariant-loop-spot
invariant-loop-spot l = Wording l.text l.initial.spot l.letter l.a l.b l.initial.words l.spot l.c l.words

abbrev pub decreases-loop-spot : goal.decreases-loop-spot
decreases-loop-spot l = length l.text - l.spot.at
