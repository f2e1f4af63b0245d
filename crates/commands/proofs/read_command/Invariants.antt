-- `read_command` meets its contract: Seeking holds up to a first letter, the run is as it was, and what is left of the text falls.
use mathlib.Core.Path.{◌≡◌}
use Prim.Native.Nat.{◌-◌}
use lib.ListN.{length}
use Rattle.commands.proofs.Wording.{Seeking}
use Rattle.commands.proofs.read_command.Given as goal

abbrev pub invariant-loop-m : goal.invariant-loop-m
invariant-loop-m l = Seeking l.text l.initial.spot l.spot × (l.words ≡ l.initial.words)

abbrev pub decreases-loop-m : goal.decreases-loop-m
decreases-loop-m l = length l.text - l.spot.at
