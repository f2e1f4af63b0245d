-- `warn_text` meets its contract: `Along` holds before each command, and what is left of the text falls.
use Prim.Native.Nat.{◌-◌}
use lib.ListN.{length}
use Rattle.warning.proofs.Along.{Along}
use Rattle.warning.proofs.warn_text.Given as goal

abbrev pub invariant-loop-c : goal.invariant-loop-c
invariant-loop-c l =
    Along l.text (length l.initial.bodies) l.initial.words l.initial.out l.from l.rows l.bodies l.words l.out l.spot l.stock l.counts l.searched l.at

abbrev pub decreases-loop-c : goal.decreases-loop-c
decreases-loop-c l =
    length l.text - l.spot.at
