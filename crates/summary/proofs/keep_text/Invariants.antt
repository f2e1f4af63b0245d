-- `keep_text` meets its contract: `Along` holds before each command, and what is left of the text falls.
use Prim.Native.Nat.{◌-◌}
use lib.ListN.{length}
use Rattle.summary.proofs.Along.{Along}
use Rattle.summary.proofs.keep_text.Given as goal

abbrev pub invariant-loop-c : goal.invariant-loop-c
invariant-loop-c l = Along l.text (length l.initial.bodies) l.initial.words l.names.numbers l.names.count l.rows l.bodies l.words l.column l.spot l.stock l.counts

abbrev pub decreases-loop-c : goal.decreases-loop-c
decreases-loop-c l = length l.text - l.spot.at
