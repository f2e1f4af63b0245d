-- `draw_commands` meets its contract: the text stands in the same drawing after each command (proofs/Onward.antt, proofs/Along.antt).
use Prim.Native.Nat.{◌-◌}
use lib.ListN.{length}
use Rattle.between.proofs.Onward.{stand_at}
use Rattle.between.proofs.Along.{Along}
use Rattle.between.proofs.draw_commands.Given as goal

abbrev pub invariant-loop-command : goal.invariant-loop-command
invariant-loop-command l =
    Along l.text l.records l.initial.rows l.initial.bodies l.initial.words l.initial.room (stand_at l.initial.spot l.initial.layer l.initial.stock) l.initial.ink l.rows l.bodies l.words l.room l.spot l.layer l.stock l.ink

abbrev pub decreases-loop-command : goal.decreases-loop-command
decreases-loop-command l = length l.text - l.spot.at
