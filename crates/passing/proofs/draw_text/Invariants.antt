-- `draw_text` meets its contract: `Passing` holds before each command, and what is left of the text falls.
use Prim.Native.Nat.{◌-◌}
use lib.ListN.{length}
use Rattle.passing.proofs.Passing.{Passing}
use Rattle.passing.proofs.draw_text.Given as goal

abbrev pub invariant-loop-kind : goal.invariant-loop-kind
invariant-loop-kind l =
    Passing l.text (length l.initial.bodies) l.initial.words l.initial.numbers l.initial.drawing l.initial.room l.rows l.bodies l.words l.numbers l.drawing l.room l.spot l.layer l.stock l.ink

abbrev pub decreases-loop-kind : goal.decreases-loop-kind
decreases-loop-kind l =
    length l.text - l.spot.at
