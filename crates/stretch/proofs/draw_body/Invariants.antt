-- `draw_body` meets its contract: it keeps what is left to draw (proofs/Running.antt), and ends where a call is opened.
use Rattle.stretch.proofs.Running.{Running}
use Prim.Native.Nat.{◌-◌}
use Rattle.stretch.proofs.draw_body.Given as goal

abbrev pub invariant-loop-at : goal.invariant-loop-at
invariant-loop-at l =
    Running l.records l.rows l.bodies l.live l.drawing l.left l.net l.end l.initial.at l.initial.layer l.initial.ink l.initial.room l.room l.at l.layer l.ink

abbrev pub decreases-loop-at : goal.decreases-loop-at
decreases-loop-at l = l.end - l.at
