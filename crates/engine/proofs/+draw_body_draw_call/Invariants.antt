-- The measure of `draw_body` and `draw_call`: how many levels are left, and in a body how many of its words. A body keeps what is left to draw (proofs/Underway.antt).
use Rattle.engine.proofs.Underway.{Underway}
use Prim.Native.Nat.{◌+◌, ◌-◌, ◌*◌}
use Rattle.engine.proofs.+draw_body_draw_call.Given as goal

abbrev pub decreases-draw_body : goal.decreases-draw_body
decreases-draw_body l = l.left * 33554432 + (l.end - l.from) + 1

abbrev pub decreases-draw_call : goal.decreases-draw_call
decreases-draw_call l = l.left * 33554432

abbrev pub invariant-draw_body-loop-at : goal.invariant-draw_body-loop-at
invariant-draw_body-loop-at l =
    Underway l.rows l.bodies l.live l.net l.left l.from l.end l.initial.ink l.initial.numbers l.initial.drawing l.initial.room l.numbers l.drawing l.room l.at l.layer l.ink

abbrev pub decreases-draw_body-loop-at : goal.decreases-draw_body-loop-at
decreases-draw_body-loop-at l =
    l.end - l.at
