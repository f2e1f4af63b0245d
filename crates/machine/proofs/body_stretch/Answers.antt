-- `body_stretch` meets its contract: the parts that are lent on are those that it names (proofs/Cutting.antt).
use native.Mathlib.Omega.{arith}
use Rattle.machine.proofs.Cutting.{seen_in, lent-within, body_asked, stretched}
use Rattle.machine.proofs.body_stretch.Goals as goal

pub overflow_sub-left : goal.overflow_sub-left
overflow_sub-left c = omega (arith, c.requires.low)

pub slice_bounds-draw_body-end : goal.slice_bounds-draw_body-end
slice_bounds-draw_body-end c = lent-within c.args.bodies.now c.at_most-lent.ensures

pub slice_bounds-draw_body-end-3 : goal.slice_bounds-draw_body-end-3
slice_bounds-draw_body-end-3 c = seen_in c.args.c.writing _ c.seen-onto.ensures

pub draw_body-requires : goal.draw_body-requires
draw_body-requires c = body_asked c.args.rows.now c.args.bodies.now c.args.c c.args.here c.at_most-lent.ensures c.requires

pub returns : goal.returns
returns c = stretched c.args.rows.now c.args.bodies.now c.args.c c.args.here c.at_most-lent.ensures c.requires c.args.room.now c.seen-onto.ensures _ _ c.draw_body.auto.room c.draw_body.ensures.body_comes c.draw_body.ensures.grows
