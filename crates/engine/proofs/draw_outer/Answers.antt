-- `draw_outer` meets its contract: a call or a shape by the function that draws it (proofs/Outer.antt), where no call is open.
use native.Mathlib.Omega.{arith}
use Rattle.turns.proofs.Nets.{near-more}
use Rattle.engine.proofs.Outer.{ready_at, said-call, said-shape, shape-fits, call-painted, shape-painted}
use Rattle.engine.proofs.draw_outer.Goals as goal

pub read_call-call-requires : goal.read_call-call-requires
read_call-call-requires c = (said-call c.requires.says.1 c.if-kind-eq67.true, near-more (omega arith) c.still-still.ensures.1)

pub draw_call-requires : goal.draw_call-requires
draw_call-requires c = (ready_at c.requires.ready (omega arith), near-more (omega arith) ((c.read_call-call.ensures (said-call c.requires.says.1 c.if-kind-eq67.true)).near 0 c.still-still.ensures.1))

pub returns-then-kind-eq67 : goal.returns-then-kind-eq67
returns-then-kind-eq67 c = call-painted c.args.rows.now c.args.bodies.now c.args.live c.args.layer c.args.place c.still-still.ensures.0 c.args.drawing.now _ c.if-kind-eq67.true c.read_call-call.ensures c.draw_call.ensures.call_draws

pub draw_shape-requires : goal.draw_shape-requires
draw_shape-requires c = let h = said-shape c.requires.says.1 c.if-kind-eq67.false in record { shaped_at = (h, shape-fits h c.requires.ready.roomy); near = (near-more (omega arith) c.still-still.ensures.1, c.requires.ready.reached) }

pub returns : goal.returns
returns c = shape-painted c.args.rows.now c.args.bodies.now c.args.live c.args.layer c.args.place c.still-still.ensures.0 c.args.drawing.now _ c.if-kind-eq67.false c.stop.ensures c.draw_shape.ensures
