-- `draw_body` meets its contract: it keeps what is left to draw (proofs/Running.antt), and ends where a call is opened.
use Rattle.turns.proofs.Nets.{near-more}
use native.Mathlib.Omega.{arith}
use mathlib.Core.Path.{ap, ◌∙◌}
use Rattle.std.specs.Prelude.{Err}
use Rattle.std.proofs.lemmas.Result.{err_from_is_err_and}
use Rattle.stretch.proofs.Running.{started, reached-here, was_all, two_more, met, layer_asked, was_layer, shape_asked, was_shape, shape-refused, call_asked, call-refused, call_opens, call-grows, all_grows, stopped-grows}
use Rattle.stretch.proofs.draw_body.Goals as goal

pub loop-at-init : goal.loop-at-init
loop-at-init c = started _ _ c.requires.2 c.requires.0.reached

pub head_at-head-requires : goal.head_at-head-requires
head_at-head-requires c = let z = two_more c.loop-at.invariant (omega (arith, c.loop-at-test.true)) in (omega (arith, z, c.requires.2.within), c.requires.0.short)

pub overflow_add-from : goal.overflow_add-from
overflow_add-from c = let z = two_more c.loop-at.invariant (omega (arith, c.loop-at-test.true)) in omega (arith, z, c.requires.2.within, c.requires.0.short)

pub name_at-layer-requires : goal.name_at-layer-requires
name_at-layer-requires c = layer_asked c.loop-at.invariant (met c.loop-at.invariant (omega (arith, c.loop-at-test.true)) c.head_at-head.ensures) c.requires.2.within c.if-kind-eq76.true

pub loop-at-smaller-then-kind-eq76 : goal.loop-at-smaller-then-kind-eq76
loop-at-smaller-then-kind-eq76 c = let m = met c.loop-at.invariant (omega (arith, c.loop-at-test.true)) c.head_at-head.ensures in omega (arith, m.next, m.within, c.loop-at-test.true)

pub loop-at-preserved-then-kind-eq76 : goal.loop-at-preserved-then-kind-eq76
loop-at-preserved-then-kind-eq76 c = was_layer c.loop-at.invariant (met c.loop-at.invariant (omega (arith, c.loop-at-test.true)) c.head_at-head.ensures) c.requires.2.within c.if-kind-eq76.true _ c.name_at-layer.ensures

pub offset_bounds-bodies-from : goal.offset_bounds-bodies-from
offset_bounds-bodies-from c = let m = met c.loop-at.invariant (omega (arith, c.loop-at-test.true)) c.head_at-head.ensures in omega (arith, m.next, m.within, c.requires.2.within, c.requires.0.short)

pub slice_bounds-read_call-count : goal.slice_bounds-read_call-count
slice_bounds-read_call-count c = let m = met c.loop-at.invariant (omega (arith, c.loop-at-test.true)) c.head_at-head.ensures in omega (arith, m.next)

pub slice_bounds-read_call-start : goal.slice_bounds-read_call-start
slice_bounds-read_call-start c = let m = met c.loop-at.invariant (omega (arith, c.loop-at-test.true)) c.head_at-head.ensures in omega (arith, m.next, m.within, c.requires.2.within)

pub slice_bounds-read_call-end : goal.slice_bounds-read_call-end
slice_bounds-read_call-end c = let m = met c.loop-at.invariant (omega (arith, c.loop-at-test.true)) c.head_at-head.ensures in omega (arith, m.next, m.within, c.requires.2.within)

pub overflow_sub-next : goal.overflow_sub-next
overflow_sub-next c = let m = met c.loop-at.invariant (omega (arith, c.loop-at-test.true)) c.head_at-head.ensures in omega (arith, m.next)

pub read_call-call-requires : goal.read_call-call-requires
read_call-call-requires c = (call_asked c.loop-at.invariant (met c.loop-at.invariant (omega (arith, c.loop-at-test.true)) c.head_at-head.ensures) c.requires.2.within c.if-kind-eq67.true, near-more (omega arith) c.requires.1)

pub open_call-requires : goal.open_call-requires
open_call-requires c = (c.requires.0.sorted, c.requires.0.some_left, c.requires.0.levels)

pub returns-in_err-entered : goal.returns-in_err-entered
returns-in_err-entered c = let p = err_from_is_err_and _ c.from_residual.ensures.1 in let is = p.1 ∙ ap Err p.2 in record { body_comes = call-refused c.loop-at.invariant (met c.loop-at.invariant (omega (arith, c.loop-at-test.true)) c.head_at-head.ensures) c.requires.2.within c.if-kind-eq67.true c.read_call-call.ensures c.open_call.ensures c.in_err-entered.was is; grows = stopped-grows _ is }

pub returns-then-kind-eq67 : goal.returns-then-kind-eq67
returns-then-kind-eq67 c = record { body_comes = call_opens c.loop-at.invariant (met c.loop-at.invariant (omega (arith, c.loop-at-test.true)) c.head_at-head.ensures) c.requires.2.within c.if-kind-eq67.true c.read_call-call.ensures c.open_call.ensures c.requires.0.some_left c.requires.1 c.in_ok-entered.was; grows = call-grows c.loop-at.invariant (met c.loop-at.invariant (omega (arith, c.loop-at-test.true)) c.head_at-head.ensures) c.requires.2.within c.if-kind-eq67.true c.read_call-call.ensures c.open_call.ensures _ c.in_ok-entered.was }

pub offset_bounds-bodies-from-else-kind-eq67 : goal.offset_bounds-bodies-from-else-kind-eq67
offset_bounds-bodies-from-else-kind-eq67 c = let m = met c.loop-at.invariant (omega (arith, c.loop-at-test.true)) c.head_at-head.ensures in omega (arith, m.next, m.within, c.requires.2.within, c.requires.0.short)

pub slice_bounds-draw_shape-count : goal.slice_bounds-draw_shape-count
slice_bounds-draw_shape-count c = let m = met c.loop-at.invariant (omega (arith, c.loop-at-test.true)) c.head_at-head.ensures in omega (arith, m.next)

pub slice_bounds-draw_shape-start : goal.slice_bounds-draw_shape-start
slice_bounds-draw_shape-start c = let m = met c.loop-at.invariant (omega (arith, c.loop-at-test.true)) c.head_at-head.ensures in omega (arith, m.next, m.within, c.requires.2.within)

pub slice_bounds-draw_shape-end : goal.slice_bounds-draw_shape-end
slice_bounds-draw_shape-end c = let m = met c.loop-at.invariant (omega (arith, c.loop-at-test.true)) c.head_at-head.ensures in omega (arith, m.next, m.within, c.requires.2.within)

pub overflow_sub-next-else-kind-eq67 : goal.overflow_sub-next-else-kind-eq67
overflow_sub-next-else-kind-eq67 c = let m = met c.loop-at.invariant (omega (arith, c.loop-at-test.true)) c.head_at-head.ensures in omega (arith, m.next)

pub draw_shape-requires : goal.draw_shape-requires
draw_shape-requires c = (shape_asked c.loop-at.invariant (met c.loop-at.invariant (omega (arith, c.loop-at-test.true)) c.head_at-head.ensures) c.requires.2.within c.if-kind-eq76.false c.if-kind-eq67.false, near-more (omega (arith, c.requires.0.some_left)) c.requires.1, reached-here c.loop-at.invariant)

pub loop-at-smaller : goal.loop-at-smaller
loop-at-smaller c = let m = met c.loop-at.invariant (omega (arith, c.loop-at-test.true)) c.head_at-head.ensures in omega (arith, m.next, m.within, c.loop-at-test.true)

pub loop-at-preserved : goal.loop-at-preserved
loop-at-preserved c = was_shape c.loop-at.invariant (met c.loop-at.invariant (omega (arith, c.loop-at-test.true)) c.head_at-head.ensures) c.requires.2.within c.if-kind-eq76.false c.if-kind-eq67.false c.draw_shape.ensures c.in_ok-ink.was

pub returns-in_err-ink : goal.returns-in_err-ink
returns-in_err-ink c = let p = err_from_is_err_and _ c.from_residual-in_err-ink.ensures.1 in let is = p.1 ∙ ap Err p.2 in record { body_comes = shape-refused c.loop-at.invariant (met c.loop-at.invariant (omega (arith, c.loop-at-test.true)) c.head_at-head.ensures) c.requires.2.within c.if-kind-eq76.false c.if-kind-eq67.false c.draw_shape.ensures c.in_err-ink.was is; grows = stopped-grows _ is }

pub returns : goal.returns
returns c = record { body_comes = was_all c.loop-at.invariant (omega (arith, c.loop-at-test.false)); grows = all_grows c.loop-at.invariant }
