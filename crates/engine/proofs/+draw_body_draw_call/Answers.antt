-- `draw_body` and `draw_call` meet their contracts: a body keeps what is left to draw (proofs/Underway.antt), a call is refused or draws its body one
-- level down (proofs/Calls.antt).
use Rattle.std.specs.Prelude.{Err}
use mathlib.Core.Path.{◌≡◌}
use native.Mathlib.Nat.{pos_of_ne-zero}
use native.Mathlib.Omega.{arith}
use borrow.Author.Rules.{rules}
use Rattle.definition.specs.declared.Refusal.{Refusal}
use Rattle.turns.proofs.Nets.{near-more}
use Rattle.chain.proofs.Runs.{kept-both}
use Rattle.engine.proofs.Calls.{answered_descent, row_live, call-stopped, body_there, ready-below, body-drawn, kept_here}
use Rattle.engine.proofs.Underway.{started, reached-here, ready-here, was_all, two_more, met, layer_asked, was_layer, shape_asked, was_shape, shape-refused, call_asked, call-near, was_call, call-refused}
use Rattle.engine.proofs.+draw_body_draw_call.Goals as goal

pub draw_body-loop-at-init : goal.draw_body-loop-at-init
draw_body-loop-at-init t c = started _ _ _ _ c.requires.2 c.requires.0.reached

pub draw_body-head_at-kind-requires : goal.draw_body-head_at-kind-requires
draw_body-head_at-kind-requires t c = let z = two_more c.loop-at.invariant (omega (arith, c.loop-at-test.true)) in (omega (arith, z, c.requires.2.within), c.requires.0.short)

pub draw_body-name_at-layer-requires : goal.draw_body-name_at-layer-requires
draw_body-name_at-layer-requires t c = layer_asked c.loop-at.invariant (met c.loop-at.invariant (omega (arith, c.loop-at-test.true)) c.head_at-kind.ensures) c.requires.2.within c.in-76.is

pub draw_body-loop-at-preserved-in-76 : goal.draw_body-loop-at-preserved-in-76
draw_body-loop-at-preserved-in-76 t c = was_layer c.loop-at.invariant (met c.loop-at.invariant (omega (arith, c.loop-at-test.true)) c.head_at-kind.ensures) c.requires.2.within c.in-76.is _ c.name_at-layer.ensures

pub draw_body-slice_bounds-read_call-end : goal.draw_body-slice_bounds-read_call-end
draw_body-slice_bounds-read_call-end t c = let m = met c.loop-at.invariant (omega (arith, c.loop-at-test.true)) c.head_at-kind.ensures in omega (arith, m.next, m.within, c.requires.2.within)

pub draw_body-read_call-call-requires : goal.draw_body-read_call-call-requires
draw_body-read_call-call-requires t c = (call_asked c.loop-at.invariant (met c.loop-at.invariant (omega (arith, c.loop-at-test.true)) c.head_at-kind.ensures) c.requires.2.within c.in-67.is, near-more (omega arith) c.requires.1)

pub draw_body-draw_call-requires : goal.draw_body-draw_call-requires
draw_body-draw_call-requires t c = (omega (arith, c.decreases), (ready-here c.loop-at.invariant c.requires.0, call-near c.loop-at.invariant (met c.loop-at.invariant (omega (arith, c.loop-at-test.true)) c.head_at-kind.ensures) c.requires.2.within c.in-67.is c.read_call-call.ensures c.requires.0.some_left c.requires.1))

pub draw_body-loop-at-preserved-in-67 : goal.draw_body-loop-at-preserved-in-67
draw_body-loop-at-preserved-in-67 t c = was_call c.loop-at.invariant (met c.loop-at.invariant (omega (arith, c.loop-at-test.true)) c.head_at-kind.ensures) c.requires.2.within c.in-67.is c.read_call-call.ensures c.draw_call.ensures.call_draws c.in_ok-ink-in-67.was c.draw_call.auto.numbers c.draw_call.auto.drawing c.draw_call.ensures.kept

pub draw_body-returns-in_err-ink-in-67 : goal.draw_body-returns-in_err-ink-in-67
draw_body-returns-in_err-ink-in-67 t c =
    let q : (why : Refusal) × (c.draw_call.result ≡ Err why) × (c.from_residual.result ≡ Err why) = search rules in
    record {
      draws =
          rw q.2
          (call-refused c.loop-at.invariant (met c.loop-at.invariant (omega (arith, c.loop-at-test.true)) c.head_at-kind.ensures) c.requires.2.within c.in-67.is c.read_call-call.ensures c.draw_call.ensures.call_draws q.1);
      kept = kept-both c.loop-at.invariant.open_kept c.draw_call.ensures.kept;
    }

pub draw_body-slice_bounds-draw_shape-end : goal.draw_body-slice_bounds-draw_shape-end
draw_body-slice_bounds-draw_shape-end t c = let m = met c.loop-at.invariant (omega (arith, c.loop-at-test.true)) c.head_at-kind.ensures in omega (arith, m.next, m.within, c.requires.2.within)

pub draw_body-draw_shape-requires : goal.draw_body-draw_shape-requires
draw_body-draw_shape-requires t c = let m = met c.loop-at.invariant (omega (arith, c.loop-at-test.true)) c.head_at-kind.ensures in record { shaped_at = (shape_asked c.loop-at.invariant m c.requires.2.within (omega arith) (omega arith), omega (arith, m.next, m.few, c.requires.0.roomy, c.loop-at.invariant.numbers-kept)); near = (near-more (omega arith) c.requires.1, reached-here c.loop-at.invariant) }

pub draw_body-loop-at-preserved : goal.draw_body-loop-at-preserved
draw_body-loop-at-preserved t c = was_shape c.loop-at.invariant (met c.loop-at.invariant (omega (arith, c.loop-at-test.true)) c.head_at-kind.ensures) c.requires.2.within (omega arith) (omega arith) c.draw_shape.ensures c.in-Ok.is c.draw_shape.auto.numbers

pub draw_body-returns-in-Err : goal.draw_body-returns-in-Err
draw_body-returns-in-Err t c = record { draws = shape-refused c.loop-at.invariant (met c.loop-at.invariant (omega (arith, c.loop-at-test.true)) c.head_at-kind.ensures) c.requires.2.within (omega arith) (omega arith) c.draw_shape.ensures c.stop.ensures.chain_is c.in-Err.is; kept = kept-both c.loop-at.invariant.open_kept c.stop.ensures.kept }

pub draw_body-returns : goal.draw_body-returns
draw_body-returns t c = record { draws = was_all c.loop-at.invariant (omega (arith, c.loop-at-test.false)); kept = c.loop-at.invariant.open_kept }

pub draw_call-returns-in-Err : goal.draw_call-returns-in-Err
draw_call-returns-in-Err t c = record { call_draws = call-stopped c.args.rows.now c.args.live c.args.drawing.now c.args.left c.args.call c.args.ink c.open_call.ensures c.in-Err.is c.stop.ensures.chain_is c.args.bodies.now c.args.room.now; kept = c.stop.ensures.kept }

pub draw_call-push-requires : goal.draw_call-push-requires
draw_call-push-requires t c = (omega (arith, pos_of_ne-zero (answered_descent c.args.rows.now c.args.live c.args.drawing.now c.args.left c.args.call c.args.ink c.open_call.ensures c.in-Ok.is).some_left, c.requires.0.some_left), c.requires.0.levels)

pub draw_call-start_at-from-requires : goal.draw_call-start_at-from-requires
draw_call-start_at-from-requires t c = omega (arith, row_live c.args.rows.now c.args.live c.args.drawing.now c.args.left c.args.call c.args.ink (answered_descent c.args.rows.now c.args.live c.args.drawing.now c.args.left c.args.call c.args.ink c.open_call.ensures c.in-Ok.is), c.requires.0.sorted.few)

pub draw_call-length_at-requires : goal.draw_call-length_at-requires
draw_call-length_at-requires t c = omega (arith, row_live c.args.rows.now c.args.live c.args.drawing.now c.args.left c.args.call c.args.ink (answered_descent c.args.rows.now c.args.live c.args.drawing.now c.args.left c.args.call c.args.ink c.open_call.ensures c.in-Ok.is), c.requires.0.sorted.few)

pub draw_call-overflow_add-end : goal.draw_call-overflow_add-end
draw_call-overflow_add-end t c = let k = body_there c.args.rows.now c.args.live c.args.drawing.now c.args.left c.args.call c.args.ink (answered_descent c.args.rows.now c.args.live c.args.drawing.now c.args.left c.args.call c.args.ink c.open_call.ensures c.in-Ok.is) c.requires.0.stocked c.start_at-from.ensures c.length_at.ensures in omega (arith, k.within, c.requires.0.short)

pub draw_call-overflow_sub-left-3 : goal.draw_call-overflow_sub-left-3
draw_call-overflow_sub-left-3 t c = omega (arith, pos_of_ne-zero (answered_descent c.args.rows.now c.args.live c.args.drawing.now c.args.left c.args.call c.args.ink c.open_call.ensures c.in-Ok.is).some_left)

pub draw_call-draw_body-requires : goal.draw_call-draw_body-requires
draw_call-draw_body-requires t c = let led = answered_descent c.args.rows.now c.args.live c.args.drawing.now c.args.left c.args.call c.args.ink c.open_call.ensures c.in-Ok.is in let k = body_there c.args.rows.now c.args.live c.args.drawing.now c.args.left c.args.call c.args.ink led c.requires.0.stocked c.start_at-from.ensures c.length_at.ensures in (omega (arith, c.decreases, k.within, c.requires.0.short, pos_of_ne-zero led.some_left), (ready-below c.args.rows.now c.args.live c.args.drawing.now c.args.left c.args.call c.args.ink led c.requires.0 _ c.push.auto.run, near-more (omega (arith, pos_of_ne-zero led.some_left, c.requires.0.some_left)) c.requires.1, k))

pub draw_call-returns : goal.draw_call-returns
draw_call-returns t c = let led = answered_descent c.args.rows.now c.args.live c.args.drawing.now c.args.left c.args.call c.args.ink c.open_call.ensures c.in-Ok.is in record { call_draws = body-drawn c.args.rows.now c.args.live c.args.drawing.now c.args.left c.args.call c.args.ink led c.requires.0.some_left c.requires.0.reached c.push.ensures c.args.bodies.now c.start_at-from.ensures c.length_at.ensures c.draw_body.ensures.draws; kept = kept_here led.some_left c.requires.0.some_left c.push.ensures c.draw_body.ensures.kept }
