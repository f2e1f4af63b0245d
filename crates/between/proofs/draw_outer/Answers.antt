-- `draw_outer` meets its contract: a call where none is open, or a shape where nothing is moved (proofs/Shown.antt).
use Rattle.std.specs.Prelude.{Err}
use Rattle.std.proofs.lemmas.Result.{err_from_is_err_and}
use mathlib.Core.Path.{ap, ◌∙◌}
use mathlib.Core.List.{[]}
use native.Mathlib.Omega.{arith}
use Rattle.turns.proofs.Nets.{near-more}
use Rattle.engine.proofs.Outer.{said-call, said-shape}
use Rattle.between.proofs.Shown.{outer-refused, outer-opens, opens-grows, outer_shown, shown_grows, outer-stopped, stopped-grows}
use Rattle.between.proofs.draw_outer.Goals as goal

pub read_call-call-requires : goal.read_call-call-requires
read_call-call-requires c = (said-call c.requires.says.1 c.if-kind-eq67.true, near-more (omega arith) c.still-still.ensures.1)

pub open_call-requires : goal.open_call-requires
open_call-requires c = (c.requires.sorted.0, omega arith, c.requires.sorted.1)

pub returns-in_err-entered : goal.returns-in_err-entered
returns-in_err-entered c = let p = err_from_is_err_and _ c.from_residual.ensures.1 in let is = p.1 ∙ ap Err p.2 in record { outer_comes = outer-refused _ _ _ c.args.layer c.args.place c.args.ink c.args.room.now c.still-still.ensures.0 c.if-kind-eq67.true c.read_call-call.ensures c.args.drawing.now c.open_call.ensures c.in_err-entered.was is; outer_grows = stopped-grows _ is }

pub returns-then-kind-eq67 : goal.returns-then-kind-eq67
returns-then-kind-eq67 c = record { outer_comes = outer-opens _ _ _ c.args.layer c.args.place c.args.ink c.args.room.now c.still-still.ensures.0 c.if-kind-eq67.true c.read_call-call.ensures c.args.drawing.now c.open_call.ensures c.still-still.ensures.1 c.requires.sorted.2 c.in_ok-entered.was; outer_grows = opens-grows _ _ _ c.args.layer c.args.place c.args.ink c.args.room.now c.still-still.ensures.0 c.if-kind-eq67.true c.read_call-call.ensures c.args.drawing.now c.open_call.ensures c.in_ok-entered.was }

pub draw_shape-requires : goal.draw_shape-requires
draw_shape-requires c = (said-shape c.requires.says.1 c.if-kind-eq67.false, near-more (omega arith) c.still-still.ensures.1, c.requires.sorted.2)

pub returns : goal.returns
returns c = record { outer_comes = outer_shown _ _ _ c.args.layer c.args.place c.args.ink c.args.room.now c.still-still.ensures.0 c.if-kind-eq67.false c.draw_shape.ensures c.in_ok-shown.was; outer_grows = shown_grows 0 [] 0 c.args.layer c.args.place c.args.ink c.args.room.now c.still-still.ensures.0 c.if-kind-eq67.false c.draw_shape.ensures (said-shape c.requires.says.1 c.if-kind-eq67.false) c.in_ok-shown.was }

pub returns-in_err-shown : goal.returns-in_err-shown
returns-in_err-shown c = let p = err_from_is_err_and _ c.from_residual-in_err-shown.ensures.1 in let is = p.1 ∙ ap Err p.2 in record { outer_comes = outer-stopped _ _ _ c.args.layer c.args.place c.args.ink c.args.room.now c.still-still.ensures.0 c.if-kind-eq67.false c.draw_shape.ensures c.in_err-shown.was is; outer_grows = stopped-grows _ is }
