-- `open_call` meets its contract: 21 comes after 11 to 14 and before 15 (proofs/Opening.antt).
use Rattle.std.specs.Prelude.{Err}
use Rattle.std.proofs.lemmas.Result.{err_from_is_err_and}
use mathlib.Core.Path.{ap, ◌∙◌}
use Prim.Native.Nat.{◌-◌}
use native.Mathlib.Omega.{arith}
use Rattle.chain.specs.Chain.{open_calls}
use Rattle.stretch.proofs.Opening.{levels_open, a_record, no_record_refused, no_record_led}
use Rattle.stretch.proofs.open_call.Goals as goal

pub returns-then-left-records : goal.returns-then-left-records
returns-then-left-records c = a_record c.args.records c.args.rows.now c.args.live (open_calls c.args.drawing.now (32 - c.args.left)) c.args.left c.args.call c.args.counts (let z = levels_open c.args.drawing.now c.args.left in omega (arith, z, c.if-left-records.true)) _ c.open_call.ensures

pub returns-in_err-open_call : goal.returns-in_err-open_call
returns-in_err-open_call c =
    let p = err_from_is_err_and _ c.from_residual.ensures.1 in
    no_record_refused c.args.records c.args.rows.now c.args.live (open_calls c.args.drawing.now (32 - c.args.left)) c.args.left c.args.call c.args.counts c.no_counts-nothing.ensures c.open_call-2.ensures c.in_err-open_call.was (p.1 ∙ ap Err p.2)

pub returns : goal.returns
returns c = no_record_led c.args.records c.args.rows.now c.args.live (open_calls c.args.drawing.now (32 - c.args.left)) c.args.left c.args.call c.args.counts c.no_counts-nothing.ensures c.open_call-2.ensures (let z = levels_open c.args.drawing.now c.args.left in omega (arith, z, c.if-left-records.false)) c.in_ok-open_call.was
