-- `open_call` meets its contract: one test after another (proofs/Opening.antt).
use Rattle.std.specs.Prelude.{None, Ok, Err}
use mathlib.Core.Path.{◌≡◌}
use Prim.Native.Nat.{◌-◌}
use native.Mathlib.Omega.{arith}
use borrow.Author.Rules.{rules}
use Rattle.definition.specs.Rules.{refuse}
use Rattle.definition.specs.declared.Rule.{Rule}
use Rattle.definition.specs.declared.Rule.TheVariants.{UndefinedSymbol}
use Rattle.chain.specs.Chain.{open_calls}
use Rattle.opening.proofs.Opening.{askew-call, unknown_call, row_is, open_call_lem, deep-call, many-calls, goes_down}
use Rattle.opening.proofs.open_call.Goals as goal

pub returns-then-call : goal.returns-then-call
returns-then-call c = askew-call c.args.rows.now c.args.live (open_calls c.args.drawing.now (32 - c.args.left)) c.args.call c.args.left c.args.counts c.if-call.true

pub returns-in_err-row : goal.returns-in_err-row
returns-in_err-row c =
    let q : (c.find.result ≡ None) × (c.from_residual.result ≡ Err (refuse UndefinedSymbol c.args.call.place)) = search rules in
    rw q.1 (unknown_call c.args.rows.now c.args.live (open_calls c.args.drawing.now (32 - c.args.left)) c.args.call c.args.left c.if-call.false c.find.ensures c.args.counts q.0)

pub returns-then-is_open : goal.returns-then-is_open
returns-then-is_open c = open_call_lem c.args.rows.now c.args.live (open_calls c.args.drawing.now (32 - c.args.left)) c.args.call c.args.left c.if-call.false c.find.ensures (row_is c.ok_or.ensures.ok_part c.in_ok-row.was) c.is_open.ensures c.args.counts c.if-is_open.true

pub returns-then-left-eq0 : goal.returns-then-left-eq0
returns-then-left-eq0 c = deep-call c.args.rows.now c.args.live (open_calls c.args.drawing.now (32 - c.args.left)) c.args.call c.args.left c.if-call.false c.find.ensures (row_is c.ok_or.ensures.ok_part c.in_ok-row.was) c.is_open.ensures c.if-is_open.false c.args.counts c.if-left-eq0.true

pub returns-in_err-more : goal.returns-in_err-more
returns-in_err-more c =
    let q : (rule : Rule) × (c.count_call.result ≡ Err rule) × (c.from_residual-in_err-more.result ≡ Err (refuse rule c.args.call.place)) = search rules in
    rw q.2 (many-calls c.args.rows.now c.args.live (open_calls c.args.drawing.now (32 - c.args.left)) c.args.call c.args.left c.if-call.false c.find.ensures (row_is c.ok_or.ensures.ok_part c.in_ok-row.was) c.is_open.ensures c.if-is_open.false c.if-left-eq0.false c.count_call.ensures {rule = q.0} q.1)

pub returns : goal.returns
returns c =
    let q : c.count_call.result ≡ Ok c.in_ok-more.more = grind arith in
    goes_down c.args.rows.now c.args.live (open_calls c.args.drawing.now (32 - c.args.left)) c.args.call c.args.left c.if-call.false c.find.ensures (row_is c.ok_or.ensures.ok_part c.in_ok-row.was) c.is_open.ensures c.if-is_open.false c.if-left-eq0.false c.count_call.ensures q
