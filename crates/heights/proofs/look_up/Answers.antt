-- `look_up` meets its contract: each answer is one of `Looks`.
use native.Mathlib.Omega.{arith}
use Rattle.std.proofs.lemmas.Result.{err_from_is_err_and}
use Rattle.heights.specs.Kept.{is_open, too_tall, known, too_deep, fresh}
use Rattle.heights.proofs.Kept.{not_live, at_row, row_low, no_taller_then}
use Rattle.heights.proofs.look_up.Goals as goal

pub returns-in_err-row : goal.returns-in_err-row
returns-in_err-row c =
    let p = err_from_is_err_and c.from_residual.result c.from_residual.ensures.1 in
    rw (p.1, p.2) (not_live c.find.ensures c.in_err-row.ensures.ok_part c.in_err-row.ensures.value)

pub offset_bounds-seen-row : goal.offset_bounds-seen-row
offset_bounds-seen-row c = let z = row_low (at_row _ _ _ c.find.ensures c.in_ok-row.ensures.ok_part) c.requires in omega (arith, z)

pub bounds : goal.bounds
bounds c = row_low (at_row _ _ _ c.find.ensures c.in_ok-row.ensures.ok_part) c.requires

pub returns-in-Open : goal.returns-in-Open
returns-in-Open c = is_open (at_row _ _ _ c.find.ensures c.in_ok-row.ensures.ok_part) c.in-Open.is

pub returns-in-Known : goal.returns-in-Known
returns-in-Known c = too_tall (at_row _ _ _ c.find.ensures c.in_ok-row.ensures.ok_part) c.in-Known.is c.if-left-standing.true

pub returns-in-Known-2 : goal.returns-in-Known-2
returns-in-Known-2 c = known (at_row _ _ _ c.find.ensures c.in_ok-row.ensures.ok_part) c.in-Known-2.is (no_taller_then c.in-Known.is c.in-Known-2.is c.if-left-standing.false)

pub returns-in-Unknown : goal.returns-in-Unknown
returns-in-Unknown c = too_deep (at_row _ _ _ c.find.ensures c.in_ok-row.ensures.ok_part) c.in-Unknown.is c.if-left-eq0.true

pub returns-in-Unknown-2 : goal.returns-in-Unknown-2
returns-in-Unknown-2 c = fresh (at_row _ _ _ c.find.ensures c.in_ok-row.ensures.ok_part) c.in-Unknown.is (omega (arith, c.if-left-eq0.false))
