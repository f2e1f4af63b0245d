-- `reply_to` and `reply_of_body` meet their contracts: a call is refused, known, or its body is gone through one level down with the symbol open, and a body
-- keeps what is left of its calls (proofs/Kept.antt).
use mathlib.Core.Path.{refl, ap, ◌∙◌}
use mathlib.Core.List.{◌∷◌}
use native.Mathlib.Omega.{arith}
use Rattle.std.specs.Prelude.{Ok}
use Rattle.std.proofs.lemmas.Result.{err_from_is_err_and}
use Rattle.heights.proofs.Nexts.{all_left}
use Rattle.heights.proofs.Kept.{row_low, next_is, starts, all_done, ready_on, opened_on, barred, went_on, refused_says, known-says, untried, inside, ready-inside, body_refused, low-enough, finished}
use Rattle.heights.proofs.+reply_of_body_reply_to.Goals as goal

pub reply_of_body-loop-next-init : goal.reply_of_body-loop-next-init
reply_of_body-loop-next-init t c = starts _ _ _ _ c.requires.0 (all_left _ _ _ _ c.requires.0.stocked c.requires.0.short c.requires.1.1.here c.start_at-at.ensures c.length_at.ensures) refl

pub reply_of_body-next_call-requires : goal.reply_of_body-next_call-requires
reply_of_body-next_call-requires t c = (c.loop-next.invariant.rest, c.loop-next.invariant.remains)

pub reply_of_body-returns : goal.reply_of_body-returns
reply_of_body-returns t c = all_done _ _ _ _ c.loop-next.invariant (c.next_call.ensures c.loop-next.invariant.rest c.loop-next.invariant.remains) c.in_default.is

pub reply_of_body-reply_to-requires : goal.reply_of_body-reply_to-requires
reply_of_body-reply_to-requires t c = let n = next_is _ (c.next_call.ensures c.loop-next.invariant.rest c.loop-next.invariant.remains) c.in-Some.is in (omega (arith, c.decreases), (ready_on _ _ _ _ c.loop-next.invariant c.requires.0, (c.requires.1.0, opened_on _ _ _ _ c.loop-next.invariant n.1 c.requires.1.0 c.requires.1.1)))

pub reply_of_body-returns-in_err-called : goal.reply_of_body-returns-in_err-called
reply_of_body-returns-in_err-called t c =
    let n = next_is _ (c.next_call.ensures c.loop-next.invariant.rest c.loop-next.invariant.remains) c.in-Some.is in
    let p = err_from_is_err_and c.from_residual.result c.from_residual.ensures.1 in
    rw (p.1, p.2) (barred _ _ _ _ c.loop-next.invariant n.1 c.reply_to.ensures c.in_err-called.was)

pub reply_of_body-loop-next-smaller : goal.reply_of_body-loop-next-smaller
reply_of_body-loop-next-smaller t c = let n = next_is _ (c.next_call.ensures c.loop-next.invariant.rest c.loop-next.invariant.remains) c.in-Some.is in omega (arith, n.3, n.2.low)

pub reply_of_body-loop-next-preserved : goal.reply_of_body-loop-next-preserved
reply_of_body-loop-next-preserved t c = let n = next_is _ (c.next_call.ensures c.loop-next.invariant.rest c.loop-next.invariant.remains) c.in-Some.is in went_on _ _ _ _ c.loop-next.invariant n.1 c.reply_to.ensures c.in_ok-called.was n.2 c.requires.1.0 c.requires.1.1 c.max-tallest.ensures

pub reply_to-returns-in_err-standing : goal.reply_to-returns-in_err-standing
reply_to-returns-in_err-standing t c =
    let p = err_from_is_err_and c.from_residual.result c.from_residual.ensures.1 in
    rw (p.1, p.2) (refused_says _ _ _ _ c.requires.0 c.look_up.ensures c.in_err-standing.was)

pub reply_to-returns-in-Stands : goal.reply_to-returns-in-Stands
reply_to-returns-in-Stands t c = known-says _ _ _ _ c.requires.0 c.look_up.ensures (c.in_ok-standing.was ∙ ap Ok c.in-Stands.is)

pub reply_to-offset_bounds-seen-row : goal.reply_to-offset_bounds-seen-row
reply_to-offset_bounds-seen-row t c = let u = untried _ _ _ _ c.requires.0 c.look_up.ensures (c.in_ok-standing.was ∙ ap Ok c.in-Fresh.is) in let z = row_low u.row c.requires.0.sorted in omega (arith, z)

pub reply_to-bounds-seen-row : goal.reply_to-bounds-seen-row
reply_to-bounds-seen-row t c = let u = untried _ _ _ _ c.requires.0 c.look_up.ensures (c.in_ok-standing.was ∙ ap Ok c.in-Fresh.is) in row_low u.row c.requires.0.sorted

pub reply_to-reply_of_body-requires : goal.reply_to-reply_of_body-requires
reply_to-reply_of_body-requires t c = let u = untried _ _ _ _ c.requires.0 c.look_up.ensures (c.in_ok-standing.was ∙ ap Ok c.in-Fresh.is) in (omega (arith, u.some_left, c.decreases), (ready-inside _ _ _ _ c.requires.0 u, (_ ∷ c.requires.1.0, inside _ _ _ _ c.requires.0 u c.requires.1.0 c.requires.1.1)))

pub reply_to-returns-in_err-body-in-Fresh : goal.reply_to-returns-in_err-body-in-Fresh
reply_to-returns-in_err-body-in-Fresh t c =
    let u = untried _ _ _ _ c.requires.0 c.look_up.ensures (c.in_ok-standing.was ∙ ap Ok c.in-Fresh.is) in
    let p = err_from_is_err_and c.from_residual-in_err-body-in-Fresh.result c.from_residual-in_err-body-in-Fresh.ensures.1 in
    rw (p.1, p.2) (body_refused _ _ _ _ c.requires.0 u c.reply_of_body.ensures c.in_err-body-in-Fresh.was)

pub reply_to-overflow_add-standing : goal.reply_to-overflow_add-standing
reply_to-overflow_add-standing t c = let z = low-enough _ _ _ _ c.requires.0 (untried _ _ _ _ c.requires.0 c.look_up.ensures (c.in_ok-standing.was ∙ ap Ok c.in-Fresh.is)) c.reply_of_body.ensures c.in_ok-body-in-Fresh.was c.requires.1.0 c.requires.1.1 in omega (arith, z)

pub reply_to-offset_bounds-seen-row-in-Fresh : goal.reply_to-offset_bounds-seen-row-in-Fresh
reply_to-offset_bounds-seen-row-in-Fresh t c = let u = untried _ _ _ _ c.requires.0 c.look_up.ensures (c.in_ok-standing.was ∙ ap Ok c.in-Fresh.is) in let z = row_low u.row c.requires.0.sorted in omega (arith, z)

pub reply_to-bounds-seen-row-in-Fresh : goal.reply_to-bounds-seen-row-in-Fresh
reply_to-bounds-seen-row-in-Fresh t c = let u = untried _ _ _ _ c.requires.0 c.look_up.ensures (c.in_ok-standing.was ∙ ap Ok c.in-Fresh.is) in row_low u.row c.requires.0.sorted

pub reply_to-returns-in_ok-body-in-Fresh : goal.reply_to-returns-in_ok-body-in-Fresh
reply_to-returns-in_ok-body-in-Fresh t c = finished _ _ _ _ c.requires.0 (untried _ _ _ _ c.requires.0 c.look_up.ensures (c.in_ok-standing.was ∙ ap Ok c.in-Fresh.is)) c.reply_of_body.ensures c.in_ok-body-in-Fresh.was c.requires.1.0 c.requires.1.1
