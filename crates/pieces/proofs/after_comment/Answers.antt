-- `after_comment` meets its contract: Commented holds at each byte, and what is left of the text falls.
use native.Mathlib.Omega.{arith}
use Rattle.pieces.proofs.Comments.{comment_start, comment_ended, comment_stuck, comment_next, comment_closed}
use Rattle.pieces.proofs.after_comment.Goals as goal

pub loop-i-init : goal.loop-i-init
loop-i-init c = comment_start _ _ _ c.requires.q_lt_state_count.0 c.requires.q_lt_state_count.1 c.requires.q_lt_state_count.2

pub step-m-requires : goal.step-m-requires
step-m-requires c = record { q_lt_state_count = (c.loop-i.invariant.state, let h = c.loop-i.invariant.shallow in let k = c.loop-i.invariant.within_text in omega arith) }

pub returns-then-m-eq-STUCK : goal.returns-then-m-eq-STUCK
returns-then-m-eq-STUCK c = comment_stuck _ _ _ _ _ c.loop-i.invariant c.loop-i-test.true (c.type_inv.text c.loop-i.i).fits c.step-m.result c.step-m.ensures c.if-m-eq-STUCK.true

pub returns-then-d-eq0 : goal.returns-then-d-eq0
returns-then-d-eq0 c = comment_closed _ _ _ _ _ c.loop-i.invariant c.loop-i-test.true (c.type_inv.text c.loop-i.i).fits c.step-m.result c.step-m.ensures c.if-m-eq-STUCK.false c.if-d-eq0.true

pub loop-i-preserved : goal.loop-i-preserved
loop-i-preserved c = comment_next _ _ _ _ _ c.loop-i.invariant c.loop-i-test.true (c.type_inv.text c.loop-i.i).fits c.step-m.result c.step-m.ensures c.if-m-eq-STUCK.false c.if-d-eq0.false

pub returns : goal.returns
returns c = comment_ended _ _ _ _ _ c.loop-i.invariant c.loop-i-test.false
