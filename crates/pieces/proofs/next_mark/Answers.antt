-- `next_mark` meets its contract: until a letter begins a piece Seeking holds, and what is left of the text falls.
use native.Mathlib.Omega.{arith}
use Rattle.grammar.specs.Steps.{number}
use Rattle.pieces.proofs.Marks.{seek_start, seek_ended, seek_stuck, seek_next, seek_found, seek_comment, comment_state}
use Rattle.pieces.proofs.next_mark.Goals as goal

pub loop-i-init : goal.loop-i-init
loop-i-init c = seek_start _ _ _ c.requires.fit

pub entry_at-e-requires : goal.entry_at-e-requires
entry_at-e-requires c = record { q_lt_state_count = c.loop-i.invariant.fit.state }

pub returns-then-s-eq-STUCK : goal.returns-then-s-eq-STUCK
returns-then-s-eq-STUCK c = seek_stuck _ _ _ _ _ _ c.loop-i.invariant c.loop-i-test.true (c.type_inv.text c.loop-i.i).fits c.entry_at-e.result c.entry_at-e.ensures c.if-s-eq-STUCK.true c.nothing.result c.nothing.ensures

pub after_comment-at-requires : goal.after_comment-at-requires
after_comment-at-requires c = record { q_lt_state_count = (comment_state _ _ _ _ _ _ c.loop-i.invariant c.loop-i-test.true (c.type_inv.text c.loop-i.i).fits c.entry_at-e.result c.entry_at-e.ensures c.if-s-ge-DEEP.true c.if-s-eq-STUCK.false, omega arith, let h = c.loop-i-test.true in omega arith) }

pub returns-then-s-ge-DEEP : goal.returns-then-s-ge-DEEP
returns-then-s-ge-DEEP c = seek_comment _ _ _ _ _ _ c.loop-i.invariant c.loop-i-test.true (c.type_inv.text c.loop-i.i).fits c.entry_at-e.result c.entry_at-e.ensures c.if-s-ge-DEEP.true c.if-s-eq-STUCK.false c.after_comment-at.result c.after_comment-at.ensures

pub returns-then-mark-ge-LEAD : goal.returns-then-mark-ge-LEAD
unfolding number
returns-then-mark-ge-LEAD c = seek_found _ _ _ _ _ _ c.loop-i.invariant c.loop-i-test.true (c.type_inv.text c.loop-i.i).fits c.entry_at-e.result c.entry_at-e.ensures c.if-s-ge-DEEP.false c.if-mark-ge-LEAD.true

pub loop-i-preserved : goal.loop-i-preserved
unfolding number
loop-i-preserved c = seek_next _ _ _ _ _ _ c.loop-i.invariant c.loop-i-test.true (c.type_inv.text c.loop-i.i).fits c.entry_at-e.result c.entry_at-e.ensures c.if-s-ge-DEEP.false c.if-mark-ge-LEAD.false _ c.next_place-p.ensures

pub returns : goal.returns
returns c = seek_ended _ _ _ _ _ _ c.loop-i.invariant c.loop-i-test.false c.nothing-2.result c.nothing-2.ensures
