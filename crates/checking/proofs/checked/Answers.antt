-- `checked` meets its contract: Checking holds before each piece, and what is left of the text falls.
use native.Mathlib.Omega.{arith}
use Rattle.std.proofs.lemmas.Result.{err_from_is_err_and}
use Rattle.grammar.specs.Steps.{number}
use Rattle.pieces.proofs.Finds.{finds, at_stop, step_less, mark-less}
use Rattle.checking.proofs.Checking.{sane_up, checking_start, checking_number, checking_letter, checking_bad, checking_clear, checking_first, checking_stop}
use Rattle.checking.proofs.checked.Goals as goal

pub loop-n-init : goal.loop-n-init
loop-n-init c = checking_start _ _ _ c.outside-s.ensures c.new_command-c.ensures

pub next_mark-m-requires : goal.next_mark-m-requires
next_mark-m-requires c = record { fit = c.loop-n.invariant.fit }

pub add_number-c-requires : goal.add_number-c-requires
unfolding number
add_number-c-requires c = (c.loop-n.invariant.fair, sane_up _ _ _ (omega arith) c.loop-n.invariant.sane, (c.read_number-n.ensures.step _ (c.next_mark-m.ensures.led c.if-mark-eq-LEAD.true)).small)

pub loop-n-smaller-then-mark-eq-LEAD : goal.loop-n-smaller-then-mark-eq-LEAD
unfolding number
loop-n-smaller-then-mark-eq-LEAD c = step_less (c.read_number-n.ensures.step _ (c.next_mark-m.ensures.led c.if-mark-eq-LEAD.true))

pub loop-n-preserved-then-mark-eq-LEAD : goal.loop-n-preserved-then-mark-eq-LEAD
unfolding number
loop-n-preserved-then-mark-eq-LEAD c = checking_number c.loop-n.invariant (c.read_number-n.ensures.step _ (c.next_mark-m.ensures.led c.if-mark-eq-LEAD.true)) c.add_number-c.ensures

pub add_letter-c-requires : goal.add_letter-c-requires
add_letter-c-requires c = sane_up _ _ _ (omega arith) c.loop-n.invariant.sane

pub loop-n-smaller-then-mark-gt-HEAD : goal.loop-n-smaller-then-mark-gt-HEAD
unfolding number
loop-n-smaller-then-mark-gt-HEAD c = mark-less c.next_mark-m.ensures (λ e. omega arith)

pub loop-n-preserved-then-mark-gt-HEAD : goal.loop-n-preserved-then-mark-gt-HEAD
unfolding number
loop-n-preserved-then-mark-gt-HEAD c = checking_letter c.loop-n.invariant (c.next_mark-m.ensures.letter c.if-mark-gt-HEAD.true) c.add_letter-c.ensures

pub returns-in_err-s : goal.returns-in_err-s
unfolding number
returns-in_err-s c =
    let p = err_from_is_err_and c.from_residual.result c.from_residual.ensures.1 in
    rw (p.1, p.2) (checking_bad c.loop-n.invariant c.finish.ensures (finds c.next_mark-m.ensures) c.if-mark-eq-LEAD.false c.if-mark-gt-HEAD.false c.in_err-s.was)

pub returns-then-mark-eq-SKIP : goal.returns-then-mark-eq-SKIP
unfolding number
returns-then-mark-eq-SKIP c = checking_clear c.loop-n.invariant c.finish.ensures c.in_ok-s.was (c.next_mark-m.ensures.none c.if-mark-eq-SKIP.true)

pub loop-n-smaller-then-mark-eq-HEAD : goal.loop-n-smaller-then-mark-eq-HEAD
unfolding number
loop-n-smaller-then-mark-eq-HEAD c = mark-less c.next_mark-m.ensures c.if-mark-eq-SKIP.false

pub loop-n-preserved-then-mark-eq-HEAD : goal.loop-n-preserved-then-mark-eq-HEAD
unfolding number
loop-n-preserved-then-mark-eq-HEAD c = checking_first c.loop-n.invariant c.finish.ensures c.in_ok-s.was (c.next_mark-m.ensures.first c.if-mark-eq-HEAD.true) c.new_command-c-then-mark-eq-HEAD.ensures

pub loop-n-smaller : goal.loop-n-smaller
unfolding number
loop-n-smaller c = mark-less c.next_mark-m.ensures c.if-mark-eq-SKIP.false

pub loop-n-preserved : goal.loop-n-preserved
unfolding number
loop-n-preserved c = checking_stop c.loop-n.invariant c.finish.ensures c.in_ok-s.was (at_stop c.next_mark-m.ensures c.if-mark-eq-SKIP.false c.if-mark-eq-LEAD.false c.if-mark-gt-HEAD.false c.if-mark-eq-HEAD.false) c.new_command-c-else-mark-eq-HEAD.ensures
