-- `read_items` meets its contract: Wording holds before each piece, and what is left of the text falls.
use native.Mathlib.Omega.{arith}
use Rattle.grammar.specs.Steps.{number}
use Rattle.pieces.proofs.Finds.{finds, step_less, mark-less}
use Rattle.commands.proofs.Wording.{wording_start, wording_number, wording_letter, wording_ended, wording_stop, number_end, letter_end}
use Rattle.commands.proofs.read_items.Goals as goal

pub loop-spot-init : goal.loop-spot-init
loop-spot-init c = wording_start _ _ _ _ _ _ c.requires.fit.0

pub next_mark-m-requires : goal.next_mark-m-requires
next_mark-m-requires c = record { fit = c.loop-spot.invariant.fit }

pub line_number-c-requires : goal.line_number-c-requires
unfolding number
line_number-c-requires c = record { a_le_too_large = (c.requires.fit.1, c.requires.fit.2, (c.read_number-n.ensures.step _ (c.next_mark-m.ensures.led c.if-mark-eq-LEAD.true)).small); at_lt_outmost = (omega arith, omega arith) }

pub loop-spot-smaller-then-mark-eq-LEAD : goal.loop-spot-smaller-then-mark-eq-LEAD
unfolding number
loop-spot-smaller-then-mark-eq-LEAD c = step_less (c.read_number-n.ensures.step _ (c.next_mark-m.ensures.led c.if-mark-eq-LEAD.true))

pub loop-spot-preserved-then-mark-eq-LEAD : goal.loop-spot-preserved-then-mark-eq-LEAD
unfolding number
loop-spot-preserved-then-mark-eq-LEAD c = wording_number c.loop-spot.invariant (c.read_number-n.ensures.step _ (c.next_mark-m.ensures.led c.if-mark-eq-LEAD.true)) (number_end c.next_mark-m.ensures c.if-mark-eq-LEAD.true c.read_number-n.ensures.value) c.line_number-c.ensures

pub line_letter-c-requires : goal.line_letter-c-requires
line_letter-c-requires c = (omega arith, c.loop-spot.invariant.roomy)

pub loop-spot-smaller : goal.loop-spot-smaller
unfolding number
loop-spot-smaller c = mark-less c.next_mark-m.ensures (λ e. omega arith)

pub loop-spot-preserved : goal.loop-spot-preserved
unfolding number
loop-spot-preserved c = wording_letter c.loop-spot.invariant (c.next_mark-m.ensures.letter c.if-mark-gt-HEAD.true) (letter_end c.next_mark-m.ensures c.if-mark-eq-LEAD.false) c.line_letter-c.ensures

pub close-requires : goal.close-requires
close-requires c = (omega arith, omega arith)

pub returns-then-mark-eq-STOP : goal.returns-then-mark-eq-STOP
unfolding number
returns-then-mark-eq-STOP c = wording_stop c.loop-spot.invariant (c.next_mark-m.ensures.stop c.if-mark-eq-STOP.true) (letter_end c.next_mark-m.ensures c.if-mark-eq-LEAD.false) c.close.ensures

pub close-requires-else-mark-eq-STOP : goal.close-requires-else-mark-eq-STOP
close-requires-else-mark-eq-STOP c = (omega arith, omega arith)

pub returns-else-mark-eq-STOP : goal.returns-else-mark-eq-STOP
unfolding number
returns-else-mark-eq-STOP c = wording_ended c.loop-spot.invariant (finds c.next_mark-m.ensures) c.if-mark-eq-LEAD.false c.if-mark-gt-HEAD.false c.if-mark-eq-STOP.false c.close-else-mark-eq-STOP.ensures
