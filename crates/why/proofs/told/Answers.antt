-- `told` meets its contract: 17 is the shape, and every other end of the second run that there is none.
use mathlib.Core.Path.{sym, ◌∙◌}
use borrow.Author.Tests.{eq-eqb, ne_eqb}
use Rattle.why.proofs.told.Goals as goal

pub returns-then-answer-number_of : goal.returns-then-answer-number_of
returns-then-answer-number_of c = rw (eq-eqb _ _ (c.if-answer-number_of.true ∙ c.number_of.ensures)) c.found.ensures

pub returns-else-answer-number_of : goal.returns-else-answer-number_of
returns-else-answer-number_of c = rw (ne_eqb _ _ (λ e. c.if-answer-number_of.false (e ∙ sym c.number_of.ensures))) c.missing.ensures
