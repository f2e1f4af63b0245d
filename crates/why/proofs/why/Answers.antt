-- `why` meets its contract: the reader's refusals but 18, or the shape (proofs/Telling.antt).
use mathlib.Core.Path.{sym, ◌∙◌}
use Rattle.why.proofs.Telling.{refused-first, passes_so, on_the_words}
use Rattle.why.proofs.why.Goals as goal

pub among-requires : goal.among-requires
among-requires c = passes_so c.flatten-answer.ensures c.number_of-too_long.ensures c.if-answer-too_long.either

pub returns-then-answer-too_long : goal.returns-then-answer-too_long
returns-then-answer-too_long c = on_the_words c.flatten-answer.ensures c.among.ensures

pub returns-else-answer-too_long : goal.returns-else-answer-too_long
returns-else-answer-too_long c =
    refused-first c.flatten-answer.ensures _ c.if-answer-too_long.false.0 (λ e. c.if-answer-too_long.false.1 (e ∙ sym c.number_of-too_long.ensures)) c.refused.ensures
