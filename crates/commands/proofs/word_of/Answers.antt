-- `word_of` meets its contract: a word holds the number that is held, with its sign.
use Rattle.commands.proofs.Wording.{word_minus, word_plus}
use Rattle.commands.proofs.word_of.Goals as goal

pub returns-then-minus : goal.returns-then-minus
returns-then-minus c = word_minus _ _ _ c.if-minus.true c.held_of-v.ensures.0 c.held_of-v.ensures.1

pub returns-else-minus : goal.returns-else-minus
returns-else-minus c = word_plus _ _ _ c.if-minus.false c.held_of-v.ensures.0 c.held_of-v.ensures.1
