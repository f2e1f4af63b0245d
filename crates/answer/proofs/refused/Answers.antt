-- `refused` meets its contract: what is cleared is zero in every field, and the place is found in the text.
use Rattle.answer.specs.Telling.{failing}
use Rattle.answer.proofs.refused.Goals as goal

pub returns : goal.returns
unfolding failing
returns c = simp (c.cleared-none.ensures, c.position_of-position.ensures.line_is, c.position_of-position.ensures.column_is, c.opened-opened.ensures, c.places-chain.ensures)
