-- `first_words` meets its contract: ten words are set, and all others are zero.
use mathlib.Core.Path.{refl}
use Rattle.answer.proofs.first_words.Goals as goal

pub returns : goal.returns
returns c = refl
