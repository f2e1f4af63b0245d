-- `name_at` meets its contract: the word is not negative.
use borrow.Author.Rules.{rules}
use Rattle.engine.proofs.Heads.{natural_fits}
use Rattle.stretch.proofs.name_at.Goals as goal

pub overflow_cast-result : goal.overflow_cast-result
overflow_cast-result c = natural_fits _ c.requires.1.0 c.requires.1.1 (search rules)
