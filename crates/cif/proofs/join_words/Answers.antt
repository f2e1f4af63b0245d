-- `join_words` meets its contract: the words of a success with its length, or of a refusal.
use mathlib.Core.Path.{ap, sym, ◌∙◌}
use Rattle.cif.specs.Told.{words_of_join}
use Rattle.cif.proofs.join_words.Goals as goal

pub returns-in-Ok : goal.returns-in-Ok
returns-in-Ok c = simp (c.words.ensures, c.accepted.ensures, c.no_counts.ensures, c.in-Ok.is)

pub returns-in-Err : goal.returns-in-Err
returns-in-Err c = c.refusal_words.ensures ∙ ap (words_of_join c.args.first.now c.args.second.now) (sym c.in-Err.is)
