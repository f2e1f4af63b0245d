-- `summarise` meets its contract: the words are cleared after all is told.
use mathlib.Core.Path.{ap, ◌∙◌}
use lib.IntN.{pos}
use lib.ListN.{replicate}
use Rattle.summary.proofs.summarise.Goals as goal

pub returns : goal.returns
returns c = record { summarises = c.sum_up-summary.ensures; cleared = c.clear.ensures ∙ ap (λ k. replicate k (pos 0)) c.sum_up-summary.auto.bodies }
