-- `refused_by` meets its contract: the rule is told by its number.
use mathlib.Core.Path.{◌∙◌, ap}
use Rattle.chain.specs.Chain.{chain_in}
use Rattle.answer.specs.declared.Told.{Told}
use Rattle.answer.specs.Telling.{failing}
use Rattle.answer.proofs.Telling.{failing_by}
use Rattle.answer.proofs.refused_by.Goals as goal

pub returns : goal.returns
returns c = c.refused.ensures ∙ ap (λ (r : Told). failing c.args.text.now r (chain_in c.args.run.now)) c.by_number.ensures ∙ failing_by _ _ _
