-- `refused_outside_by` meets its contract: the rule is told by its number.
use mathlib.Core.Path.{◌∙◌, ap}
use mathlib.Core.List.{[]}
use Rattle.answer.specs.declared.Told.{Told}
use Rattle.answer.specs.Telling.{failing}
use Rattle.answer.proofs.Telling.{failing_by}
use Rattle.answer.proofs.refused_outside_by.Goals as goal

pub returns : goal.returns
returns c = c.refused_outside.ensures ∙ ap (λ (r : Told). failing c.args.text.now r []) c.by_number.ensures ∙ failing_by _ _ _
