-- `step` meets its contract: outside comments by the table, within them by the byte's kind.
use mathlib.Core.Path.{◌∙◌}
use Rattle.grammar.proofs.Steps.{outside_is, within_is, mark_out, mark_in}
use Rattle.grammar.proofs.step.Goals as goal

pub returns-then-d-eq0 : goal.returns-then-d-eq0
returns-then-d-eq0 c = record { goes = c.enter.ensures.0 ∙ outside_is c.args.q c.args.d c.args.b c.kind-k.result c.kind-k.ensures.0 c.if-d-eq0.true c.entry-e.result c.entry-e.ensures; mark = c.enter.ensures.1 ∙ mark_out c.args.q c.args.d c.args.b c.kind-k.result c.entry-e.result c.kind-k.ensures.0 c.entry-e.ensures c.if-d-eq0.true }

pub returns : goal.returns
returns c = record { goes = c.nest.ensures.0 ∙ within_is c.args.q c.args.d c.args.b c.kind-k.result c.kind-k.ensures.0 c.if-d-eq0.false; mark = c.nest.ensures.1 ∙ mark_in _ _ _ c.if-d-eq0.false }
