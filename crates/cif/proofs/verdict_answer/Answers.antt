-- `verdict_answer` meets its contract: the verdict is told as the fault that it is.
use Rattle.std.specs.Prelude.{ℕ, Result}
use mathlib.Core.Path.{sym, ap, ◌∙◌}
use Rattle.cif.specs.Told.{answer_of_verdict}
use Rattle.cif.proofs.verdict_answer.Goals as goal

pub returns-in-Ok : goal.returns-in-Ok
returns-in-Ok c = c.fault_answer.ensures ∙ ap (λ (v : Result Unit ℕ). answer_of_verdict c.args.text.now v) (sym c.in-Ok.is)

pub returns-in-Err : goal.returns-in-Err
returns-in-Err c = c.fault_answer-in-Err.ensures ∙ ap (λ (v : Result Unit ℕ). answer_of_verdict c.args.text.now v) (sym c.in-Err.is)
