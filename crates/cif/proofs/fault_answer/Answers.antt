-- `fault_answer` meets its contract: in each case the answer is that of the fault.
use Rattle.std.specs.Prelude.{ℕ, Result}
use mathlib.Core.Path.{sym, ap, ◌∙◌}
use Rattle.definition.specs.declared.Refusal.{Refusal}
use Rattle.definition.specs.Answer.{success}
use Rattle.counts.specs.declared.Counts.{Counts}
use Rattle.counts.specs.Counting.{tally}
use Rattle.cif.specs.Told.{answer_of_fault}
use Rattle.cif.proofs.fault_answer.Goals as goal

pub returns-in-Ok : goal.returns-in-Ok
returns-in-Ok c = c.accepted.ensures ∙ ap (λ (k : Counts). success 0 (tally k) 0) c.no_counts.ensures ∙ ap (λ (f : Result ℕ Refusal). answer_of_fault c.args.text.now f) (sym c.in-Ok.is)

pub returns-in-Err : goal.returns-in-Err
returns-in-Err c = c.refused_outside_by.ensures ∙ ap (λ (f : Result ℕ Refusal). answer_of_fault c.args.text.now f) (sym c.in-Err.is)
