-- What is told of a rule's number is the definition's refusal by that rule.
-- Assumes nothing.
use mathlib.Core.Path.{◌≡◌, refl}
use mathlib.Core.List.{List}
use Prim.Native.Nat.{ℕ}
use Rattle.definition.specs.declared.Refusal.{Refusal}
use Rattle.definition.specs.Drawing.{Chain}
use Rattle.definition.specs.Answer.{failure}
use Rattle.answer.specs.Telling.{told_of, failing}

pub failing_by : (t : List ℕ) (r : Refusal) (chain : Chain) → failing t (told_of r) chain ≡ failure t r chain
unfolding failing failure
failing_by t r chain = refl
