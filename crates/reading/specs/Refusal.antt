-- What `check_by` and `refusal` promise: refusals 3 to 9 of a text in the grammar are the definition's, and 2 is the recogniser's verdict. These contracts
-- cite the definition; the account is named only for texts that are not in the grammar, on which the definition says nothing of 3 to 9.
-- Assumes nothing.
use Rattle.std.specs.Prelude.{◌≡◌, List, ℕ, Err, Ok, Result}
use Rattle.std.proofs.Math.Option.{Option, none, some}
use Rattle.grammar.specs.Notation.{Letter}
use Rattle.grammar.specs.Viable.{Marked, Judged}
use Rattle.grammar.specs.Steps.{marked}
use Rattle.definition.specs.declared.Refusal.{Refusal}
use Rattle.definition.specs.declared.Rule.TheVariants.{NotInGrammar}
use Rattle.definition.specs.Rules.{refuse}
use Rattle.definition.specs.Commands.{commands}
use Rattle.definition.specs.Faults.{first_fault}
use Rattle.definition.specs.Rounded.{rounded}
use Rattle.checking.specs.Account.{fault_of}

-- the definition's first of refusals 3 to 9, or else its rounded distances, as the code says it
abbrev pub fault_said : Option Refusal → (rounded : ℕ) → Result ℕ Refusal
fault_said none k = Ok k
fault_said (some r) k = Err r

-- of a text in the grammar, r is the definition's first fault, or else how many of its distances are rounded
abbrev pub Faulted : List ℕ → Result ℕ Refusal → Type 0
Faulted t r = (m : List Letter) → Marked t m → r ≡ fault_said (first_fault (commands 0 m)) (rounded (commands 0 m))

-- the contract of `check_by`: the definition's first fault; and on every text, the account of its letters as far as the recogniser goes
pub record Checked (t : List ℕ) (r : Result ℕ Refusal) : Type 0 where
  pub is : Faulted t r
  pub along : r ≡ fault_of (marked 0 0 t)

-- the contract of `refusal`: refusals 2 to 9 together
abbrev pub by_verdict : List ℕ → Result Unit ℕ → Result ℕ Refusal → Type 0
by_verdict t (Ok _) r = Faulted t r
by_verdict t (Err n) r = r ≡ Err (refuse NotInGrammar n)

pub record Refuses (t : List ℕ) (r : Result ℕ Refusal) : Type 0 where
  pub verdict : Result Unit ℕ
  pub judged : Judged t verdict
  pub is : by_verdict t verdict r
