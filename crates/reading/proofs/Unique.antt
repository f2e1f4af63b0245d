-- Two answers that the contract of `refusal` allows are one: it settles refusals 2 to 9 of any bytes. So are two that the contract of `check_by` allows.
-- Assumes nothing.
use Rattle.std.specs.Prelude.{Err, Ok, Result}
use mathlib.Core.Path.{◌≡◌, sym, ◌∙◌, subst}
use mathlib.Core.List.{List}
use Prim.Native.Nat.{ℕ}
use Rattle.grammar.specs.Viable.{Judged}
use Rattle.grammar.proofs.Unique.{one_verdict}
use Rattle.definition.specs.declared.Refusal.{Refusal}
use Rattle.reading.specs.Refusal.{Checked, by_verdict, Refuses}

pub one_fault : (t : List ℕ) (r s : Result ℕ Refusal) → Checked t r → Checked t s → r ≡ s
one_fault t r s h k = h.along ∙ sym k.along

by_one : (t : List ℕ) (v : Result Unit ℕ) → Judged t v → (r s : Result ℕ Refusal) → by_verdict t v r → by_verdict t v s → r ≡ s
by_one t (Ok _) g r s h k = h g.0 g.1 ∙ sym (k g.0 g.1)
by_one t (Err n) g r s h k = h ∙ sym k

pub one_refusal : (t : List ℕ) (r s : Result ℕ Refusal) → Refuses t r → Refuses t s → r ≡ s
one_refusal t r s h k =
    by_one t h.verdict h.judged r s h.is
    (subst (λ (v : Result Unit ℕ). by_verdict t v s) (one_verdict t k.verdict h.verdict k.judged h.judged) k.is)
