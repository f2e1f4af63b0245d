-- What the function `summary_for` computes of a text and a symbol number is allowed, and only one summary is.
-- Assumes nothing.
use Rattle.std.specs.Prelude.{if◌then◌else◌, Err, Ok, Result}
use mathlib.Core.Path.{◌≡◌, refl, sym, ap, ◌∙◌, subst}
use mathlib.Core.Bool.{Bool, true, false, not}
use mathlib.Core.List.{List}
use Prim.Native.Nat.{ℕ, ◌≤◌}
use native.Mathlib.Omega.{arith}
use lib.Dec.{T, ltb, ltb→lt, nltb→le}
use lib.IntN.{ℤ}
use lib.ListN.{length}
use Rattle.grammar.specs.Notation.{Letter}
use Rattle.grammar.specs.Steps.{verdict_of}
use Rattle.grammar.specs.Viable
use Rattle.grammar.proofs.Markings.{marking_is, one_marking}
use Rattle.grammar.proofs.Verdicts.{Bytes, judged}
use Rattle.grammar.proofs.Unique.{one_length}
use Rattle.definition.specs.Limits.{most_bytes}
use Rattle.definition.specs.declared.Rule.TheVariants.{TextTooLong, NotInGrammar}
use Rattle.definition.specs.Rules.{refuse}
use Rattle.definition.specs.declared.Summary.{Summary}
use Rattle.definition.specs.Summary.{empty_summary, summary_of, Summarises, too_long, not_cif, read, Summarised}
use Rattle.definition.specs.Computed.{summary_verdict, summary_for}

module _ (t : List ℕ) (words n : ℕ) (b : Bytes t) where
  by_verdict : length t ≤ most_bytes → (v : Result Unit ℕ) → Viable.Judged t v → Summarises t words n (summary_verdict v t words n)
  unfolding summary_verdict
  by_verdict h (Ok _) g = subst (λ (m : List Letter). Summarises t words n (summary_of t m words n)) (marking_is g.1) (read h g.1)
  by_verdict h (Err k) g = not_cif h g.0 g.1

  by_length : (c : Bool) → ltb most_bytes (length t) ≡ c
      → Summarises t words n (if c then empty_summary t (refuse TextTooLong 0) else summary_verdict (verdict_of 0 0 0 t) t words n)
  by_length true e = too_long (ltb→lt most_bytes (length t) (subst T (sym e) tt))
  by_length false e = by_verdict (nltb→le most_bytes (length t) (subst (λ (c : Bool). T (not c)) (sym e) tt)) (verdict_of 0 0 0 t) (judged t b)

  pub summary_right : Summarises t words n (summary_for t words n)
  unfolding summary_for
  summary_right = by_length (ltb most_bytes (length t)) refl

-- two summaries that are allowed are one, whatever the text is
pub summary_unique : {t : List ℕ} {words n : ℕ} {r q : Summary} → Summarises t words n r → Summarises t words n q → r ≡ q
summary_unique (too_long h) (too_long k) = refl
summary_unique (too_long h) (not_cif k g l) = absurd (omega arith)
summary_unique (too_long h) (read k m) = absurd (omega arith)
summary_unique (not_cif h g l) (too_long k) = absurd (omega arith)
summary_unique {t = t} (not_cif h g l) (not_cif k e m) = ap (λ (n : ℕ). empty_summary t (refuse NotInGrammar n)) (one_length l m)
summary_unique (not_cif h g l) (read {m} k e) = absurd (g (m, e))
summary_unique (read h m) (too_long k) = absurd (omega arith)
summary_unique (read {m} h e) (not_cif k g l) = absurd (g (m, e))
summary_unique {t = t} {words = words} {n = n} (read h m) (read k o) = ap (λ (x : List Letter). summary_of t x words n) (one_marking m o)

-- so the contract settles the summary and the words
pub one_summary : {t : List ℕ} {words : List ℤ} {n : ℕ} {r r' : Summary} {words' words'' : List ℤ}
    → Summarised t words n r words' → Summarised t words n r' words'' → (r ≡ r') × (words' ≡ words'')
one_summary p q = (summary_unique p.summarises q.summarises, p.cleared ∙ sym q.cleared)
