-- What the function `reason_for` computes of a text and a count is allowed, and only one reason is.
-- Assumes nothing.
use Rattle.std.specs.Prelude.{if◌then◌else◌, Err, Ok, Result}
use mathlib.Core.Path.{◌≡◌, refl, sym, ap, ◌∙◌, subst}
use mathlib.Core.Bool.{Bool, true, false, not}
use mathlib.Core.List.{List, []}
use Prim.Native.Nat.{ℕ, ◌≤◌}
use native.Mathlib.Omega.{arith}
use lib.Dec.{T, ltb, ltb→lt, nltb→le}
use lib.IntN.{ℤ}
use lib.ListN.{length}
use Rattle.grammar.specs.Notation.{Letter}
use Rattle.definition.specs.Quick.{quick_verdict}
use Rattle.grammar.specs.Viable
use Rattle.grammar.proofs.Markings.{one_marking}
use Rattle.grammar.proofs.Verdicts.{Bytes}
use Rattle.grammar.proofs.Unique.{one_length}
use Rattle.definition.specs.Limits.{most_bytes}
use Rattle.definition.specs.declared.Rule.TheVariants.{TextTooLong, NotInGrammar}
use Rattle.definition.specs.Rules.{refuse}
use Rattle.definition.specs.declared.Why.{Why}
use Rattle.definition.specs.Why.{Reason, refuses, reason_of, WhyAnswers, too_long, not_cif, read, why_told, PromisedWhy}
use Rattle.definition.specs.Computed.{reason_verdict, reason_for}
use Rattle.definition.proofs.Quick.{quick_letters_lem, quick_judged}

module _ (t : List ℕ) (words n : ℕ) (b : Bytes t) where
  by_verdict_lem : length t ≤ most_bytes → (v : Result Unit ℕ) → Viable.Judged t v → WhyAnswers t words n (reason_verdict v t words n)
  unfolding reason_verdict
  by_verdict_lem h (Ok _) g = subst (λ (m : List Letter). WhyAnswers t words n (reason_of m words n)) (quick_letters_lem g.1) (read h g.1)
  by_verdict_lem h (Err k) g = not_cif h g.0 g.1

  by_length : (c : Bool) → ltb most_bytes (length t) ≡ c
      → WhyAnswers t words n (if c then refuses (refuse TextTooLong 0) [] else reason_verdict (quick_verdict t) t words n)
  by_length true e = too_long (ltb→lt most_bytes (length t) (subst T (sym e) tt))
  by_length false e = by_verdict_lem (nltb→le most_bytes (length t) (subst (λ (c : Bool). T (not c)) (sym e) tt)) (quick_verdict t) (quick_judged t b)

  pub reason-right : WhyAnswers t words n (reason_for t words n)
  unfolding reason_for
  reason-right = by_length (ltb most_bytes (length t)) refl

-- two reasons that are allowed are one, whatever the text is
pub reason_unique : {t : List ℕ} {words n : ℕ} {r q : Reason} → WhyAnswers t words n r → WhyAnswers t words n q → r ≡ q
reason_unique (too_long h) (too_long k) = refl
reason_unique (too_long h) (not_cif k g l) = absurd (omega arith)
reason_unique (too_long h) (read k m) = absurd (omega arith)
reason_unique (not_cif h g l) (too_long k) = absurd (omega arith)
reason_unique (not_cif h g l) (not_cif k e m) = ap (λ (n : ℕ). refuses (refuse NotInGrammar n) []) (one_length l m)
reason_unique (not_cif h g l) (read {m} k e) = absurd (g (m, e))
reason_unique (read h m) (too_long k) = absurd (omega arith)
reason_unique (read {m} h e) (not_cif k g l) = absurd (g (m, e))
reason_unique {words = words} {n = n} (read h m) (read k o) = ap (λ (x : List Letter). reason_of x words n) (one_marking m o)

-- so the contract settles what is told, and the words
pub one_why : {t : List ℕ} {words : List ℤ} {n : ℕ} {r r' : Why} {words' words'' : List ℤ} → PromisedWhy t words n r words' → PromisedWhy t words n r' words'' → (r ≡ r') × (words' ≡ words'')
one_why {t = t} p q = (
  p.given ∙ ap (why_told t) (reason_unique p.answers q.answers) ∙ sym q.given,
  p.cleared ∙ sym q.cleared,
)
