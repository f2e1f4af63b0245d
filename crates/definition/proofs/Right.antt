-- What the function `answer_of` computes is allowed, so that every text of bytes has an outcome; and only one outcome is.
-- Assumes nothing.
use Rattle.std.specs.Prelude.{if◌then◌else◌, Err, Ok, Result}
use mathlib.Core.Path.{◌≡◌, refl, sym, ap, ◌∙◌, subst}
use mathlib.Core.Bool.{Bool, true, false, not}
use mathlib.Core.List.{List, []}
use Prim.Native.Nat.{ℕ, ◌≤◌}
use native.Mathlib.Omega.{arith}
use lib.Dec.{T, ltb, ltb→lt, nltb→le}
use lib.IntN.{ℤ}
use lib.ListN.{length}
use Rattle.grammar.specs.Notation.{Letter}
use Rattle.grammar.specs.Steps.{verdict_of}
use Rattle.grammar.specs.Viable
use Rattle.grammar.proofs.Markings.{marking_is, one_marking}
use Rattle.grammar.proofs.Verdicts.{Bytes, judged}
use Rattle.grammar.proofs.Unique.{one_length}
use Rattle.definition.specs.Limits.{most_bytes}
use Rattle.definition.specs.declared.Rule.TheVariants.{TextTooLong, NotInGrammar}
use Rattle.definition.specs.Rules.{refuse}
use Rattle.definition.specs.declared.Answer.{Answer}
use Rattle.definition.specs.Answer.{Outcome, rejected, given_back, room_after, outcome_of, Answers, too_long, not_cif, read, Promised}
use Rattle.definition.specs.Computed.{verdict, answer_of}

by_verdict : (t : List ℕ) (words room : ℕ) → Bytes t → length t ≤ most_bytes → (v : Result Unit ℕ) → Viable.Judged t v → Answers t words room (verdict v t words room)
unfolding verdict
by_verdict t words room b h (Ok _) g =
    subst (λ (m : List Letter). Answers t words room (outcome_of m words room)) (marking_is g.1) (read h g.1)
by_verdict t words room b h (Err n) g = not_cif h g.0 g.1

by_length : (t : List ℕ) (words room : ℕ) → Bytes t → (c : Bool) → ltb most_bytes (length t) ≡ c
    → Answers t words room (if c then rejected (refuse TextTooLong 0) [] else verdict (verdict_of 0 0 0 t) t words room)
by_length t words room b true e = too_long (ltb→lt most_bytes (length t) (subst T (sym e) tt))
by_length t words room b false e =
    by_verdict t words room b (nltb→le most_bytes (length t) (subst (λ (c : Bool). T (not c)) (sym e) tt)) (verdict_of 0 0 0 t) (judged t b)

pub right : (t : List ℕ) (words room : ℕ) → Bytes t → Answers t words room (answer_of t words room)
unfolding answer_of
right t words room b = by_length t words room b (ltb most_bytes (length t)) refl

-- two outcomes that are allowed are one, whatever the text is
pub unique : {t : List ℕ} {words room : ℕ} {o p : Outcome} → Answers t words room o → Answers t words room p → o ≡ p
unique (too_long h) (too_long k) = refl
unique (too_long h) (not_cif k g l) = absurd (omega arith)
unique (too_long h) (read k m) = absurd (omega arith)
unique (not_cif h g l) (too_long k) = absurd (omega arith)
unique (not_cif h g l) (not_cif k e m) = ap (λ (n : ℕ). rejected (refuse NotInGrammar n) []) (one_length l m)
unique (not_cif h g l) (read {m} k e) = absurd (g (m, e))
unique (read h m) (too_long k) = absurd (omega arith)
unique (read {m} h e) (not_cif k g l) = absurd (g (m, e))
unique {words = words} {room = room} (read h m) (read k n) = ap (λ (x : List Letter). outcome_of x words room) (one_marking m n)

-- so the contract settles the answer, the room and the words
pub one_answer : {t : List ℕ} {words : List ℤ} {room : List ℕ} {r r' : Answer} {words' words'' : List ℤ} {left left' : List ℕ}
    → Promised t words room r words' left → Promised t words room r' words'' left' → (r ≡ r') × (left ≡ left') × (words' ≡ words'')
one_answer {t = t} {room = room} p q =
    let e : p.outcome ≡ q.outcome = unique p.answers q.answers in (
      p.given ∙ ap (λ (o : Outcome). given_back t o) e ∙ sym q.given,
      p.kept ∙ ap (λ (o : Outcome). room_after o room) e ∙ sym q.kept,
      p.cleared ∙ sym q.cleared,
    )
