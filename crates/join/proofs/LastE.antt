-- The last letter E of a text: what stands before it is `before_e`.
-- Assumes nothing.
use Rattle.std.specs.Prelude.{if◌then◌else◌, Option, Some, None, MatchOption, EachIndex, slice_index, unwrap_or}
use mathlib.Core.Path.{◌≡◌, refl, sym, ap, ◌∙◌}
use mathlib.Core.Logic.{◌≢◌}
use mathlib.Core.Bool.{Bool, true, false, ◌||◌}
use mathlib.Core.List.{List, [], ◌∷◌}
use Prim.Native.Nat.{ℕ, zero, suc, ◌<◌}
use native.Mathlib.Nat.{not-suc-le-zero, le_of_suc-le-suc}
use native.Mathlib.Omega.{arith}
use borrow.Author.Tests.{eq-eqb, ne_eqb}
use lib.Dec.{eqb}
use lib.ListN.{length, get_or, take}
use Rattle.definition.specs.Words.{any}
use Rattle.joining.specs.Joined.{before_e}
use Rattle.join.specs.Made.{LastAt, CutAt}

abbrev some_e : List ℕ → Bool
some_e t = any (λ c. eqb c 69) t

abbrev cut_by : ℕ → List ℕ → Bool → List ℕ
cut_by b rest some = if some then b ∷ rest else []

none_there : (t : List ℕ) → ((k : ℕ) → k < length t → get_or t k 0 ≢ 69) → some_e t ≡ false
unfolding any
none_there [] h = refl
none_there (b ∷ t) h = ap (λ (x : Bool). x || some_e t) (ne_eqb b 69 (h 0 (omega arith))) ∙ none_there t (λ k l. h (suc k) (omega (arith, l)))

some_there : (t : List ℕ) (i : ℕ) → i < length t → get_or t i 0 ≡ 69 → some_e t ≡ true
unfolding any
some_there [] i h e = absurd (not-suc-le-zero h)
some_there (b ∷ t) zero h e = ap (λ (x : Bool). x || some_e t) (eq-eqb b 69 e)
some_there (b ∷ t) (suc i) h e = ap (λ (x : Bool). eqb b 69 || x) (some_there t i (le_of_suc-le-suc h) e) ∙ either (eqb b 69)
  where
    either : (x : Bool) → (x || true) ≡ true
    either true = refl
    either false = refl

before_it : (t : List ℕ) (i : ℕ) → LastAt t i → take i t ≡ before_e t
unfolding before_e
before_it [] i e = absurd (not-suc-le-zero e.0)
before_it (b ∷ t) zero e = ap (cut_by b (before_e t)) (sym (none_there t (λ k l. e.2 (suc k) (omega arith) (omega (arith, l)))))
before_it (b ∷ t) (suc i) e =
    let there : LastAt t i = (le_of_suc-le-suc e.0, e.1, λ k h l. e.2 (suc k) (omega (arith, h)) (omega (arith, l))) in
    ap (λ (u : List ℕ). b ∷ u) (before_it t i there) ∙ ap (cut_by b (before_e t)) (sym (some_there t i there.0 there.1))

-- there is none at all
none_before : (t : List ℕ) → some_e t ≡ false → [] ≡ before_e t
unfolding before_e any
none_before [] e = refl
none_before (b ∷ t) e = ap (cut_by b (before_e t)) (sym (tail (eqb b 69) (some_e t) e))
  where
    tail : (x y : Bool) → (x || y) ≡ false → y ≡ false
    tail true y e = cc
    tail false y e = e

pub cut : (t : List ℕ) (last : Option ℕ) {end : ℕ} → MatchOption last (EachIndex t (λ k. slice_index t k ≢ 69)) (λ i. LastAt t i) → end ≡ unwrap_or last 0 → CutAt t end
cut t None none e = record { before = ap (λ (n : ℕ). take n t) e ∙ none_before t (none_there t none); within = omega (arith, e) }
cut t (Some i) last e = record { before = ap (λ (n : ℕ). take n t) e ∙ before_it t i last; within = omega (arith, e, last.0) }
