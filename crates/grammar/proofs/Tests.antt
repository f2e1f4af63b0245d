-- Tests that antt computes, and the facts that they stand for: one test over a whole table gives its rule at every entry.
-- Assumes nothing.
use mathlib.Core.Path.{◌≡◌, refl, sym, ◌∙◌, subst}
use mathlib.Core.Bool.{Bool, true, false, not, ◌&&◌, ◌||◌}
use mathlib.Core.List.{List, [], ◌∷◌}
use mathlib.Core.Logic.{◌⊎◌, inl, inr}
use Prim.Native.Nat.{ℕ, zero, suc, ◌+◌, ◌<◌}
use native.Mathlib.Nat.{add-zero, zero-add, add-suc, suc-add, le_of_suc-le-suc, not-suc-le-zero, eq-or-lt_of_le}
use lib.Dec.{T}
use lib.ListN.{length, get_or}

pub and_left : (s t : Bool) → T (s && t) → T s
and_left true t h = tt
and_left false t h = h

pub and_right : (s t : Bool) → T (s && t) → T t
and_right true t h = h
and_right false t h = absurd h

pub and_both : (s t : Bool) → T s → T t → T (s && t)
and_both true t h k = k
and_both false t h k = h

pub or_left : (s t : Bool) → T s → T (s || t)
or_left true t h = tt
or_left false t h = absurd h

pub or_right : (s t : Bool) → T t → T (s || t)
or_right true t h = tt
or_right false t h = h

pub or_cases : (s t : Bool) → T (s || t) → T s ⊎ T t
or_cases true t h = inl tt
or_cases false t h = inr h

-- `not s || t` says that t follows from s
pub follows : (s t : Bool) → T (not s || t) → T s → T t
follows true t h k = h
follows false t h k = absurd k

-- two tests come out the same
abbrev pub same_bit : Bool → Bool → Bool
same_bit true b = b
same_bit false b = not b

pub bit_eq : (s t : Bool) → T (same_bit s t) → s ≡ t
bit_eq true true h = refl
bit_eq true false h = absurd h
bit_eq false true h = absurd h
bit_eq false false h = refl

-- the test f passes at each entry of the list and its index, counted from i
abbrev pub every : (ℕ → ℕ → Bool) → ℕ → List ℕ → Bool
every f i [] = true
every f i (x ∷ xs) = f i x && every f (suc i) xs

every_from : (f : ℕ → ℕ → Bool) (xs : List ℕ) (i : ℕ) → T (every f i xs) → (k : ℕ) → k < length xs → T (f (i + k) (get_or xs k 0))
every_from f [] i t k h = absurd (not-suc-le-zero h)
every_from f (x ∷ xs) i t zero h = subst (λ (m : ℕ). T (f m x)) (sym (add-zero i)) (and_left (f i x) (every f (suc i) xs) t)
every_from f (x ∷ xs) i t (suc k) h =
    subst (λ (m : ℕ). T (f m (get_or xs k 0))) (suc-add i k ∙ sym (add-suc i k))
    (every_from f xs (suc i) (and_right (f i x) (every f (suc i) xs) t) k (le_of_suc-le-suc h))

pub every_at : (f : ℕ → ℕ → Bool) (xs : List ℕ) → T (every f 0 xs) → (k : ℕ) → k < length xs → T (f k (get_or xs k 0))
every_at f xs t k h = subst (λ (m : ℕ). T (f m (get_or xs k 0))) (zero-add k) (every_from f xs 0 t k h)

-- the test f passes at each number below n
unfoldable pub upto : (ℕ → Bool) → ℕ → Bool
upto f zero = true
upto f (suc n) = f n && upto f n

pub upto_at : (f : ℕ → Bool) (n : ℕ) → T (upto f n) → (i : ℕ) → i < n → T (f i)
unfolding upto
upto_at f zero t i h = absurd (not-suc-le-zero h)
upto_at f (suc n) t i h = go (eq-or-lt_of_le (le_of_suc-le-suc h)) (upto_at f n (and_right (f n) (upto f n) t) i)
  where
    go : (i ≡ n) ⊎ (i < n) → (i < n → T (f i)) → T (f i)
    go (inl e) g = subst (λ (k : ℕ). T (f k)) (sym e) (and_left (f n) (upto f n) t)
    go (inr l) g = g l
