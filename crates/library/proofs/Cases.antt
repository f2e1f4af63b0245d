-- Two numbers are the same or not, one is below the other or not, and a number is none or some: a fact by cases, once for all laws.
-- Assumes nothing.
use mathlib.Core.Path.{◌≡◌, refl, sym, subst}
use mathlib.Core.Bool.{Bool, true, false}
use Prim.Native.Nat.{ℕ, ◌≤◌, ◌<◌}
use native.Mathlib.Omega.{arith}
use borrow.Author.Tests.{eqb-true, eqb-false, ltb-true, ltb-false}
use lib.Dec.{eqb, ltb}

pub equal_or : (P : Type 0) (j i : ℕ) → (j ≡ i → P) → ((j ≡ i → ⊥) → P) → P
equal_or P j i f g = go (eqb j i) refl
  where
    go : (t : Bool) → eqb j i ≡ t → P
    go true e = f (eqb-true j i e)
    go false e = g (eqb-false j i e)

-- of row i and of every other
pub by_row : (i : ℕ) (P : ℕ → Type 0) (k : ℕ) → P i → ((k ≡ i → ⊥) → P k) → P k
by_row i P k x y = equal_or (P k) k i (λ e. subst P (sym e) x) y

pub by_place : (P : Type 0) (x y : ℕ) → (x < y → P) → (y ≤ x → P) → P
by_place P x y f g = go (ltb x y) refl
  where
    go : (t : Bool) → ltb x y ≡ t → P
    go true e = f (ltb-true x y e)
    go false e = g (ltb-false x y e)

pub side : (P : Type 0) (j i : ℕ) → (j < i → P) → (j ≡ i → P) → (i < j → P) → P
side P j i f g h = by_place P j i f (λ a. by_place P i j h (λ b. g (omega arith)))

pub none_or_some : (P : Type 0) (n : ℕ) → (n ≡ 0 → P) → (0 < n → P) → P
none_or_some P n f g = equal_or P n 0 f (λ z. let q : ¬ (n ≡ 0) = z in g (omega arith))
