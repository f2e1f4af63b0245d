-- The search by halves: what is known of the numbers below `at` and from `at + reach` on; and where the number does not stand at the place that parts
-- the numbers, those from there on are higher.
-- Assumes nothing.
use mathlib.Core.Path.{◌≡◌, refl, subst}
use mathlib.Core.Bool.{Bool, true, false}
use mathlib.Core.List.{List}
use Prim.Native.Nat.{ℕ, ◌+◌, ◌≤◌, ◌<◌}
use native.Mathlib.Omega.{arith}
use borrow.Author.Tests.{eqb-true, eqb-false}
use lib.Dec.{eqb}
use Rattle.library.specs.Memory.{symbol_at}
use Rattle.library.specs.Rows.{Sorted, Parted}

pub record Seeking (rows : List ℕ) (live symbol at reach : ℕ) : Type 0 where
  pub within : at ≤ live
  pub below : (k : ℕ) → k < at → symbol_at rows k < symbol
  pub above : (k : ℕ) → at + reach ≤ k → k < live → symbol < symbol_at rows k

-- where the number does not stand at i, those from i on are higher
pub above_strict : (rows : List ℕ) (live symbol i : ℕ) → Sorted rows live → Parted rows live symbol i → (i < live → symbol_at rows i ≡ symbol → ⊥)
    → (k : ℕ) → i ≤ k → k < live → symbol < symbol_at rows k
above_strict rows live symbol i o p n k h l = go (eqb i k) refl
  where
    go : (b : Bool) → eqb i k ≡ b → symbol < symbol_at rows k
    go true e =
        let f : i ≡ k = eqb-true i k e in
        let m : ¬ (symbol_at rows k ≡ symbol) = subst (λ (x : ℕ). symbol_at rows x ≡ symbol → ⊥) f (n (omega arith)) in
        let a = p.above k h l in
        omega arith
    go false e =
        let f : ¬ (i ≡ k) = eqb-false i k e in
        let r = o.rising i k (omega arith) l in
        let a = p.above i (omega arith) (omega arith) in
        omega arith
