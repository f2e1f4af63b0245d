-- Sums over the first rows: of numbers that are the same, that differ in one row, or where a row was put between the others.
-- Assumes nothing.
use mathlib.Core.Path.{◌≡◌, refl, sym, ap, ap₂, ◌∙◌, subst}
use mathlib.Core.Bool.{Bool, true, false}
use Prim.Native.Nat.{ℕ, zero, suc, ◌+◌, ◌≤◌, ◌<◌}
use native.Mathlib.Nat.{not-suc-le-zero}
use native.Mathlib.Numerals.{add-one}
use native.Mathlib.Omega.{arith}
use borrow.Author.Tests.{eqb-true, eqb-false}
use lib.Dec.{eqb}
use Rattle.library.specs.Memory.{sum_of}

pub sum_next : (f : ℕ → ℕ) (n : ℕ) → sum_of f (n + 1) ≡ f n + sum_of f n
unfolding sum_of
sum_next f n = ap (sum_of f) (add-one n)

pub sum_same : (f g : ℕ → ℕ) (n : ℕ) → ((k : ℕ) → k < n → g k ≡ f k) → sum_of g n ≡ sum_of f n
unfolding sum_of
sum_same f g zero h = refl
sum_same f g (suc n) h = ap₂ {C = ℕ} (λ (x y : ℕ). x + y) (h n (omega arith)) (sum_same f g n (λ k l. h k (omega arith)))

-- row i has another number
pub sum_one : (f g : ℕ → ℕ) (i n : ℕ) → i < n → ((k : ℕ) → k < n → (k ≡ i → ⊥) → g k ≡ f k) → sum_of g n + f i ≡ sum_of f n + g i
unfolding sum_of
sum_one f g i zero l h = absurd (not-suc-le-zero l)
sum_one f g i (suc n) l h = go (eqb n i) refl (λ m. sum_one f g i n m (λ k q. h k (omega arith)))
  where
    go : (t : Bool) → eqb n i ≡ t → (i < n → sum_of g n + f i ≡ sum_of f n + g i) → (g n + sum_of g n) + f i ≡ (f n + sum_of f n) + g i
    go true e r =
        let q : n ≡ i = eqb-true n i e in
        let a = sum_same f g n (λ k m. h k (omega arith) (λ z. omega arith)) in
        let c : f i ≡ f n = ap f (sym q) in
        let d : g i ≡ g n = ap g (sym q) in
        omega (arith, a, c, d)
    go false e r =
        let q : ¬ (n ≡ i) = eqb-false n i e in
        let a = h n (omega arith) q in
        let s = r (omega arith) in
        omega (arith, a, s)

-- a row was put at i, and those from there on stand one higher
pub sum_in : (f g : ℕ → ℕ) (i n : ℕ) → i ≤ n → ((k : ℕ) → k < i → g k ≡ f k) → ((k : ℕ) → i ≤ k → k < n → g (k + 1) ≡ f k) → sum_of g (n + 1) ≡ g i + sum_of f n
sum_in f g i zero l a b = let e : i ≡ 0 = omega arith in sum_next g 0 ∙ subst (λ (x : ℕ). g 0 + sum_of g 0 ≡ g x + sum_of f 0) (sym e) (unfold sum_of in refl)
sum_in f g i (suc n) l a b = go (eqb (suc n) i) refl (λ m. sum_in f g i n m a (λ k q r. b k q (omega arith)))
  where
    go : (t : Bool) → eqb (suc n) i ≡ t → (i ≤ n → sum_of g (n + 1) ≡ g i + sum_of f n) → sum_of g (suc n + 1) ≡ g i + sum_of f (suc n)
    go true e r =
        let q : suc n ≡ i = eqb-true (suc n) i e in
        let s = sum_same f g (suc n) (λ k m. a k (omega arith)) in
        let c : g i ≡ g (suc n) = ap g (sym q) in
        let d = sum_next g (suc n) in
        omega (arith, s, c, d)
    go false e r =
        let q : ¬ (suc n ≡ i) = eqb-false (suc n) i e in
        let s = r (omega arith) in
        let c = b n (omega arith) (omega arith) in
        let d = sum_next g (suc n) in
        let o : n + 1 ≡ suc n = add-one n in
        let u = ap g o in
        let v = ap (sum_of g) o in
        let w = sum_next f n in
        let x = ap (sum_of f) o in
        omega (arith, s, c, d, u, v, w, x)

pub sum_rises : (f : ℕ → ℕ) (m n : ℕ) → m ≤ n → sum_of f m ≤ sum_of f n
sum_rises f m zero l = let e : m ≡ 0 = omega arith in let d = ap (sum_of f) e in omega (arith, d)
sum_rises f m (suc n) l = go (eqb m (suc n)) refl (λ k. sum_rises f m n k)
  where
    go : (t : Bool) → eqb m (suc n) ≡ t → (m ≤ n → sum_of f m ≤ sum_of f n) → sum_of f m ≤ sum_of f (suc n)
    go true e r = let d = ap (sum_of f) (eqb-true m (suc n) e) in omega (arith, d)
    go false e r =
        let q : ¬ (m ≡ suc n) = eqb-false m (suc n) e in
        let a = r (omega arith) in
        let c = sum_next f n in
        let x = ap (sum_of f) (add-one n) in
        omega (arith, a, c, x)

pub one_of_sum : (f : ℕ → ℕ) (i n : ℕ) → i < n → f i ≤ sum_of f n
one_of_sum f i n l = let a = sum_rises f (i + 1) n (omega arith) in let c = sum_next f i in omega (arith, a, c)
