-- What request 2 (RULES 6) asks of `scaled`: no whole number is nearer to a * d / b, and of two that are as near it is the one farther from zero.
-- All is said without division, b times over: a * d against b times a whole number. And when nothing is rounded, for the code.
-- Assumes nothing.
use mathlib.Core.Path.{◌≡◌, refl, sym, ap, ◌∙◌, subst}
use mathlib.Core.Bool.{Bool, true, false}
use mathlib.Core.Logic.{◌↔◌}
use Prim.Native.Nat.{ℕ, zero, suc, ◌+◌, ◌-◌, ◌*◌, ◌/◌, ◌%◌, ◌≤◌, ◌<◌}
use native.Mathlib.Omega.{arith}
use native.Mathlib.Nat.{mul_left_comm, mul-le-mul_right, suc-mul, mul-suc, mul_comm, div-mul-le_self, lt-div-mul-add, div-add-mod', mul-mod_left, div-eq_of_lt}
use borrow.Author.Tests.{ltb-true, ltb-false}
use lib.Dec.{ltb}
use lib.IntN.{ℤ, pos, negsuc, neg_ℤ, neg_ℤ-neg_ℤ, nat_abs, ◌+ℤ◌, ◌-ℤ◌, ◌*ℤ◌, sub_ℕ}
use Rattle.definition.specs.Standing.{Standing, nearest, scaled}

-- q is within a half of n / b, and a half below it
pub record Near (n b q : ℕ) : Type 0 where
  pub low : 2 * (q * b) ≤ 2 * n + b
  pub high : 2 * n < 2 * (q * b) + b

pub near : (n b : ℕ) → 0 < b → Near n b (nearest n b)
unfolding nearest
near n b h =
    let q = (2 * n + b) / (2 * b) in
    let e : q * (2 * b) ≡ 2 * (q * b) = mul_left_comm q 2 b in
    let l : q * (2 * b) ≤ 2 * n + b = div-mul-le_self (2 * n + b) (2 * b) in
    let k : 2 * n + b < q * (2 * b) + 2 * b = lt-div-mul-add {a = 2 * n + b} {b = 2 * b} (omega arith) in
    record { low = omega arith; high = omega arith }

-- one whole number more is b more
more : (q k b : ℕ) → q < k → q * b + b ≤ k * b
more q k b h = subst (λ (x : ℕ). x ≤ k * b) (suc-mul q b) (mul-le-mul_right b h)

pub one_near : {n b q k : ℕ} → 0 < b → Near n b q → Near n b k → q ≡ k
one_near {n} {b} {q} {k} h x y = omega (arith, above, below)
  where
    above : q < k → ⊥
    above l = let m = more q k b l in omega (arith, x.high, y.low)

    below : k < q → ⊥
    below l = let m = more k q b l in omega (arith, x.low, y.high)

-- ---- where nothing is rounded

pub nearest_zero : (b : ℕ) → nearest 0 b ≡ 0
unfolding nearest
nearest_zero zero = refl
nearest_zero (suc b) = div-eq_of_lt {n = 2 * 0 + suc b} {m = 2 * suc b} (omega arith)

pub nearest_equal : (n b : ℕ) → 0 < b → nearest (b * n) b ≡ n
nearest_equal n b h =
    let e : n * b ≡ b * n = mul_comm n b in
    one_near h (near (b * n) b h) (record { low = omega arith; high = omega arith })

-- a whole number is told by the product
pub whole-when : (n b : ℕ) → 0 < b → (nearest n b * b ≡ n) ↔ (n % b ≡ 0)
whole-when n b h = (
  λ e. sym (ap (λ (x : ℕ). x % b) e) ∙ mul-mod_left (nearest n b) b,
  λ e. let d = div-add-mod' n b in
      let f : n / b * b ≡ n = omega arith in
      ap (λ (x : ℕ). x * b) (one_near h (near n b h) (record { low = omega arith; high = omega arith })) ∙ f,
)

-- ---- no whole number is nearer

abbrev apart : ℕ → ℕ → ℕ
apart x y = (x - y) + (y - x)

-- another whole number k is not nearer, and as near only if it is lower
record NoNearer (n b q k : ℕ) : Type 0 where
  farther : apart n (q * b) ≤ apart n (k * b)
  higher : apart n (q * b) ≡ apart n (k * b) → k ≤ q

no_nearer : (n b q k : ℕ) → 0 < b → Near n b q → NoNearer n b q k
no_nearer n b q k h x = go (ltb q k) (ltb k q) refl refl
  where
    go : (c d : Bool) → ltb q k ≡ c → ltb k q ≡ d → NoNearer n b q k
    go true d e f =
        let m = more q k b (ltb-true q k e) in
        record { farther = omega (arith, x.low, x.high); higher = λ s. absurd (omega (arith, x.low, x.high)) }
    go false true e f =
        let l = ltb-true k q f in
        let m = more k q b l in
        record { farther = omega (arith, x.low, x.high); higher = λ s. omega arith }
    go false false e f =
        let s : q ≡ k = omega (arith, ltb-false q k e, ltb-false k q f) in
        record { farther = subst (λ (y : ℕ). apart n (q * b) ≤ apart n (y * b)) s (omega arith); higher = λ t. omega arith }

-- how far two whole numbers with signs are apart
abbrev pub off : ℤ → ℤ → ℕ
off x y = nat_abs (x -ℤ y)

sub-apart : (x y : ℕ) → nat_abs (sub_ℕ x y) ≡ apart x y
sub-apart x y = go (ltb x y) refl
  where
    go : (c : Bool) → ltb x y ≡ c → nat_abs (sub_ℕ x y) ≡ apart x y
    go true e = let l = ltb-true x y e in rw e (omega arith)
    go false e = let l = ltb-false x y e in rw e (omega arith)

-- two of one sign, and two of either
off_same : (x y : ℕ) → off (pos x) (pos y) ≡ apart x y
off_same x zero = omega arith
off_same x (suc y) = sub-apart x (suc y)

off_both : (x y : ℕ) → off (neg_ℤ (pos x)) (neg_ℤ (pos y)) ≡ apart x y
off_both zero zero = refl
off_both zero (suc y) = omega arith
off_both (suc x) zero = let e = sub-apart 0 (suc x) in omega arith
off_both (suc x) (suc y) = let e = sub-apart (suc y) (suc x) in omega arith

off_below : (x y : ℕ) → off (pos x) (neg_ℤ (pos y)) ≡ x + y
off_below x y = ap (λ (z : ℤ). nat_abs (pos x +ℤ z)) (neg_ℤ-neg_ℤ (pos y))

off_above : (x y : ℕ) → off (neg_ℤ (pos x)) (pos y) ≡ x + y
off_above zero zero = refl
off_above zero (suc y) = let e = sub-apart 0 (suc y) in omega arith
off_above (suc x) zero = let e = sub-apart 0 (suc x) in omega arith
off_above (suc x) (suc y) = omega arith

times_negative : (b q : ℕ) → pos b *ℤ neg_ℤ (pos q) ≡ neg_ℤ (pos (b * q))
times_negative b zero = let e : b * 0 ≡ 0 = omega arith in ap pos e ∙ ap (λ (n : ℕ). neg_ℤ (pos n)) (sym e)
times_negative b (suc q) = refl

abs_minus : (q : ℕ) → nat_abs (neg_ℤ (pos q)) ≡ q
abs_minus zero = refl
abs_minus (suc q) = refl

pub abs_scaled : (s : Standing) (z : ℤ) → nat_abs (scaled s z) ≡ nearest (s.a * nat_abs z) s.b
unfolding scaled
abs_scaled s (pos d) = refl
abs_scaled s (negsuc d) = abs_minus (nearest (s.a * suc d) s.b)

-- the whole number z is no nearer to a * d / b than what d is scaled to, and if it is as near it is not farther from zero
pub record NotNearer (s : Standing) (d z : ℤ) : Type 0 where
  pub farther : off (pos s.a *ℤ d) (pos s.b *ℤ scaled s d) ≤ off (pos s.a *ℤ d) (pos s.b *ℤ z)
  pub away : off (pos s.a *ℤ d) (pos s.b *ℤ scaled s d) ≡ off (pos s.a *ℤ d) (pos s.b *ℤ z) → nat_abs z ≤ nat_abs (scaled s d)

-- the same of n = a * |d|, where o and p say how far b times q and b times k are from it: k on the side of d, and k on the other
module _ (n b q : ℕ) (h : 0 < b) (x : Near n b q) {o : ℕ} (mine : o ≡ apart n (b * q)) where
  here : o ≡ apart n (q * b)
  here = mine ∙ ap (apart n) (mul_comm b q)

  this_side : {p : ℕ} (k : ℕ) → p ≡ apart n (b * k) → (o ≤ p) × (o ≡ p → k ≤ q)
  this_side {p} k e =
      let there : p ≡ apart n (k * b) = e ∙ ap (apart n) (mul_comm b k) in
      let r = no_nearer n b q k h x in
      (omega (arith, here, r.farther), λ f. r.higher (sym here ∙ f ∙ there))

  other_side : {p : ℕ} (k : ℕ) → p ≡ n + b * k → (o ≤ p) × (o ≡ p → k ≤ q)
  other_side {p} k e =
      let r = (no_nearer n b q 0 h x).farther in
      (omega (arith, here, r), λ f. subst (λ (j : ℕ). j ≤ q) (sym (none k (sym f ∙ here) e)) (omega arith))
    where
      none : (j : ℕ) → p ≡ apart n (q * b) → p ≡ n + b * j → j ≡ 0
      none zero f g = refl
      none (suc j) f g = absurd (let m = mul-suc b j in let r = (no_nearer n b q 0 h x).farther in omega arith)

-- request 2: of every distance and every whole number, whatever their signs
pub scaled-nearest : (s : Standing) (d z : ℤ) → 0 < s.b → NotNearer s d z
unfolding scaled
scaled-nearest s (pos n) z h = go z
  where
    m : ℕ
    m = s.a * n

    q : ℕ
    q = nearest m s.b

    go : (z : ℤ) → NotNearer s (pos n) z
    go (pos k) = let r = this_side m s.b q h (near m s.b h) (off_same m (s.b * q)) k (off_same m (s.b * k)) in record { farther = r.0; away = r.1 }
    go (negsuc k) =
        let r = other_side m s.b q h (near m s.b h) (off_same m (s.b * q)) (suc k) (off_below m (s.b * suc k)) in record { farther = r.0; away = r.1 }
scaled-nearest s (negsuc n) z h = go z
  where
    m : ℕ
    m = s.a * suc n

    q : ℕ
    q = nearest m s.b

    mine : off (neg_ℤ (pos m)) (pos s.b *ℤ neg_ℤ (pos q)) ≡ apart m (s.b * q)
    mine = ap (off (neg_ℤ (pos m))) (times_negative s.b q) ∙ off_both m (s.b * q)

    size : nat_abs (neg_ℤ (pos q)) ≡ q
    size = abs_minus q

    go : (z : ℤ) → NotNearer s (negsuc n) z
    go (pos k) =
        let r = other_side m s.b q h (near m s.b h) mine k (off_above m (s.b * k)) in record { farther = r.0; away = λ f. subst (λ (j : ℕ). k ≤ j) (sym size) (r.1 f) }
    go (negsuc k) =
        let r = this_side m s.b q h (near m s.b h) mine (suc k) (off_both m (s.b * suc k)) in record { farther = r.0; away = λ f. subst (λ (j : ℕ). suc k ≤ j) (sym size) (r.1 f) }
