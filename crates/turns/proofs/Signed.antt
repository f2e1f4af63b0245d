-- How far whole numbers lie from zero, as `nat_abs`, which omega reads; and how they come back from the machine's words.
-- Assumes nothing.
use mathlib.Core.Path.{◌≡◌, refl, sym, ap, subst, ◌∙◌}
use mathlib.Core.Bool.{Bool, true, false, cond}
use Prim.Native.Nat.{ℕ, zero, suc, ◌+◌, ◌-◌, ◌^◌, ◌≤◌, ◌<◌}
use native.Mathlib.Omega.{arith}
use lib.Dec.{ltb, eqb}
use lib.IntN.{ℤ, pos, negsuc, ◌+ℤ◌, ◌-ℤ◌, neg_ℤ, nat_abs, sub_ℕ, +ℤ_idl}
use lib.Signed.{mag, lt_z, nat_abs-le}
use borrow.Author.Tests.{ltb-true, ltb-false, lt-ltb, le-ltb, eqb-true, eqb-false, ne_eqb}
use mir.Syntax.{w32, w64, Width}
use mir.Val.{SFits, to_z, of_z, hbits}
use mir.Facts.{to_z-of_z}
use Rattle.definition.specs.Faults.{beyond, zero?}
use Rattle.definition.specs.Turns.{negative}
use Rattle.turns.specs.Nets.{signed}

pub abs_neg : (x : ℤ) → nat_abs (neg_ℤ x) ≡ nat_abs x
abs_neg (pos zero) = refl
abs_neg (pos (suc n)) = refl
abs_neg (negsuc n) = refl

abs_sub : (a b : ℕ) → nat_abs (sub_ℕ a b) ≤ a + b
abs_sub a b = go (ltb a b) refl
  where
    go : (t : Bool) → ltb a b ≡ t → nat_abs (cond t (negsuc (b - suc a)) (pos (a - b))) ≤ a + b
    go true e = omega (arith, ltb-true a b e)
    go false e = omega arith

pub abs_add : (x y : ℤ) → nat_abs (x +ℤ y) ≤ nat_abs x + nat_abs y
abs_add (pos a) (pos b) = omega arith
abs_add (pos a) (negsuc b) = abs_sub a (suc b)
abs_add (negsuc a) (pos b) = omega (arith, abs_sub b (suc a))
abs_add (negsuc a) (negsuc b) = omega arith

mag_le : (z : ℤ) → mag z ≤ nat_abs z
mag_le (pos n) = omega arith
mag_le (negsuc n) = omega arith

pub fits : (z : ℤ) → nat_abs z < 2 ^ 63 → SFits w64 z
fits z h = record { sfits = omega (arith, mag_le z) }

-- a number comes back from its bits
pub back : (z : ℤ) → nat_abs z < 2 ^ 63 → to_z w64 (of_z w64 z) ≡ z
back z h = to_z-of_z {w = w64} {z = z} (fits z h)

pub told : (w : Width) (z : ℤ) → mag z < 2 ^ hbits w → to_z w (of_z w z) ≡ z
told w z h = to_z-of_z {w = w} {z = z} (record { sfits = h })

pub abs_signed : (n : Bool) (z : ℤ) → nat_abs (signed n z) ≡ nat_abs z
unfolding signed
abs_signed true z = abs_neg z
abs_signed false z = refl

-- the sum of two numbers of that size fits
pub sum_fits : (x y : ℤ) → nat_abs x ≤ 2 ^ 61 → nat_abs y ≤ 2 ^ 61 → SFits w64 (x +ℤ y)
sum_fits x y hx hy = fits (x +ℤ y) (omega (arith, abs_add x y))

-- code negates a number by taking it from 0
neg_small : (x : ℤ) → nat_abs x ≤ 2 ^ 61 → nat_abs (neg_ℤ x) ≤ 2 ^ 61
neg_small x h = omega (arith, abs_neg x)

pub neg_fits : (x : ℤ) → nat_abs x ≤ 2 ^ 61 → SFits w64 (pos 0 -ℤ x)
neg_fits x h = sum_fits (pos 0) (neg_ℤ x) (omega arith) (neg_small x h)

pub neg_back : (x : ℤ) → nat_abs x ≤ 2 ^ 61 → to_z w64 (of_z w64 (pos 0 -ℤ x)) ≡ neg_ℤ x
neg_back x h = to_z-of_z (neg_fits x h) ∙ +ℤ_idl (neg_ℤ x)

pub neg_sum_fits : (x y : ℤ) → nat_abs x ≤ 2 ^ 61 → nat_abs y ≤ 2 ^ 61 → SFits w64 (neg_ℤ x +ℤ y)
neg_sum_fits x y hx hy = sum_fits (neg_ℤ x) y (neg_small x hx) hy

-- a number of 32 bits, widened to 64
pub narrow : (z : ℤ) → SFits w32 z → nat_abs z ≤ 2 ^ 31
narrow z h = nat_abs-le z h.sfits

pub wide : (z : ℤ) → SFits w32 z → SFits w64 (to_z w32 (of_z w32 z))
wide z h = rw (to_z-of_z h) (fits z (omega (arith, narrow z h)))

pub worth : (z : ℤ) → SFits w32 z → to_z w64 (of_z w64 (to_z w32 (of_z w32 z))) ≡ z
worth z h = rw (to_z-of_z h) (back z (omega (arith, narrow z h)))

pub widened : (z : ℤ) → SFits w32 z → nat_abs (to_z w64 (of_z w64 (to_z w32 (of_z w32 z)))) ≤ 2 ^ 61
widened z h = rw (worth z h) (omega (arith, narrow z h))

-- the two tests of a number beyond the range
pub below : (x : ℤ) → lt_z x (negsuc 16777214) ≡ true → lt_z x (negsuc 16777214) ≡ beyond x
unfolding beyond
below (pos n) e = absurd (let z : ◌≡◌ {A = Bool} false true = e in subst (λ (b : Bool). cond b ⊥ (Unit {0})) z tt)
below (negsuc n) e = e ∙ sym (lt-ltb 16777215 (suc n) (omega (arith, ltb-true 16777214 n e)))

pub above : (x : ℤ) → lt_z x (negsuc 16777214) ≡ false → lt_z (pos 16777215) x ≡ beyond x
unfolding beyond
above (pos n) e = refl
above (negsuc n) e = sym (le-ltb 16777215 (suc n) (omega (arith, ltb-false 16777214 n e)))

-- a number of 32 bits, by the tests that code makes of it
pub of_bits : (z : ℤ) (n : ℕ) → SFits w32 z → of_z w32 z ≡ n → z ≡ to_z w32 n
of_bits z n h e = sym (to_z-of_z h) ∙ ap (to_z w32) e

pub is_zero : (z : ℤ) → SFits w32 z → of_z w32 z ≡ 0 → zero? z ≡ true
is_zero z h e = rw (of_bits z 0 h e)

pub not_zero : (z : ℤ) → (of_z w32 z ≡ 0 → ⊥) → zero? z ≡ false
not_zero z h = ne_eqb (nat_abs z) 0 (λ e. h (go z e))
  where
    go : (v : ℤ) → nat_abs v ≡ 0 → of_z w32 v ≡ 0
    go (pos n) e = e
    go (negsuc n) e = absurd (omega arith)

pub is_negative : (z : ℤ) (t : Bool) → SFits w32 z → lt_z (to_z w32 (of_z w32 z)) (pos 0) ≡ t → negative z ≡ t
unfolding negative
is_negative z t h e = sym (go z) ∙ (rw (to_z-of_z h) at e)
  where
    go : (v : ℤ) → lt_z v (pos 0) ≡ negative v
    go (pos n) = le-ltb n 0 (omega arith)
    go (negsuc n) = refl

pub bits_zero : (z : ℤ) → SFits w32 z → eqb (of_z w32 z) 0 ≡ zero? z
bits_zero z h = go (eqb (of_z w32 z) 0) refl
  where
    go : (t : Bool) → eqb (of_z w32 z) 0 ≡ t → t ≡ zero? z
    go true e = sym (is_zero z h (eqb-true (of_z w32 z) 0 e))
    go false e = sym (not_zero z (eqb-false (of_z w32 z) 0 e))
