-- How the code scales: equal a and b leave a number as it is, and one division tells the nearest whole number and whether anything was rounded.
-- Assumes nothing.
use Rattle.std.specs.Prelude.{if◌then◌else◌}
use mathlib.Core.Path.{◌≡◌, refl, sym, ap, ap₂, ◌∙◌}
use mathlib.Core.Bool.{Bool, true, false, not, ◌&&◌}
use Prim.Native.Nat.{ℕ, ◌+◌, ◌-◌, ◌*◌, ◌/◌, ◌%◌, ◌≤◌, ◌<◌}
use native.Mathlib.Nat.{mul-mod_right, div-add-mod', mul-le-mul, mod-lt, add-mul, one-mul}
use native.Mathlib.Omega.{arith}
use borrow.Author.Tests.{eq-eqb, ne_eqb}
use lib.Dec.{eqb}
use Rattle.definition.specs.Standing.{nearest}
use Rattle.definition.proofs.Nearest.{Near, near, one_near, nearest_equal}
use Rattle.pieces.specs.Pieces.{too_large}
use Rattle.rules.specs.Written.{one}
use Rattle.rules.specs.Rules.{distance, scaled_by, rounded_by, scaled_to}
use Rattle.rules.specs.declared.AtScale.{AtScale}

-- the product of a scale and a number fits
pub product_fits : (a n : ℕ) → a ≤ too_large → n ≤ too_large → a * n ≤ too_large * too_large
product_fits a n ha hn = mul-le-mul {n₁ = a} {m₁ = n} {n₂ = too_large} {m₂ = too_large} ha hn

-- what a division leaves
pub rest_is : (x b : ℕ) → x - x / b * b ≡ x % b
rest_is x b = let d = div-add-mod' x b in omega arith

module _ (x b : ℕ) (h : 1 ≤ b) where
  low : x / b * b + x % b ≡ x
  low = div-add-mod' x b

  within : x % b < b
  within = mod-lt x h

  nearest_by : (q : ℕ) → Near x b q → q ≡ nearest x b
  nearest_by q k = one_near h k (near x b h)

  -- nothing left; less left than missing; and not less
  pub scaled_evenly : x - x / b * b ≡ 0 → scaled_to (x / b) 0 ≡ scaled_to (nearest x b) (one (not (eqb (x % b) 0)))
  scaled_evenly e =
      let r : x % b ≡ 0 = sym (rest_is x b) ∙ e in
      let l = low in
      ap₂ {C = AtScale} (λ (v k : ℕ). scaled_to v k) (nearest_by (x / b) (record { low = omega arith; high = omega arith }))
      (ap (λ (t : Bool). one (not t)) (sym (eq-eqb (x % b) 0 r)))

  some_left : (v : ℕ) → v ≡ nearest x b → (x - x / b * b ≡ 0 → ⊥) → scaled_to v 1 ≡ scaled_to (nearest x b) (one (not (eqb (x % b) 0)))
  some_left v e k =
      ap₂ {C = AtScale} (λ (u j : ℕ). scaled_to u j) e
      (ap (λ (t : Bool). one (not t)) (sym (ne_eqb (x % b) 0 (λ z. k (rest_is x b ∙ z)))))

  pub scaled_down : (x - x / b * b ≡ 0 → ⊥) → x - x / b * b < b - (x - x / b * b) → scaled_to (x / b) 1 ≡ scaled_to (nearest x b) (one (not (eqb (x % b) 0)))
  scaled_down k s =
      let r = rest_is x b in
      let l = low in
      let w = within in
      some_left (x / b) (nearest_by (x / b) (record { low = omega arith; high = omega arith })) k

  pub scaled_up : (x - x / b * b ≡ 0 → ⊥) → b - (x - x / b * b) ≤ x - x / b * b → scaled_to (x / b + 1) 1 ≡ scaled_to (nearest x b) (one (not (eqb (x % b) 0)))
  scaled_up k s =
      let r = rest_is x b in
      let l = low in
      let w = within in
      let m : (x / b + 1) * b ≡ x / b * b + b = add-mul (x / b) 1 b ∙ ap (λ (y : ℕ). x / b * b + y) (one-mul b) in
      some_left (x / b + 1) (nearest_by (x / b + 1) (record { low = omega arith; high = omega arith })) k

-- a number whose scale changes nothing, and one that is no distance
module _ (a b l w i n : ℕ) where
  by_distance : (d : Bool) → scaled_to n 0 ≡ scaled_to (if d then n else n) (one (d && not (eqb 0 0)))
  by_distance true = refl
  by_distance false = refl

  pub scaled_equal : a ≡ b → 1 ≤ b → scaled_to n 0 ≡ scaled_to (scaled_by a b l w i n) (rounded_by a b l w i n)
  scaled_equal e h =
      let m : a * n % b ≡ 0 = ap (λ (x : ℕ). x * n % b) e ∙ mul-mod_right b n in
      let q : nearest (a * n) b ≡ n = ap (λ (x : ℕ). nearest (x * n) b) e ∙ nearest_equal n b h in
      by_distance (distance l w i)
      ∙ sym (ap₂ {C = AtScale} (λ (v r : ℕ). scaled_to (if distance l w i then v else n) (one (distance l w i && not (eqb r 0)))) q m)

  pub scaled_distant : distance l w i ≡ true → (r : AtScale) → r ≡ scaled_to (nearest (a * n) b) (one (not (eqb (a * n % b) 0))) → r ≡ scaled_to (scaled_by a b l w i n) (rounded_by a b l w i n)
  scaled_distant d r e = e ∙ rw d

  pub scaled_other : distance l w i ≡ false → scaled_to n 0 ≡ scaled_to (scaled_by a b l w i n) (rounded_by a b l w i n)
  scaled_other d = rw d
