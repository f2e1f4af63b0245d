-- Numbers of 64 bits as the code takes their signs apart. A signed value comes wrapped, as its bits read again; here it is unwrapped once.
-- Assumes nothing.
use mathlib.Core.Path.{◌≡◌, refl, sym, ap, ◌∙◌, subst}
use mathlib.Core.Bool.{Bool, true, false, cond}
use mathlib.Core.List.{List, [], ◌∷◌, ◌++◌}
use Prim.Native.Nat.{ℕ, zero, suc, ◌+◌, ◌≤◌, ◌<◌}
use native.Mathlib.Omega.{arith}
use borrow.Author.Tests.{ltb-true, leb-false, le-ltb}
use lib.IntN.{ℤ, pos, negsuc, nat_abs, ◌+ℤ◌, ◌-ℤ◌, +ℤ_idl, +ℤ_one}
use lib.ListN.{length, length-append}
use lib.Signed.{lt_z, le_z, mag, nat_abs-le}
use mir.Facts.{to_z-of_z}
use mir.Syntax.{w64}
use mir.Val.{SFits, to_z, of_z}
use Rattle.definition.specs.Flat.{shortest, decimal}
use Rattle.digits.specs.Writes.{Writes, sign}
use Rattle.digits.proofs.Writing.{both, same_bytes}

abbrev pub wrap : ℤ → ℤ
wrap z = to_z w64 (of_z w64 z)

-- one is added, the sign is turned, and what comes back is the size less one
abbrev pub turn : ℤ → ℤ
turn z = pos 0 -ℤ wrap (wrap z +ℤ pos 1)

pub record Negative (z : ℤ) : Type 0 where
  pub lower : ℕ
  pub is : z ≡ negsuc lower
  pub small : lower < 9223372036854775808
  pub up_fits : SFits w64 (wrap z +ℤ pos 1)
  pub turn-fits : SFits w64 (turn z)
  pub turned : wrap (turn z) ≡ pos lower

pub record Positive (z : ℤ) : Type 0 where
  pub size : ℕ
  pub is : z ≡ pos size
  pub small : size < 9223372036854775808

opposite : (n : ℕ) → pos 0 -ℤ (negsuc n +ℤ pos 1) ≡ pos n
opposite zero = refl
opposite (suc n) = rw (+ℤ_one (negsuc (suc n))) (+ℤ_idl (pos (suc n)))

up_small : (n : ℕ) → mag (negsuc n +ℤ pos 1) ≤ n
up_small zero = omega arith
up_small (suc n) = rw (+ℤ_one (negsuc (suc n))) (omega arith)

pub negative : (z : ℤ) → SFits w64 z → lt_z (wrap z) (pos 0) ≡ true → Negative z
negative (pos n) f e = absurd (let t = rw (to_z-of_z f) at e in omega (arith, ltb-true n 0 t))
negative (negsuc n) f e =
    let small : n < 9223372036854775808 = f.sfits in
    let same : wrap (negsuc n) ≡ negsuc n = to_z-of_z f in
    let up : SFits w64 (negsuc n +ℤ pos 1) = record { sfits = omega (arith, up_small n) } in
    let turned : turn (negsuc n) ≡ pos n = ap (λ (y : ℤ). pos 0 -ℤ wrap (y +ℤ pos 1)) same ∙ ap (λ (y : ℤ). pos 0 -ℤ y) (to_z-of_z up) ∙ opposite n in
    let n-fits : SFits w64 (pos n) = record { sfits = omega arith } in
    record {
      lower = n;
      is = refl;
      small = small;
      up_fits = subst (λ (y : ℤ). SFits w64 (y +ℤ pos 1)) (sym same) up;
      turn-fits = subst (SFits w64) (sym turned) n-fits;
      turned = ap wrap turned ∙ to_z-of_z n-fits;
    }

pub positive : (z : ℤ) → SFits w64 z → lt_z (wrap z) (pos 0) ≡ false → Positive z
positive (pos n) f e = record { size = n; is = refl; small = f.sfits }
positive (negsuc n) f e = absurd (let t : true ≡ false = rw (to_z-of_z f) at e in subst (λ (b : Bool). cond b (Unit {0}) ⊥) t tt)

-- the same test turned round
pub at_least : (z : ℤ) → SFits w64 z → le_z (pos 0) (wrap z) ≡ true → lt_z (wrap z) (pos 0) ≡ false
at_least (pos n) f e = rw (to_z-of_z f) (le-ltb n 0 (omega arith))
at_least (negsuc n) f e = absurd (let t : false ≡ true = rw (to_z-of_z f) at e in subst (λ (b : Bool). cond b ⊥ (Unit {0})) t tt)

pub at_most : (z : ℤ) → SFits w64 z → le_z (pos 0) (wrap z) ≡ false → lt_z (wrap z) (pos 0) ≡ true
at_most (pos n) f e = absurd (let t = rw (to_z-of_z f) at e in omega (arith, leb-false 0 n t))
at_most (negsuc n) f e = rw (to_z-of_z f)

-- the sign before it
pub minus : (z : ℤ) → lt_z z (pos 0) ≡ true → 45 ∷ [] ≡ sign z
minus (pos n) e = absurd (omega (arith, ltb-true n 0 e))
minus (negsuc n) e = refl

pub no_minus : (z : ℤ) → lt_z z (pos 0) ≡ false → [] ≡ sign z
no_minus (pos n) e = refl
no_minus (negsuc n) e = cc

pub sign-short : (z : ℤ) → length (sign z) ≤ 1
sign-short (pos n) = omega arith
sign-short (negsuc n) = omega arith

pub sign-size : (z : ℤ) → sign z ++ shortest (nat_abs z) ≡ decimal z
unfolding decimal
sign-size (pos n) = refl
sign-size (negsuc n) = refl

-- the sign and the size, written one after the other
pub signed : {r₀ r₁ r₂ : List ℕ} {at next last : ℕ} (z : ℤ) → Writes r₀ r₁ at next (sign z) → Writes r₁ r₂ next last (shortest (nat_abs z)) → Writes r₀ r₂ at last (decimal z)
signed z v w = same_bytes (sign-size z) (both v w)

-- how many bytes they have
pub decimal-length : (z : ℤ) → length (decimal z) ≡ length (sign z) + length (shortest (nat_abs z))
decimal-length z = sym (ap length (sign-size z)) ∙ length-append (sign z) (shortest (nat_abs z))

-- an element of a lent run
pub lent : (z : ℤ) → mag z < 9223372036854775808 → (wrap z ≡ z) × (nat_abs z ≤ 9223372036854775808)
lent z h = (to_z-of_z {w = w64} {z = z} (record { sfits = h }), nat_abs-le z h)
