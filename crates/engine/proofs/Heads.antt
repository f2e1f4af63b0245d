-- The two words in front of a command, read; and a word that is not negative, as a layer's is: a number of 32 bits without sign.
-- Assumes nothing.
use mathlib.Core.Path.{◌≡◌, sym, ◌∙◌, subst}
use mathlib.Core.List.{List}
use Prim.Native.Nat.{ℕ, ◌+◌, ◌/◌, ◌%◌}
use lib.ListN.{get_or}
use Rattle.engine.specs.declared.Head.{Head}
use Rattle.engine.specs.Heads.{head_in}
use native.Mathlib.Omega.{arith}
use lib.Dec.{T}
use lib.IntN.{ℤ, pos, nat_abs}
use lib.Signed.{non_neg}
use mir.Syntax.{w32}
use mir.Val.{Fits, SFits, to_z, of_z}
use mir.Facts.{to_z-of_z}

pub natural_fits : (z : ℤ) (v : ℕ) → z ≡ pos v → SFits w32 z → T (non_neg (to_z w32 (of_z w32 z))) × Fits w32 (nat_abs (to_z w32 (of_z w32 z)))
natural_fits z v e h =
    subst (λ (y : ℤ). T (non_neg y) × Fits w32 (nat_abs y)) (sym (to_z-of_z h ∙ e)) (tt, record { fits = let q = subst (λ (y : ℤ). SFits w32 y) e h in omega (arith, q.sfits) })

pub head_is : (b : List ℤ) (from h p : ℕ) → h ≡ nat_abs (get_or b from (pos 0)) → p ≡ nat_abs (get_or b (from + 1) (pos 0))
    → ◌≡◌ {A = Head} (record { kind = h % 256; place = p; next = from + 2 + h / 256 }) (head_in b from)
head_is b from h p e f = λ i. record { kind = e i % 256; place = f i; next = from + 2 + e i / 256 }
