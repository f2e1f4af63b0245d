-- How far from zero a doubled number lies.
-- Assumes nothing.
use mathlib.Core.Path.{◌≡◌, refl}
use Prim.Native.Nat.{suc, ◌*◌}
use lib.IntN.{ℤ, pos, negsuc, nat_abs, ◌*ℤ◌}
use Rattle.turns.proofs.Signed.{abs_neg}

pub double_abs : (z : ℤ) → nat_abs (pos 2 *ℤ z) ≡ 2 * nat_abs z
double_abs (pos n) = refl
double_abs (negsuc n) = abs_neg (pos (2 * suc n))
