-- Words cleared, from the first on.
-- Assumes nothing.
use mathlib.Core.Path.{◌≡◌, sym, ◌∙◌}
use mathlib.Core.List.{List}
use Prim.Native.Nat.{ℕ, ◌≤◌}
use native.Mathlib.Omega.{arith}
use lib.IntN.{ℤ, pos}
use lib.ListN.{length, replicate, length-replicate, get_or-replicate}
use lib.Seq.{ext_get_or}
use Rattle.library.specs.Clearing.{Cleared}

pub cleared : (b b' : List ℤ) (i : ℕ) → Cleared b b' i → length b' ≤ i → b' ≡ replicate (length b) (pos 0)
cleared b b' i h l =
    let n = length b in
    ext_get_or (pos 0) b' (replicate n (pos 0)) (h.size ∙ sym (length-replicate n (pos 0)))
    (λ k q. h.zeros k (omega arith) ∙ sym (get_or-replicate n k (pos 0) (pos 0) (omega (arith, h.size))))
