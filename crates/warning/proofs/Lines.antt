-- A warning's line, one write after the other, and how long it can be: a number of 64 bits has at most 20 digits.
-- Assumes nothing.
use Rattle.std.specs.Prelude.{Option, Some, None}
use mathlib.Core.Path.{◌≡◌, sym, ap, ◌∙◌}
use mathlib.Core.List.{List, [], ◌∷◌, flat_map, append-nil}
use Prim.Native.Nat.{ℕ, ◌+◌, ◌≤◌, ◌<◌}
use native.Mathlib.Omega.{arith}
use borrow.Author.Tests.{lt-ltb, le-ltb}
use Rattle.definition.specs.Words.{bytes_of}
use Rattle.definition.specs.Flat.{shortest, decimal}
use Rattle.definition.specs.Warnings.{warning_line}
use Rattle.digits.specs.Writes.{Writes}
use Rattle.digits.proofs.Digits.{digits-64}
use Rattle.digits.proofs.Writing.{both, nothing, same_bytes}
use Rattle.warning.specs.Warned.{redefined_line, dangling_line}

abbrev Laid : List ℕ → List ℕ → ℕ → ℕ → List ℕ → ℕ → Type 0
Laid old new at r bytes most = Writes old new at r bytes × (r ≤ at + most)

module _ {a b c d : List ℕ} {at i j r n : ℕ} (small : n < 18446744073709551616) where
  pub redefined-laid : (before after : ℕ) → before < after → Writes a b at i (bytes_of "Warning: symbol ") → Writes b c i j (shortest n) → Writes c d j r (bytes_of " redefined.\n")
      → Laid a d at r (redefined_line n before after) 48
  unfolding warning_line decimal bytes_of
  redefined-laid before after h x y z = (
    rw (lt-ltb before after h) (both x (both y z)),
    let e = x.ends in
        let f = y.ends in
        let g = z.ends in
        let k = digits-64 n small in
        omega (arith, e, f, g, k),
  )

  pub dangling-laid : (found : Option ℕ) → found ≡ Some n → Writes a b at i (bytes_of "Warning: dangling references after DD.\t") → Writes b c i j (shortest n) → Writes c d j r (10 ∷ [])
      → Laid a d at r (dangling_line found) 60
  unfolding warning_line decimal bytes_of flat_map
  dangling-laid found q x y z = (
    same_bytes (sym (append-nil _) ∙ ap (λ (w : Option ℕ). dangling_line w) (sym q)) (both x (both y z)),
    let e = x.ends in
        let f = y.ends in
        let g = z.ends in
        let k = digits-64 n small in
        omega (arith, e, f, g, k),
  )

pub not_redefined : (room : List ℕ) (at n before after : ℕ) → after ≤ before → Laid room room at at (redefined_line n before after) 48
not_redefined room at n before after h = (rw (le-ltb before after h) (nothing room at), omega arith)

pub none_dangling : (room : List ℕ) (at : ℕ) (found : Option ℕ) → found ≡ None → Laid room room at at (dangling_line found) 60
unfolding flat_map
none_dangling room at found q = (same_bytes (ap (λ (w : Option ℕ). dangling_line w) (sym q)) (nothing room at), omega arith)
