-- From single writes to a shape of the flat file: an L line where the layer differs and the shape's line are what `said` says.
-- Assumes nothing.
use Rattle.std.specs.Prelude.{if◌then◌else◌}
use mathlib.Core.Path.{◌≡◌, ap}
use mathlib.Core.Bool.{Bool, true, false}
use mathlib.Core.List.{List, []}
use Prim.Native.Nat.{ℕ, ◌≤◌}
use native.Mathlib.Omega.{arith}
use lib.IntN.{ℤ}
use lib.ListN.{length, length-append}
use Rattle.definition.specs.Words.{same}
use Rattle.definition.specs.Drawing.{Drawn}
use Rattle.definition.specs.Flat.{spaced, letter_of, numbers_of_shape, line, said}
use Rattle.digits.specs.Writes.{Writes}
use Rattle.pen.specs.Lines.{layer_line}
use Rattle.pen.specs.Names.{name_of}
use Rattle.digits.proofs.Writing.{both, same_bytes}
use Rattle.pen.proofs.Names.{name-length}

-- what a caller hands to `put_layer_line` and `put_line` for a shape
pub record Handed (d : Drawn) (layer letter : ℕ) (numbers : List ℤ) : Type 0 where
  pub layer_is : name_of layer ≡ d.layer_of
  pub letter_is : letter ≡ letter_of d.itself.kind
  pub numbers_are : numbers ≡ numbers_of_shape d.itself

pub shape-said : {r₀ r₁ r₂ : List ℕ} {i j k : ℕ} (before : ℕ) {layer letter : ℕ} {numbers : List ℤ} {d : Drawn} → Handed d layer letter numbers
    → Writes r₀ r₁ i j (layer_line (name_of before) (name_of layer)) → Writes r₁ r₂ j k (line letter (spaced numbers)) → Writes r₀ r₂ i k (said (name_of before) d)
unfolding said
shape-said before {d = d} h v w =
    both (same_bytes (ap (layer_line (name_of before)) h.layer_is) v) (same_bytes (rw (h.letter_is, h.numbers_are)) w)

-- an L line has at most 7 bytes: so the place behind it is one for `put_line`
pub layer-line-length : (before layer : ℕ) → length (layer_line (name_of before) (name_of layer)) ≤ 7
layer-line-length before layer = go (same (name_of before) (name_of layer))
  where
    go : (b : Bool) → length (if b then [] else line 76 (name_of layer)) ≤ 7
    go true = omega arith
    go false = simp length-append (omega (arith, name-length layer))
