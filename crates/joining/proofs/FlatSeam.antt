-- The flat file of two lists one after the other: the first's End falls away, and so does an L line at the seam where the lists meet on one layer.
-- Assumes nothing.
use Rattle.std.specs.Prelude.{if◌then◌else◌}
use mathlib.Core.Path.{◌≡◌, refl, sym, ap, subst}
use mathlib.Core.Bool.{Bool, true, false}
use mathlib.Core.List.{List, [], ◌∷◌, ◌++◌}
use Prim.Native.Nat.{ℕ, ◌+◌, ◌≤◌}
use native.Mathlib.Omega.{arith}
use lib.Dec.{eqb}
use lib.ListN.{length, length-append}
use Rattle.definition.specs.Words.{Placed, same, first}
use Rattle.definition.specs.Commands.{Command}
use Rattle.definition.specs.Faults.{first_fault}
use Rattle.definition.specs.Drawing.{Drawn, Event}
use Rattle.definition.specs.Counts.{Counts, shapes_of}
use Rattle.definition.specs.Flat.{line, letter_of, spaced, numbers_of_shape, said, lines, flat}
use Rattle.laws.proofs.Lists.Range.{All, all_to}
use Rattle.laws.proofs.Lists.Joined.{last_layer, lines-++}
use Rattle.laws.proofs.FlatFile.Said.{Good, all_good}
use Rattle.laws.proofs.Commands.Ordered.{two_bits}
use Rattle.joining.proofs.Parted.{Parted}

abbrev Named : Drawn → Type 0  -- its layer's name is not empty
Named d = eqb (length d.layer_of) 0 ≡ false

pub layers-named : {t : List ℕ} {words : ℕ} {cs : List (Placed Command)} {c : Counts} {es : List Event} → Parted t words cs c es → All Named (shapes_of es)
unfolding first_fault first
layers-named p =
    subst (λ (x : List Event). All Named (shapes_of x)) (sym p.is_drawing)
    (all_to (λ (d : Drawn). Good d.layer_of d.itself) Named (λ d g. g.some_name) _ (all_good (p.before ++ p.last ∷ p.blanks) p.marked.rule (ap first p.faultless)))

-- no list is said longer after a layer than alone
said_shorter : (x : List ℕ) (d : Drawn) → Named d → length (said x d) ≤ length (said [] d)
unfolding said same
said_shorter x d h = go d.layer_of h
  where
    shape-line : List ℕ
    shape-line = line (letter_of d.itself.kind) (spaced (numbers_of_shape d.itself))

    either : (b : Bool) (l : List ℕ) → length ((if b then [] else line 76 l) ++ shape-line) ≤ length (line 76 l ++ shape-line)
    either true l = omega (arith, length-append (line 76 l) shape-line)
    either false l = omega arith

    go : (l : List ℕ) → eqb (length l) 0 ≡ false → length ((if same x l then [] else line 76 l) ++ shape-line) ≤ length ((if same [] l then [] else line 76 l) ++ shape-line)
    go [] e = absurd (two_bits refl e)
    go (a ∷ l) e = either (same x (a ∷ l)) (a ∷ l)

lines_shorter : (x : List ℕ) (ds : List Drawn) → All Named ds → length (lines x ds) ≤ length (lines [] ds)
unfolding lines All
lines_shorter x [] h = omega arith
lines_shorter x (d ∷ ds) h =
    omega (arith, said_shorter x d h.0, length-append (said x d) (lines d.layer_of ds), length-append (said [] d) (lines d.layer_of ds))

pub flat_shorter : (a b : List Drawn) → All Named b → length (flat (a ++ b)) + 2 ≤ length (flat a) + length (flat b)
unfolding flat
flat_shorter a b h =
    let end : List ℕ = 69 ∷ 10 ∷ [] in
    omega (
      arith,
      lines_shorter (last_layer [] a) b h,
      ap length (lines-++ [] a b),
      length-append (lines [] a) (lines (last_layer [] a) b),
      length-append (lines [] (a ++ b)) end,
      length-append (lines [] a) end,
      length-append (lines [] b) end,
    )
