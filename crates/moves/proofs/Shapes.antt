-- A shape in its final place: what is laid for it behind the first two numbers are its numbers, of which its line is made, and it is the definition's
-- moved shape under every list of transformations that the net carries.
-- Assumes nothing.
use mathlib.Core.Path.{◌≡◌, sym, ap, ◌∙◌}
use mathlib.Core.List.{List, [], ◌∷◌, ◌++◌, map}
use Prim.Native.Nat.{ℕ, ◌+◌, ◌-◌, ◌≤◌}
use native.Mathlib.Omega.{arith}
use lib.IntN.{ℤ}
use lib.ListN.{length, take, drop, length-append, length-take}
use lib.Seq.{sets, sets-eq, take-append_seam}
use Rattle.definition.specs.Commands.{Shape, Turn}
use Rattle.definition.specs.Faults.{both}
use Rattle.definition.specs.Flat.{numbers_of_shape}
use Rattle.definition.specs.Turns.{moved}
use Rattle.turns.specs.Nets.{apply, turned, Carries}
use Rattle.turns.specs.declared.Net.{Net}
use Rattle.turns.specs.declared.Beyond.{Beyond}
use Rattle.turns.proofs.Nets.{moved_by}
use Rattle.moves.specs.Moves.{most_values, ShapedAt, placed, placed_numbers, MovesShape}
use Rattle.moves.proofs.Moves.{map_both}

pub placed-moved : (ts : List (Turn ℤ)) (net : Net) → Carries ts net → (k : Shape ℤ) → placed net k ≡ moved ts k
placed-moved ts net c k = sym (moved_by ts net k c)

placed-length : (net : Net) (k : Shape ℤ) → length (placed_numbers net k) ≡ length (numbers_of_shape k)
placed-length net k =
    let P = both (map (apply net) k.points) in
    let D = both (map (turned net) k.directions) in
    let e₁ = length-append k.sizes (P ++ D) in
    let e₂ = length-append P D in
    let e₃ = length-append k.sizes (both k.points ++ both k.directions) in
    let e₄ = length-append (both k.points) (both k.directions) in
    let e₅ = map_both (apply net) k.points in
    let e₆ = map_both (turned net) k.directions in
    omega (arith, e₁, e₂, e₃, e₄, e₅, e₆)

module _ {words : List ℤ} {letter end : ℕ} (h : ShapedAt words letter end) where
  -- a part of the numbers as long as a shape's words is short
  pub part-few : (l : List ℤ) → length (take (end - 2) (drop 2 l)) ≤ most_values
  part-few l = let e = length-take (end - 2) (drop 2 l) in omega (arith, h.ends, h.few, e)

  module _ (net : Net) {numbers : List ℤ} {far : Beyond} {numbers' : List ℤ} (m : MovesShape net h.shape numbers far numbers') where
    -- the numbers that are written
    pub part_placed : end ≤ length numbers → take (end - 2) (drop 2 numbers') ≡ placed_numbers net h.shape
    part_placed l =
        let ns = placed_numbers net h.shape in
        let long : length ns ≡ length h.values = placed-length net h.shape ∙ ap length (sym h.shaped.values_are) in
        behind numbers ns numbers' m.laid (end - 2) (omega (arith, h.ends, long)) (omega (arith, h.ends, long))
      where
        behind : (l ns l' : List ℤ) → l' ≡ sets l 2 ns → (j : ℕ) → j ≡ length ns → 2 + length ns ≤ length l → take j (drop 2 l') ≡ ns
        behind [] ns l' q j n b = absurd (omega (arith, b))
        behind (x ∷ []) ns l' q j n b = absurd (omega (arith, b))
        behind (x ∷ y ∷ l) ns l' q j n b =
            ap (λ (z : List ℤ). take j (drop 2 z)) (q ∙ sets-eq ns (x ∷ y ∷ l) 2 (omega (arith, b)))
            ∙ (ap (λ (i : ℕ). take i (ns ++ drop (2 + length ns) (x ∷ y ∷ l))) n ∙ take-append_seam ns (drop (2 + length ns) (x ∷ y ∷ l)))

-- what a shape's words and the net are settles the numbers and which of them are beyond the range
pub one_move : {net : Net} {k : Shape ℤ} {numbers : List ℤ} {far far' : Beyond} {n n' : List ℤ} → MovesShape net k numbers far n → MovesShape net k numbers far' n'
    → (far ≡ far') × (n ≡ n')
one_move v w =
    let x = v.test.xs ∙ sym w.test.xs in
    let y = v.test.ys ∙ sym w.test.ys in
    (λ i. record { x = x i; y = y i }, v.laid ∙ sym w.laid)
