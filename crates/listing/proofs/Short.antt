-- How long a listing can be: a shape's line has at least 8 bytes in the flat file, and at most 19 more in the listing, so it is below four times as long.
-- Assumes nothing.
use mathlib.Core.List.{List, [], ◌∷◌}
use Prim.Native.Nat.{ℕ, ◌+◌, ◌*◌, ◌≤◌, ◌<◌}
use native.Mathlib.Omega.{arith}
use lib.IntN.{ℤ, pos, negsuc}
use lib.ListN.{length, length-append}
use Rattle.definition.specs.Words.{bytes_of}
use Rattle.definition.specs.Commands.{Shape}
use Rattle.definition.specs.Faults.{least}
use Rattle.definition.specs.Drawing.{Drawn}
use Rattle.definition.specs.Flat.{shortest, decimal, spaced, letter_of, numbers_of_shape, said, lines}
use Rattle.definition.specs.Listing.{fields, shape_lines}
use Rattle.laws.proofs.Lists.Range.{All}
use Rattle.laws.proofs.FlatFile.Decimals.{shortest_is}
use Rattle.laws.proofs.FlatFile.Shapes.{Formed, a_box, a_flash, a_wire, a_polygon}
use Rattle.laws.proofs.FlatFile.Sound.{Sound}
use Rattle.laws.proofs.FlatFile.Lengths.{shortest-length}

-- ---- a line of the flat file has numbers

some_bytes : (z : ℤ) → 0 < length (decimal z)
unfolding decimal
some_bytes (pos n) = (shortest_is n).says.some
some_bytes (negsuc n) = omega arith

spaced-least : (z : ℤ) (zs : List ℤ) → 2 * length zs + 1 ≤ length (spaced (z ∷ zs))
unfolding spaced
spaced-least z [] = some_bytes z
spaced-least z (y ∷ zs) = let q = spaced-least y zs in let p = some_bytes z in simp length-append (omega (arith, p, q))

three_numbers : (zs : List ℤ) → 3 ≤ length zs → 5 ≤ length (spaced zs)
three_numbers [] h = absurd (omega (arith, h))
three_numbers (z ∷ zs) h = let q = spaced-least z zs in omega (arith, h, q)

shape-least : (k : Shape ℤ) → Formed k → least k.kind ≤ length k.points → 3 ≤ length (numbers_of_shape k)
unfolding least
shape-least k (a_box l m p q) h = omega arith
shape-least k (a_flash l p) h = omega arith
shape-least k (a_wire l []) h = absurd (omega (arith, h))
shape-least k (a_wire l (p ∷ ps)) h = omega arith
shape-least k (a_polygon []) h = absurd (omega (arith, h))
shape-least k (a_polygon (p ∷ [])) h = absurd (omega (arith, h))
shape-least k (a_polygon (p ∷ q ∷ ps)) h = omega arith

pub numbers-least : (d : Drawn) → Sound d → 3 ≤ length (numbers_of_shape d.itself)
numbers-least d s = shape-least d.itself s.formed s.enough-points

said-least : (before : List ℕ) (d : Drawn) → length (spaced (numbers_of_shape d.itself)) + 3 ≤ length (said before d)
unfolding said
said-least before d = simp length-append (omega arith)

-- ---- a line of the listing

line-length : (n : ℕ) (d : Drawn) → Sound d → n < 10000000
    → length (fields (decimal (pos n) ∷ d.layer_of ∷ (letter_of d.itself.kind ∷ []) ∷ spaced (numbers_of_shape d.itself) ∷ [])) ≤ length (spaced (numbers_of_shape d.itself)) + 17
unfolding fields bytes_of decimal
line-length n d s h =
    let q : length (shortest n) ≤ 7 = shortest-length n 7 (omega arith) (omega (arith, h)) in let l = s.short-name in simp length-append (omega (arith, q, l))

pub lines-short : (n : ℕ) (before : List ℕ) (ds : List Drawn) → All Sound ds → n + length ds ≤ 10000000 → length (shape_lines n ds) ≤ 4 * length (lines before ds)
unfolding shape_lines lines All bytes_of
lines-short n before [] h k = omega arith
lines-short n before (d ∷ ds) h k =
    let own = line-length n d h.0 (omega (arith, k)) in
    let flat-own = said-least before d in
    let five = three_numbers (numbers_of_shape d.itself) (numbers-least d h.0) in
    let rest = lines-short (n + 1) d.layer_of ds h.1 (omega (arith, k)) in
    simp length-append (omega (arith, own, flat-own, five, rest))
