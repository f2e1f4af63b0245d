-- How long a flat file can be: a few bytes for each number, so that places in it, and the room that it would need, never overflow 64 bits.
-- Assumes nothing.
use Rattle.std.specs.Prelude.{if◌then◌else◌}
use mathlib.Core.Path.{◌≡◌, refl, ap}
use mathlib.Core.Bool.{Bool, true, false}
use mathlib.Core.List.{List, [], ◌∷◌, ◌++◌}
use mathlib.Core.Option.{none}
use Prim.Native.Nat.{ℕ, zero, suc, ◌+◌, ◌*◌, ◌/◌, ◌%◌, ◌≤◌, ◌<◌}
use native.Mathlib.Omega.{arith}
use lib.IntN.{ℤ, pos, negsuc, nat_abs}
use lib.ListN.{length, length-append}
use Rattle.grammar.specs.Notation.{Letter}
use Rattle.grammar.specs.Viable.{Marked}
use Rattle.definition.specs.Limits.{largest, most_points, most_shapes}
use Rattle.definition.specs.Words.{Point, same}
use Rattle.definition.specs.Commands.{Shape, commands}
use Rattle.definition.specs.Faults.{both, first_fault}
use Rattle.definition.specs.Drawing.{Drawn}
use Rattle.definition.specs.Counts.{Counts, counts, finished, ending, shapes_of}
use Rattle.definition.specs.Flat.{shortest, decimal, spaced, letter_of, numbers_of_shape, line, said, lines, flat}
use Rattle.definition.specs.Answer.{drawing_of}
use Rattle.laws.proofs.Lists.Range.{All, all-++, all_to}
use Rattle.laws.proofs.FlatFile.Decimals.{by_shortest}
use Rattle.laws.proofs.FlatFile.Shapes.{Formed, a_box, a_flash, a_wire, a_polygon}
use Rattle.laws.proofs.FlatFile.Sound.{Near, NearPoint, Size, Direction, Sound, sound_drawing}
use Rattle.laws.proofs.FlatFile.Flattened.{shapes-counted}

-- ---- numbers

abbrev pub tens : ℕ → ℕ
tens zero = 1
tens (suc k) = 10 * tens k

-- a number below 10 ^ k has at most k digits
pub shortest-length : (n k : ℕ) → 0 < k → n < tens k → length (shortest n) ≤ k
shortest-length n = by_shortest (λ (n : ℕ) (cs : List ℕ). (k : ℕ) → 0 < k → n < tens k → length cs ≤ k) (λ n l k h b. h) high n
  where
    high : (n : ℕ) (cs : List ℕ) → 10 ≤ n → ((k : ℕ) → 0 < k → n / 10 < tens k → length cs ≤ k) → (k : ℕ) → 0 < k → n < tens k → length (cs ++ ((48 + n % 10) ∷ [])) ≤ k
    high n cs g r zero h b = absurd (omega (arith, h))
    high n cs g r (suc zero) h b = absurd (omega (arith, g, b))
    high n cs g r (suc (suc k)) h b =
        let b' : n < 10 * tens (suc k) = b in
        let q : length cs ≤ suc k = r (suc k) (omega arith) (omega (arith, b')) in
        simp length-append (omega arith)

-- a number within 16,777,215 of zero has at most 8 digits, and a sign
pub decimal-length : (z : ℤ) → Near z → length (decimal z) ≤ 9
unfolding decimal
decimal-length (pos n) h = let q : length (shortest n) ≤ 8 = shortest-length n 8 (omega arith) (omega (arith, h)) in omega (arith, q)
decimal-length (negsuc n) h =
    let h' : suc n ≤ largest = h in
    let q : length (shortest (suc n)) ≤ 8 = shortest-length (suc n) 8 (omega arith) (omega (arith, h')) in
    omega (arith, q)

-- with a space each
pub spaced-length : (zs : List ℤ) → All Near zs → length (spaced zs) ≤ 10 * length zs
unfolding spaced All
spaced-length [] h = omega arith
spaced-length (z ∷ []) h = let q : length (decimal z) ≤ 9 = decimal-length z h.0 in omega (arith, q)
spaced-length (z ∷ y ∷ zs) h =
    let q : length (decimal z) ≤ 9 = decimal-length z h.0 in
    let r : length (spaced (y ∷ zs)) ≤ 10 * length (y ∷ zs) = spaced-length (y ∷ zs) h.1 in
    simp length-append (omega (arith, q, r))

-- ---- the numbers of a shape

both-near : (ps : List (Point ℤ)) → All NearPoint ps → All Near (both ps)
unfolding All
both-near [] h = tt
both-near (p ∷ ps) h = (h.0.0, (h.0.1, both-near ps h.1))

size-near : (z : ℤ) → Size z → Near z
size-near z s = let e : nat_abs z ≡ s.value = ap nat_abs s.unsigned in let h = s.near in omega (arith, e, h)

pub numbers-near : (d : Drawn) → Sound d → All Near (numbers_of_shape d.itself)
numbers-near d s =
    all-++ Near d.itself.sizes _ (all_to Size Near size-near d.itself.sizes s.sizes)
    (all-++ Near (both d.itself.points) _ (both-near d.itself.points s.points)
    (both-near d.itself.directions (all_to Direction NearPoint (λ p x. x.near) d.itself.directions s.directions)))

both-length : (ps : List (Point ℤ)) → length (both ps) ≡ 2 * length ps
both-length [] = refl
both-length (p ∷ ps) = let q : length (both ps) ≡ 2 * length ps = both-length ps in omega (arith, q)

-- a wire of 1,024 points has the most: its width and theirs
pub numbers-length : (k : Shape ℤ) → Formed k → length k.points ≤ most_points → length (numbers_of_shape k) ≤ 2049
numbers-length k (a_box a b c d) h = omega arith
numbers-length k (a_flash a c) h = omega arith
numbers-length k (a_wire a ps) h = let q = both-length ps in simp length-append (omega (arith, q, h))
numbers-length k (a_polygon ps) h = let q = both-length ps in simp length-append (omega (arith, q, h))

-- ---- lines

line-length : (c : ℕ) (b : List ℕ) → length (line c b) ≡ length b + 3
line-length c b = simp length-append (omega arith)

-- the line of a sound shape, and its L line
pub shape-length : (d : Drawn) → Sound d → length (line (letter_of d.itself.kind) (spaced (numbers_of_shape d.itself))) ≤ 10 * length (numbers_of_shape d.itself) + 3
shape-length d s =
    let zs = numbers_of_shape d.itself in
    let e = line-length (letter_of d.itself.kind) (spaced zs) in
    let q = spaced-length zs (numbers-near d s) in
    omega (arith, e, q)

pub layer-length : (d : Drawn) → Sound d → length (line 76 d.layer_of) ≤ 7
layer-length d s = let e = line-length 76 d.layer_of in let h = s.short-name in omega (arith, e, h)

pub said-length : (before : List ℕ) (d : Drawn) → Sound d → length (said before d) ≤ 10 * length (numbers_of_shape d.itself) + 10
unfolding said
said-length before d s =
    let own = shape-length d s in
    let first = go (same before d.layer_of) in
    rw (length-append (if same before d.layer_of then [] else line 76 d.layer_of)) (omega (arith, own, first))
  where
    go : (b : Bool) → length (if b then [] else line 76 d.layer_of) ≤ 7
    go true = omega arith
    go false = layer-length d s

pub said_limit : (before : List ℕ) (d : Drawn) → Sound d → length (said before d) ≤ 20500
said_limit before d s =
    let a = said-length before d s in let b = numbers-length d.itself s.formed s.few-points in omega (arith, a, b)

pub lines-length : (before : List ℕ) (ds : List Drawn) → All Sound ds → length (lines before ds) ≤ 20500 * length ds
unfolding lines All
lines-length before [] h = omega arith
lines-length before (d ∷ ds) h =
    let a = said_limit before d h.0 in
    let b : length (lines d.layer_of ds) ≤ 20500 * length ds = lines-length d.layer_of ds h.1 in
    simp length-append (omega (arith, a, b))

-- ---- the file

pub flat_length_lem : (ds : List Drawn) → All Sound ds → length (flat ds) ≤ 20500 * length ds + 2
unfolding flat
flat_length_lem ds h = let q = lines-length [] ds h in simp length-append (omega (arith, q))

-- below 2 ^ 40, which is 1,099,511,627,776
pub flat_limit : (ds : List Drawn) → All Sound ds → length ds ≤ most_shapes → length (flat ds) ≤ 21495808002
flat_limit ds h n = let q = flat_length_lem ds h in omega (arith, q, n)

-- so too where refusal 18 is still to be decided
pub finished_limit : {t : List ℕ} {m : List Letter} {c : Counts} → Marked t m → first_fault (commands 0 m) ≡ none
    → ending (counts 0 0 0) (drawing_of (commands 0 m)) ≡ finished c → length (flat (shapes_of (drawing_of (commands 0 m)))) ≤ 21495808002
finished_limit {t} {m} {c} k e f =
    let n = shapes-counted (counts 0 0 0) (drawing_of (commands 0 m)) c (omega arith) f in
    flat_limit (shapes_of (drawing_of (commands 0 m))) (sound_drawing k e) (omega (arith, n.is, n.limit))
