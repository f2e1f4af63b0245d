-- How far warnings can reach: each is of a definition or of a DD, whose pieces are four at least, and no text has more pieces than bytes.
-- Assumes nothing.
use Rattle.std.specs.Prelude.{if◌then◌else◌}
use mathlib.Core.Path.{◌≡◌, refl}
use mathlib.Core.Bool.{Bool, true, false}
use mathlib.Core.List.{List, [], ◌∷◌, ◌++◌, map}
use Prim.Native.Nat.{ℕ, suc, ◌+◌, ◌*◌, ◌≤◌}
use native.Mathlib.Omega.{arith}
use lib.ListN.{length}
use Rattle.grammar.specs.Notation.{Role, Letter, skip, head, second, turn, axis, sign, lead, later, name, stop}
use Rattle.grammar.specs.Viable.{Marked}
use lib.IntN.{pos}
use Rattle.definition.specs.Words.{Placed, at, point}
use Rattle.definition.specs.Commands.{Number, box, flash, wire, polygon, Shape, shape_of, Command, draw, call, commands}
use Rattle.definition.specs.Standing.{Standing, outside, after}
use Rattle.definition.specs.Table.{Step}
use Rattle.definition.specs.Drawing.{step_of, Deed, output, define, remove, deed_of, deeds}
use Rattle.laws.proofs.Commands.NumberPlaces.{as_long}
use Rattle.pieces.specs.Pieces.{place_after, with_piece, pieces}
use Rattle.pieces.specs.declared.Piece.{Piece}
use Rattle.pieces.specs.declared.Piece.TheVariants.{First, Second, Word, Stop}
use Rattle.pieces.specs.declared.Piece.TheVariants.{Number as Numeral}
use Rattle.rules.specs.Written.{Written, items_of, stops, written, one}
use Rattle.reading.proofs.Says.{Says, a_polygon, a_box, a_turned_box, a_flash, a_wire, a_layer, a_call, a_start, a_scaled-start, a_finish, a_deletion, a_nothing, AllSay, none_said, one_said}
use Rattle.reading.proofs.AllSay.{all_say}

-- the most bytes that the line of a deed has
abbrev cost : Deed → ℕ
cost (output s) = 0
cost (define d) = 60
cost (remove n) = 60

unfoldable pub dear : List Deed → ℕ
dear [] = 0
dear (d ∷ ds) = cost d + dear ds

dear-++ : (a b : List Deed) → dear (a ++ b) ≡ dear a + dear b
unfolding dear
dear-++ [] b = omega arith
dear-++ (d ∷ a) b = let e = dear-++ a b in omega (arith, e)

-- ---- pieces

weigh : Written → ℕ
weigh c = 1 + length c.items + one c.stopped

unfoldable weight : List Written → ℕ
weight [] = 0
weight (c ∷ cs) = weigh c + weight cs

weight_within : (xs : List Piece) → length (items_of xs) + one (stops xs) + weight (written xs) ≤ length xs
unfolding items_of stops written weight weigh
weight_within [] = omega arith
weight_within (First p b ∷ xs) = let h = weight_within xs in omega (arith, h)
weight_within (Second b ∷ xs) = let h = weight_within xs in omega (arith, h)
weight_within (Numeral p σ n ∷ xs) = let h = weight_within xs in omega (arith, h)
weight_within (Word b ∷ xs) = let h = weight_within xs in omega (arith, h)
weight_within (Stop ∷ xs) = let h = weight_within xs in omega (arith, h)

pieces-within : (n p : ℕ) (m : List Letter) → length (pieces n p m) ≤ length m
unfolding pieces
pieces-within n p [] = omega arith
pieces-within n p (l ∷ m) = go l.role l.byte _ (pieces (n + 1) (place_after l.role n) m) (pieces-within (n + 1) (place_after l.role n) m)
  where
    go : (ρ : Role) (b v : ℕ) (xs : List Piece) → length xs ≤ length m → length (with_piece ρ n p b v xs) ≤ suc (length m)
    go skip b v xs h = omega arith
    go head b v xs h = omega arith
    go second b v xs h = omega arith
    go turn b v xs h = omega arith
    go axis b v xs h = omega arith
    go sign b v xs h = omega arith
    go lead b v xs h = omega arith
    go later b v xs h = omega arith
    go name b v xs h = omega arith
    go stop b v xs h = omega arith

-- ---- commands

-- what is output costs nothing
outputs_cost : (p : ℕ) (ss : List Step) → dear (map (λ x. output (at p x)) ss) ≡ 0
unfolding dear
outputs_cost p [] = refl
outputs_cost p (s ∷ ss) = let e = outputs_cost p ss in omega (arith, e)

idle : (i : Bool) (p : ℕ) (ss : List Step) → dear (if i then [] else map (λ x. output (at p x)) ss) ≡ 0
unfolding dear
idle true p ss = refl
idle false p ss = outputs_cost p ss

drawn : (σ : Standing) (p : ℕ) (k : Shape Number) → dear (if σ.inside then [] else map (λ x. output (at p x)) (step_of σ (draw k))) ≡ 0
drawn σ p k = idle σ.inside p (step_of σ (draw k))

deed_cost : {c : Written} {d : Placed Command} → Says c d → (σ : Standing) (ds : List (Placed Command)) → dear (deed_of σ d.place d.what ds) ≤ 15 * weigh c
unfolding deed_of dear weigh
deed_cost (a_polygon {p} {ps = ps} g h) σ ds = omega (arith, drawn σ p (shape_of polygon [] ps []))
deed_cost (a_box {p} {a = a} {b} {c} {d} x y z w) σ ds =
    omega (arith, drawn σ p (shape_of box (a ∷ b ∷ []) (point c d ∷ []) (point (at p (pos 1)) (at p (pos 0)) ∷ [])))
deed_cost (a_turned_box {p} {a = a} {b} {c} {d} {e} {f} x y z w u v) σ ds = omega (arith, drawn σ p (shape_of box (a ∷ b ∷ []) (point c d ∷ []) (point e f ∷ [])))
deed_cost (a_flash {p} {a = a} {b} {c} x y z) σ ds = omega (arith, drawn σ p (shape_of flash (a ∷ []) (point b c ∷ []) []))
deed_cost (a_wire {p} {a = a} {ps = ps} x g h) σ ds = omega (arith, drawn σ p (shape_of wire (a ∷ []) ps []))
deed_cost (a_call {p} {a = a} {ts = ts} x g) σ ds = omega (arith, idle σ.inside p (step_of σ (call a ts)))
deed_cost (a_layer h n) σ ds = omega arith
deed_cost (a_start x) σ ds = omega arith
deed_cost (a_scaled-start x y z) σ ds = omega arith
deed_cost a_finish σ ds = omega arith
deed_cost (a_deletion x) σ ds = omega arith
deed_cost (a_nothing i) σ ds = omega arith

all_cost : {cs : List Written} {ds : List (Placed Command)} → AllSay cs ds → (σ : Standing) → dear (deeds σ ds) ≤ 15 * weight cs
unfolding deeds weight dear
all_cost none_said σ = omega arith
all_cost (one_said {c} {d} {cs} {ds} x xs) σ =
    let h = deed_cost x σ ds in
    let g = all_cost xs (after d.what σ) in
    let e = dear-++ (deed_of σ d.place d.what ds) (deeds (after d.what σ) ds) in
    omega (arith, h, g, e)

pub dear_within : {t : List ℕ} {m : List Letter} → Marked t m → dear (deeds (outside []) (commands 0 m)) ≤ 15 * length t
dear_within {t} {m} k =
    let h = all_cost (all_say k) (outside []) in
    let g = weight_within (pieces 0 0 m) in
    let f = pieces-within 0 0 m in
    let e = as_long k in
    omega (arith, h, g, f, e)
