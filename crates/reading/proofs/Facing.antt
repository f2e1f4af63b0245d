-- A command of the account facing the definition's: its figures are the definition's marks, and what is asked of the whole command comes out the same.
-- Assumes nothing.
use mathlib.Core.Path.{◌≡◌, refl, sym, ap, ap₂, ◌∙◌, subst}
use mathlib.Core.Bool.{Bool, true, false, ◌&&◌, ◌||◌, and-false, or-false}
use mathlib.Core.List.{List, [], ◌∷◌, ◌++◌, map, flat_map, append-nil}
use Prim.Native.Nat.{ℕ, suc, ◌+◌, ◌-◌, ◌*◌, ◌/◌, ◌%◌, ◌≤◌}
use native.Mathlib.Omega.{arith}
use borrow.Author.Tests.{le-ltb, eq-eqb, ne_eqb}
use lib.Dec.{ltb, eqb}
use lib.IntN.{pos, nat_abs}
use lib.ListN.{length}
use Rattle.definition.specs.Limits.{most_points}
use Rattle.definition.specs.Words.{Placed, at, Point, any}
use Rattle.definition.specs.Commands.{Number, wire, polygon, Shape, shape_of, Turn, Command, draw}
use Rattle.definition.specs.Faults.{beyond, zero?, parts_of, shifts, bearings, least, zero_scale, has_too_many}
use Rattle.laws.proofs.Commands.Sizes.{abs_neg}
use Rattle.pieces.specs.Pieces.{capped}
use Rattle.pieces.specs.declared.Piece.{Piece}
use Rattle.pieces.specs.declared.Piece.TheVariants.{Word}
use Rattle.rules.specs.Letters.{letter_c, letter_p, letter_r, letter_t, letter_w}
use Rattle.rules.specs.Written.{Written, Figure, figures, numbers, letters, last_of, last_letter, size_at, turns_of}
use Rattle.rules.specs.Rules.{shapely, distance, vital, points_of, scaleless, few, many}
use Rattle.commands.specs.Words.{signed}
use Rattle.reading.proofs.Says.{tells, Points, no_points, a_point, Turns, no_turns, a_shift, a_mirror_x, a_mirror_y, a_rotation}
use Rattle.reading.proofs.Says.{Says, a_polygon, a_box, a_turned_box, a_flash, a_wire, a_layer, a_call, a_start, a_scaled-start, a_finish, a_deletion, a_nothing}
use Rattle.reading.proofs.Marks.{mark, path_marks, shape_marks, turn_marks, marks_of, few_points}
use Rattle.reading.proofs.Blames.{capped-zero, Seen, Absent, Sees, no_more, left_out, one_seen}

-- ---- numbers

pub abs_signed : (σ : Bool) (v : ℕ) → nat_abs (signed σ v) ≡ v
abs_signed true v = abs_neg (pos v)
abs_signed false v = refl

abbrev fig : ℕ → Bool → ℕ → ℕ → ℕ → Bool → Figure
fig p σ v w i z = record { place = p; minus = σ; size = capped v; word = w; index = i; zero = z }

seen : (l p : ℕ) (σ : Bool) (v w i : ℕ) (z f h : Bool) → distance l w i ≡ f → vital l w i z ≡ h → Seen l (fig p σ v w i z) (mark f h (at p (signed σ v)))
seen l p σ v w i z f h d e = record { place = refl; size = ap capped (sym (abs_signed σ v)); far = d; vital = e }

zero-told : (σ : Bool) (v : ℕ) → eqb (capped v) 0 ≡ zero? (signed σ v)
zero-told σ v = capped-zero v ∙ ap (λ (n : ℕ). eqb n 0) (sym (abs_signed σ v))

-- points of a command in which all numbers are distances and none from number k on may not be 0
module _ (l k : ℕ) (d : (w i : ℕ) → distance l w i ≡ true) (n : (w i : ℕ) (z : Bool) → k ≤ i → vital l w i z ≡ false) where
  path_sees : {xs : List Piece} {ps : List (Point Number)} → Points xs ps → (w i : ℕ) (z : Bool) → k ≤ i → Sees l (figures w i z xs) (path_marks ps)
  unfolding figures
  path_sees no_points w i z h = no_more
  path_sees (a_point (tells p σ v) (tells q τ u) r) w i z h =
      one_seen (seen l p σ v w i z true false (d w i) (n w i z h))
      (one_seen (seen l q τ u w (i + 1) (eqb (capped v) 0) true false (d w (i + 1)) (n w (i + 1) (eqb (capped v) 0) (omega arith)))
      (path_sees r w (i + 1 + 1) (eqb (capped u) 0) (omega arith)))

points-count : {xs : List Piece} {ps : List (Point Number)} → Points xs ps → (w i : ℕ) (z : Bool) → length (figures w i z xs) ≡ 2 * length ps
unfolding figures
points-count no_points w i z = refl
points-count (a_point (tells p σ v) (tells q τ u) r) w i z = let e = points-count r w (i + 1 + 1) (eqb (capped u) 0) in omega arith

-- transformations, which begin behind an odd count of numbers
turns_see : {xs : List Piece} {ts : List (Turn Number)} → Turns xs ts → (w i : ℕ) (z : Bool) → i % 2 ≡ 1 → Sees letter_c (figures w i z xs) (flat_map turn_marks ts)
unfolding figures flat_map shifts bearings distance vital
turns_see no_turns w i z h = no_more
turns_see (a_shift (tells p σ v) (tells q τ u) r) w i z h =
    one_seen (seen letter_c p σ v letter_t i z true false refl refl)
    (one_seen (seen letter_c q τ u letter_t (i + 1) (eqb (capped v) 0) true false refl refl) (turns_see r letter_t (i + 1 + 1) (eqb (capped u) 0) (omega arith)))
turns_see (a_mirror_x r) w i z h = turns_see r 88 i z h
turns_see (a_mirror_y r) w i z h = turns_see r 89 i z h
turns_see (a_rotation (tells p σ v) (tells q τ u) r) w i z h =
    one_seen (seen letter_c p σ v letter_r i z false false refl (ap (λ (b : Bool). b && z) (ne_eqb (i % 2) 0 (λ e. omega arith))))
    (one_seen (seen letter_c q τ u letter_r (i + 1) (eqb (capped v) 0) false (zero? (signed σ v)) refl
    (ap (λ (b : Bool). b && eqb (capped v) 0) (eq-eqb ((i + 1) % 2) 0 (omega arith)) ∙ zero-told σ v))
    (turns_see r letter_r (i + 1 + 1) (eqb (capped u) 0) (omega arith)))

turns-count : {xs : List Piece} {ts : List (Turn Number)} → Turns xs ts → turns_of (letters xs) ≡ length ts
unfolding letters turns_of
turns-count no_turns = refl
turns-count (a_shift (tells p σ v) (tells q τ u) r) = let e = turns-count r in omega arith
turns-count (a_mirror_x r) = let e = turns-count r in omega arith
turns-count (a_mirror_y r) = let e = turns-count r in omega arith
turns-count (a_rotation (tells p σ v) (tells q τ u) r) = let e = turns-count r in omega arith

-- names
pub letters_words : (l : List ℕ) → letters (map Word l) ≡ l
unfolding letters
letters_words [] = refl
letters_words (b ∷ l) = ap (λ (x : List ℕ). b ∷ x) (letters_words l)

no_figures : (l : List ℕ) (w i : ℕ) (z : Bool) → figures w i z (map Word l) ≡ []
unfolding figures
no_figures [] w i z = refl
no_figures (b ∷ l) w i z = no_figures l b i z

-- ---- commands

pub record Faces (c : Written) (d : Placed Command) : Type 0 where
  pub place : c.place ≡ d.place
  pub sees : Sees c.letter (numbers c) (marks_of d.what)
  pub scale : scaleless c.letter (last_letter c) (size_at 1 (numbers c) 1) (size_at 1 (numbers c) 2) ≡ zero_scale d.what
  pub few-points : few c.letter (length (numbers c)) ≡ few_points d.what
  pub shape : shapely c.letter ≡ any (λ k. true) (parts_of d.what).shapes
  pub too_many : many c.letter (length (numbers c)) (turns_of (letters c.items)) ≡ has_too_many d.what

drawn_marks : (k : Shape Number) → marks_of (draw k) ≡ shape_marks k
unfolding marks_of parts_of flat_map
drawn_marks k = append-nil (shape_marks k ++ []) ∙ append-nil (shape_marks k)

sees_drawn : (l : ℕ) (fs : List Figure) (k : Shape Number) → Sees l fs (shape_marks k) → Sees l fs (marks_of (draw k))
sees_drawn l fs k g = subst (Sees l fs) (sym (drawn_marks k)) g

absent_one : (p : ℕ) → Absent (mark false false (at p (pos 1)))
unfolding beyond
absent_one p = record { near = refl; not_far = refl; light = refl }

absent-zero : (p : ℕ) → Absent (mark false false (at p (pos 0)))
unfolding beyond
absent-zero p = record { near = refl; not_far = refl; light = refl }

or_same : (a b : Bool) → (a || b) ≡ (a || (b || false))
or_same a b = ap (λ (x : Bool). a || x) (sym (or-false b))

pub faces : {c : Written} {d : Placed Command} → Says c d → Faces c d
unfolding figures letters last_of size_at turns_of shapely distance vital points_of scaleless few many marks_of parts_of flat_map any few_points zero_scale has_too_many least
faces (a_polygon {p} {xs} {ps} g h) =
    let e = points-count g 0 0 false in
    let n : length (figures 0 0 false xs) / 2 ≡ length ps = omega arith in
    record {
      place = refl;
      sees = sees_drawn letter_p _ (shape_of polygon [] ps [])
          (subst (Sees letter_p (figures 0 0 false xs)) (sym (append-nil (path_marks ps))) (path_sees letter_p 0 (λ w i. refl) (λ w i z h. and-false (eqb i 0)) g 0 0 false (omega arith)));
      scale = refl;
      few-points = ap (λ (k : ℕ). ltb k 3) n ∙ sym (or-false (ltb (length ps) 3));
      shape = refl;
      too_many = ap (λ (k : ℕ). ltb most_points k) n ∙ (sym (or-false (ltb most_points (length ps))) ∙ sym (or-false (ltb most_points (length ps) || false)));
    }
faces (a_box {p} (tells i σ v) (tells j τ w) (tells k υ x) (tells m φ y)) = record {
  place = refl;
  sees =
      one_seen (seen _ i σ v 0 0 false true true refl refl)
      (one_seen (seen _ j τ w 0 1 (eqb (capped v) 0) true true refl refl)
      (one_seen (seen _ k υ x 0 2 (eqb (capped w) 0) true false refl refl)
      (one_seen (seen _ m φ y 0 3 (eqb (capped x) 0) true false refl refl) (left_out (absent_one p) (left_out (absent-zero p) no_more)))));
  scale = refl;
  few-points = refl;
  shape = refl;
  too_many = refl;
}
faces (a_turned_box {p} (tells i σ v) (tells j τ w) (tells k υ x) (tells m φ y) (tells n α a) (tells o β b)) = record {
  place = refl;
  sees =
      one_seen (seen _ i σ v 0 0 false true true refl refl)
      (one_seen (seen _ j τ w 0 1 (eqb (capped v) 0) true true refl refl)
      (one_seen (seen _ k υ x 0 2 (eqb (capped w) 0) true false refl refl)
      (one_seen (seen _ m φ y 0 3 (eqb (capped x) 0) true false refl refl)
      (one_seen (seen _ n α a 0 4 (eqb (capped y) 0) false false refl refl)
      (one_seen (seen _ o β b 0 5 (eqb (capped a) 0) false (zero? (signed α a)) refl (zero-told α a)) no_more)))));
  scale = refl;
  few-points = refl;
  shape = refl;
  too_many = refl;
}
faces (a_flash {p} (tells i σ v) (tells j τ w) (tells k υ x)) = record {
  place = refl;
  sees =
      one_seen (seen _ i σ v 0 0 false true true refl refl)
      (one_seen (seen _ j τ w 0 1 (eqb (capped v) 0) true false refl refl) (one_seen (seen _ k υ x 0 2 (eqb (capped w) 0) true false refl refl) no_more));
  scale = refl;
  few-points = refl;
  shape = refl;
  too_many = refl;
}
faces (a_wire {p} {xs = xs} {ps = ps} (tells i σ v) g h) =
    let e = points-count g 0 1 (eqb (capped v) 0) in
    let n : (suc (length (figures 0 1 (eqb (capped v) 0) xs)) - 1) / 2 ≡ length ps = omega arith in
    record {
      place = refl;
      sees = sees_drawn letter_w _ (shape_of wire (at i (signed σ v) ∷ []) ps [])
          (one_seen (seen _ i σ v 0 0 false true true refl refl)
          (subst (Sees letter_w (figures 0 1 (eqb (capped v) 0) xs)) (sym (append-nil (path_marks ps)))
          (path_sees letter_w 1 (λ w i. refl) (λ w i z h. ap (λ (b : Bool). b && true) (ne_eqb i 0 (λ e. omega arith))) g 0 1 (eqb (capped v) 0) (omega arith))));
      scale = refl;
      few-points = sym (or-false (ltb (length ps) 1) ∙ le-ltb (length ps) 1 h);
      shape = refl;
      too_many = ap (λ (k : ℕ). ltb most_points k) n ∙ (sym (or-false (ltb most_points (length ps))) ∙ sym (or-false (ltb most_points (length ps) || false)));
    }
faces (a_layer {p} {l} h k) = record {
  place = refl;
  sees = rw (no_figures l 0 0 false) no_more;
  scale = refl;
  few-points = refl;
  shape = refl;
  too_many = refl;
}
faces (a_call {p} {xs = xs} {ts = ts} (tells i σ v) g) = record {
  place = refl;
  sees = one_seen (seen _ i σ v 0 0 false false false refl refl) (turns_see g 0 1 (eqb (capped v) 0) refl);
  scale = refl;
  few-points = refl;
  shape = refl;
  too_many = ap (λ (k : ℕ). ltb 32 k) (turns-count g);
}
faces (a_start {p} (tells i σ v)) = record {
  place = refl;
  sees = one_seen (seen _ i σ v 83 0 false false false refl refl) (left_out (absent_one p) (left_out (absent_one p) no_more));
  scale = refl;
  few-points = refl;
  shape = refl;
  too_many = refl;
}
faces (a_scaled-start {p} (tells i σ v) (tells j τ w) (tells k υ x)) = record {
  place = refl;
  sees =
      one_seen (seen _ i σ v 83 0 false false false refl refl)
      (one_seen (seen _ j τ w 83 1 (eqb (capped v) 0) false false refl refl) (one_seen (seen _ k υ x 83 2 (eqb (capped w) 0) false false refl refl) no_more));
  scale = ap₂ (λ (a b : Bool). a || b) (zero-told τ w) (zero-told υ x) ∙ or_same (zero? (signed τ w)) (zero? (signed υ x));
  few-points = refl;
  shape = refl;
  too_many = refl;
}
faces a_finish = record { place = refl; sees = no_more; scale = refl; few-points = refl; shape = refl; too_many = refl }
faces (a_deletion {p} (tells i σ v)) = record {
  place = refl;
  sees = one_seen (seen _ i σ v 68 0 false false false refl refl) no_more;
  scale = refl;
  few-points = refl;
  shape = refl;
  too_many = refl;
}
faces (a_nothing {b = b} i) = record {
  place = refl;
  sees = no_more;
  scale = rw i.not_D refl;
  few-points = rw i.not_P refl;
  shape = rw (i.not_B, i.not_P, i.not_R, i.not_W) refl;
  too_many = rw (i.not_C, i.not_P, i.not_W) refl;
}
