-- A shape of the flat file is read back.
-- Assumes nothing.
use mathlib.Core.Path.{◌≡◌, refl, sym, ap, ap₂, ◌∙◌}
use mathlib.Core.Bool.{false}
use mathlib.Core.List.{List, [], ◌∷◌, ◌++◌, map}
use Prim.Native.Nat.{ℕ, suc, ◌+◌}
use native.Mathlib.Omega.{arith}
use lib.IntN.{ℤ, pos, negsuc, neg_ℤ}
use lib.ListN.{get_or, drop, get_or-map}
use Rattle.grammar.specs.Notation.{Letter, has, head, stop}
use Rattle.grammar.specs.Tables.{letter}
use Rattle.definition.specs.Words.{at, Point, point}
use Rattle.definition.specs.Commands.{box, flash, wire, polygon, Shape, Number, draw, numbers, nth, paired, command_at}
use Rattle.definition.specs.Standing.{outside, given, scaled, scaled_point, scaled_shape}
use Rattle.definition.proofs.Nearest.{nearest_equal}
use Rattle.definition.specs.Faults.{both}
use Rattle.definition.specs.Flat.{letter_of, numbers_of_shape}
use Rattle.laws.proofs.FlatFile.Again.{values, spaced_letters, spaced-read}

-- a shape as a command makes it
pub data Formed : Shape ℤ → Type 0 where
  a_box : (a b : ℕ) (c d : Point ℤ) → Formed (record { kind = box; sizes = pos a ∷ pos b ∷ []; points = c ∷ []; directions = d ∷ [] })
  a_flash : (a : ℕ) (c : Point ℤ) → Formed (record { kind = flash; sizes = pos a ∷ []; points = c ∷ []; directions = [] })
  a_wire : (a : ℕ) (ps : List (Point ℤ)) → Formed (record { kind = wire; sizes = pos a ∷ []; points = ps; directions = [] })
  a_polygon : (ps : List (Point ℤ)) → Formed (record { kind = polygon; sizes = []; points = ps; directions = [] })

-- the values of a shape
abbrev pub valued : Shape Number → Shape ℤ
valued k = record { kind = k.kind; sizes = values k.sizes; points = map given k.points; directions = map given k.directions }

unfoldable pub pairs : List ℤ → List (Point ℤ)
pairs [] = []
pairs (x ∷ []) = []
pairs (x ∷ y ∷ zs) = point x y ∷ pairs zs

paired-values : (ns : List Number) → map given (paired ns) ≡ pairs (values ns)
unfolding paired pairs
paired-values [] = refl
paired-values (x ∷ []) = refl
paired-values (x ∷ y ∷ ns) = ap (λ (ps : List (Point ℤ)). point x.what y.what ∷ ps) (paired-values ns)

pairs-both : (ps : List (Point ℤ)) → pairs (both ps) ≡ ps
unfolding pairs
pairs-both [] = refl
pairs-both (p ∷ ps) = ap (λ (qs : List (Point ℤ)). p ∷ qs) (pairs-both ps)

both_end : (ps : List (Point ℤ)) → both ps ++ [] ≡ both ps
both_end [] = refl
both_end (p ∷ ps) = ap (λ (zs : List ℤ). p.x ∷ p.y ∷ zs) (both_end ps)

nth_value : (n : ℕ) (ns : List Number) (z : ℤ) (i : ℕ) → (nth n ns z i).what ≡ get_or (values ns) i z
nth_value n ns z i = sym (get_or-map (λ (d : Number). d.what) ns i (at n z))

drop-values : (ns : List Number) → values (drop 1 ns) ≡ drop 1 (values ns)
drop-values [] = refl
drop-values (x ∷ ns) = refl

pub shape-read : (n : ℕ) (k : Shape ℤ) → Formed k → (l : Letter) (m : List Letter) → l.role ≡ stop
    → (w : Shape Number) × (command_at n (letter (letter_of k.kind) head) (spaced_letters (numbers_of_shape k) ++ l ∷ m) ≡ draw w) × (valued w ≡ k)
unfolding letter_of
shape-read n k (a_box a b c d) l m e =
    let ns = numbers (n + 1) false (spaced_letters (numbers_of_shape k) ++ l ∷ m) in
    let v : values ns ≡ pos a ∷ pos b ∷ c.x ∷ c.y ∷ d.x ∷ d.y ∷ [] = spaced-read (n + 1) (numbers_of_shape k) l m e in
    let nr : ℕ → Number = nth n ns (pos 0) in
    let at_i : (z : ℤ) (i : ℕ) → (nth n ns z i).what ≡ get_or (pos a ∷ pos b ∷ c.x ∷ c.y ∷ d.x ∷ d.y ∷ []) i z = λ z i. nth_value n ns z i ∙ ap (λ (zs : List ℤ). get_or zs i z) v in (
      record { kind = box; sizes = nr 0 ∷ nr 1 ∷ []; points = point (nr 2) (nr 3) ∷ []; directions = point (nth n ns (pos 1) 4) (nr 5) ∷ [] },
      unfold command_at has in refl,
      λ i. record {
        kind = box;
        sizes = at_i (pos 0) 0 i ∷ at_i (pos 0) 1 i ∷ [];
        points = point (at_i (pos 0) 2 i) (at_i (pos 0) 3 i) ∷ [];
        directions = point (at_i (pos 1) 4 i) (at_i (pos 0) 5 i) ∷ [];
      },
    )
shape-read n k (a_flash a c) l m e =
    let ns = numbers (n + 1) false (spaced_letters (numbers_of_shape k) ++ l ∷ m) in
    let v : values ns ≡ pos a ∷ c.x ∷ c.y ∷ [] = spaced-read (n + 1) (numbers_of_shape k) l m e in
    let nr : ℕ → Number = nth n ns (pos 0) in
    let at_i : (i : ℕ) → (nr i).what ≡ get_or (pos a ∷ c.x ∷ c.y ∷ []) i (pos 0) = λ i. nth_value n ns (pos 0) i ∙ ap (λ (zs : List ℤ). get_or zs i (pos 0)) v in (
      record { kind = flash; sizes = nr 0 ∷ []; points = point (nr 1) (nr 2) ∷ []; directions = [] },
      unfold command_at has in refl,
      λ i. record { kind = flash; sizes = at_i 0 i ∷ []; points = point (at_i 1 i) (at_i 2 i) ∷ []; directions = [] },
    )
shape-read n k (a_wire a ps) l m e =
    let ns = numbers (n + 1) false (spaced_letters (numbers_of_shape k) ++ l ∷ m) in
    let v : values ns ≡ pos a ∷ both ps = spaced-read (n + 1) (numbers_of_shape k) l m e ∙ ap (λ (zs : List ℤ). pos a ∷ zs) (both_end ps) in
    let nr : ℕ → Number = nth n ns (pos 0) in
    let first : (nr 0).what ≡ pos a = nth_value n ns (pos 0) 0 ∙ ap (λ (zs : List ℤ). get_or zs 0 (pos 0)) v in
    let path : map given (paired (drop 1 ns)) ≡ ps =
    paired-values (drop 1 ns) ∙ ap (λ (zs : List ℤ). pairs zs) (drop-values ns ∙ ap (λ (zs : List ℤ). drop 1 zs) v) ∙ pairs-both ps in (
      record { kind = wire; sizes = nr 0 ∷ []; points = paired (drop 1 ns); directions = [] },
      unfold command_at has in refl,
      λ i. record { kind = wire; sizes = first i ∷ []; points = path i; directions = [] },
    )
shape-read n k (a_polygon ps) l m e =
    let ns = numbers (n + 1) false (spaced_letters (numbers_of_shape k) ++ l ∷ m) in
    let v : values ns ≡ both ps = spaced-read (n + 1) (numbers_of_shape k) l m e ∙ both_end ps in
    let path : map given (paired ns) ≡ ps = paired-values ns ∙ ap (λ (zs : List ℤ). pairs zs) v ∙ pairs-both ps in (
      record { kind = polygon; sizes = []; points = paired ns; directions = [] },
      unfold command_at has in refl,
      λ i. record { kind = polygon; sizes = []; points = path i; directions = [] },
    )

-- outside definitions the scale is 1
pub scaled-outside : (name : List ℕ) (z : ℤ) → scaled (outside name) z ≡ z
unfolding scaled
scaled-outside name (pos d) = ap (λ (k : ℕ). pos k) (nearest_equal d 1 (omega arith))
scaled-outside name (negsuc d) = ap (λ (k : ℕ). neg_ℤ (pos k)) (nearest_equal (suc d) 1 (omega arith))

pub read-outside : (name : List ℕ) (w : Shape Number) → scaled_shape (outside name) w ≡ valued w
unfolding scaled_shape
read-outside name w = λ i. record { kind = w.kind; sizes = sizes_is w.sizes i; points = points_is w.points i; directions = map given w.directions }
  where
    sizes_is : (ns : List Number) → map (λ (d : Number). scaled (outside name) d.what) ns ≡ values ns
    sizes_is [] = refl
    sizes_is (d ∷ ns) = ap₂ {C = List ℤ} (λ (z : ℤ) (zs : List ℤ). z ∷ zs) (scaled-outside name d.what) (sizes_is ns)

    points_is : (ps : List (Point Number)) → map (scaled_point (outside name)) ps ≡ map given ps
    points_is [] = refl
    points_is (p ∷ ps) =
        ap₂ {C = List (Point ℤ)} (λ (q : Point ℤ) (qs : List (Point ℤ)). q ∷ qs)
        (λ i. point (scaled-outside name p.x.what i) (scaled-outside name p.y.what i))
        (points_is ps)
