-- Every shape that an accepted text draws is sound: what RULES 4, 7 and 12 ask of numbers, sizes, directions, points and layer names holds of it in its final
-- place. The laws of lengths stand on it, and code that writes shapes.
-- Assumes nothing.
use mathlib.Core.Path.{◌≡◌, refl, sym, ap, ◌∙◌, subst}
use mathlib.Core.Bool.{Bool, true, false, ◌||◌}
use mathlib.Core.List.{List, [], ◌∷◌}
use mathlib.Core.Option.{none}
use Prim.Native.Nat.{ℕ, ◌≤◌, ◌<◌}
use native.Mathlib.Omega.{arith}
use borrow.Author.Tests.{ltb-false, eqb-false, eq-eqb}
use lib.Dec.{T, ltb}
use lib.IntN.{ℤ, pos, nat_abs}
use lib.ListN.{length}
use Rattle.grammar.specs.Notation.{Letter}
use Rattle.grammar.specs.Viable.{Marked}
use Rattle.definition.specs.Limits.{largest, most_points}
use Rattle.definition.specs.Words.{Placed, Point, any}
use Rattle.definition.specs.Commands.{Shape, Command, commands}
use Rattle.definition.specs.Faults.{beyond, both, zero?, nowhere, least, empty_shape, first_fault}
use Rattle.definition.specs.Drawing.{Drawn, Event}
use Rattle.definition.specs.Counts.{Counts, shapes_of}
use Rattle.definition.specs.Answer.{accepted, drawing_of, Answers}
use Rattle.laws.proofs.Lists.Range.{All, all_to, Within}
use Rattle.laws.proofs.Commands.Sizes.{Fits, Fits₂}
use Rattle.laws.proofs.FlatFile.Shapes.{Formed, a_box, a_flash, a_wire, a_polygon}
use Rattle.laws.proofs.FlatFile.Spelling.{NameChar}
use Rattle.laws.proofs.FlatFile.Said.{Good, or_first, or_second, all_both, near, spelt}
use Rattle.laws.proofs.FlatFile.Flattened.{reading, all_sayable}

abbrev pub Near : ℤ → Type 0
Near z = nat_abs z ≤ largest

abbrev pub NearPoint : Point ℤ → Type 0
NearPoint p = Near p.x × Near p.y

-- a length, width or diameter: neither negative nor zero
pub record Size (z : ℤ) : Type 0 where
  pub value : ℕ
  pub unsigned : z ≡ pos value
  pub some : 0 < value
  pub near : value ≤ largest

-- a direction of a box: not (0, 0)
pub record Direction (d : Point ℤ) : Type 0 where
  pub near : NearPoint d
  pub somewhere : nat_abs d.x ≡ 0 → nat_abs d.y ≡ 0 → ⊥

pub record Sound (d : Drawn) : Type 0 where
  pub formed : Formed d.itself  -- it has the sizes, points and directions of its kind
  pub sizes : All Size d.itself.sizes
  pub points : All NearPoint d.itself.points
  pub directions : All Direction d.itself.directions
  pub enough-points : least d.itself.kind ≤ length d.itself.points  -- 3 for a polygon, or else 1
  pub few-points : length d.itself.points ≤ most_points
  pub some_name : 0 < length d.layer_of
  pub short-name : length d.layer_of ≤ 4
  pub name_chars : All NameChar d.layer_of  -- digits and upper-case letters

-- ---- tests that fail for all

none_of : {A : Type 0} (t : A → Bool) (l : List A) → any t l ≡ false → All (λ a. t a ≡ false) l
unfolding any All
none_of t [] e = tt
none_of t (a ∷ l) e = (or_first (t a) _ e, none_of t l (or_second (t a) _ e))

pairs_of : (ps : List (Point ℤ)) → All (λ z. beyond z ≡ false) (both ps) → All NearPoint ps
unfolding All
pairs_of [] x = tt
pairs_of (p ∷ ps) x = ((near p.x x.0, near p.y x.1.0), pairs_of ps x.1.1)

-- ---- the parts

Unsigned : ℤ → Type 0
Unsigned z = (n : ℕ) × (z ≡ pos n)

unsigned_sizes : (k : Shape ℤ) → Formed k → All Unsigned k.sizes
unfolding All Unsigned
unsigned_sizes k (a_box a b c d) = ((a, refl), ((b, refl), tt))
unsigned_sizes k (a_flash a c) = ((a, refl), tt)
unsigned_sizes k (a_wire a ps) = ((a, refl), tt)
unsigned_sizes k (a_polygon ps) = tt

a_size : (z : ℤ) → Unsigned z → Fits z × (zero? z ≡ false) → Size z
unfolding Unsigned
a_size z (n, e) (f, g) =
    let h : nat_abs z ≤ largest = near z f in
    let q : ¬ (nat_abs z ≡ 0) = eqb-false (nat_abs z) 0 g in
    let v : nat_abs z ≡ n = ap nat_abs e in
    record { value = n; unsigned = e; some = omega arith; near = omega arith }

a_direction : (d : Point ℤ) → Fits₂ d → nowhere d ≡ false → Direction d
a_direction d f e = record {
  near = (near d.x f.0, near d.y f.1);
  somewhere = λ x y. subst T (sym (both_zero x y) ∙ e) tt;
}
  where
    both_zero : nat_abs d.x ≡ 0 → nat_abs d.y ≡ 0 → nowhere d ≡ true
    both_zero x y = rw (eq-eqb (nat_abs d.x) 0 x, eq-eqb (nat_abs d.y) 0 y)

sound_by : (d : Drawn) → Good d.layer_of d.itself × Within d → Sound d
sound_by d (g, w) =
    let k = d.itself in
    let full : (any zero? k.sizes || any nowhere k.directions || ltb (length k.points) (least k.kind)) ≡ false = unfold empty_shape in g.full in
    let s = spelt d g in
    record {
      formed = g.formed;
      sizes = all_both Unsigned (λ z. Fits z × (zero? z ≡ false)) Size a_size k.sizes (unsigned_sizes k g.formed)
          (all_both Fits (λ z. zero? z ≡ false) _ (λ z x y. (x, y)) k.sizes g.fit.0 (none_of zero? k.sizes (or_first (any zero? k.sizes) _ (or_first _ _ full))));
      points = pairs_of k.points (none_of beyond (both k.points) w);
      directions = all_both Fits₂ (λ p. nowhere p ≡ false) Direction a_direction k.directions g.fit.1
          (none_of nowhere k.directions (or_second (any zero? k.sizes) _ (or_first _ _ full)));
      enough-points = ltb-false (length k.points) (least k.kind) (or_second (any zero? k.sizes || any nowhere k.directions) _ full);
      few-points = ltb-false most_points (length k.points) g.few;
      some_name = s.some_name;
      short-name = s.short-name;
      name_chars = s.name_chars;
    }

-- commands of a grammatical text without a fault draw sound shapes, also where the drawing is refused in the end
pub sound_drawing : {t : List ℕ} {m : List Letter} → Marked t m → first_fault (commands 0 m) ≡ none → All Sound (shapes_of (drawing_of (commands 0 m)))
sound_drawing {t} {m} k e = all_to _ Sound sound_by (shapes_of (drawing_of (commands 0 m))) (all_sayable k e)

-- every shape that an accepted text draws is sound
pub all_sound : {t : List ℕ} {words room : ℕ} {cs : List (Placed Command)} {c : Counts} {es : List Event} → Answers t words room (accepted cs c es) → All Sound (shapes_of es)
all_sound k =
    let r = reading k in subst (λ (y : List Event). All Sound (shapes_of y)) (sym r.as_read.is_story) (sound_drawing r.marked r.as_read.no_fault)
