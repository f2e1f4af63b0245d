-- The window: of each shape's numbers a stretch is taken about each of its points, so that the spans along the flat file are the lowest and the highest
-- of the windows of all shapes.
-- Assumes nothing.
use Rattle.std.specs.Prelude.{Option, Some, None, if◌then◌else◌}
use mathlib.Core.Path.{◌≡◌, refl, sym, ap, ap₂, ◌∙◌}
use mathlib.Core.Bool.{Bool, true, false}
use mathlib.Core.List.{List, [], ◌∷◌, ◌++◌, map, map-map, flat_map, append_assoc}
use Prim.Native.Nat.{ℕ, ◌+◌, ◌*◌, ◌%◌, ◌≤◌, ◌<◌}
use native.Mathlib.Omega.{arith}
use borrow.Author.Tests.{eq-eqb, ne_eqb}
use lib.Dec.{eqb}
use lib.IntN.{ℤ, pos, negsuc, nat_abs}
use lib.ListN.{length}
use lib.Signed.{le_z}
use Rattle.std.specs.Int.{int_min, int_max}
use Rattle.std.proofs.lemmas.Int.{ints, by_lt_z}
use Rattle.std.proofs.lemmas.List.{map-append}
use Rattle.std.proofs.lemmas.List.Sums.{fold-append}
use Rattle.std.specs.List.{fold}
use Rattle.definition.specs.Words.{Point, point}
use Rattle.definition.specs.Commands.{Shape}
use Rattle.definition.specs.Faults.{both}
use Rattle.definition.specs.Drawing.{Drawn}
use Rattle.definition.specs.Flat.{letter_of, spaced, numbers_of_shape, said, lines}
use Rattle.definition.specs.Window.{extreme, Window, box_reach, reach_of, reach, around, windows, hull, joined}
use Rattle.definition.specs.Listing.{window_line}
use Rattle.laws.proofs.Lists.Range.{All, all_to}
use Rattle.laws.proofs.FlatFile.Shapes.{Formed, a_box, a_flash, a_wire, a_polygon}
use Rattle.laws.proofs.FlatFile.Spelling.{NameChar}
use Rattle.laws.proofs.FlatFile.Sound.{Sound}
use Rattle.laws.proofs.FlatFile.Lengths.{numbers-near}
use Rattle.pen.specs.Names.{packed}
use Rattle.lines.specs.Followed.{fresh, opened, line_after, numeral, span, widened, stretched, value_of, alternate, axis_of, is_axis, lead, blank, kept, reach_by, along_by, box_reach_by, centre_of, box_taken, taken, span_after}
use Rattle.lines.specs.declared.Axis.{Axis}
use Rattle.lines.specs.declared.Axis.TheVariants.{X, Y}
use Rattle.lines.specs.declared.Numeral.{Numeral}
use Rattle.lines.specs.declared.Lead.{Lead}
use Rattle.lines.specs.declared.Span.{Span}
use Rattle.listing.specs.Account.{spanned, window_of}
use Rattle.listing.proofs.Short.{numbers-least}
use Rattle.listing.proofs.Lines.{Inner, draws, name_inner, said_is}
use Rattle.listing.proofs.Numbers.{numeral_of, all_taken, shape-taken, layer-taken}

-- ---- the sides of windows along an axis

abbrev one_more : Option Span → Span → Option Span
one_more w s = Some (widened w s)

abbrev pub widened_all : Option Span → List Span → Option Span
widened_all w ss = fold one_more w ss

abbrev pub across : Window → Span
across v = span v.left v.right

abbrev pub upward : Window → Span
upward v = span v.bottom v.top

-- an axis, which sides of a window lie along it, and which number of a point
pub record Along (axis : Axis) (f : Window → Span) (g : Point ℤ → ℤ) : Type 0 where
  pub level : (z : ℤ) → g (point z z) ≡ z
  pub sides : (w : Option Span) (r p : Point ℤ) → stretched w (g p) (g r) ≡ widened w (f (around r p))
  pub one : (w : Option Span) (p : Point ℤ) (r : ℤ)
      → (if is_axis (Some Y) axis then Some (stretched (if is_axis (Some X) axis then Some (stretched w p.x r) else w) p.y r) else if is_axis (Some X) axis then Some (stretched w p.x r) else w)
      ≡ Some (stretched w (g p) r)
  pub centre : (h : Lead) → centre_of axis h ≡ g (point (value_of h.x) (value_of h.y))
  pub sizes : (a b : ℕ) → pos (along_by axis a b) ≡ g (point (pos a) (pos b))

pub along-x : Along X across (λ p. p.x)
unfolding stretched around
along-x = record { level = λ z. refl; sides = λ w r p. refl; one = λ w p r. refl; centre = λ h. refl; sizes = λ a b. refl }

pub along-y : Along Y upward (λ p. p.y)
unfolding stretched around
along-y = record { level = λ z. refl; sides = λ w r p. refl; one = λ w p r. refl; centre = λ h. refl; sizes = λ a b. refl }

-- ---- the points among a shape's numbers

value_is : (i : ℕ) (z : ℤ) → value_of (numeral_of i z) ≡ z
value_is i (pos v) = refl
value_is i (negsuc v) = refl

-- numbers that come in pairs from index i on
record Paired (c i : ℕ) : Type 0 where
  no_box : eqb c 66 ≡ false
  first : (k : ℕ) → axis_of c (i + 2 * k) ≡ Some X
  second : (k : ℕ) → axis_of c (i + 2 * k + 1) ≡ Some Y
  steady : (h : Lead) (n : Numeral) → i ≤ n.index → reach_by c (kept h n).first ≡ reach_by c h.first  -- no number of a point changes the reach

next_pair : (c i : ℕ) → Paired c i → Paired c (i + 1 + 1)
next_pair c i h = record {
  no_box = h.no_box;
  first = λ k. ap (axis_of c) (omega arith) ∙ h.first (k + 1);
  second = λ k. ap (axis_of c) (omega arith) ∙ h.second (k + 1);
  steady = λ l n k. h.steady l n (omega (arith, k));
}

even : (i : ℕ) → i % 2 ≡ 0 → alternate i ≡ X
even i h = rw (eq-eqb (i % 2) 0 h)

odd : (i : ℕ) → i % 2 ≡ 1 → alternate i ≡ Y
odd i h = rw (ne_eqb (i % 2) 0 (λ e. omega (arith, e, h)))

-- a number after the first is not kept as the first
kept-first : (h : Lead) (n : Numeral) → 1 ≤ n.index → (kept h n).first ≡ h.first
unfolding kept
kept-first h n k = rw (ne_eqb n.index 0 (λ e. omega (arith, e, k))) (go (eqb n.index 1) (eqb n.index 2) (eqb n.index 3) (eqb n.index 4))
  where
    go : (a b c d : Bool) → (if a then record { first = h.first; second = n.value; x = h.x; y = h.y; dx = h.dx }
        else if b then record { first = h.first; second = h.second; x = n; y = h.y; dx = h.dx }
        else if c then record { first = h.first; second = h.second; x = h.x; y = n; dx = h.dx }
        else if d then record { first = h.first; second = h.second; x = h.x; y = h.y; dx = n.value }
        else h).first ≡ h.first
    go true b c d = refl
    go false true c d = refl
    go false false true d = refl
    go false false false true = refl
    go false false false false = refl

after-size : Paired 87 1
unfolding axis_of
after-size = record {
  no_box = refl;
  first = λ j. rw (ne_eqb (1 + 2 * j) 0 (λ e. omega (arith, e))) (ap (λ (v : Axis). Some v) (even (1 + 2 * j + 1) (omega arith)));
  second = λ j. rw (ne_eqb (1 + 2 * j + 1) 0 (λ e. omega (arith, e))) (ap (λ (v : Axis). Some v) (odd (1 + 2 * j + 1 + 1) (omega arith)));
  steady = λ h n k. ap (reach_by 87) (kept-first h n k);
}

from_first : Paired 80 0
unfolding axis_of
from_first = record {
  no_box = refl;
  first = λ j. ap (λ (v : Axis). Some v) (even (0 + 2 * j) (omega arith));
  second = λ j. ap (λ (v : Axis). Some v) (odd (0 + 2 * j + 1) (omega arith));
  steady = λ h n k. refl;
}

module _ (axis : Axis) (f : Window → Span) (g : Point ℤ → ℤ) (a : Along axis f g) where
  box_reached : (l m : ℕ) (d : Point ℤ) → box_reach_by axis l m (nat_abs d.x) (nat_abs d.y) ≡ g (box_reach (pos l) (pos m) d)
  unfolding box_reach
  box_reached l m d = go (eqb (nat_abs d.y) 0) (eqb (nat_abs d.x) 0)
    where
      go : (flat steep : Bool) → (if flat then pos (along_by axis l m) else if steep then pos (along_by axis m l) else pos (l + m))
          ≡ g (if flat then point (pos l) (pos m) else if steep then point (pos m) (pos l) else point (pos (l + m)) (pos (l + m)))
      go true steep = a.sizes l m
      go false true = a.sizes m l
      go false false = sym (a.level (pos (l + m)))

  path-taken : (c i : ℕ) (h : Lead) (w : Option Span) (ps : List (Point ℤ)) (r : Point ℤ) → Paired c i → reach_by c h.first ≡ g r
      → all_taken axis c i h w (both ps ++ []) ≡ widened_all w (map f (map (around r) ps))
  unfolding all_taken
  path-taken c i h w [] r q e = refl
  path-taken c i h w (p ∷ ps) r q e =
      ap (λ (v : Option Span). all_taken axis c (i + 1 + 1) further v (both ps ++ [])) pair
      ∙ path-taken c (i + 1 + 1) further (Some (widened w (f (around r p)))) ps r (next_pair c i q) (same-reach ∙ e)
    where
      half : Lead
      half = kept h (numeral_of i p.x)

      further : Lead
      further = kept half (numeral_of (i + 1) p.y)

      half_reach : reach_by c half.first ≡ reach_by c h.first
      half_reach = q.steady h (numeral_of i p.x) (omega arith)

      same-reach : reach_by c further.first ≡ reach_by c h.first
      same-reach = q.steady half (numeral_of (i + 1) p.y) (omega arith) ∙ half_reach

      x_at : axis_of c i ≡ Some X
      x_at = ap (axis_of c) (omega arith) ∙ q.first 0

      y_at : axis_of c (i + 1) ≡ Some Y
      y_at = ap (axis_of c) (omega arith) ∙ q.second 0

      pair : taken axis c half (taken axis c h w (numeral_of i p.x)) (numeral_of (i + 1) p.y) ≡ Some (widened w (f (around r p)))
      pair = unfold taken in rw (q.no_box, x_at, y_at, value_is i p.x, value_is (i + 1) p.y, half_reach, e) (a.one w p (g r) ∙ ap (λ (v : Span). Some v) (a.sides w r p))

  points-taken : (k : Shape ℤ) → Formed k → (w : Option Span) → all_taken axis (letter_of k.kind) 0 blank w (numbers_of_shape k) ≡ widened_all w (map f (windows k))
  unfolding letter_of all_taken windows reach reach_of taken box_taken kept axis_of
  points-taken k (a_box l m p d) w =
      rw (a.centre (lead l m (numeral_of 2 p.x) (numeral_of 3 p.y) (nat_abs d.x)), value_is 2 p.x, value_is 3 p.y, box_reached l m d) (ap (λ (v : Span). Some v) (a.sides w (box_reach (pos l) (pos m) d) p))
  points-taken k (a_flash l p) w =
      rw (value_is 1 p.x, value_is 2 p.y) (a.one w p (pos l) ∙ ap (λ (v : Span). Some v) (ap (stretched w (g p)) (sym (a.level (pos l))) ∙ a.sides w (point (pos l) (pos l)) p))
  points-taken k (a_wire l ps) w =
      path-taken 87 1 (kept blank (numeral_of 0 (pos l))) w ps (point (pos l) (pos l)) after-size (sym (a.level (pos l)))
  points-taken k (a_polygon ps) w = path-taken 80 0 blank w ps (point (pos 0) (pos 0)) from_first (sym (a.level (pos 0)))

  -- ---- all shapes

  abbrev windows_of : List Drawn → List Window
  windows_of ds = flat_map windows (map (λ (d : Drawn). d.itself) ds)

  said-taken : (n : ℕ) (before : List ℕ) (d : Drawn) (w : Option Span) (m : List ℕ) → Sound d
      → spanned axis (fresh n (packed before)) (numeral 0 false 0) blank w (said before d ++ m)
      ≡ spanned axis (fresh (n + 1) (packed d.layer_of)) (numeral 0 false 0) blank (widened_all w (map f (windows d.itself))) m
  said-taken n before d w m s =
      let c = letter_of d.itself.kind in
      let b = spaced (numbers_of_shape d.itself) in
      let some : 0 < length (numbers_of_shape d.itself) = omega (arith, numbers-least d s) in
      ap (spanned axis (fresh n (packed before)) (numeral 0 false 0) blank w) (said_is before d m)
      ∙ (layer-taken axis n before d.layer_of w (c ∷ (b ++ (59 ∷ 10 ∷ m))) (all_to NameChar Inner name_inner d.layer_of s.name_chars) s.short-name
      ∙ (shape-taken axis n (packed d.layer_of) c w (numbers_of_shape d.itself) m (draws d.itself.kind) some (numbers-near d s)
      ∙ ap (λ (v : Option Span). spanned axis (fresh (n + 1) (packed d.layer_of)) (numeral 0 false 0) blank v m) (points-taken d.itself s.formed w)))

  pub lines-taken : (n : ℕ) (before : List ℕ) (ds : List Drawn) (w : Option Span) → All Sound ds
      → spanned axis (fresh n (packed before)) (numeral 0 false 0) blank w (lines before ds ++ (69 ∷ 10 ∷ [])) ≡ widened_all w (map f (windows_of ds))
  unfolding lines All flat_map
  lines-taken n before [] w h = unfold spanned span_after line_after opened in refl
  lines-taken n before (d ∷ ds) w h =
      ap (spanned axis (fresh n (packed before)) (numeral 0 false 0) blank w) (append_assoc (said before d) (lines d.layer_of ds) (69 ∷ 10 ∷ []))
      ∙ (said-taken n before d w (lines d.layer_of ds ++ (69 ∷ 10 ∷ [])) h.0
      ∙ (lines-taken (n + 1) d.layer_of ds (widened_all w (map f (windows d.itself))) h.1
      ∙ both-lists (windows d.itself) (windows_of ds)))
    where
      both-lists : (vs us : List Window) → widened_all (widened_all w (map f vs)) (map f us) ≡ widened_all w (map f (vs ++ us))
      both-lists vs us = sym (ap (widened_all w) (map-append f vs us) ∙ fold-append one_more w (map f vs) (map f us))

-- ---- the lowest and the highest

lowest : (a b : ℤ) → int_min a b ≡ (if le_z a b then a else b)
lowest a b = by_lt_z b a (λ h. grind (arith, ints, h)) (λ h. grind (arith, ints, h))

highest : (a b : ℤ) → int_max a b ≡ (if le_z b a then a else b)
highest a b = by_lt_z b a (λ h. grind (arith, ints, h)) (λ h. grind (arith, ints, h))

extremes : (w : Span) (ss : List Span)
    → widened_all (Some w) ss ≡ Some (span (extreme le_z w.low (map (λ (s : Span). s.low) ss)) (extreme (λ a b. le_z b a) w.high (map (λ (s : Span). s.high) ss)))
unfolding widened extreme
extremes w [] = refl
extremes w (s ∷ ss) =
    extremes (span (int_min w.low s.low) (int_max w.high s.high)) ss
    ∙ ap₂ (λ (l h : ℤ). Some (span (extreme le_z l (map (λ (s : Span). s.low) ss)) (extreme (λ a b. le_z b a) h (map (λ (s : Span). s.high) ss)))) (lowest w.low s.low) (highest w.high s.high)

pub window_is : (vs : List Window) → window_of (record { xs = widened_all None (map across vs); ys = widened_all None (map upward vs) }) ≡ window_line (joined vs)
unfolding window_line window_of widened joined hull
window_is [] = refl
window_is (v ∷ vs) =
    rw (
      extremes (across v) (map across vs),
      extremes (upward v) (map upward vs),
      map-map (λ (s : Span). s.low) across vs,
      map-map (λ (s : Span). s.high) across vs,
      map-map (λ (s : Span). s.low) upward vs,
      map-map (λ (s : Span). s.high) upward vs,
    )
