-- Every point of a shape's figure lies in its window (RULES 13, request 6), boxes that slant too.
-- Assumes nothing.
use Rattle.std.specs.Prelude.{if◌then◌else◌}
use mathlib.Core.Path.{◌≡◌, refl, sym, ap, ap₂, ◌∙◌, subst}
use mathlib.Core.Logic.{◌≢◌}
use mathlib.Core.Bool.{Bool, true, false, cond}
use mathlib.Core.List.{List, [], ◌∷◌, map}
use Prim.Native.Nat.{ℕ, ◌+◌, ◌≤◌, ◌<◌}
use native.Mathlib.Nat.{mul-le-mul_left}
use native.Mathlib.Omega.{arith}
use lib.IntN.{ℤ, pos, ◌+ℤ◌, ◌-ℤ◌, ◌*ℤ◌}
use lib.ListN.{get_or}
use lib.Signed.{lt_z, ◌≤ℤ◌}
use Rattle.definition.specs.Words.{Point, point}
use Rattle.definition.specs.Faults.{zero?}
use Rattle.definition.specs.Commands.{Kind, box, flash, wire, polygon, Shape}
use Rattle.laws.proofs.Lists.Range.{All, all_to}
use Rattle.figures.specs.Figure.{◌·◌, closed, edges, above, winding, Covers, disc, boxed, wired, bordered, wound, magnified, Figure}
use Rattle.definition.specs.Window.{Window, box_reach, reach_of, reach, around, windows}
use Rattle.figures.specs.Inside.{Inside}
use Rattle.figures.proofs.Sums.{Sum, whole, count, ◌⊞◌, ◌⊟◌, ◌⊠◌, val, hi, lo, →eq, lt→, →lt, →nlt, le→, →le}
use Rattle.figures.proofs.Lists.{all_at, all_of_map, all_ends, all_closed, Spans, Holds}
use Rattle.figures.proofs.Reached.{disc-reached, reached-held, near-held, box_reached}
use Rattle.figures.proofs.Wound.{unwound_high, unwound_deep, unwound_right, unwound_left}

-- ---- polygons

at_most : (a b : Sum) → (lt_z (val b) (val a) ≡ true → ⊥) → val a ≤ℤ val b
at_most a b f = go (lt_z (val b) (val a)) refl (lt→ b a _ refl)
  where
    go : (t : Bool) → lt_z (val b) (val a) ≡ t → cond t (hi b + lo a < hi a + lo b) (hi a + lo b ≤ hi b + lo a) → val a ≤ℤ val b
    go true e k = absurd (f e)
    go false e k = →le a b k

abbrev About : Window → Point ℤ → Type 0
About v q = Spans v (around (point (pos 0) (pos 0)) q)

wound-held : (v : Window) (ps : List (Point ℤ)) (p : Point ℤ) → All (About v) ps → winding p (edges ps) ≢ pos 0 → Holds v p
unfolding around
wound-held v ps p h f = record {
  from_left = at_most (whole v.left) (count 2 ⊠ whole p.x) (λ e. f (unwound_left p ps (all_to (About v) (λ q. lt_z p.x q.x ≡ true) (λ q s.
      →lt (whole p.x) (whole q.x) (omega (arith, lt→ (count 2 ⊠ whole p.x) (whole v.left) true e, le→ (whole v.left) (count 2 ⊠ whole q.x ⊟ count 0) s.left))) ps h)));
  from_bottom = at_most (whole v.bottom) (count 2 ⊠ whole p.y) (λ e. f (unwound_deep p ps (all_to (About v) (λ q. above p q ≡ true) (λ q s.
      →lt (whole p.y) (whole q.y) (omega (arith, lt→ (count 2 ⊠ whole p.y) (whole v.bottom) true e, le→ (whole v.bottom) (count 2 ⊠ whole q.y ⊟ count 0) s.bottom))) ps h)));
  to_right = at_most (count 2 ⊠ whole p.x) (whole v.right) (λ e. f (unwound_right p ps (all_to (About v) (λ q. lt_z q.x p.x ≡ true) (λ q s.
      →lt (whole q.x) (whole p.x) (omega (arith, lt→ (whole v.right) (count 2 ⊠ whole p.x) true e, le→ (count 2 ⊠ whole q.x ⊞ count 0) (whole v.right) s.right))) ps h)));
  to_top = at_most (count 2 ⊠ whole p.y) (whole v.top) (λ e. f (unwound_high p ps (all_to (About v) (λ q. above p q ≡ false) (λ q s.
      →nlt (whole p.y) (whole q.y) (omega (arith, lt→ (whole v.top) (count 2 ⊠ whole p.y) true e, le→ (count 2 ⊠ whole q.y ⊞ count 0) (whole v.top) s.top))) ps h)));
}

-- ---- whole points: a window that spans what a shape reaches about its points holds its figure

pub held : (v : Window) {k : Shape ℤ} {p : Point ℤ} → All (Spans v) (windows k) → Covers k p → Holds v p
unfolding All windows reach reach_of
held v h (disc {c = c} {p = p} w) = reached-held c p (disc-reached w) h.0
held v h (boxed {c = c} {p = p} b) = reached-held c p (box_reached b) h.0
held v h (wired {w = w} {ps = ps} e m n) =
    let r = point (pos w) (pos w) in
    near-held n (all_at _ (all_ends (λ q. Spans v (around r q)) ps (all_of_map (Spans v) (around r) ps h)) m)
held v h (bordered {ps = ps} e m n) = near-held n (all_at _ (all_ends (About v) (closed ps) (all_closed (About v) ps (all_of_map (Spans v) (around (point (pos 0) (pos 0))) ps h))) m)
held v h (wound {ps = ps} {p = p} f) = wound-held v ps p (all_of_map (Spans v) (around (point (pos 0) (pos 0))) ps h) f

-- ---- fractions: all of it n times as large

abbrev pub enlarged : ℕ → Window → Window
enlarged n w = record { left = pos n *ℤ w.left; bottom = pos n *ℤ w.bottom; right = pos n *ℤ w.right; top = pos n *ℤ w.top }

nothing_more : (n : ℕ) → pos 0 ≡ pos n *ℤ pos 0
nothing_more n = →eq (count 0) (count n ⊠ count 0) (omega arith)

first_more : (n : ℕ) (zs : List ℤ) → get_or (map (λ z. pos n *ℤ z) zs) 0 (pos 0) ≡ pos n *ℤ get_or zs 0 (pos 0)
first_more n [] = nothing_more n
first_more n (z ∷ zs) = refl

second_more : (n : ℕ) (zs : List ℤ) → get_or (map (λ z. pos n *ℤ z) zs) 1 (pos 0) ≡ pos n *ℤ get_or zs 1 (pos 0)
second_more n [] = nothing_more n
second_more n (y ∷ zs) = first_more n zs

box_more : (n : ℕ) (l w : ℤ) (d : Point ℤ) → box_reach (pos n *ℤ l) (pos n *ℤ w) d ≡ n · box_reach l w d
unfolding box_reach
box_more n l w d = go (zero? d.y) (zero? d.x)
  where
    both : pos n *ℤ l +ℤ pos n *ℤ w ≡ pos n *ℤ (l +ℤ w)
    both = →eq (count n ⊠ whole l ⊞ count n ⊠ whole w) (count n ⊠ (whole l ⊞ whole w)) (omega arith)

    go : (a b : Bool) → (if a then point (pos n *ℤ l) (pos n *ℤ w) else if b then point (pos n *ℤ w) (pos n *ℤ l) else point (pos n *ℤ l +ℤ pos n *ℤ w) (pos n *ℤ l +ℤ pos n *ℤ w))
        ≡ n · (if a then point l w else if b then point w l else point (l +ℤ w) (l +ℤ w))
    go true b = refl
    go false true = refl
    go false false = rw both

reach-more : (n : ℕ) (k : Kind) (l w : ℤ) (d : Point ℤ) → reach_of k (pos n *ℤ l) (pos n *ℤ w) d ≡ n · reach_of k l w d
unfolding reach_of
reach-more n box l w d = box_more n l w d
reach-more n flash l w d = refl
reach-more n wire l w d = refl
reach-more n polygon l w d = ap (λ z. point z z) (nothing_more n)

magnified-reach : (n : ℕ) (k : Shape ℤ) → reach (magnified n k) ≡ n · reach k
unfolding reach magnified
magnified-reach n k =
    ap₂ (λ l w. reach_of k.kind l w (get_or k.directions 0 (point (pos 1) (pos 0)))) (first_more n k.sizes) (second_more n k.sizes)
    ∙ reach-more n k.kind (get_or k.sizes 0 (pos 0)) (get_or k.sizes 1 (pos 0)) (get_or k.directions 0 (point (pos 1) (pos 0)))

low-more : (n : ℕ) (v c r : ℤ) → v ≤ℤ (pos 2 *ℤ c -ℤ r) → (pos n *ℤ v) ≤ℤ (pos 2 *ℤ (pos n *ℤ c) -ℤ pos n *ℤ r)
low-more n v c r h =
    →le (count n ⊠ whole v) (count 2 ⊠ (count n ⊠ whole c) ⊟ count n ⊠ whole r) (omega (arith, mul-le-mul_left n (le→ (whole v) (count 2 ⊠ whole c ⊟ whole r) h)))

high_more : (n : ℕ) (v c r : ℤ) → (pos 2 *ℤ c +ℤ r) ≤ℤ v → (pos 2 *ℤ (pos n *ℤ c) +ℤ pos n *ℤ r) ≤ℤ (pos n *ℤ v)
high_more n v c r h =
    →le (count 2 ⊠ (count n ⊠ whole c) ⊞ count n ⊠ whole r) (count n ⊠ whole v) (omega (arith, mul-le-mul_left n (le→ (count 2 ⊠ whole c ⊞ whole r) (whole v) h)))

spans_more : (n : ℕ) (v : Window) (r c : Point ℤ) → Spans v (around r c) → Spans (enlarged n v) (around (n · r) (n · c))
unfolding around
spans_more n v r c h = record {
  left = low-more n v.left c.x r.x h.left;
  bottom = low-more n v.bottom c.y r.y h.bottom;
  right = high_more n v.right c.x r.x h.right;
  top = high_more n v.top c.y r.y h.top;
}

all_more : (n : ℕ) (v : Window) (r : Point ℤ) (ps : List (Point ℤ)) → All (Spans v) (map (around r) ps) → All (Spans (enlarged n v)) (map (around (n · r)) (map (λ p. n · p) ps))
unfolding All
all_more n v r [] h = tt
all_more n v r (p ∷ ps) h = (spans_more n v r p h.0, all_more n v r ps h.1)

windows-more : (n : ℕ) (v : Window) (k : Shape ℤ) → All (Spans v) (windows k) → All (Spans (enlarged n v)) (windows (magnified n k))
unfolding windows magnified
windows-more n v k h =
    subst (λ (r : Point ℤ). All (Spans (enlarged n v)) (map (around r) (map (λ p. n · p) k.points))) (sym (magnified-reach n k)) (all_more n v (reach k) k.points h)

-- a window that spans those about a shape's points holds every point of its figure
pub figure_held : (v : Window) (k : Shape ℤ) → All (Spans v) (windows k) → (n : ℕ) (p : Point ℤ) → Figure k n p → Inside v n p
figure_held v k h n p f =
    let g = held (enlarged n v) (windows-more n v k h) f.covered in
    record { from_left = g.from_left; from_bottom = g.from_bottom; to_right = g.to_right; to_top = g.to_top }
