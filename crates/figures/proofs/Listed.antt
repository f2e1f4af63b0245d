-- The window of a list of shapes holds every figure, and no smaller one does where no slanting box decides a side.
-- Assumes nothing.
use Rattle.std.specs.Prelude.{if◌then◌else◌}
use mathlib.Core.Path.{◌≡◌, refl, sym, ◌∙◌, subst}
use mathlib.Core.Bool.{Bool, true, false, not}
use mathlib.Core.Logic.{◌⊎◌, inl, inr}
use mathlib.Core.Option.{none, some}
use mathlib.Core.List.Memᴰ
use mathlib.Core.List.{List, [], ◌∷◌, map, flat_map}
use Prim.Native.Nat.{ℕ, ◌≤◌, ◌<◌}
use native.Mathlib.Nat.{le_of_lt, le_refl}
use native.Mathlib.Omega.{arith}
use lib.Dec.{T, le→leb, nleb→lt}
use lib.IntN.{ℤ, pos, negsuc, ◌*ℤ◌}
use lib.Signed.{le_z, ◌≤ℤ◌, ≤ℤ_refl}
use Rattle.grammar.specs.Notation.{Letter, Match}
use Rattle.grammar.specs.Productions.{cif_file}
use Rattle.definition.specs.Words.{Placed, Point, point}
use Rattle.definition.specs.Commands.{box, Shape, shape_of, Command, commands}
use Rattle.definition.specs.Faults.{first_fault}
use Rattle.definition.specs.Drawing.{Event}
use Rattle.definition.specs.Counts.{Counts, shapes_of}
use Rattle.definition.specs.Answer.{accepted, Answers, drawing_of}
use Rattle.definition.specs.Window.{extreme}
use Rattle.laws.proofs.Lists.Range.{All}
use Rattle.laws.proofs.Commands.Sizes.{all_left, all_right, all_by, nil-left}
use Rattle.laws.proofs.FlatFile.Said.{Good, all_good}
use Rattle.laws.proofs.FlatFile.Flattened.{reading}
use Rattle.figures.specs.Figure.{◌∈◌, ◌·◌, ◌⊕◌, norm, Figure}
use Rattle.definition.specs.Window.{Window, slanting, around, windows, hull, joined, window_of}
use Rattle.figures.specs.Inside.{Inside}
use Rattle.figures.proofs.Sums.{whole, count, ◌⊠◌, le→, →le}
use Rattle.figures.proofs.Lists.{all_at, all_of_map, Spans}
use Rattle.figures.proofs.Held.{figure_held}
use Rattle.figures.proofs.Tight.{Met, met, of_map, Offset, sideways, upright, inscribed, neg_most, Drawable, plain, some_window}

-- ---- the lowest and the highest of numbers

chain : (a b c : ℤ) → a ≤ℤ b → b ≤ℤ c → a ≤ℤ c
chain a b c h k = →le (whole a) (whole c) (omega (arith, le→ (whole a) (whole b) h, le→ (whole b) (whole c) k))

tested : (a b : ℤ) → le_z a b ≡ true → a ≤ℤ b
tested a b e = record { le = subst T (sym e) tt }

failed : (a b : ℤ) → le_z a b ≡ false → b ≤ℤ a
failed (pos a) (pos b) e = record { le = le→leb b a (le_of_lt (nleb→lt a b (subst (λ (t : Bool). T (not t)) (sym e) tt))) }
failed (pos a) (negsuc b) e = record { le = tt }
failed (negsuc a) (pos b) e = absurd (subst (λ (t : Bool). T (not t)) (sym e) tt)
failed (negsuc a) (negsuc b) e = record { le = le→leb a b (le_of_lt (nleb→lt b a (subst (λ (t : Bool). T (not t)) (sym e) tt))) }

module _ (before : ℤ → ℤ → Bool) (Before : ℤ → ℤ → Type 0) (itself : (a : ℤ) → Before a a) (goes_on : (a b c : ℤ) → Before a b → Before b c → Before a c)
    (passed : (a b : ℤ) → before a b ≡ true → Before a b) (other : (a b : ℤ) → before a b ≡ false → Before b a) where
  extreme-first : (z : ℤ) (zs : List ℤ) → Before (extreme before z zs) z × All (Before (extreme before z zs)) zs
  unfolding extreme All
  extreme-first z [] = (itself z, tt)
  extreme-first z (y ∷ zs) = go (before z y) refl (extreme-first (if before z y then z else y) zs)
    where
      go : (b : Bool) → before z y ≡ b → Before (extreme before (if b then z else y) zs) (if b then z else y) × All (Before (extreme before (if b then z else y) zs)) zs
          → Before (extreme before (if b then z else y) zs) z × (Before (extreme before (if b then z else y) zs) y × All (Before (extreme before (if b then z else y) zs)) zs)
      go true e h = (h.0, (goes_on _ _ _ h.0 (passed z y e), h.1))
      go false e h = (goes_on _ _ _ h.0 (other z y e), (h.0, h.1))

one_of : (before : ℤ → ℤ → Bool) (z : ℤ) (zs : List ℤ) → extreme before z zs ∈ (z ∷ zs)
unfolding extreme
one_of before z [] = Memᴰ.head refl
one_of before z (y ∷ zs) = go (before z y) (one_of before (if before z y then z else y) zs)
  where
    go : (b : Bool) → extreme before (if b then z else y) zs ∈ ((if b then z else y) ∷ zs) → extreme before (if b then z else y) zs ∈ (z ∷ y ∷ zs)
    go true (Memᴰ.head e) = Memᴰ.head e
    go true (Memᴰ.tail m) = Memᴰ.tail (Memᴰ.tail m)
    go false m = Memᴰ.tail m

-- ---- the hull of windows spans each, and each of its sides is one of theirs

lowest : (z : ℤ) (zs : List ℤ) → (extreme le_z z zs ≤ℤ z) × All (λ y. extreme le_z z zs ≤ℤ y) zs
lowest = extreme-first le_z (λ a b. a ≤ℤ b) ≤ℤ_refl chain tested failed

highest : (z : ℤ) (zs : List ℤ) → (z ≤ℤ extreme (λ a b. le_z b a) z zs) × All (λ y. y ≤ℤ extreme (λ a b. le_z b a) z zs) zs
highest = extreme-first (λ a b. le_z b a) (λ a b. b ≤ℤ a) ≤ℤ_refl (λ a b c h k. chain c b a k h) (λ a b. tested b a) (λ a b. failed b a)

each : (h : Window) (ws : List Window) → All (λ v. h.left ≤ℤ v.left) ws → All (λ v. h.bottom ≤ℤ v.bottom) ws → All (λ v. v.right ≤ℤ h.right) ws → All (λ v. v.top ≤ℤ h.top) ws → All (Spans h) ws
unfolding All
each h [] l b r t = tt
each h (w ∷ ws) l b r t = (record { left = l.0; bottom = b.0; right = r.0; top = t.0 }, each h ws l.1 b.1 r.1 t.1)

hull_spans : (w : Window) (ws : List Window) → All (Spans (hull w ws)) (w ∷ ws)
unfolding hull All
hull_spans w ws =
    let l = lowest w.left (map (λ v. v.left) ws) in
    let b = lowest w.bottom (map (λ v. v.bottom) ws) in
    let r = highest w.right (map (λ v. v.right) ws) in
    let t = highest w.top (map (λ v. v.top) ws) in (
      record { left = l.0; bottom = b.0; right = r.0; top = t.0 },
      each (hull w ws) ws (all_of_map _ (λ v. v.left) ws l.1) (all_of_map _ (λ v. v.bottom) ws b.1) (all_of_map _ (λ v. v.right) ws r.1) (all_of_map _ (λ v. v.top) ws t.1),
    )

-- ---- shapes

all_windows : (P : Window → Type 0) (ks : List (Shape ℤ)) → All P (flat_map windows ks) → All (λ k. All P (windows k)) ks
unfolding All flat_map
all_windows P [] h = tt
all_windows P (k ∷ ks) h = (all_left P (windows k) (flat_map windows ks) h, all_windows P ks (all_right P (windows k) (flat_map windows ks) h))

whose : {u : Window} (ks : List (Shape ℤ)) → u ∈ flat_map windows ks → (k : Shape ℤ) × (k ∈ ks) × (u ∈ windows k)
unfolding flat_map
whose [] m = elim m [ ]
whose {u} (k ∷ ks) m = go (Memᴰ.append_cases (windows k) m) (whose ks)
  where
    go : (u ∈ windows k) ⊎ (u ∈ flat_map windows ks) → (u ∈ flat_map windows ks → (j : Shape ℤ) × (j ∈ ks) × (u ∈ windows j)) → (j : Shape ℤ) × (j ∈ (k ∷ ks)) × (u ∈ windows j)
    go (inl i) f = (k, Memᴰ.head refl, i)
    go (inr i) f = let r = f i in (r.0, Memᴰ.tail r.1, r.2)

-- a shape of the list decides the side at z: one of its own windows has that side there, and so, unless it is a slanting box, has a point of its figure
pub record Decides (ks : List (Shape ℤ)) (side : Window → ℤ) (along : Point ℤ → ℤ) (z : ℤ) : Type 0 where
  pub one : Shape ℤ
  pub listed : one ∈ ks
  pub own : Window
  pub among : own ∈ windows one
  pub there : side own ≡ z
  pub meets : slanting one ≡ false → (p : Point ℤ) × (along p ≡ z) × Figure one 2 p

-- the window h holds every figure of the list, and on each of its sides lies a point of one, where no slanting box decides it
pub record Framed (ks : List (Shape ℤ)) (h : Window) : Type 0 where
  pub holds : (k : Shape ℤ) → k ∈ ks → (n : ℕ) (p : Point ℤ) → Figure k n p → Inside h n p
  pub by_left : Decides ks (λ w. w.left) (λ p. p.x) h.left
  pub by_bottom : Decides ks (λ w. w.bottom) (λ p. p.y) h.bottom
  pub by_right : Decides ks (λ w. w.right) (λ p. p.x) h.right
  pub by_top : Decides ks (λ w. w.top) (λ p. p.y) h.top

decides : (ks : List (Shape ℤ)) {ws : List Window} → All Drawable ks → flat_map windows ks ≡ ws → (side : Window → ℤ) {z : ℤ} (along : Point ℤ → ℤ) → z ∈ map side ws
    → ((k : Shape ℤ) (u : Window) → Met k u → (p : Point ℤ) × (along p ≡ side u) × Figure k 2 p) → Decides ks side along z
decides ks {ws} a e side {z} along m f =
    let u = of_map side ws m in
    let k = whose ks (subst (λ (l : List Window). u.0 ∈ l) (sym e) u.1) in
    record {
      one = k.0;
      listed = k.1;
      own = u.0;
      among = k.2;
      there = sym u.2;
      meets = λ p. let g = f k.0 u.0 (met (plain (all_at Drawable a k.1) p) k.2) in (g.0, g.1 ∙ sym u.2, g.2);
    }

pub framed : (ks : List (Shape ℤ)) → All Drawable ks → (w : Window) (ws : List Window) → flat_map windows ks ≡ w ∷ ws → Framed ks (hull w ws)
unfolding hull
framed ks a w ws e = record {
  holds = λ k m. figure_held (hull w ws) k (all_at _ (all_windows (Spans (hull w ws)) ks (subst (All (Spans (hull w ws))) (sym e) (hull_spans w ws))) m);
  by_left = decides ks a e (λ v. v.left) (λ p. p.x) (one_of le_z w.left (map (λ v. v.left) ws)) (λ k u g. g.on_left);
  by_bottom = decides ks a e (λ v. v.bottom) (λ p. p.y) (one_of le_z w.bottom (map (λ v. v.bottom) ws)) (λ k u g. g.on_bottom);
  by_right = decides ks a e (λ v. v.right) (λ p. p.x) (one_of (λ a b. le_z b a) w.right (map (λ v. v.right) ws)) (λ k u g. g.on_right);
  by_top = decides ks a e (λ v. v.top) (λ p. p.y) (one_of (λ a b. le_z b a) w.top (map (λ v. v.top) ws)) (λ k u g. g.on_top);
}

-- ---- so a window that holds every figure of a list without slanting boxes spans this one

pub Holding : List (Shape ℤ) → Window → Type 0
Holding ks v = (k : Shape ℤ) → k ∈ ks → (n : ℕ) (p : Point ℤ) → Figure k n p → Inside v n p

halved : (a b : ℤ) → (pos 2 *ℤ a) ≤ℤ (pos 2 *ℤ b) → a ≤ℤ b
halved a b h = →le (whole a) (whole b) (omega (arith, le→ (count 2 ⊠ whole a) (count 2 ⊠ whole b) h))

pub least : (ks : List (Shape ℤ)) (h : Window) → Framed ks h → All (λ k. slanting k ≡ false) ks → (v : Window) → Holding ks v → Spans v h
unfolding Holding
least ks h f ps v g =
    let l = at f.by_left in
    let b = at f.by_bottom in
    let r = at f.by_right in
    let t = at f.by_top in
    record {
      left = halved _ _ (subst (λ (z : ℤ). (pos 2 *ℤ v.left) ≤ℤ (pos 2 *ℤ z)) l.1 l.2.from_left);
      bottom = halved _ _ (subst (λ (z : ℤ). (pos 2 *ℤ v.bottom) ≤ℤ (pos 2 *ℤ z)) b.1 b.2.from_bottom);
      right = halved _ _ (subst (λ (z : ℤ). (pos 2 *ℤ z) ≤ℤ (pos 2 *ℤ v.right)) r.1 r.2.to_right);
      top = halved _ _ (subst (λ (z : ℤ). (pos 2 *ℤ z) ≤ℤ (pos 2 *ℤ v.top)) t.1 t.2.to_top);
    }
  where
    at : {side : Window → ℤ} {along : Point ℤ → ℤ} {z : ℤ} → Decides ks side along z → (p : Point ℤ) × (along p ≡ z) × Inside v 2 p
    at d = let m = d.meets (all_at (λ k. slanting k ≡ false) ps d.listed) in (m.0, m.1, g d.one d.listed 2 m.0 m.2)

-- a slanting box: every window that holds it spans the one about its centre that reaches as far as the lesser of length and width. So the printed one, which
-- reaches length plus width, is too large by at most the greater of them, in half units, on each side

pub slanting-most : {l w m : ℕ} (c d : Point ℤ) → 0 < norm d → m ≤ l → m ≤ w → (v : Window) → Holding (shape_of box (pos l ∷ pos w ∷ []) (c ∷ []) (d ∷ []) ∷ []) v
    → Spans v (around (point (pos m) (pos m)) c)
unfolding Holding around
slanting-most {l} {w} {m} c d n i j v g = record {
  left = halved _ _ (at (sideways (neg_most m))).from_left;
  bottom = halved _ _ (at (upright (neg_most m))).from_bottom;
  right = halved _ _ (at (sideways (le_refl m))).to_right;
  top = halved _ _ (at (upright (le_refl m))).to_top;
}
  where
    at : {o : Point ℤ} → Offset m m o → Inside v 2 (2 · c ⊕ o)
    at h = g _ (Memᴰ.head refl) 2 _ (inscribed i j c d n h)

-- ---- of an accepted text: its shapes, their window, and `none` exactly where there are none

abbrev pub shapes_drawn : List Letter → List (Shape ℤ)
shapes_drawn m = map (λ d. d.itself) (shapes_of (drawing_of (commands 0 m)))

pub all_drawable : (m : List Letter) → Match cif_file m → first_fault (commands 0 m) ≡ none → All Drawable (shapes_drawn m)
all_drawable m k e = all_by (λ d. Good d.layer_of d.itself) Drawable (λ d. d.itself) (λ d g. record { formed = g.formed; full = g.full }) (shapes_of (drawing_of (commands 0 m))) (all_good m k e)

-- the window of a list of such shapes frames it, and only the empty list has none
pub list_framed : (ks : List (Shape ℤ)) → All Drawable ks → {h : Window} → window_of ks ≡ some h → Framed ks h
unfolding joined
list_framed ks a {h} e = go (flat_map windows ks) refl e
  where
    go : (ws : List Window) → flat_map windows ks ≡ ws → joined ws ≡ some h → Framed ks h
    go [] f g = let z : ◌≡◌ {A = ℕ} 0 1 = cc in absurd (omega arith)
    go (w ∷ ws) f g = let i : hull w ws ≡ h = cc in subst (Framed ks) i (framed ks a w ws f)

no_windows : (ks : List (Shape ℤ)) → All Drawable ks → flat_map windows ks ≡ [] → ks ≡ []
unfolding All flat_map
no_windows [] h e = refl
no_windows (k ∷ ks) h e = absurd (some_window h.0 (nil-left (windows k) (flat_map windows ks) e))

pub list_none : (ks : List (Shape ℤ)) → All Drawable ks → window_of ks ≡ none → ks ≡ []
unfolding joined
list_none ks a e = go (flat_map windows ks) refl e
  where
    go : (ws : List Window) → flat_map windows ks ≡ ws → joined ws ≡ none → ks ≡ []
    go [] f g = no_windows ks a f
    go (w ∷ ws) f g = let z : ◌≡◌ {A = ℕ} 0 1 = cc in absurd (omega arith)

pub text-framed : (m : List Letter) → Match cif_file m → first_fault (commands 0 m) ≡ none → {h : Window} → window_of (shapes_drawn m) ≡ some h → Framed (shapes_drawn m) h
text-framed m k e f = list_framed (shapes_drawn m) (all_drawable m k e) f

-- and so of every text that a reader accepts, whatever words and room are lent: the window that its list prints holds every figure that it draws
abbrev drawn_shapes : List Event → List (Shape ℤ)
drawn_shapes es = map (λ d. d.itself) (shapes_of es)

pub answer-framed : {t : List ℕ} {words room : ℕ} {cs : List (Placed Command)} {c : Counts} {es : List Event} → Answers t words room (accepted cs c es) → {h : Window}
    → window_of (drawn_shapes es) ≡ some h → Framed (drawn_shapes es) h
answer-framed k {h} f =
    let r = reading k in
    subst (λ (es : List Event). window_of (drawn_shapes es) ≡ some h → Framed (drawn_shapes es) h) (sym r.as_read.is_story)
    (λ e. text-framed r.letters r.marked.rule r.as_read.no_fault e) f
