-- Request 14 (RULES 18), placing: drawing under one call's right-angle list and then another's is drawing under the composed list, over whole numbers,
-- before the range is looked at: for points, directions, shapes, lists of shapes, and all that a call draws. Crate turns has the same of the nets that code keeps.
-- Assumes nothing.
use Rattle.std.specs.Prelude.{if◌then◌else◌}
use mathlib.Core.Path.{◌≡◌, refl, sym, ap, ap₂, ◌∙◌}
use mathlib.Core.Bool.{Bool, true, false, ◌||◌}
use mathlib.Core.List.{List, [], ◌∷◌, ◌++◌, append_assoc, append-nil, map, map-map, map-append}
use Prim.Native.Nat.{ℕ, zero, suc, ◌+◌, ◌-◌}
use lib.Dec.{ltb}
use lib.IntN.{ℤ}
use lib.ListN.{length}
use Rattle.definition.specs.declared.Refusal.{Refusal}
use Rattle.definition.specs.Limits.{deepest, most_definitions}
use Rattle.definition.specs.Words.{Placed, at, Point, any, none?}
use Rattle.definition.specs.declared.Rule.TheVariants.{OffTheAxes}
use Rattle.definition.specs.Commands.{Shape, shape_of, Turn}
use Rattle.definition.specs.Faults.{beyond, both, bearings}
use Rattle.definition.specs.Turns.{heading, act, aim, in_order, moved, off_axes}
use Rattle.definition.specs.Table.{Step, shape, instance, setting, Definition, Table, find, enter}
use Rattle.definition.specs.Drawing.{Chain, Event, called, drew, entered, removed, refused, drawn_body, Passage, barred, leads, passage_to, passage_of, through, drawn_call}
use Rattle.definition.specs.Held.{words_in}
use Rattle.definition.specs.Counts.{shapes_of}
use Rattle.laws.proofs.Lists.Range.{All}
use Rattle.laws.proofs.Lists.Joined.{in_order-++}
use Rattle.laws.proofs.Story.Axes.{drawn-within}
use Rattle.laws.proofs.Story.Moments.{Act, calling, drawing, entering, removing, Moment, call_event, event_of, events, followed, step_moments, body_moments, call_moments, call-events}
use Rattle.laws.proofs.FlatFile.Reread.{plain}

-- every R of the list turns by a right angle (RULES 12, refusal 11)
abbrev pub RightAngled : List (Turn ℤ) → Type 0
RightAngled ts = off_axes ts ≡ false

-- a symbol is called with `inner` in a body that is called with `outer`: the first list acts before the second (RULES 9)
abbrev pub composed : (inner outer : List (Turn ℤ)) → List (Turn ℤ)
composed inner outer = inner ++ outer

-- ---- points, directions, shapes, lists of shapes

module _ (inner outer : List (Turn ℤ)) where
  pub points_composed : (p : Point ℤ) → in_order act (composed inner outer) p ≡ in_order act outer (in_order act inner p)
  points_composed p = in_order-++ act inner outer p

  pub directions_composed : (d : Point ℤ) → in_order aim (composed inner outer) d ≡ in_order aim outer (in_order aim inner d)
  directions_composed d = in_order-++ aim inner outer d

  pub shape_composed : (k : Shape ℤ) → moved (composed inner outer) k ≡ moved outer (moved inner k)
  unfolding moved
  shape_composed k =
      λ i. shape_of k.kind k.sizes
      (((λ j. map (λ p. points_composed p j) k.points) ∙ sym (map-map (in_order act outer) (in_order act inner) k.points)) i)
      (((λ j. map (λ d. directions_composed d j) k.directions) ∙ sym (map-map (in_order aim outer) (in_order aim inner) k.directions)) i)

  pub shapes_composed : (ks : List (Shape ℤ)) → map (moved (composed inner outer)) ks ≡ map (moved outer) (map (moved inner) ks)
  shapes_composed ks = (λ i. map (λ k. shape_composed k i) ks) ∙ sym (map-map (moved outer) (moved inner) ks)

  -- the composed list is right-angled if both are
  off_axes_composed : off_axes (composed inner outer) ≡ (off_axes inner || off_axes outer)
  unfolding off_axes any
  off_axes_composed = go (λ (t : Turn ℤ). any (λ d. none? (heading d)) (bearings t)) inner
    where
      either : (b c d : Bool) → (b || (c || d)) ≡ ((b || c) || d)
      either true c d = refl
      either false c d = refl

      go : (off : Turn ℤ → Bool) (ts : List (Turn ℤ)) → any off (ts ++ outer) ≡ (any off ts || any off outer)
      go off [] = refl
      go off (t ∷ ts) = ap (λ (x : Bool). off t || x) (go off ts) ∙ either (off t) (any off ts) (any off outer)

  same_angles : RightAngled outer → off_axes (composed inner outer) ≡ off_axes inner
  same_angles h = off_axes_composed ∙ ap (λ (x : Bool). off_axes inner || x) h ∙ alone (off_axes inner)
    where
      alone : (b : Bool) → (b || false) ≡ b
      alone true = refl
      alone false = refl

  pub right_angled_composed : RightAngled inner → RightAngled outer → RightAngled (composed inner outer)
  right_angled_composed g h = same_angles h ∙ g

  -- ---- calls

  same_way : RightAngled outer → (left : ℕ) (t : Table) (chain : Chain) (n : ℕ) → passage_of left t chain n inner ≡ passage_of left t chain n (composed inner outer)
  unfolding passage_of
  same_way h left t chain n = ap (λ (b : Bool). if b then barred OffTheAxes else passage_to (find n t) left chain n) (sym (same_angles h))

  -- a call with the list `inner` in a body that is drawn under `outer` draws what it draws by itself with the composed list: the same shapes at the same
  -- places in the same order, and the same refusals
  pub call_composed : RightAngled outer → (left : ℕ) (t : Table) (chain : Chain) (p n : ℕ)
      → drawn_call left t chain outer p n inner ≡ drawn_call left t chain [] p n (composed inner outer)
  unfolding drawn_call
  call_composed h zero t chain p n = ap (λ (o : Passage). through o p chain (λ d. [])) (same_way h 0 t chain n)
  call_composed h (suc left) t chain p n =
      let deeper : Chain = chain ++ (at p n ∷ []) in
      ap₂ {C = List Event} (λ (o : Passage) (net : List (Turn ℤ)). through o p chain (λ d. drawn_body (drawn_call left t deeper net) deeper net d.body))
      (same_way h (suc left) t chain n) (sym (append-nil (composed inner outer)))

-- ---- all that a call draws, before the range is looked at

abbrev pub Figure : Type 0  -- a layer and a shape in its final place, whether or not it lies within range
Figure = List ℕ × Shape ℤ

abbrev pub placed : List (Turn ℤ) → List Figure → List Figure
placed outer fs = map (λ f. (f.0, moved outer f.1)) fs

unfoldable pub figure_of : List (Turn ℤ) → Act → List Figure
figure_of net (drawing l k) = (l, moved net k) ∷ []
figure_of net (calling n ts) = []
figure_of net (entering d) = []
figure_of net (removing n) = []

unfoldable pub figures : List Moment → List Figure
figures [] = []
figures (m ∷ ms) = figure_of m.net m.act ++ figures ms

figures-++ : (a b : List Moment) → figures (a ++ b) ≡ figures a ++ figures b
unfolding figures
figures-++ [] b = refl
figures-++ (m ∷ a) b = ap (λ (x : List Figure). figure_of m.net m.act ++ x) (figures-++ a b) ∙ sym (append_assoc (figure_of m.net m.act) (figures a) (figures b))

module _ (outer : List (Turn ℤ)) (t : Table) where
  -- what two ways to draw calls come to: the second is the first, placed
  abbrev Placed-so : (ℕ → ℕ → List (Turn ℤ) → List Moment) → (ℕ → ℕ → List (Turn ℤ) → List Moment) → Type 0
  Placed-so f g = (p n : ℕ) (ts : List (Turn ℤ)) → figures (g p n ts) ≡ placed outer (figures (f p n ts))

  module _ (f g : ℕ → ℕ → List (Turn ℤ) → List Moment) (same : Placed-so f g) (chain : Chain) (net : List (Turn ℤ)) where
    step-placed : (p : ℕ) (s : Step) → figures (step_moments g t chain (net ++ outer) p s) ≡ placed outer (figures (step_moments f t chain net p s))
    unfolding step_moments figures figure_of
    step-placed p (shape l k) = ap (λ (x : Shape ℤ). (l, x) ∷ []) (shape_composed net outer k)
    step-placed p (instance n ts) = same p n ts
    step-placed p (setting l) = refl

    body-placed : (b : List (Placed Step)) → figures (body_moments g t chain (net ++ outer) b) ≡ placed outer (figures (body_moments f t chain net b))
    unfolding body_moments figures
    body-placed [] = refl
    body-placed (s ∷ b) =
        figures-++ (step_moments g t chain (net ++ outer) s.place s.what) (body_moments g t chain (net ++ outer) b)
        ∙ ap₂ {C = List Figure} (λ (x y : List Figure). x ++ y) (step-placed s.place s.what) (body-placed b)
        ∙ sym (map-append (λ (f : Figure). (f.0, moved outer f.1)) (figures (step_moments f t chain net s.place s.what)) (figures (body_moments f t chain net b)))
        ∙ ap (placed outer) (sym (figures-++ (step_moments f t chain net s.place s.what) (body_moments f t chain net b)))

  followed_placed : (e : Event) (f g : Definition → List Moment) → ((d : Definition) → figures (g d) ≡ placed outer (figures (f d)))
      → figures (followed e g) ≡ placed outer (figures (followed e f))
  unfolding followed figures
  followed_placed (called p chain d) f g h = h d
  followed_placed (drew d) f g h = refl
  followed_placed (entered d before) f g h = refl
  followed_placed (removed n before) f g h = refl
  followed_placed (refused r chain) f g h = refl

  -- all that a call comes to under `net` and then `outer` is what it comes to under `net`, every shape of it placed by `outer`
  pub call-placed : (left : ℕ) (chain : Chain) (net : List (Turn ℤ)) → Placed-so (call_moments left t chain net) (call_moments left t chain (net ++ outer))
  unfolding call_moments figures figure_of
  call-placed zero chain net p n ts = refl
  call-placed (suc left) chain net p n ts =
      let deeper : Chain = chain ++ (at p n ∷ []) in
      followed_placed (call_event (passage_of (deepest - length chain) t chain n ts) p chain)
      (λ d. body_moments (call_moments left t deeper (ts ++ net)) t deeper (ts ++ net) d.body)
      (λ d. body_moments (call_moments left t deeper (ts ++ (net ++ outer))) t deeper (ts ++ (net ++ outer)) d.body)
      (λ d.
      ap (λ (all : List (Turn ℤ)). figures (body_moments (call_moments left t deeper all) t deeper all d.body)) (sym (append_assoc ts net outer))
      ∙ body-placed (call_moments left t deeper (ts ++ net)) (call_moments left t deeper (ts ++ net ++ outer)) (call-placed left deeper (ts ++ net)) deeper (ts ++ net) d.body)

-- ---- where every final point lies within range, those are the shapes that are drawn

abbrev pub InRange : Figure → Type 0
InRange f = any beyond (both f.1.points) ≡ false

call-draws_none : (o : Passage) (p : ℕ) (chain : Chain) (es : List Event) → shapes_of (call_event o p chain ∷ es) ≡ shapes_of es
unfolding call_event shapes_of
call-draws_none (barred r) p chain es = refl
call-draws_none (leads d) p chain es = refl

entry_draws_none : (a b : Bool) (r q : Refusal) (chain chain' : Chain) (d : Definition) (t : Table) (es : List Event)
    → shapes_of ((if a then refused r chain else if b then refused q chain' else entered d t) ∷ es) ≡ shapes_of es
unfolding shapes_of
entry_draws_none true b r q chain chain' d t es = refl
entry_draws_none false true r q chain chain' d t es = refl
entry_draws_none false false r q chain chain' d t es = refl

pub drawn-figures : (words : ℕ) (ms : List Moment) → All InRange (figures ms) → map plain (shapes_of (events words ms)) ≡ figures ms
unfolding figures All shapes_of
drawn-figures words [] h = refl
drawn-figures words (m ∷ ms) h = go m.act h (drawn-figures words ms)
  where
    shown : List Event → List Figure
    shown es = map plain (shapes_of es)

    go : (a : Act) → All InRange (figure_of m.net a ++ figures ms) → (All InRange (figures ms) → shown (events words ms) ≡ figures ms)
        → shown (event_of words m.table m.chain m.net m.place a ∷ events words ms) ≡ figure_of m.net a ++ figures ms
    go (drawing l k) x rest =
        let y : All InRange ((l, moved m.net k) ∷ figures ms) = unfold figure_of in x in
        unfold figure_of event_of in
        (ap (λ (e : Event). shown (e ∷ events words ms)) (drawn-within m.chain m.net m.place l k y.0)
        ∙ ap (λ (fs : List Figure). (l, moved m.net k) ∷ fs) (rest y.1))
    go (calling n ts) x rest =
        unfold figure_of event_of in
        (ap (map plain) (call-draws_none (passage_of (deepest - length m.chain) m.table m.chain n ts) m.place m.chain (events words ms)) ∙ rest (unfold figure_of in x))
    go (entering d) x rest =
        unfold figure_of event_of in
        (ap (map plain) (entry_draws_none (ltb most_definitions (length (enter d m.table))) (ltb words (words_in (enter d m.table))) _ _ m.chain m.chain d m.table (events words ms))
        ∙ rest (unfold figure_of in x))
    go (removing n) x rest = unfold figure_of event_of in rest (unfold figure_of in x)

-- a call at its depth draws under `net` and then `outer` the shapes that it draws under `net`, in the same order, on the same layers, placed by `outer`
pub call-drawn : (outer : List (Turn ℤ)) (left : ℕ) (t : Table) (chain : Chain) (net : List (Turn ℤ)) (p n : ℕ) (ts : List (Turn ℤ)) → left + length chain ≡ deepest
    → All InRange (figures (call_moments left t chain net p n ts)) → All InRange (figures (call_moments left t chain (net ++ outer) p n ts))
    → map plain (shapes_of (drawn_call left t chain (net ++ outer) p n ts)) ≡ placed outer (map plain (shapes_of (drawn_call left t chain net p n ts)))
call-drawn outer left t chain net p n ts h near far =
    ap (λ (es : List Event). map plain (shapes_of es)) (call-events 0 left t chain (net ++ outer) p n ts h)
    ∙ drawn-figures 0 (call_moments left t chain (net ++ outer) p n ts) far
    ∙ call-placed outer t left chain net p n ts
    ∙ ap (placed outer) (sym (drawn-figures 0 (call_moments left t chain net p n ts) near))
    ∙ ap (λ (es : List Event). placed outer (map plain (shapes_of es))) (sym (call-events 0 left t chain net p n ts h))
