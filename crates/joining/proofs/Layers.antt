-- A text whose commands break no rule draws no shape before an L command of its own: so a layer that still stands when it begins, from another text before it, does
-- not matter to it. Its deeds, its faults and its rounded distances are the same.
-- Assumes nothing.
use Rattle.std.specs.Prelude.{if◌then◌else◌}
use mathlib.Core.Path.{◌≡◌, refl, sym, ap, ap₂, ◌∙◌}
use mathlib.Core.Bool.{Bool, true, false, not, ◌||◌}
use mathlib.Core.List.{List, [], ◌∷◌, ◌++◌, map, nil≢cons}
use mathlib.Core.Logic.{◌⊎◌, inl, inr}
use Prim.Native.Nat.{ℕ, ◌+◌, ◌*◌, ◌%◌}
use lib.Dec.{eqb}
use lib.IntN.{ℤ, pos, negsuc, neg_ℤ, nat_abs}
use lib.ListN.{length}
use Rattle.definition.specs.declared.Refusal.{Refusal}
use Rattle.definition.specs.Words.{Placed, at, point, any, those}
use Rattle.definition.specs.declared.Rule.TheVariants.{NumberTooLarge, ZeroFactor, ScaledTooLarge, DegenerateCommand, NoLayer, TooManyParts}
use Rattle.definition.specs.Commands.{Number, Shape, shape_of, Turn, translate, mirror_x, mirror_y, rotate, Command, draw, layer, call, start, finish, delete, nothing}
use Rattle.definition.specs.Standing.{Standing, outside, after, nearest, scaled, whole, given, scaled_shape, scaled_turn}
use Rattle.definition.specs.Faults.{parts_of, bearings, distances, numbers_of, zero_scale, nowhere, empty_shape, degenerate, layerless, has_too_many, at_numbers, at_command, beyond, faults, all_faults}
use Rattle.definition.specs.Rounded.{ragged, rounded_from}
use Rattle.definition.specs.Table.{Step, shape, instance}
use Rattle.definition.specs.Drawing.{step_of, retained, Deed, output, define, deed_of, deeds}
use Rattle.laws.proofs.Commands.Ordered.{two_bits}
use Rattle.laws.proofs.Commands.Sizes.{nil-left, nil-right}

-- a layer is not set, or it is this one
abbrev OrNone : List ℕ → List ℕ → Type 0
OrNone l m = (l ≡ []) ⊎ (l ≡ m)

-- what stands, and the same with a layer where none is set
pub record Covers (s t : Standing) : Type 0 where
  pub same-inside : s.inside ≡ t.inside
  pub same_a : s.a ≡ t.a
  pub same_b : s.b ≡ t.b
  pub set : OrNone s.layer_set t.layer_set
  pub around : OrNone s.layer_outside t.layer_outside

pub layer-stands : (l : List ℕ) → Covers (outside []) (outside l)
layer-stands l = record { same-inside = refl; same_a = refl; same_b = refl; set = inl refl; around = inl refl }

after_covers : {s t : Standing} (c : Command) → Covers s t → Covers (after c s) (after c t)
unfolding after
after_covers (layer l) h = record { same-inside = h.same-inside; same_a = h.same_a; same_b = h.same_b; set = inr refl; around = h.around }
after_covers (start n a b) h = record { same-inside = refl; same_a = refl; same_b = refl; set = inl refl; around = h.set }
after_covers finish h = record { same-inside = refl; same_a = refl; same_b = refl; set = h.around; around = inl refl }
after_covers (draw k) h = h
after_covers (call n ts) h = h
after_covers (delete n) h = h
after_covers nothing h = h

module _ {s t : Standing} (h : Covers s t) where
  -- ---- scale: a and b are the same

  scaled-same : (z : ℤ) → scaled s z ≡ scaled t z
  unfolding scaled
  scaled-same (pos d) = λ i. pos (nearest (h.same_a i * d) (h.same_b i))
  scaled-same (negsuc d) = λ i. neg_ℤ (pos (nearest (h.same_a i * nat_abs (negsuc d)) (h.same_b i)))

  shape_same : (k : Shape Number) → scaled_shape s k ≡ scaled_shape t k
  unfolding scaled_shape
  shape_same k =
      λ i. shape_of k.kind (map (λ d. scaled-same d.what i) k.sizes)
      (map (λ p. point (scaled-same p.x.what i) (scaled-same p.y.what i)) k.points) (map given k.directions)

  turn-same : (u : Turn Number) → scaled_turn s u ≡ scaled_turn t u
  unfolding scaled_turn
  turn-same (translate p) = λ i. translate (point (scaled-same p.x.what i) (scaled-same p.y.what i))
  turn-same mirror_x = refl
  turn-same mirror_y = refl
  turn-same (rotate d) = refl

  -- ---- layer: where a shape breaks no rule, it is set

  set_same : eqb (length s.layer_set) 0 ≡ false → s.layer_set ≡ t.layer_set
  set_same e = go h.set
    where
      go : OrNone s.layer_set t.layer_set → s.layer_set ≡ t.layer_set
      go (inl f) = absurd (two_bits (ap (λ (l : List ℕ). eqb (length l) 0) f) e)
      go (inr f) = f

  layer-same : (c : Command) → layerless s c ≡ false → layerless t c ≡ false
  unfolding layerless
  layer-same c e = go h.set (parts_of c).shapes e
    where
      lacks : List ℕ → Shape Number → Bool
      lacks l k = eqb (length l) 0

      none_there : (b : Bool) (ks : List (Shape Number)) → any (λ (k : Shape Number). true) ks ≡ false → any (λ (k : Shape Number). b) ks ≡ false
      none_there b [] e = unfold any in refl
      none_there b (k ∷ ks) e = unfold any in absurd (two_bits refl e)

      go : OrNone s.layer_set t.layer_set → (ks : List (Shape Number)) → any (lacks s.layer_set) ks ≡ false → any (lacks t.layer_set) ks ≡ false
      go (inl f) ks e = none_there (eqb (length t.layer_set) 0) ks (ap (λ (l : List ℕ). any (lacks l) ks) (sym f) ∙ e)
      go (inr f) ks e = ap (λ (l : List ℕ). any (lacks l) ks) (sym f) ∙ e

  step_same : (c : Command) → layerless s c ≡ false → step_of s c ≡ step_of t c
  unfolding step_of layerless parts_of any
  step_same (draw k) e = ap₂ {C = List Step} (λ (l : List ℕ) (x : Shape ℤ). shape l x ∷ []) (set_same (first_is (eqb (length s.layer_set) 0) e)) (shape_same k)
    where
      first_is : (b : Bool) → (b || false) ≡ false → b ≡ false
      first_is true e = e
      first_is false e = refl
  step_same (call n ts) e = λ i. instance (nat_abs n.what) (map (λ u. turn-same u i) ts) ∷ []
  step_same (layer l) e = refl
  step_same (start n a b) e = refl
  step_same finish e = refl
  step_same (delete n) e = refl
  step_same nothing e = refl

  -- ---- faults

  degenerate-same : (c : Command) → degenerate s c ≡ degenerate t c
  unfolding degenerate
  degenerate-same c =
      λ i. any (λ k. empty_shape (shape_same k i)) (parts_of c).shapes || any (λ u. any (λ d. nowhere (given d)) (bearings u)) (parts_of c).turns

  faults-same : (c : Placed Command) → layerless s c.what ≡ false → faults t c ≡ faults s c
  unfolding faults
  faults-same c e =
      let w = c.what in
      let p = c.place in
      λ i. at_numbers NumberTooLarge beyond (numbers_of w)
      ++ (at_command ZeroFactor (zero_scale w) p
      ++ (at_numbers ScaledTooLarge (λ d. beyond (sym (scaled-same d) i)) (distances w)
      ++ (at_command DegenerateCommand (sym (degenerate-same w) i) p
      ++ (at_command NoLayer ((layer-same w e ∙ sym e) i) p
      ++ at_command TooManyParts (has_too_many w) p))))

  whole_same : (z : ℤ) → whole s z ≡ whole t z
  unfolding whole
  whole_same z = λ i. eqb (h.same_a i * nat_abs z % h.same_b i) 0

  ragged-same : (c : Command) → ragged s c ≡ ragged t c
  unfolding ragged
  ragged-same c = λ i. those (λ d. not (whole_same d.what i)) (distances c)

-- a command that breaks no rule has its layer
layered : (s : Standing) (c : Placed Command) → faults s c ≡ [] → layerless s c.what ≡ false
unfolding faults
layered s c e =
    let w = c.what in
    let p = c.place in
    let four = nil-right (at_numbers NumberTooLarge beyond (numbers_of w)) _ e in
    let six = nil-right (at_command ZeroFactor (zero_scale w) p) _ four in
    let seven = nil-right (at_numbers ScaledTooLarge (λ d. beyond (scaled s d)) (distances w)) _ six in
    let eight = nil-right (at_command DegenerateCommand (degenerate s w) p) _ seven in
    go (layerless s w) (nil-left (at_command NoLayer (layerless s w) p) _ eight)
  where
    go : (b : Bool) → at_command NoLayer b c.place ≡ [] → b ≡ false
    go true f = absurd (nil≢cons (sym f))
    go false f = refl

-- ---- all of its commands

-- it breaks no rule under that layer either
pub faultless_under : {s t : Standing} → Covers s t → (cs : List (Placed Command)) → all_faults s cs ≡ [] → all_faults t cs ≡ []
unfolding all_faults
faultless_under h [] e = refl
faultless_under {s} {t} h (c ∷ cs) e =
    let first = nil-left (faults s c) _ e in
    ap₂ {C = List Refusal} (λ (x y : List Refusal). x ++ y) (faults-same h c (layered s c first) ∙ first)
    (faultless_under {s = after c.what s} {t = after c.what t} (after_covers c.what h) cs (nil-right (faults s c) _ e))

pub retained_under : {s t : Standing} → Covers s t → (cs : List (Placed Command)) → all_faults s cs ≡ [] → retained s cs ≡ retained t cs
unfolding all_faults retained
retained_under h [] e = refl
retained_under {s} {t} h (c ∷ cs) e =
    let steps = step_same h c.what (layered s c (nil-left (faults s c) _ e)) in
    let rest = retained_under {s = after c.what s} {t = after c.what t} (after_covers c.what h) cs (nil-right (faults s c) _ e) in
    λ i. if h.same-inside i then map (at c.place) (steps i) ++ rest i else []

deed_under : {s t : Standing} → Covers s t → (p : ℕ) (c : Command) (cs : List (Placed Command)) → layerless s c ≡ false → all_faults (after c s) cs ≡ []
    → deed_of s p c cs ≡ deed_of t p c cs
unfolding deed_of
deed_under h p (draw k) cs e f = λ i. if h.same-inside i then [] else map (λ x. output (at p x)) (step_same h (draw k) e i)
deed_under h p (call n ts) cs e f = λ i. if h.same-inside i then [] else map (λ x. output (at p x)) (step_same h (call n ts) e i)
deed_under h p (start n a b) cs e f =
    ap (λ (body : List (Placed Step)). define (record { symbol = nat_abs n.what; place = p; body = body }) ∷ []) (retained_under (after_covers (start n a b) h) cs f)
deed_under h p (delete n) cs e f = refl
deed_under h p (layer l) cs e f = refl
deed_under h p finish cs e f = refl
deed_under h p nothing cs e f = refl

-- and does the same
pub deeds_under : {s t : Standing} → Covers s t → (cs : List (Placed Command)) → all_faults s cs ≡ [] → deeds s cs ≡ deeds t cs
unfolding all_faults deeds
deeds_under h [] e = refl
deeds_under {s} {t} h (c ∷ cs) e =
    let rest = nil-right (faults s c) _ e in
    ap₂ {C = List Deed} (λ (x y : List Deed). x ++ y) (deed_under h c.place c.what cs (layered s c (nil-left (faults s c) _ e)) rest)
    (deeds_under {s = after c.what s} {t = after c.what t} (after_covers c.what h) cs rest)

-- as many of its distances are rounded
pub rounded_under : {s t : Standing} → Covers s t → (cs : List (Placed Command)) → rounded_from s cs ≡ rounded_from t cs
unfolding rounded_from
rounded_under h [] = refl
rounded_under {s} {t} h (c ∷ cs) =
    ap₂ {C = ℕ} (λ (x : List Number) (y : ℕ). length x + y) (ragged-same h c.what)
    (rounded_under {s = after c.what s} {t = after c.what t} (after_covers c.what h) cs)
