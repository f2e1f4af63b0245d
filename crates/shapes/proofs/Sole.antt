-- Two outcomes that the contract of a function that draws allows are one: the answer, with the counts, the next place and the last layer or with the
-- refusal and the calls open there, and every byte of the room. The last layer is told by what would be written after it.
-- Assumes nothing.
use Rattle.std.specs.Prelude.{if◌then◌else◌, Result, Ok, Err}
use mathlib.Core.Path.{◌≡◌, refl, sym, ap, ◌∙◌, subst}
use mathlib.Core.Bool.{Bool, true, false}
use mathlib.Core.List.{List, [], ◌∷◌, ◌++◌, append-nil, append_cancel_left}
use Prim.Native.Nat.{ℕ}
use native.Mathlib.Omega.{arith}
use lib.Dec.{T}
use lib.ListN.{length, length-append}
use Rattle.definition.specs.Words.{same}
use Rattle.definition.specs.Commands.{polygon, shape_of}
use Rattle.definition.specs.Drawing.{Chain, Event, Drawn as Shown}
use Rattle.definition.specs.Counts.{finished, stopped, shapes_of}
use Rattle.definition.specs.Flat.{letter_of, line, spaced, said, lines}
use Rattle.definition.specs.declared.Refusal.{Refusal}
use Rattle.definition.proofs.Rows.{same-eq}
use Rattle.pen.specs.Names.{name_of}
use Rattle.pen.proofs.Names.{name-same, same_refl}
use Rattle.counts.specs.declared.Counts.{Counts}
use Rattle.counts.specs.Counting.{tally}
use Rattle.shapes.specs.declared.Ink.{Ink}
use Rattle.shapes.specs.Painting.{inked, Goes, Answered, Painted}
use Rattle.shapes.proofs.Painting.{never}

-- ---- the last layer

-- a shape of this layer
abbrev probe : List ℕ → Shown
probe l = record { place = 0; chain = []; net = []; layer_of = l; itself = shape_of polygon [] [] [] }

abbrev own : List ℕ
own = line (letter_of polygon) (spaced [])

-- two layers after which the same is always written are one: an L line would tell them apart
pub layer-told : (l m : List ℕ) → ((ds : List Shown) → lines l ds ≡ lines m ds) → l ≡ m
unfolding lines said
layer-told l m f = go (same m l) refl (sym (simp (same_refl, append-nil) at (f (probe l ∷ []))))
  where
    go : (b : Bool) → same m l ≡ b → (if b then [] else line 76 l) ++ own ≡ own → l ≡ m
    go true e h = sym (same-eq m l (subst T (sym e) tt))
    go false e h = absurd (omega (arith, ap length h, length-append (line 76 l) own))

-- ---- the answer

pub counts-told : (a b : Counts) → finished (tally a) ≡ finished (tally b) → a ≡ b
counts-told a b e =
    let q : tally a ≡ tally b = cc in
    λ i. record { calls = (q i).calls; shapes = (q i).shapes; redefinitions = (q i).redefinitions }

goes_once : {ink : Ink} {es : List Event} {a b : Ink} → Goes ink es a → Goes ink es b → a ≡ b
goes_once {ink} {es} {a} {b} x y =
    let names-so : (ds : List Shown) → lines (name_of a.pen.layer) ds ≡ lines (name_of b.pen.layer) ds =
    λ ds. append_cancel_left (lines (name_of ink.pen.layer) (shapes_of es)) _ _ (sym (x.on ds) ∙ y.on ds) in
    let counts : a.counts ≡ b.counts = counts-told a.counts b.counts (sym x.ends ∙ y.ends) in
    let place : a.pen.at ≡ b.pen.at = x.next ∙ sym y.next in
    let layer : a.pen.layer ≡ b.pen.layer = name-same a.pen.layer b.pen.layer (layer-told (name_of a.pen.layer) (name_of b.pen.layer) names-so) in
    λ i. inked (counts i) (record { at = place i; layer = layer i })

answered_once : (ink : Ink) (es : List Event) (chain open_calls : Chain) (r s : Result Ink Refusal) → Answered ink es chain r → Answered ink es open_calls s → r ≡ s
unfolding Answered
answered_once ink es chain open_calls (Ok a) (Ok b) x y = ap Ok (goes_once x y)
answered_once ink es chain open_calls (Ok a) (Err why) x y = absurd (never why open_calls (tally a.counts) (sym y ∙ x.ends))
answered_once ink es chain open_calls (Err why) (Ok b) x y = absurd (never why chain (tally b.counts) (sym x ∙ y.ends))
answered_once ink es chain open_calls (Err why) (Err other) x y = let e : stopped why chain ≡ stopped other open_calls = sym x ∙ y in cc

module _ {ink : Ink} {es : List Event} {room : List ℕ} {chain open_calls : Chain} where
  pub painted_once : {r s : Result Ink Refusal} {room' room'' : List ℕ} → Painted ink es room chain r room' → Painted ink es room open_calls s room'' → (r ≡ s) × (room' ≡ room'')
  painted_once {r} {s} x y = (answered_once ink es chain open_calls r s x.answer y.answer, x.laid ∙ sym y.laid)

  -- and the calls that are open where it is refused
  pub chain_once : {why other : Refusal} {room' room'' : List ℕ} → Painted ink es room chain (Err why) room' → Painted ink es room open_calls (Err other) room''
      → chain ≡ open_calls
  unfolding Answered
  chain_once {why} {other} x y = let e : stopped why chain ≡ stopped other open_calls = sym x.answer ∙ y.answer in cc
