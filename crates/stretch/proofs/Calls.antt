-- One call held to the records lent: refused before its body, or counted, and then what its body draws one level down is left.
-- Assumes nothing.
use mathlib.Core.Path.{◌≡◌, refl, sym, ap, ap₂, ◌∙◌, subst}
use mathlib.Core.List.{List, [], ◌∷◌, ◌++◌, map}
use Prim.Native.Nat.{ℕ, zero, suc, ◌+◌, ◌-◌, ◌*◌, ◌^◌, ◌<◌}
use native.Mathlib.Omega.{arith}
use lib.IntN.{ℤ}
use lib.ListN.{length}
use Rattle.definition.specs.Commands.{Turn}
use Rattle.definition.specs.Turns.{off_axes}
use Rattle.definition.specs.Table.{Definition, Table}
use Rattle.definition.specs.Drawing.{Chain, Event, called, leads, passage_of, through, drawn_body, drawn_call}
use Rattle.definition.specs.Counts.{shapes_of}
use Rattle.definition.specs.Records.{stacked_to}
use Rattle.definition.specs.declared.Refusal.{Refusal}
use Rattle.turns.specs.Nets.{Near}
use Rattle.shapes.specs.declared.Ink.{Ink}
use Rattle.shapes.specs.Painting.{inked, Reached, Painted}
use Rattle.shapes.proofs.Painting.{PaintedSoFar, quiet, refusal, goes_on}
use Rattle.library.specs.Memory.{definition_at, body_at, table_of}
use Rattle.opening.specs.declared.Call.{Call}
use Rattle.opening.specs.Opening.{Descent}
use Rattle.opening.proofs.Opening.{called-first}
use Rattle.engine.specs.Draws.{open_at}
use Rattle.engine.proofs.Calls.{row_live, descent_reached}
use Rattle.stacking.proofs.Stacked.{stacked_one}
use Rattle.stretch.specs.Opening.{OpensWith}
use Rattle.stretch.proofs.Counting.{called_one}
use Rattle.stretch.specs.Bodies.{body_story, call_story, deeper, Led}
use Rattle.std.specs.Prelude.{Err, Ok, Result}
use Rattle.opening.specs.declared.Entered.{Entered}

module _ (records : ℕ) (t : Table) (chain : Chain) (outer : List (Turn ℤ)) (call : Call) (ts : List (Turn ℤ)) where
  abbrev inner : ℕ → Definition → List Event
  inner left d = drawn_body (drawn_call left t (deeper chain call) (ts ++ outer)) (deeper chain call) (ts ++ outer) d.body

  -- what the definition leads to, with so many levels left
  abbrev further : ℕ → Definition → List Event
  further zero = λ d. []
  further (suc left) = λ d. inner left d

  call_is : (left : ℕ) → call_story records t left chain outer call.place call.symbol ts
      ≡ map (stacked_to records) (through (passage_of left t chain call.symbol ts) call.place chain (further left))
  unfolding drawn_call
  call_is zero = refl
  call_is (suc left) = refl

  one_down : (left : ℕ) → (left ≡ 0 → ⊥) → (d : Definition) → further left d ≡ inner (left - 1) d
  one_down zero z d = absurd (z refl)
  one_down (suc l) z d = ap (λ (i : ℕ). inner i d) (omega arith)

  call-opened : (left : ℕ) → (left ≡ 0 → ⊥) → (d : Definition) → passage_of left t chain call.symbol ts ≡ leads d → length chain < records
      → call_story records t left chain outer call.place call.symbol ts ≡ called call.place chain d ∷ map (stacked_to records) (inner (left - 1) d)
  call-opened left z d e h =
      call_is left
      ∙ (ap (map (stacked_to records)) (called-first call.place chain (passage_of left t chain call.symbol ts) (further left) d e)
      ∙ ap₂ {C = List Event} (λ (x : Event) (y : List Event). x ∷ map (stacked_to records) y) (stacked_one records (called call.place chain d) h) (one_down left z d))

module _ (records : ℕ) (rows : List ℕ) (live : ℕ) (drawing : List ℕ) (left : ℕ) (call : Call) (ink : Ink) {o : Result Entered Refusal}
    (x : OpensWith records rows live (open_at drawing left) left call ink.counts o) where
  pub call-stopped : {why : Refusal} → o ≡ Err why → (b : List ℤ) (outer ts : List (Turn ℤ)) → call.askew ≡ off_axes ts → (room : List ℕ)
      → Painted ink (call_story records (table_of rows b live) left (open_at drawing left) outer call.place call.symbol ts) room (open_at drawing left) (Err why) room
  unfolding OpensWith
  call-stopped {why} e b outer ts askew room =
      let t = table_of rows b live in
      let chain = open_at drawing left in
      let s = subst (λ (o : Result Entered Refusal). OpensWith records rows live chain left call ink.counts o) e x b ts askew (further records t chain outer call ts left) in
      subst (λ (es : List Event). Painted ink es room chain (Err why) room) (sym (call_is records t chain outer call ts left ∙ s.are))
      (refusal ink s.event s.rest room why chain s.stops)

  module _ {entered : Entered} (e : o ≡ Ok entered) where
    descends : Descent rows live (open_at drawing left) left call ink.counts entered.row entered.counts × (length (open_at drawing left) < records)
    unfolding OpensWith
    descends = subst (λ (o : Result Entered Refusal). OpensWith records rows live (open_at drawing left) left call ink.counts o) e x

    pub call-led : Near ((33 - left) * 2 ^ 36) call.net → Led records live (open_at drawing left) left call entered.row
    call-led near = record {
      row_live = row_live rows live drawing left call ink descends.0;
      a_level = descends.0.some_left;
      a_record = descends.1;
      near = near;
    }

    pub call-counts : entered.counts.calls ≡ ink.counts.calls + 1
    call-counts = called_one ink.counts entered.counts call.place (open_at drawing left) descends.0.counts_it

    -- the call is counted, and its body is left
    pub call-going : Reached ink → (b : List ℤ) (outer ts : List (Turn ℤ)) → call.askew ≡ off_axes ts → (later : List Event) {all : List Event} {ink₀ : Ink} {room₀ room : List ℕ}
        → PaintedSoFar all ink₀ room₀ (call_story records (table_of rows b live) left (open_at drawing left) outer call.place call.symbol ts ++ later) ink room
        → PaintedSoFar all ink₀ room₀ (body_story records (table_of rows b live) (left - 1) (deeper (open_at drawing left) call) (ts ++ outer) (body_at rows b entered.row) ++ later) (inked entered.counts ink.pen) room
    call-going reach b outer ts askew later {room = room} g =
        let t = table_of rows b live in
        let chain = open_at drawing left in
        let d = definition_at rows b entered.row in
        goes_on g (called call.place chain d ∷ []) _
        (ap (λ (es : List Event). es ++ later) (call-opened records t chain outer call ts left descends.0.some_left d (descends.0.no_fault b ts askew) descends.1))
        (quiet ink entered.counts (called call.place chain d) room {chain = []} (descends.0.counts_it d) (unfold shapes_of in refl) (descent_reached rows live drawing left call ink descends.0 reach))
