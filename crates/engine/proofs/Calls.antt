-- One call drawn: refused before its body, or its body drawn one level down with the call open, by what `open_call` answers.
-- Assumes nothing.
use Rattle.std.specs.Prelude.{Some, Result, Ok, Err}
use mathlib.Core.Path.{◌≡◌, refl, sym, ap, ◌∙◌, subst}
use mathlib.Core.List.{List, [], ◌∷◌, ◌++◌}
use Prim.Native.Nat.{ℕ, zero, suc, ◌+◌, ◌-◌, ◌≤◌, ◌<◌}
use native.Mathlib.Nat.{pos_of_ne-zero}
use native.Mathlib.Omega.{arith}
use lib.IntN.{ℤ}
use lib.ListN.{length}
use Rattle.definition.specs.Words.{Placed, at}
use Rattle.definition.specs.Commands.{Turn}
use Rattle.definition.specs.Table.{Step, Definition, Table}
use Rattle.definition.specs.Drawing.{Chain, Event, called, passage_of, through, drawn_body, drawn_call}
use Rattle.definition.specs.Counts.{shapes_of}
use Rattle.definition.specs.declared.Refusal.{Refusal}
use Rattle.counts.specs.declared.Counts.{Counts}
use Rattle.shapes.specs.declared.Ink.{Ink}
use Rattle.shapes.specs.Painting.{inked, Reached, Painted}
use Rattle.shapes.proofs.Painting.{quiet, refusal, next_drawn}
use Rattle.library.specs.Memory.{steps_in, definition_at, table_of, start_at, length_at}
use Rattle.library.specs.Sound.{Sound, Stocked}
use Rattle.library.proofs.Looking.{found}
use Rattle.chain.specs.Chain.{open_calls, Kept, Pushed}
use Rattle.chain.proofs.Runs.{kept-lower, kept-both}
use Rattle.opening.specs.declared.Call.{Call}
use Rattle.opening.specs.Opening.{Descent, Opens}
use Rattle.opening.proofs.Opening.{called-first, counted-few}
use Rattle.opening.specs.declared.Entered.{Entered}
use Rattle.engine.specs.Draws.{open_at, Ready, BodyAt, Draws, CallDraws}

-- ---- one level down

module _ {left : ℕ} (some_left : left ≡ 0 → ⊥) (deep : left ≤ 32) where
  one_deeper : 32 - (left - 1) ≡ suc (32 - left)
  one_deeper = let q : 0 < left = pos_of_ne-zero some_left in omega arith

  -- the call is open
  call_open : {place symbol : ℕ} {drawing pushed : List ℕ} → Pushed (32 - left) place symbol drawing pushed → open_at pushed (left - 1) ≡ open_at drawing left ++ (at place symbol ∷ [])
  call_open {pushed = pushed} p = ap (open_calls pushed) one_deeper ∙ p.deeper

  -- and what is kept there is kept here
  pub kept_here : {place symbol : ℕ} {drawing pushed drawing' : List ℕ} → Pushed (32 - left) place symbol drawing pushed → Kept (32 - (left - 1)) pushed drawing' → Kept (32 - left) drawing drawing'
  kept_here p k = kept-both p.kept (kept-lower (32 - left) (omega (arith, one_deeper)) k)

-- ---- what the definition says of a call

module _ (t : Table) (chain : Chain) (net : List (Turn ℤ)) (call : Call) (ts : List (Turn ℤ)) where
  abbrev deeper : Chain
  deeper = chain ++ (at call.place call.symbol ∷ [])

  abbrev inner : ℕ → Definition → List Event
  inner left d = drawn_body (drawn_call left t deeper (ts ++ net)) deeper (ts ++ net) d.body

  -- what the definition leads to, with so many levels left
  abbrev further : ℕ → Definition → List Event
  further zero = λ d. []
  further (suc left) = λ d. inner left d

  abbrev happening : ℕ → List Event
  happening left = drawn_call left t chain net call.place call.symbol ts

  call_is : (left : ℕ) → happening left ≡ through (passage_of left t chain call.symbol ts) call.place chain (further left)
  unfolding drawn_call
  call_is zero = refl
  call_is (suc left) = refl

  one_down : (left : ℕ) → (left ≡ 0 → ⊥) → (d : Definition) → further left d ≡ inner (left - 1) d
  one_down zero z d = absurd (z refl)
  one_down (suc l) z d = ap (λ (i : ℕ). inner i d) (omega arith)

-- ---- what is answered

module _ (rows : List ℕ) (live : ℕ) (drawing : List ℕ) (left : ℕ) (call : Call) (ink : Ink) where
  abbrev OpensHere : Result Entered Refusal → Type 0
  OpensHere o = Opens rows live (open_at drawing left) left call ink.counts o

  abbrev Led : ℕ → Counts → Type 0
  Led row more = Descent rows live (open_at drawing left) left call ink.counts row more

  pub call-stopped : {o : Result Entered Refusal} → OpensHere o → {why : Refusal} → o ≡ Err why → {told : Chain} → told ≡ open_at drawing left
      → (b : List ℤ) (room : List ℕ) → CallDraws rows b live drawing call left ink room told (Err why) room
  unfolding Opens
  call-stopped x {why} e stop b room outer ts askew carries =
      let t = table_of rows b live in
      let chain = open_at drawing left in
      let s = subst (λ (o : Result Entered Refusal). OpensHere o) e x b ts askew (further t chain outer call ts left) in
      subst (λ (o : Chain). Painted ink (drawn_call left t chain outer call.place call.symbol ts) room o (Err why) room) (sym stop)
      (subst (λ (es : List Event). Painted ink es room chain (Err why) room) (sym (call_is t chain outer call ts left ∙ s.are))
      (refusal ink s.event s.rest room why chain s.stops))

  -- where `open_call` lets a call through
  pub answered_descent : {o : Result Entered Refusal} {entered : Entered} → OpensHere o → o ≡ Ok entered → Led entered.row entered.counts
  unfolding Opens
  answered_descent x e = subst (λ (o : Result Entered Refusal). OpensHere o) e x

  module _ {row : ℕ} {more : Counts} (led : Led row more) where
    pub row_live : row < live
    row_live = (found rows [] call.symbol live (Some row) row led.finds refl).0

    -- counts that a call is one of are such as the drawing can come to
    pub descent_reached : Reached ink → Reached (inked more ink.pen)
    descent_reached k =
        let (few, same) = counted-few ink.counts more call.place (open_at drawing left) led.counts_it in
        record { calls_most = few; shapes_most = omega (arith, same, k.shapes_most); place_most = omega (arith, same, k.place_most) }

    pub body_there : {b : List ℤ} → Stocked rows b live → {from size : ℕ} → from ≡ start_at rows row → size ≡ length_at rows row → BodyAt b from (from + size)
    body_there {b} s {from} {size} e f =
        let w = s.within row row_live in
        let q : from + size - from ≡ length_at rows row = omega arith in
        record {
          forward = omega arith;
          within = omega arith;
          sound = subst (λ (x : ℕ). Sound b x (from + size - from)) (sym e) (subst (λ (x : ℕ). Sound b (start_at rows row) x) (sym q) (s.sound row row_live));
        }

    -- one level down the drawing is ready too
    pub ready-below : {b numbers : List ℤ} → Ready rows b live numbers drawing left ink → (pushed : List ℕ) → length pushed ≡ length drawing
        → Ready rows b live numbers pushed (left - 1) (inked more ink.pen)
    ready-below r pushed e = record {
      sorted = r.sorted;
      stocked = r.stocked;
      short = r.short;
      roomy = r.roomy;
      levels = e ∙ r.levels;
      some_left = omega (arith, r.some_left);
      reached = descent_reached r.reached;
    }

    -- a call that is counted draws what its body draws
    pub body-drawn : left ≤ 32 → Reached ink → {pushed : List ℕ} → Pushed (32 - left) call.place call.symbol drawing pushed
        → (b : List ℤ) {from size : ℕ} {room : List ℕ} {told : Chain} {r : Result Ink Refusal} {room' : List ℕ} → from ≡ start_at rows row → size ≡ length_at rows row
        → Draws rows b live pushed call.net (left - 1) from (from + size) (inked more ink.pen) room told r room'
        → CallDraws rows b live drawing call left ink room told r room'
    body-drawn h reach {pushed} push b {from} {size} {room} {told} {r} {room'} e f drawn outer ts askew carries =
        let t = table_of rows b live in
        let chain = open_at drawing left in
        let d = definition_at rows b row in
        let z : from + size - from ≡ length_at rows row = omega arith in
        let body : steps_in b from (from + size - from) ≡ d.body = ap (λ (x : ℕ). steps_in b from x) z ∙ ap (λ (x : ℕ). steps_in b x (length_at rows row)) e in
        let below : Painted (inked more ink.pen) (drawn_body (drawn_call (left - 1) t (open_at pushed (left - 1)) (ts ++ outer)) (open_at pushed (left - 1)) (ts ++ outer) d.body) room told r room' =
        subst (λ (x : List (Placed Step)). Painted (inked more ink.pen) (drawn_body (drawn_call (left - 1) t (open_at pushed (left - 1)) (ts ++ outer)) (open_at pushed (left - 1)) (ts ++ outer) x) room told r room') body
        (drawn (ts ++ outer) carries) in
        let inside : Painted (inked more ink.pen) (inner t chain outer call ts (left - 1) d) room told r room' =
        subst (λ (o : Chain). Painted (inked more ink.pen) (drawn_body (drawn_call (left - 1) t o (ts ++ outer)) o (ts ++ outer) d.body) room told r room') (call_open led.some_left h push) below in
        subst (λ (es : List Event). Painted ink es room told r room')
        (sym (call_is t chain outer call ts left
        ∙ called-first call.place chain (passage_of left t chain call.symbol ts) (further t chain outer call ts left) d (led.no_fault b ts askew)))
        (next_drawn (quiet ink more (called call.place chain d) room {chain = []} (led.counts_it d) (unfold shapes_of in refl) (descent_reached reach)) (further t chain outer call ts left d)
        (subst (λ (es : List Event). Painted (inked more ink.pen) es room told r room') (sym (one_down t chain outer call ts left led.some_left d)) inside))
