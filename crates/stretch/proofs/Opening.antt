-- One call where so many records are lent: what crate opening answers of it stays, where there is a record; where there is none, 11 to 14 stay, and a call that they let
-- through is refused with 21, before it is counted.
-- Assumes nothing.
use Rattle.std.specs.Prelude.{if◌then◌else◌, Err, Ok, Result}
use mathlib.Core.Path.{◌≡◌, refl, sym, ap, ◌∙◌, subst}
use mathlib.Core.Bool.{Bool}
use mathlib.Core.List.{List, [], ◌∷◌, map, head-eq_of_cons-eq}
use Prim.Native.Nat.{ℕ, ◌-◌, ◌≤◌, ◌<◌}
use borrow.Author.Tests.{le-leb}
use lib.ListN.{length}
use Rattle.definition.specs.Limits.{deepest}
use Rattle.definition.specs.declared.Rule.TheVariants.{TooFewRecords}
use Rattle.definition.specs.Rules.{refuse}
use Rattle.definition.specs.Table.{Definition}
use Rattle.definition.specs.Drawing.{Chain, Event, called, refused, Passage, barred, leads, passage_of, through}
use Rattle.definition.specs.Counts.{stopped, counted}
use Rattle.definition.specs.Records.{stacked_to}
use Rattle.definition.specs.declared.Refusal.{Refusal}
use Rattle.counts.specs.declared.Counts.{Counts}
use Rattle.counts.specs.Counting.{tally, zero_counts}
use Rattle.library.specs.Memory.{definition_at, table_of}
use Rattle.chain.specs.Chain.{open_calls}
use Rattle.chain.proofs.Runs.{so_many}
use Rattle.opening.specs.declared.Call.{Call}
use Rattle.opening.specs.Opening.{Stops, Descent}
use Rattle.opening.specs.Opening.{Opens as OpensFreely}
use Rattle.opening.proofs.Opening.{called-first}
use Rattle.shapes.proofs.Painting.{never}
use Rattle.stacking.proofs.Stacked.{Fits, stacked_one}
use Rattle.stretch.specs.Opening.{OpensWith}
use Rattle.opening.specs.declared.Entered.{Entered}

-- ---- the first event of a call

module _ (records p : ℕ) (chain : Chain) (go : Definition → List Event) where
  -- has its record, if the call has
  first_fits : (w : Passage) {e : Event} {es : List Event} → length chain < records → through w p chain go ≡ e ∷ es → Fits records e
  unfolding through
  first_fits (barred r) h q = subst (Fits records) (head-eq_of_cons-eq q) tt
  first_fits (leads d) h q = subst (Fits records) (head-eq_of_cons-eq q) h

  -- where there is a record
  stops_so : (w : Passage) (c : Counts) {why : Refusal} → length chain < records → Stops c (through w p chain go) why chain → Stops c (map (stacked_to records) (through w p chain go)) why chain
  stops_so w c h s = record {
    event = s.event;
    rest = map (stacked_to records) s.rest;
    are = ap (map (stacked_to records)) s.are ∙ ap (λ (e : Event). e ∷ map (stacked_to records) s.rest) (stacked_one records s.event (first_fits w h s.are));
    stops = s.stops;
  }

  -- where there is none: a call that nothing has been counted before is not refused for its count
  counts-first : (d : Definition) {why : Refusal} → counted (tally zero_counts) (called p chain d) ≡ stopped why chain → ⊥
  unfolding counted
  counts-first d {why} e = never why chain _ (sym e)

  stops-before : (w : Passage) (c : Counts) {why : Refusal} → Stops zero_counts (through w p chain go) why chain → Stops c (map (stacked_to records) (through w p chain go)) why chain
  unfolding through stacked_to counted
  stops-before (barred r) c {why} s = record {
    event = refused (refuse r p) chain;
    rest = [];
    are = refl;
    stops = ap (counted (tally zero_counts)) (head-eq_of_cons-eq s.are) ∙ s.stops;
  }
  stops-before (leads d) c {why} s = absurd (counts-first d (ap (counted (tally zero_counts)) (head-eq_of_cons-eq s.are) ∙ s.stops))

  stops_there : (w : Passage) (c : Counts) (d : Definition) → records ≤ length chain → w ≡ leads d → Stops c (map (stacked_to records) (through w p chain go)) (refuse TooFewRecords p) chain
  unfolding stacked_to counted
  stops_there w c d h e = record {
    event = refused (refuse TooFewRecords p) chain;
    rest = map (stacked_to records) (go d);
    are =
        ap (map (stacked_to records)) (called-first p chain w go d e)
        ∙ ap (λ (b : Bool). (if b then refused (refuse TooFewRecords p) chain else called p chain d) ∷ map (stacked_to records) (go d)) (le-leb records (length chain) h);
    stops = refl;
  }

-- ---- what is answered

-- so many calls are open
pub levels_open : (drawing : List ℕ) (left : ℕ) → length (open_calls drawing (deepest - left)) ≡ deepest - left
levels_open drawing left = so_many drawing (deepest - left)

module _ (records : ℕ) (rows : List ℕ) (live : ℕ) (chain : Chain) (left : ℕ) (call : Call) (c : Counts) where
  pub a_record : length chain < records → (o : Result Entered Refusal) → OpensFreely rows live chain left call c o → OpensWith records rows live chain left call c o
  unfolding OpensFreely OpensWith
  a_record h (Err why) x = λ b ts e go. stops_so records call.place chain go (passage_of left (table_of rows b live) chain call.symbol ts) c h (x b ts e go)
  a_record h (Ok entered) x = (x, h)

  module _ {none : Counts} (z : none ≡ zero_counts) {o : Result Entered Refusal} (x : OpensFreely rows live chain left call none o) where
    none_refused : {why : Refusal} → o ≡ Err why → OpensWith records rows live chain left call c (Err why)
    unfolding OpensFreely OpensWith
    none_refused {why} q = λ b ts e go.
        let y : OpensFreely rows live chain left call zero_counts (Err why) = subst (OpensFreely rows live chain left call zero_counts) q (subst (λ (n : Counts). OpensFreely rows live chain left call n o) z x) in
        stops-before records call.place chain go (passage_of left (table_of rows b live) chain call.symbol ts) c (y b ts e go)

    pub no_record_refused : {r : Result Entered Refusal} {why : Refusal} → o ≡ Err why → r ≡ Err why → OpensWith records rows live chain left call c r
    no_record_refused q is = subst (OpensWith records rows live chain left call c) (sym is) (none_refused q)

    pub no_record_led : records ≤ length chain → {entered : Entered} → o ≡ Ok entered → OpensWith records rows live chain left call c (Err (refuse TooFewRecords call.place))
    unfolding OpensFreely OpensWith
    no_record_led h {entered} q = λ b ts e go.
        let y : Descent rows live chain left call none entered.row entered.counts = subst (OpensFreely rows live chain left call none) q x in
        stops_there records call.place chain go (passage_of left (table_of rows b live) chain call.symbol ts) c (definition_at rows b entered.row) h (y.no_fault b ts e)
