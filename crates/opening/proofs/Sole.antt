-- Two outcomes that the contracts of this crate allow are one: of `open_call` the refusal, or the row and the counts; of `read_call` the whole record.
-- Assumes nothing.
use Rattle.std.specs.Prelude.{Some, Result, Ok, Err}
use mathlib.Core.Path.{◌≡◌, sym, ap, ◌∙◌}
use mathlib.Core.List.{List, [], ◌++◌, head-eq_of_cons-eq}
use Prim.Native.Nat.{ℕ, ◌<◌}
use native.Mathlib.Omega.{arith}
use lib.IntN.{ℤ}
use Rattle.definition.specs.Commands.{Turn}
use Rattle.definition.specs.Drawing.{Chain, Event, called, passage_of}
use Rattle.definition.specs.Counts.{stopped, counted}
use Rattle.definition.specs.declared.Refusal.{Refusal}
use Rattle.turns.specs.declared.Net.{Net}
use Rattle.turns.proofs.Sole.{carries_sole}
use Rattle.counts.specs.declared.Counts.{Counts}
use Rattle.counts.specs.Counting.{tally}
use Rattle.shapes.proofs.Painting.{never}
use Rattle.shapes.proofs.Sole.{counts-told}
use Rattle.library.specs.Memory.{definition_at, table_of}
use Rattle.library.specs.Rows.{Finds}
use Rattle.opening.specs.declared.Call.{Call}
use Rattle.opening.specs.Calls.{ReadsCall}
use Rattle.opening.specs.Opening.{entered_at, Stops, Descent, Opens}
use Rattle.opening.proofs.Opening.{called-first}
use Rattle.opening.proofs.Witnesses.{some_list, turned_by, turned_so}
use Rattle.opening.specs.declared.Entered.{Entered}

-- ---- the first row of a number is one

first-row : (rows : List ℕ) (live n i j : ℕ) → Finds rows live n (Some i) → Finds rows live n (Some j) → i ≡ j
unfolding Finds
first-row rows live n i j x y =
    let a : ¬ (i < j) = λ l. y.2 i l x.1 in
    let b : ¬ (j < i) = λ l. x.2 j l y.1 in
    omega (arith, a, b)

stops_once : {c : Counts} {es : List Event} {why other : Refusal} {chain : Chain} → Stops c es why chain → Stops c es other chain → why ≡ other
stops_once {c} {es} {why} {other} {chain} x y =
    let e : x.event ≡ y.event = head-eq_of_cons-eq (sym x.are ∙ y.are) in
    let q : stopped why chain ≡ stopped other chain = sym x.stops ∙ (ap (counted (tally c)) e ∙ y.stops) in
    cc

module _ (rows : List ℕ) (live : ℕ) (chain : Chain) (left : ℕ) (call : Call) (c : Counts) where
  -- a list that fits
  abbrev fitting : List (Turn ℤ)
  fitting = turned_by call.askew

  -- what is refused leads nowhere
  refused_or_led : (why : Refusal) (row : ℕ) (more : Counts) → Opens rows live chain left call c (Err why) → Descent rows live chain left call c row more → ⊥
  unfolding Opens
  refused_or_led why row more x y =
      let fits = turned_so call.askew in
      let d = definition_at rows [] row in
      let s = x [] fitting fits (λ e. []) in
      let e : s.event ≡ called call.place chain d =
      head-eq_of_cons-eq (sym s.are ∙ called-first call.place chain (passage_of left (table_of rows [] live) chain call.symbol fitting) (λ e. []) d (y.no_fault [] fitting fits)) in
      never why chain (tally more) (sym s.stops ∙ (ap (counted (tally c)) e ∙ y.counts_it d))

  pub opens_sole : (r s : Result Entered Refusal) → Opens rows live chain left call c r → Opens rows live chain left call c s → r ≡ s
  unfolding Opens
  opens_sole (Err why) (Err other) x y =
      let fits = turned_so call.askew in
      ap Err (stops_once (x [] fitting fits (λ e. [])) (y [] fitting fits (λ e. [])))
  opens_sole (Err why) (Ok b) x y = absurd (refused_or_led why b.row b.counts x y)
  opens_sole (Ok a) (Err why) x y = absurd (refused_or_led why a.row a.counts y x)
  opens_sole (Ok a) (Ok b) x y =
      let e : a.row ≡ b.row = first-row rows live call.symbol a.row b.row x.finds y.finds in
      let d = definition_at rows [] a.row in
      let q : a.counts ≡ b.counts = counts-told a.counts b.counts (sym (x.counts_it d) ∙ y.counts_it d) in
      λ i. Ok (entered_at (e i) (q i))

-- ---- what a call's words say

pub reads_sole : {n : ℤ} {ts : List (Turn ℤ)} {outer : Net} {place : ℕ} {r s : Call} → ReadsCall n ts outer place r → ReadsCall n ts outer place s → r ≡ s
reads_sole {ts = ts} {outer = outer} {r = r} {s} x y =
    let (before, k) = some_list outer in
    let symbol = x.symbol ∙ sym y.symbol in
    let askew = x.askew ∙ sym y.askew in
    let net = carries_sole r.net s.net (ts ++ before) (x.carries before k) (y.carries before k) in
    let place = x.at_place ∙ sym y.at_place in
    λ i. record { symbol = symbol i; askew = askew i; net = net i; place = place i }
