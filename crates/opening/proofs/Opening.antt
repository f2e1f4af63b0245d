-- One call: the refusals 11 to 15 in their order, as the definition has them, or the way into its symbol's row. `open_call` answers by them, a test after
-- another, and whoever draws a call goes on from `Opens` alone.
-- Assumes nothing.
use Rattle.std.specs.Prelude.{if◌then◌else◌, Option, Some, None, Result, Ok, Err}
use Rattle.std.specs.Result.{result_ok}
use mathlib.Core.Path.{◌≡◌, refl, sym, ap, ◌∙◌, subst}
use mathlib.Core.Bool.{Bool, true, false}
use mathlib.Core.List.{List, [], ◌∷◌}
use mathlib.Core.Option.{some}
use Prim.Native.Nat.{ℕ, ◌+◌, ◌≤◌}
use native.Mathlib.Omega.{arith}
use borrow.Author.Tests.{eq-eqb, ne_eqb, ltb-true}
use lib.Dec.{eqb, ltb}
use lib.IntN.{ℤ}
use Rattle.definition.specs.Words.{any}
use Rattle.definition.specs.Commands.{Turn}
use Rattle.definition.specs.Turns.{off_axes}
use Rattle.definition.specs.Table.{Definition, find}
use Rattle.definition.specs.Drawing.{Chain, Event, called, refused, Passage, barred, leads, passage_to, passage_of, through}
use Rattle.definition.specs.Counts.{finished, stopped, counted}
use Rattle.definition.specs.Counts.{counts as tallied, Counts as Tally}
use Rattle.definition.specs.Limits.{most_calls}
use Rattle.definition.specs.declared.Rule.TheVariants.{OffTheAxes, UndefinedSymbol, BeingDrawn, TooDeep, TooManyCalls}
use Rattle.definition.specs.Rules.{refuse}
use Rattle.definition.specs.declared.Rule.{Rule}
use Rattle.definition.specs.declared.Refusal.{Refusal}
use Rattle.counts.specs.declared.Counts.{Counts}
use Rattle.counts.specs.Counting.{tally, CountsCall}
use Rattle.counts.proofs.ByValue.{call-goes, call-stops}
use Rattle.library.specs.Memory.{definition_at, table_of}
use Rattle.library.specs.Rows.{Finds}
use Rattle.library.proofs.Looking.{not_found, found}
use Rattle.opening.specs.declared.Call.{Call}
use Rattle.opening.specs.Opening.{entered_at, Stops, Opens}

-- the row that was found, where `ok_or` gives it on
pub row_is : {r : Option ℕ} {s : Result ℕ Refusal} {row : ℕ} → r ≡ result_ok s → s ≡ Ok row → r ≡ Some row
row_is v w = v ∙ ap result_ok w

-- ---- the definition's events of a call

module _ (p : ℕ) (chain : Chain) where
  refused-first : (c : Counts) (r : Rule) (x : Passage) (go : Definition → List Event) → x ≡ barred r → Stops c (through x p chain go) (refuse r p) chain
  unfolding through counted
  refused-first c r x go e = record { event = refused (refuse r p) chain; rest = []; are = rw e; stops = refl }

  pub called-first : (x : Passage) (go : Definition → List Event) (d : Definition) → x ≡ leads d → through x p chain go ≡ called p chain d ∷ go d
  unfolding through
  called-first x go d e = rw e

-- ---- test after test

module _ (rows : List ℕ) (live : ℕ) (chain : Chain) (call : Call) (left : ℕ) where
  faulty : (c : Counts) (r : Rule)
      → ((b : List ℤ) (ts : List (Turn ℤ)) → call.askew ≡ off_axes ts → passage_of left (table_of rows b live) chain call.symbol ts ≡ barred r)
      → Opens rows live chain left call c (Err (refuse r call.place))
  unfolding Opens
  faulty c r f b ts h go = refused-first call.place chain c r (passage_of left (table_of rows b live) chain call.symbol ts) go (f b ts h)

  pub askew-call : (c : Counts) → call.askew ≡ true → Opens rows live chain left call c (Err (refuse OffTheAxes call.place))
  askew-call c e = faulty c OffTheAxes (λ b ts h. unfold passage_of in rw (sym h ∙ e))

  module _ (straight : call.askew ≡ false) {r : Option ℕ} (finds : Finds rows live call.symbol r) where
    pub unknown_call : (c : Counts) → r ≡ None → Opens rows live chain left call c (Err (refuse UndefinedSymbol call.place))
    unknown_call c q =
        faulty c UndefinedSymbol
        (λ b ts h. unfold passage_of passage_to in rw (sym h ∙ straight, not_found rows b call.symbol live r finds q))

    module _ {row : ℕ} (q : r ≡ Some row) {o : Bool} (is_open : o ≡ any (λ c. eqb c.what call.symbol) chain) where
      is_known : (b : List ℤ) → find call.symbol (table_of rows b live) ≡ some (definition_at rows b row)
      is_known b = (found rows b call.symbol live r row finds q).1

      pub open_call_lem : (c : Counts) → o ≡ true → Opens rows live chain left call c (Err (refuse BeingDrawn call.place))
      open_call_lem c e = faulty c BeingDrawn (λ b ts h. unfold passage_of passage_to in rw (sym h ∙ straight, is_known b, sym is_open ∙ e))

      module _ (idle : o ≡ false) where
        pub deep-call : (c : Counts) → left ≡ 0 → Opens rows live chain left call c (Err (refuse TooDeep call.place))
        deep-call c e = faulty c TooDeep (λ b ts h. unfold passage_of passage_to in rw (sym h ∙ straight, is_known b, sym is_open ∙ idle, eq-eqb left 0 e))

        module _ (some_left : left ≡ 0 → ⊥) where
          faultless : (b : List ℤ) (ts : List (Turn ℤ)) → call.askew ≡ off_axes ts
              → passage_of left (table_of rows b live) chain call.symbol ts ≡ leads (definition_at rows b row)
          faultless b ts h = unfold passage_of passage_to in rw (sym h ∙ straight, is_known b, sym is_open ∙ idle, ne_eqb left 0 some_left)

          module _ {c : Counts} {a : Result Counts Rule} (count : CountsCall c a) where
            pub many-calls : {rule : Rule} → a ≡ Err rule → Opens rows live chain left call c (Err (refuse rule call.place))
            unfolding Opens
            many-calls {rule} full b ts h go =
                let d = definition_at rows b row in
                record {
                  event = called call.place chain d;
                  rest = go d;
                  are = called-first call.place chain (passage_of left (table_of rows b live) chain call.symbol ts) go d (faultless b ts h);
                  stops = call-stops c count rule full call.place chain d;
                }

            pub goes_down : {more : Counts} → a ≡ Ok more → Opens rows live chain left call c (Ok (entered_at row more))
            unfolding Opens
            goes_down {more} e = record {
              finds = subst (Finds rows live call.symbol) q finds;
              some_left = some_left;
              no_fault = faultless;
              counts_it = λ d. call-goes c count more e call.place chain d;
            }

-- counts that a call is counted in are no more than there may be
pub counted-few : (c more : Counts) (p : ℕ) (chain : Chain) → ((d : Definition) → counted (tally c) (called p chain d) ≡ finished (tally more))
    → (more.calls ≤ most_calls) × (more.shapes ≡ c.shapes)
unfolding counted
counted-few c more p chain e = go (ltb c.calls most_calls) refl (e (record { symbol = 0; place = 0; body = [] }))
  where
    go : (b : Bool) → ltb c.calls most_calls ≡ b → (if b then finished (tallied (c.calls + 1) c.shapes c.redefinitions) else stopped (refuse TooManyCalls p) chain) ≡ finished (tally more)
        → (more.calls ≤ most_calls) × (more.shapes ≡ c.shapes)
    go true f q =
        let same : tallied (c.calls + 1) c.shapes c.redefinitions ≡ tally more = cc in
        let k = ltb-true c.calls most_calls f in
        (omega (arith, k, ap (λ (x : Tally). x.calls) same), sym (ap (λ (x : Tally). x.shapes) same))
    go false f q = absurd (let z : ◌≡◌ {A = ℕ} 0 1 = cc in omega arith)
