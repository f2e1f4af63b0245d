-- Refusal 21 (RULES 8, request 7): a story that is held to the records lent is the story itself where each of its calls has a record, and so wherever 32 are lent: no call is
-- drawn deeper than 32.
-- Assumes nothing.
use Rattle.std.specs.Prelude.{if◌then◌else◌}
use mathlib.Core.Path.{◌≡◌, refl, ap₂}
use mathlib.Core.Bool.{Bool, true, false}
use mathlib.Core.List.{List, [], ◌∷◌, ◌++◌, map}
use mathlib.Core.Option.{Option, none, some}
use Prim.Native.Nat.{ℕ, zero, suc, ◌+◌, ◌≤◌, ◌<◌}
use native.Mathlib.Omega.{arith}
use borrow.Author.Tests.{lt-leb}
use lib.Dec.{ltb, eqb}
use lib.IntN.{ℤ}
use lib.ListN.{length, length-append}
use Rattle.definition.specs.Limits.{most_definitions, deepest}
use Rattle.definition.specs.Words.{Placed, at, any}
use Rattle.definition.specs.declared.Rule.TheVariants.{TooManyDefinitions, TooFewWords, OffTheAxes, BeingDrawn, TooDeep}
use Rattle.definition.specs.Rules.{refuse}
use Rattle.definition.specs.Commands.{Shape, Turn, Command}
use Rattle.definition.specs.Standing.{outside}
use Rattle.definition.specs.Turns.{off_axes}
use Rattle.definition.specs.Table.{Step, shape, instance, setting, Definition, Table, find, enter}
use Rattle.definition.specs.Drawing.{Deed, output, define, remove, deeds, Chain, Event, called, drew, entered, removed, refused}
use Rattle.definition.specs.Drawing.{drawn_shape, drawn_step, drawn_body, Passage, barred, leads, passage_to, passage_of, through, drawn_call, happens, table_after, story}
use Rattle.definition.specs.Held.{words_in, held_to}
use Rattle.definition.specs.Answer.{held_drawing}
use Rattle.definition.specs.Records.{stacked_to, stacked_drawing}
use Rattle.laws.proofs.Lists.Range.{All, all-++}
use Rattle.laws.proofs.Story.Axes.{by_axes}

-- a call has a record: one more than are open. All else needs none
abbrev pub Fits : (records : ℕ) → Event → Type 0
Fits records (called p chain d) = length chain < records
Fits records (drew d) = Unit {0}
Fits records (entered d before) = Unit {0}
Fits records (removed n before) = Unit {0}
Fits records (refused r chain) = Unit {0}

pub stacked_one : (records : ℕ) (e : Event) → Fits records e → stacked_to records e ≡ e
unfolding stacked_to
stacked_one records (called p chain d) h = rw (lt-leb records (length chain) h)
stacked_one records (drew d) h = refl
stacked_one records (entered d before) h = refl
stacked_one records (removed n before) h = refl
stacked_one records (refused r chain) h = refl

pub stacked_all : (records : ℕ) (es : List Event) → All (Fits records) es → map (stacked_to records) es ≡ es
unfolding All
stacked_all records [] h = refl
stacked_all records (e ∷ es) h = ap₂ {C = List Event} (λ (x : Event) (y : List Event). x ∷ y) (stacked_one records e h.0) (stacked_all records es h.1)

-- ---- with 32 records every call has one

module _ (records : ℕ) (many : deepest ≤ records) where
  shape-fits : (chain : Chain) (net : List (Turn ℤ)) (p : ℕ) (l : List ℕ) (k : Shape ℤ) → Fits records (drawn_shape chain net p l k)
  shape-fits chain net p l k = by_axes chain net p l k (Fits records) tt tt (λ e. tt)

  module _ (f : ℕ → ℕ → List (Turn ℤ) → List Event) (calls-fit : (p n : ℕ) (ts : List (Turn ℤ)) → All (Fits records) (f p n ts)) (chain : Chain) (net : List (Turn ℤ)) where
    step_fits : (p : ℕ) (s : Step) → All (Fits records) (drawn_step f chain net p s)
    unfolding drawn_step All
    step_fits p (shape l k) = (shape-fits chain net p l k, tt)
    step_fits p (instance n ts) = calls-fit p n ts
    step_fits p (setting l) = tt

    body-fits : (b : List (Placed Step)) → All (Fits records) (drawn_body f chain net b)
    unfolding drawn_body All
    body-fits [] = tt
    body-fits (s ∷ b) = all-++ (Fits records) (drawn_step f chain net s.place s.what) (drawn_body f chain net b) (step_fits s.place s.what) (body-fits b)

  through-fits : (w : Passage) (p : ℕ) (chain : Chain) (go : Definition → List Event) → length chain < records → ((d : Definition) → All (Fits records) (go d))
      → All (Fits records) (through w p chain go)
  unfolding through All
  through-fits (barred r) p chain go h f = (tt, tt)
  through-fits (leads d) p chain go h f = (h, f d)

  -- where no level is left no call is drawn
  last_fits : (t : Table) (chain : Chain) (p n : ℕ) (ts : List (Turn ℤ)) (go : Definition → List Event) → All (Fits records) (through (passage_of 0 t chain n ts) p chain go)
  unfolding passage_of passage_to
  last_fits t chain p n ts go = by_axis (off_axes ts) (find n t)
    where
      by_open : (b : Bool) (d : Definition) → All (Fits records) (through (if b then barred BeingDrawn else if eqb 0 0 then barred TooDeep else leads d) p chain go)
      by_open true d = unfold through All in (tt, tt)
      by_open false d = unfold through All in (tt, tt)

      by_axis : (b : Bool) (found : Option Definition) → All (Fits records) (through (if b then barred OffTheAxes else passage_to found 0 chain n) p chain go)
      by_axis true found = unfold through All in (tt, tt)
      by_axis false none = unfold through All in (tt, tt)
      by_axis false (some d) = by_open (any (λ c. eqb c.what n) chain) d

  call_fits : (left : ℕ) (t : Table) (chain : Chain) (net : List (Turn ℤ)) (p n : ℕ) (ts : List (Turn ℤ)) → left + length chain ≡ deepest
      → All (Fits records) (drawn_call left t chain net p n ts)
  unfolding drawn_call
  call_fits zero t chain net p n ts h = last_fits t chain p n ts (λ d. [])
  call_fits (suc left) t chain net p n ts h =
      let deeper : Chain = chain ++ (at p n ∷ []) in
      let one_more : left + length deeper ≡ deepest = omega (arith, h, length-append chain (at p n ∷ [])) in
      through-fits (passage_of (suc left) t chain n ts) p chain (λ d. drawn_body (drawn_call left t deeper (ts ++ net)) deeper (ts ++ net) d.body) (omega (arith, h, many))
      (λ d. body-fits (drawn_call left t deeper (ts ++ net)) (λ q m us. call_fits left t deeper (ts ++ net) q m us one_more) deeper (ts ++ net) d.body)

  happens-fits : (t : Table) (d : Deed) → All (Fits records) (happens t d)
  unfolding happens All
  happens-fits t (output s) = step_fits (drawn_call deepest t [] []) (λ q m us. call_fits deepest t [] [] q m us refl) [] [] s.place s.what
  happens-fits t (define d) = (go (ltb most_definitions (length (enter d t))), tt)
    where
      go : (b : Bool) → Fits records (if b then refused (refuse TooManyDefinitions d.place) [] else entered d t)
      go true = tt
      go false = tt
  happens-fits t (remove n) = (tt, tt)

  story-fits : (t : Table) (ds : List Deed) → All (Fits records) (story t ds)
  unfolding story All
  story-fits t [] = tt
  story-fits t (d ∷ ds) = all-++ (Fits records) (happens t d) (story (table_after t d) ds) (happens-fits t d) (story-fits (table_after t d) ds)

  -- and words change no call
  held_fits : (words : ℕ) (es : List Event) → All (Fits records) es → All (Fits records) (map (held_to words) es)
  unfolding All held_to
  held_fits words [] h = tt
  held_fits words (called p chain d ∷ es) h = (h.0, held_fits words es h.1)
  held_fits words (drew d ∷ es) h = (tt, held_fits words es h.1)
  held_fits words (entered d before ∷ es) h = (go (ltb words (words_in (enter d before))), held_fits words es h.1)
    where
      go : (b : Bool) → Fits records (if b then refused (refuse TooFewWords d.place) [] else entered d before)
      go true = tt
      go false = tt
  held_fits words (removed n before ∷ es) h = (tt, held_fits words es h.1)
  held_fits words (refused r chain ∷ es) h = (tt, held_fits words es h.1)

  pub enough-records : (words : ℕ) (cs : List (Placed Command)) → stacked_drawing words records cs ≡ held_drawing words cs
  enough-records words cs = stacked_all records (held_drawing words cs) (held_fits words (story [] (deeds (outside []) cs)) (story-fits [] (deeds (outside []) cs)))
