-- The story of a list of deeds, held to the words lent deed by deed: only a DF can be refused for want of words, after 10; and no story is stopped by 25 of itself.
-- Assumes nothing.
use Rattle.std.specs.Prelude.{if◌then◌else◌}
use mathlib.Core.Path.{◌≡◌, refl, ap, ap₂, subst}
use mathlib.Core.Bool.{Bool, true, false}
use mathlib.Core.List.{List, [], ◌∷◌, ◌++◌, map, map-append}
use mathlib.Core.Logic.{◌↔◌}
use Prim.Native.Nat.{ℕ, ◌+◌}
use native.Mathlib.Omega.{arith}
use lib.Dec.{ltb}
use lib.IntN.{ℤ}
use lib.ListN.{length}
use Rattle.definition.specs.declared.Refusal.{Refusal}
use Rattle.definition.specs.Limits.{most_definitions, most_calls, most_shapes}
use Rattle.definition.specs.Words.{Placed}
use Rattle.definition.specs.declared.Rule.{Rule}
use Rattle.definition.specs.declared.Rule.TheVariants.{TooManyDefinitions, TooFewWords, TooManyCalls, TooManyShapes}
use Rattle.definition.specs.Rules.{number_of, refuse}
use Rattle.definition.specs.Commands.{Turn}
use Rattle.definition.specs.Table.{Step, Definition, Table, enter}
use Rattle.definition.specs.Drawing.{Deed, output, define, remove, Chain, Event, called, drew, entered, removed, refused, drawn_call, happens, table_after, story}
use Rattle.definition.specs.Counts.{Counts, counts, End, finished, stopped, counted, go_on, ending}
use Rattle.definition.specs.Held.{words_in, held_to}
use Rattle.laws.proofs.Lists.Range.{All, all-++}
use Rattle.laws.proofs.Rules.Order.{rank, one_number}
use Rattle.laws.proofs.Story.Outputs.{ByOutput, Outputs, call-events, output-events}
use Rattle.laws.proofs.Story.Held.{TooFew, held-stopped}

module _ (words : ℕ) where
  -- what is held to nothing
  abbrev Left : Event → Type 0
  Left e = held_to words e ≡ e

  left-outputs : Outputs Left
  unfolding held_to
  left-outputs = record { of_call = λ p chain d. refl; of_shape = λ d. refl; of_refusal = λ r p chain h. refl }

  all_left : (es : List Event) → All Left es → map (held_to words) es ≡ es
  unfolding All
  all_left [] h = refl
  all_left (e ∷ es) h = ap₂ {C = List Event} (λ (x : Event) (y : List Event). x ∷ y) h.0 (all_left es h.1)

  pub held-call : (left : ℕ) (t : Table) (chain : Chain) (net : List (Turn ℤ)) (p n : ℕ) (ts : List (Turn ℤ))
      → map (held_to words) (drawn_call left t chain net p n ts) ≡ drawn_call left t chain net p n ts
  held-call left t chain net p n ts = all_left _ (call-events Left left-outputs left t chain net p n ts)

  pub held-output : (t : Table) (s : Placed Step) → map (held_to words) (happens t (output s)) ≡ happens t (output s)
  held-output t s = all_left _ (output-events Left left-outputs t s)

  pub held-remove : (t : Table) (n : Placed ℕ) → map (held_to words) (happens t (remove n)) ≡ happens t (remove n)
  unfolding happens held_to
  held-remove t n = refl

  -- directly after 10
  pub held-define : (t : Table) (d : Definition) → map (held_to words) (happens t (define d))
      ≡ (if ltb most_definitions (length (enter d t)) then refused (refuse TooManyDefinitions d.place) []
      else if ltb words (words_in (enter d t)) then refused (refuse TooFewWords d.place) [] else entered d t) ∷ []
  unfolding happens held_to
  held-define t d = go (ltb most_definitions (length (enter d t)))
    where
      go : (b : Bool) → map (held_to words) ((if b then refused (refuse TooManyDefinitions d.place) [] else entered d t) ∷ [])
          ≡ (if b then refused (refuse TooManyDefinitions d.place) []
          else if ltb words (words_in (enter d t)) then refused (refuse TooFewWords d.place) [] else entered d t) ∷ []
      go true = refl
      go false = refl

  pub held-story : (t : Table) (d : Deed) (ds : List Deed)
      → map (held_to words) (story t (d ∷ ds)) ≡ map (held_to words) (happens t d) ++ map (held_to words) (story (table_after t d) ds)
  unfolding story
  held-story t d ds = map-append (held_to words) (happens t d) (story (table_after t d) ds)

-- ---- no story is stopped by 25 of itself

abbrev Other : Refusal → Type 0
Other r = r.rule ≡ TooFewWords → ⊥

abbrev OtherEvent : Event → Type 0
OtherEvent (refused r chain) = Other r
OtherEvent (called p chain d) = Unit {0}
OtherEvent (drew d) = Unit {0}
OtherEvent (entered d before) = Unit {0}
OtherEvent (removed n before) = Unit {0}

other_outputs : Outputs OtherEvent
other_outputs = record { of_call = λ p chain d. tt; of_shape = λ d. tt; of_refusal = λ r p chain h e. later r h e }
  where
    later : (r : Rule) → ByOutput r → r ≡ TooFewWords → ⊥
    later r h e = omega (arith, h.least, ap rank e)

other_happens : (t : Table) (d : Deed) → All OtherEvent (happens t d)
unfolding happens All
other_happens t (output s) = output-events OtherEvent other_outputs t s
other_happens t (define d) = (go (ltb most_definitions (length (enter d t))), tt)
  where
    go : (b : Bool) → OtherEvent (if b then refused (refuse TooManyDefinitions d.place) [] else entered d t)
    go true = λ e. omega (arith, ap rank e)
    go false = tt
other_happens t (remove n) = (tt, tt)

other_story : (t : Table) (ds : List Deed) → All OtherEvent (story t ds)
unfolding story All
other_story t [] = tt
other_story t (d ∷ ds) = all-++ OtherEvent (happens t d) (story (table_after t d) ds) (other_happens t d) (other_story (table_after t d) ds)

abbrev OtherEnd : End → Type 0
OtherEnd (finished c) = Unit {0}
OtherEnd (stopped r chain) = Other r

other_counted : (c : Counts) (e : Event) → OtherEvent e → OtherEnd (counted c e)
unfolding counted
other_counted c (called p chain d) h = go (ltb c.calls most_calls)
  where
    go : (b : Bool) → OtherEnd (if b then finished (counts (c.calls + 1) c.shapes c.redefinitions) else stopped (refuse TooManyCalls p) chain)
    go true = tt
    go false = λ e. omega (arith, ap rank e)
other_counted c (drew d) h = go (ltb c.shapes most_shapes)
  where
    go : (b : Bool) → OtherEnd (if b then finished (counts c.calls (c.shapes + 1) c.redefinitions) else stopped (refuse TooManyShapes d.place) d.chain)
    go true = tt
    go false = λ e. omega (arith, ap rank e)
other_counted c (entered d before) h = tt
other_counted c (removed n before) h = tt
other_counted c (refused r chain) h = h

other_ending : (c : Counts) (es : List Event) → All OtherEvent es → OtherEnd (ending c es)
unfolding ending go_on All
other_ending c [] h = tt
other_ending c (e ∷ es) h = go (counted c e) (other_counted c e h.0) (λ c'. other_ending c' es h.1)
  where
    go : (o : End) → OtherEnd o → ((c' : Counts) → OtherEnd (ending c' es)) → OtherEnd (go_on o (λ c'. ending c' es))
    go (finished c') y f = f c'
    go (stopped r chain) y f = y

pub never_by_words : (c : Counts) (t : Table) (ds : List Deed) {p : ℕ} {chain : Chain} → ending c (story t ds) ≡ stopped (refuse TooFewWords p) chain → ⊥
never_by_words c t ds {p} {chain} e = subst OtherEnd e (other_ending c (story t ds) (other_story t ds)) refl

-- so 25 stops a drawing exactly where its words are too few
pub stopped_by_words : (words : ℕ) (c : Counts) (t : Table) (ds : List Deed) (p : ℕ) (chain : Chain)
    → (ending c (map (held_to words) (story t ds)) ≡ stopped (refuse TooFewWords p) chain)
    ↔ ((f : TooFew words c (story t ds)) × (f.definition.place ≡ p) × (chain ≡ []))
stopped_by_words words c t ds p chain = held-stopped words c (story t ds) p chain (never_by_words c t ds)
