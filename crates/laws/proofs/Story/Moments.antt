-- The moments of a drawing: what it comes to, one after the other, each with the table, the open calls and their transformations as they are there.
-- The rules 10 to 17, 20 and 25 of RULES 12 speak of moments (DrawingRules); here each event of the story is what one moment leads to, and no
-- moment is left out.
-- Assumes nothing.
use Rattle.std.specs.Prelude.{if◌then◌else◌}
use mathlib.Core.Path.{◌≡◌, refl, sym, ap, ap₂, ◌∙◌}
use mathlib.Core.List.{List, [], ◌∷◌, ◌++◌, map}
use Prim.Native.Nat.{ℕ, zero, suc, ◌+◌, ◌-◌}
use native.Mathlib.Omega.{arith}
use lib.Dec.{ltb}
use lib.IntN.{ℤ}
use lib.ListN.{length, length-append}
use Rattle.definition.specs.Limits.{most_definitions, deepest}
use Rattle.definition.specs.Words.{Placed, at}
use Rattle.definition.specs.declared.Rule.TheVariants.{TooManyDefinitions, TooFewWords}
use Rattle.definition.specs.Rules.{refuse}
use Rattle.definition.specs.Commands.{Shape, Turn}
use Rattle.definition.specs.Table.{Step, shape, instance, setting, Definition, Table, enter}
use Rattle.definition.specs.Drawing.{Deed, output, define, remove, Chain, Event, called, drew, entered, removed, refused}
use Rattle.definition.specs.Drawing.{drawn_shape, drawn_step, drawn_body, Passage, barred, leads, passage_of, through, drawn_call, happens, table_after, story}
use Rattle.definition.specs.Held.{words_in, held_to}
use Rattle.laws.proofs.Story.HeldStory.{held-output, held-define, held-story}

-- a call of a symbol with its own transformations; a shape on its layer; a definition to enter; a symbol number from which on entries are removed
pub data Act : Type 0 where
  calling : (symbol : ℕ) → List (Turn ℤ) → Act
  drawing : (layer : List ℕ) → Shape ℤ → Act
  entering : Definition → Act
  removing : (symbol : ℕ) → Act

-- the table as it is before the act, the open calls and their transformations in one list, the command's place, and the act
pub record Moment : Type 0 where
  pub table : Table
  pub chain : Chain
  pub net : List (Turn ℤ)
  pub place : ℕ
  pub act : Act

abbrev pub moment : Table → Chain → List (Turn ℤ) → ℕ → Act → Moment
moment t chain net p a = record { table = t; chain = chain; net = net; place = p; act = a }

-- a call that is barred is refused, and one that leads to a definition is made
unfoldable pub call_event : Passage → ℕ → Chain → Event
call_event (barred r) p chain = refused (refuse r p) chain
call_event (leads d) p chain = called p chain d

-- what a moment leads to, with so many words lent. 32 levels are left outside all calls, and each open call takes one
unfoldable pub event_of : (words : ℕ) → Table → Chain → List (Turn ℤ) → ℕ → Act → Event
event_of words t chain net p (calling n ts) = call_event (passage_of (deepest - length chain) t chain n ts) p chain
event_of words t chain net p (drawing l k) = drawn_shape chain net p l k
event_of words t chain net p (entering d) =
    if ltb most_definitions (length (enter d t)) then refused (refuse TooManyDefinitions p) chain
    else if ltb words (words_in (enter d t)) then refused (refuse TooFewWords p) chain else entered d t
event_of words t chain net p (removing n) = removed (at p n) t

abbrev pub event_at : (words : ℕ) → Moment → Event
event_at words m = event_of words m.table m.chain m.net m.place m.act

-- a call that is made is followed by what its definition leads to
unfoldable pub followed : Event → (Definition → List Moment) → List Moment
followed (called p chain d) go = go d
followed (drew d) go = []
followed (entered d before) go = []
followed (removed n before) go = []
followed (refused r chain) go = []

unfoldable pub step_moments : (ℕ → ℕ → List (Turn ℤ) → List Moment) → Table → Chain → List (Turn ℤ) → ℕ → Step → List Moment
step_moments call_moments t chain net p (shape l k) = moment t chain net p (drawing l k) ∷ []
step_moments call_moments t chain net p (instance n ts) = call_moments p n ts
step_moments call_moments t chain net p (setting l) = []

unfoldable pub body_moments : (ℕ → ℕ → List (Turn ℤ) → List Moment) → Table → Chain → List (Turn ℤ) → List (Placed Step) → List Moment
body_moments call_moments t chain net [] = []
body_moments call_moments t chain net (s ∷ ss) =
    step_moments call_moments t chain net s.place s.what ++ body_moments call_moments t chain net ss

-- a body draws its calls and a call draws its body
unfoldable pub call_moments : (left : ℕ) → Table → Chain → List (Turn ℤ) → ℕ → ℕ → List (Turn ℤ) → List Moment
call_moments zero t chain net p n ts = moment t chain net p (calling n ts) ∷ []
call_moments (suc left) t chain net p n ts =
    let deeper : Chain = chain ++ (at p n ∷ []) in
    moment t chain net p (calling n ts)
    ∷ followed (call_event (passage_of (deepest - length chain) t chain n ts) p chain)
    (λ d. body_moments (call_moments left t deeper (ts ++ net)) t deeper (ts ++ net) d.body)

unfoldable pub deed_moments : Table → Deed → List Moment
deed_moments t (output s) = step_moments (call_moments deepest t [] []) t [] [] s.place s.what
deed_moments t (define d) = moment t [] [] d.place (entering d) ∷ []
deed_moments t (remove n) = moment t [] [] n.place (removing n.what) ∷ []

unfoldable pub moments : Table → List Deed → List Moment
moments t [] = []
moments t (d ∷ ds) = deed_moments t d ++ moments (table_after t d) ds

-- the events of a list of moments
abbrev pub events : (words : ℕ) → List Moment → List Event
events words ms = map (event_at words) ms

pub events-++ : (words : ℕ) (a b : List Moment) → events words (a ++ b) ≡ events words a ++ events words b
events-++ words [] b = refl
events-++ words (m ∷ a) b = ap (λ (x : List Event). event_at words m ∷ x) (events-++ words a b)

-- where the functions that draw calls agree, so do steps and bodies
module _ (words : ℕ) (f : ℕ → ℕ → List (Turn ℤ) → List Event) (g : ℕ → ℕ → List (Turn ℤ) → List Moment)
    (agree : (p n : ℕ) (ts : List (Turn ℤ)) → f p n ts ≡ events words (g p n ts)) where
  step-events : (t : Table) (chain : Chain) (net : List (Turn ℤ)) (p : ℕ) (s : Step) → drawn_step f chain net p s ≡ events words (step_moments g t chain net p s)
  unfolding drawn_step step_moments event_of
  step-events t chain net p (shape l k) = refl
  step-events t chain net p (instance n ts) = agree p n ts
  step-events t chain net p (setting l) = refl

  body-events : (t : Table) (chain : Chain) (net : List (Turn ℤ)) (b : List (Placed Step)) → drawn_body f chain net b ≡ events words (body_moments g t chain net b)
  unfolding drawn_body body_moments
  body-events t chain net [] = refl
  body-events t chain net (s ∷ b) =
      ap₂ {C = List Event} (λ (x y : List Event). x ++ y) (step-events t chain net s.place s.what) (body-events t chain net b)
      ∙ sym (events-++ words (step_moments g t chain net s.place s.what) (body_moments g t chain net b))

through-events : (words : ℕ) (o : Passage) (p : ℕ) (chain : Chain) (go : Definition → List Event) (go' : Definition → List Moment) → ((d : Definition) → go d ≡ events words (go' d))
    → through o p chain go ≡ call_event o p chain ∷ events words (followed (call_event o p chain) go')
unfolding through call_event followed
through-events words (barred r) p chain go go' same = refl
through-events words (leads d) p chain go go' same = ap (λ (x : List Event). called p chain d ∷ x) (same d)

none_followed : (e : Event) → followed e (λ d. []) ≡ []
unfolding followed
none_followed (called p chain d) = refl
none_followed (drew d) = refl
none_followed (entered d before) = refl
none_followed (removed n before) = refl
none_followed (refused r chain) = refl

pub call-events : (words left : ℕ) (t : Table) (chain : Chain) (net : List (Turn ℤ)) (p n : ℕ) (ts : List (Turn ℤ)) → left + length chain ≡ deepest
    → drawn_call left t chain net p n ts ≡ events words (call_moments left t chain net p n ts)
unfolding drawn_call call_moments event_of
call-events words zero t chain net p n ts h =
    let levels : deepest - length chain ≡ 0 = omega arith in
    let o = passage_of 0 t chain n ts in
    rw levels
    (through-events words o p chain (λ d. []) (λ d. []) (λ d. refl)
    ∙ ap (λ (x : List Moment). call_event o p chain ∷ events words x) (none_followed (call_event o p chain)))
call-events words (suc left) t chain net p n ts h =
    let levels : deepest - length chain ≡ suc left = omega arith in
    let deeper : Chain = chain ++ (at p n ∷ []) in
    let one_more : left + length deeper ≡ deepest = rw length-append (omega arith) in
    rw levels
    (through-events words (passage_of (suc left) t chain n ts) p chain
    (λ d. drawn_body (drawn_call left t deeper (ts ++ net)) deeper (ts ++ net) d.body)
    (λ d. body_moments (call_moments left t deeper (ts ++ net)) t deeper (ts ++ net) d.body)
    (λ d. body-events words (drawn_call left t deeper (ts ++ net)) (call_moments left t deeper (ts ++ net))
    (λ q m us. call-events words left t deeper (ts ++ net) q m us one_more) t deeper (ts ++ net) d.body))

deed_events : (words : ℕ) (t : Table) (d : Deed) → map (held_to words) (happens t d) ≡ events words (deed_moments t d)
unfolding happens deed_moments event_of held_to
deed_events words t (output s) =
    held-output words t s
    ∙ step-events words (drawn_call deepest t [] []) (call_moments deepest t [] []) (λ p n ts. call-events words deepest t [] [] p n ts refl) t [] [] s.place s.what
deed_events words t (define d) = held-define words t d
deed_events words t (remove n) = refl

-- all that happens with so many words lent, in order, is what the moments lead to
pub story-events : (words : ℕ) (t : Table) (ds : List Deed) → map (held_to words) (story t ds) ≡ events words (moments t ds)
unfolding story moments
story-events words t [] = refl
story-events words t (d ∷ ds) =
    held-story words t d ds
    ∙ ap₂ {C = List Event} (λ (x y : List Event). x ++ y) (deed_events words t d) (story-events words (table_after t d) ds)
    ∙ sym (events-++ words (deed_moments t d) (moments (table_after t d) ds))
