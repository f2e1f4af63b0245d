-- The calls that are open at a moment: at most 32, no two of one symbol, and each of a symbol that the table defines. So whatever happens, and whatever
-- stops a drawing, at most 32 calls are open there.
-- Assumes nothing.
use Rattle.std.specs.Prelude.{if◌then◌else◌}
use mathlib.Core.Path.{◌≡◌, refl, sym, ap, subst}
use mathlib.Core.Bool.{Bool, true, false}
use mathlib.Core.List.Memᴰ
use mathlib.Core.List.{List, [], ◌∷◌, ◌++◌, map, Memᴰ}
use mathlib.Core.Logic.{◌⊎◌, inl, inr}
use Prim.Native.Nat.{ℕ, zero, suc, ◌+◌, ◌-◌, ◌≤◌, ◌<◌}
use native.Mathlib.Omega.{arith}
use lib.Dec.{ltb, eqb}
use lib.IntN.{ℤ}
use lib.ListN.{length, length-append}
use Rattle.definition.specs.Limits.{most_definitions, deepest}
use Rattle.definition.specs.declared.Rule.{Rule}
use Rattle.definition.specs.declared.Rule.TheVariants.{TooManyDefinitions, TooFewWords, UndefinedSymbol, BeingDrawn}
use Rattle.definition.specs.Rules.{refuse}
use Rattle.definition.specs.Words.{Placed, at}
use Rattle.definition.specs.Commands.{Turn}
use Rattle.definition.specs.Table.{Step, shape, instance, setting, Definition, Table, enter}
use Rattle.definition.specs.Drawing.{Deed, output, define, remove, Chain, Event, called, drew, entered, removed, refused, Passage, barred, leads, passage_of, table_after, story}
use Rattle.definition.specs.Held.{words_in, held_to}
use Rattle.definition.specs.Counts.{Counts, counts, End, finished, counted}
use Rattle.laws.proofs.Lists.Range.{All, all-++, all_at}
use Rattle.laws.proofs.Story.Moments.{Act, calling, drawing, entering, removing, Moment, moment, call_event, event_of, event_at, events, story-events, followed, step_moments, body_moments, call_moments, deed_moments, moments}
use Rattle.laws.proofs.Story.Decides.{Decides, holds, fails, Among, Defined, IsBeingDrawn, any_decides, eqb_decides, among_first, among_later, among_none}
use Rattle.laws.proofs.Rules.DrawingRules.{Breaks, undefined, being_drawn_lem, Met, goes_on, stops, met, FirstStop}
use Rattle.laws.proofs.Story.Axes.{by_axes}
use Rattle.laws.proofs.Story.Counting.{not_finished}

-- no symbol stands twice
unfoldable pub Distinct : Chain → Type 0
Distinct [] = Unit {0}
Distinct (o ∷ chain) = (IsBeingDrawn chain o.what → ⊥) × Distinct chain

pub record Opened (t : Table) (chain : Chain) : Type 0 where
  pub few : length chain ≤ deepest
  pub distinct : Distinct chain
  pub defined : All (λ (o : Placed ℕ). Defined t o.what) chain

abbrev pub OpenCalls : Moment → Type 0
OpenCalls m = Opened m.table m.chain

-- at a moment of the table t
pub record OpenedAt (t : Table) (m : Moment) : Type 0 where
  pub table_is : m.table ≡ t
  pub opened : Opened t m.chain

-- a call that is made breaks no rule that does not count
pub made_unbroken : (words : ℕ) (m : Moment) (q : ℕ) (chain : Chain) (d : Definition) → event_at words m ≡ called q chain d → (k : Rule) → Breaks words (counts 0 0 0) m k → ⊥
unfolding counted
made_unbroken words m q chain d e = go (met words (counts 0 0 0) m) (ap (counted (counts 0 0 0)) e)
  where
    go : {x : End} → Met words (counts 0 0 0) m x → x ≡ finished (counts 1 0 0) → (k : Rule) → Breaks words (counts 0 0 0) m k → ⊥
    go (goes_on h) f = h
    go (stops l) f = absurd (not_finished f)

-- so its symbol is defined, since that is decided
defined_when : (t : Table) (n : ℕ) → ((Defined t n → ⊥) → ⊥) → Defined t n
defined_when t n h = go (any_decides (λ (d : Definition). d.symbol ≡ n) (λ d. eqb d.symbol n) (λ d. eqb_decides d.symbol n) t)
  where
    go : {b : Bool} → Decides (Defined t n) b → Defined t n
    go (holds x) = x
    go (fails x) = absurd (h x)

among-last : {A : Type 0} (P : A → Type 0) (l : List A) (a : A) → Among P (l ++ (a ∷ [])) → Among P l ⊎ P a
among-last P l a h = go (Memᴰ.append_cases l h.listed)
  where
    go : Memᴰ h.one l ⊎ Memᴰ h.one (a ∷ []) → Among P l ⊎ P a
    go (inl m) = inl (record { one = h.one; listed = m; so = h.so })
    go (inr m) = inr (subst P (Memᴰ.eq_of_singleton m) h.so)

distinct_more : (chain : Chain) (o : Placed ℕ) → Distinct chain → (IsBeingDrawn chain o.what → ⊥) → Distinct (chain ++ (o ∷ []))
unfolding Distinct
distinct_more [] o x new = (among_none (λ (u : Placed ℕ). u.what ≡ o.what), tt)
distinct_more (a ∷ chain) o x new = (λ h. go (among-last Same chain o h), distinct_more chain o x.1 (λ h. new (among_later Other h)))
  where
    Same : Placed ℕ → Type 0
    Same u = u.what ≡ a.what

    Other : Placed ℕ → Type 0
    Other u = u.what ≡ o.what

    go : Among Same chain ⊎ Same o → ⊥
    go (inl h) = x.0 h
    go (inr e) = new (among_first Other (sym e))

opened-more : (t : Table) (chain : Chain) (o : Placed ℕ) → Opened t chain → length chain < deepest → (IsBeingDrawn chain o.what → ⊥) → Defined t o.what
    → Opened t (chain ++ (o ∷ []))
unfolding All
opened-more t chain o x room new known = record {
  few = rw length-append (omega arith);
  distinct = distinct_more chain o x.distinct new;
  defined = all-++ (λ (u : Placed ℕ). Defined t u.what) chain (o ∷ []) x.defined (known, tt);
}

all_followed : (P : Moment → Type 0) (e : Event) (go : Definition → List Moment)
    → ((q : ℕ) (chain : Chain) (d : Definition) → e ≡ called q chain d → All P (go d)) → All P (followed e go)
unfolding followed All
all_followed P (called p chain d) go h = h p chain d refl
all_followed P (drew d) go h = tt
all_followed P (entered d before) go h = tt
all_followed P (removed n before) go h = tt
all_followed P (refused r chain) go h = tt

module _ (t : Table) (chain : Chain) (net : List (Turn ℤ)) (x : Opened t chain) (g : ℕ → ℕ → List (Turn ℤ) → List Moment)
    (each : (p n : ℕ) (ts : List (Turn ℤ)) → All (OpenedAt t) (g p n ts)) where
  open_step : (p : ℕ) (s : Step) → All (OpenedAt t) (step_moments g t chain net p s)
  unfolding step_moments All
  open_step p (shape l k) = (record { table_is = refl; opened = x }, tt)
  open_step p (instance n ts) = each p n ts
  open_step p (setting l) = tt

  open_body : (b : List (Placed Step)) → All (OpenedAt t) (body_moments g t chain net b)
  unfolding body_moments All
  open_body [] = tt
  open_body (s ∷ b) =
      all-++ (OpenedAt t) (step_moments g t chain net s.place s.what) (body_moments g t chain net b) (open_step s.place s.what) (open_body b)

open_call_lem : (left : ℕ) (t : Table) (chain : Chain) (net : List (Turn ℤ)) (p n : ℕ) (ts : List (Turn ℤ)) → left + length chain ≡ deepest → Opened t chain
    → All (OpenedAt t) (call_moments left t chain net p n ts)
unfolding call_moments event_of All
open_call_lem zero t chain net p n ts h x = (record { table_is = refl; opened = x }, tt)
open_call_lem (suc left) t chain net p n ts h x =
    let deeper : Chain = chain ++ (at p n ∷ []) in
    let one_more : left + length deeper ≡ deepest = rw length-append (omega arith) in (
      record { table_is = refl; opened = x },
      all_followed (OpenedAt t) (event_of 0 t chain net p (calling n ts)) (λ d. body_moments (call_moments left t deeper (ts ++ net)) t deeper (ts ++ net) d.body)
          (λ q ch d e. let u = made_unbroken 0 (moment t chain net p (calling n ts)) q ch d e in
          let wider : Opened t deeper = opened-more t chain (at p n) x (omega arith) (λ y. u BeingDrawn (being_drawn_lem y)) (defined_when t n (λ y. u UndefinedSymbol (undefined y))) in
          open_body t deeper (ts ++ net) wider (call_moments left t deeper (ts ++ net)) (λ q m us. open_call_lem left t deeper (ts ++ net) q m us one_more wider) d.body),
    )

opened_none : (t : Table) → Opened t []
unfolding All Distinct
opened_none t = record { few = omega arith; distinct = tt; defined = tt }

-- the moments of a deed have the table that it found
pub open_deed : (t : Table) (d : Deed) → All (OpenedAt t) (deed_moments t d)
unfolding deed_moments All
open_deed t (output s) =
    open_step t [] [] (opened_none t) (call_moments deepest t [] []) (λ p n ts. open_call_lem deepest t [] [] p n ts refl (opened_none t)) s.place s.what
open_deed t (define d) = (record { table_is = refl; opened = opened_none t }, tt)
open_deed t (remove n) = (record { table_is = refl; opened = opened_none t }, tt)

pub all_map : {A : Type 0} (P Q : A → Type 0) → ((a : A) → P a → Q a) → (l : List A) → All P l → All Q l
unfolding All
all_map P Q f [] x = tt
all_map P Q f (a ∷ l) x = (f a x.0, all_map P Q f l x.1)

-- the open calls at every moment of a drawing
pub moments_opened : (t : Table) (ds : List Deed) → All OpenCalls (moments t ds)
unfolding moments All
moments_opened t [] = tt
moments_opened t (d ∷ ds) =
    all-++ OpenCalls (deed_moments t d) (moments (table_after t d) ds)
    (all_map (OpenedAt t) OpenCalls (λ m x. subst (λ (u : Table). Opened u m.chain) (sym x.table_is) x.opened) (deed_moments t d) (open_deed t d))
    (moments_opened (table_after t d) ds)

-- the calls open at what happens; a definition is entered and removed outside of calls
abbrev pub chain_of : Event → Chain
chain_of (called p chain d) = chain
chain_of (drew d) = d.chain
chain_of (entered d before) = []
chain_of (removed n before) = []
chain_of (refused r chain) = chain

abbrev pub Shallow : Event → Type 0
Shallow e = length (chain_of e) ≤ deepest

call_shallow : (o : Passage) (p : ℕ) (chain : Chain) → length chain ≤ deepest → Shallow (call_event o p chain)
unfolding call_event
call_shallow (barred r) p chain h = h
call_shallow (leads d) p chain h = h

act_shallow : (words : ℕ) (t : Table) (chain : Chain) (net : List (Turn ℤ)) (p : ℕ) (a : Act) → length chain ≤ deepest → Shallow (event_of words t chain net p a)
unfolding event_of
act_shallow words t chain net p (calling n ts) h = call_shallow (passage_of (deepest - length chain) t chain n ts) p chain h
act_shallow words t chain net p (drawing l k) h = by_axes chain net p l k Shallow h h (λ e. h)
act_shallow words t chain net p (entering d) h = go (ltb most_definitions (length (enter d t))) (ltb words (words_in (enter d t)))
  where
    go : (a b : Bool) → Shallow (if a then refused (refuse TooManyDefinitions p) chain else if b then refused (refuse TooFewWords p) chain else entered d t)
    go true b = h
    go false true = h
    go false false = omega arith
act_shallow words t chain net p (removing n) h = omega arith

events_shallow : (words : ℕ) (ms : List Moment) → All OpenCalls ms → All Shallow (events words ms)
unfolding All
events_shallow words [] x = tt
events_shallow words (m ∷ ms) x = (act_shallow words m.table m.chain m.net m.place m.act x.0.few, events_shallow words ms x.1)

-- RULES 12, request 4: at every refusal of a story, and wherever else it comes
pub story_shallow : (words : ℕ) (t : Table) (ds : List Deed) → All Shallow (map (held_to words) (story t ds))
story_shallow words t ds = rw (story-events words t ds) (events_shallow words (moments t ds) (moments_opened t ds))

-- and where a drawing is stopped
pub stop_shallow : (t : Table) (ds : List Deed) {words : ℕ} {c : Counts} {rule : Rule} {p : ℕ} {chain : Chain} → FirstStop words c (moments t ds) rule p chain → length chain ≤ deepest
stop_shallow t ds f =
    subst (λ (x : Chain). length x ≤ deepest) (sym f.chain_is) (all_at OpenCalls f.before f.it f.after (subst (All OpenCalls) f.parts (moments_opened t ds))).few
