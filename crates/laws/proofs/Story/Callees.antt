-- Which moments follow a call: one that keeps the rules 11 to 14 draws the body that it found, and one that breaks such a rule draws nothing.
-- It says what the moments are without the tests that the story makes.
-- Assumes nothing.
use Rattle.std.specs.Prelude.{if◌then◌else◌}
use mathlib.Core.Path.{◌≡◌, refl, ap}
use mathlib.Core.Bool.{Bool, true, false}
use mathlib.Core.List.{List, [], ◌∷◌, ◌++◌}
use mathlib.Core.Option.{Option, none, some}
use Prim.Native.Nat.{ℕ, suc, ◌-◌}
use native.Mathlib.Omega.{arith}
use lib.Dec.{eqb}
use lib.IntN.{ℤ}
use lib.ListN.{length}
use Rattle.definition.specs.Limits.{deepest}
use Rattle.definition.specs.Words.{at, any}
use Rattle.definition.specs.declared.Rule.{Rule}
use Rattle.definition.specs.declared.Rule.TheVariants.{OffTheAxes, UndefinedSymbol, BeingDrawn, TooDeep, TooManyCalls}
use Rattle.definition.specs.Commands.{Turn}
use Rattle.definition.specs.Turns.{off_axes}
use Rattle.definition.specs.Table.{Definition, Table, find}
use Rattle.definition.specs.Drawing.{Chain, Event, called, drew, entered, removed, refused, barred, leads, passage_to, passage_of}
use Rattle.definition.specs.Counts.{Counts, counts, End, finished, counted}
use Rattle.laws.proofs.Story.Moments.{calling, Moment, moment, call_event, event_of, event_at, followed, body_moments, call_moments}
use Rattle.laws.proofs.Rules.Order.{Earlier}
use Rattle.laws.proofs.Rules.DrawingRules.{Broken, off_axes_lem, undefined, being_drawn_lem, deep, many-calls, Breaks, tallied, Met, goes_on, stops, met}
use Rattle.laws.proofs.Story.Counting.{not_finished}
use Rattle.laws.proofs.Story.Depth.{made_unbroken}

-- the rules 11 to 14 do not count
uncounted : (words : ℕ) (a b : Counts) (t : Table) (chain : Chain) (net : List (Turn ℤ)) (n : ℕ) (ts : List (Turn ℤ)) (k : Rule) → Earlier k TooManyCalls
    → Broken words a t chain net (calling n ts) k → Broken words b t chain net (calling n ts) k
uncounted words a b t chain net n ts k h (off_axes_lem x) = off_axes_lem x
uncounted words a b t chain net n ts k h (undefined x) = undefined x
uncounted words a b t chain net n ts k h (being_drawn_lem x) = being_drawn_lem x
uncounted words a b t chain net n ts k h (deep x) = deep x
uncounted words a b t chain net n ts k h (many-calls x) = absurd (go h)
  where
    go : Earlier TooManyCalls TooManyCalls → ⊥
    go l = omega arith

kept_finishes : (words : ℕ) (c : Counts) (m : Moment) → ((k : Rule) → Breaks words c m k → ⊥) → counted c (event_at words m) ≡ finished (tallied c m)
kept_finishes words c m h = go (met words c m)
  where
    go : {e : End} → Met words c m e → e ≡ finished (tallied c m)
    go (goes_on x) = refl
    go (stops l) = absurd (h _ l.breaks)

-- a call whose event is no refusal is made
called_found : (left : ℕ) (chain : Chain) (n : ℕ) (ts : List (Turn ℤ)) (found : Option Definition) (p : ℕ) (d : Definition) (x : Counts) → found ≡ some d
    → counted (counts 0 0 0) (call_event (if off_axes ts then barred OffTheAxes else passage_to found left chain n) p chain) ≡ finished x
    → call_event (if off_axes ts then barred OffTheAxes else passage_to found left chain n) p chain ≡ called p chain d
unfolding call_event counted passage_to
called_found left chain n ts none p d x e h = absurd (nothing e)
  where
    nothing : ◌≡◌ {A = Option Definition} none (some d) → ⊥
    nothing z = let y : ◌≡◌ {A = ℕ} 0 1 = cc in omega arith
called_found left chain n ts (some f) p d x e h = go (off_axes ts) (any (λ c. eqb c.what n) chain) (eqb left 0) h
  where
    way : (a b c : Bool) → Event
    way a b c = call_event (if a then barred OffTheAxes else if b then barred BeingDrawn else if c then barred TooDeep else leads f) p chain

    go : (a b c : Bool) → counted (counts 0 0 0) (way a b c) ≡ finished x → way a b c ≡ called p chain d
    go true b c h = absurd (not_finished h)
    go false true c h = absurd (not_finished h)
    go false false true h = absurd (not_finished h)
    go false false false h = ap (λ (g : Definition). called p chain g) (cc)

none_follow : (e : Event) (go : Definition → List Moment) → ((q : ℕ) (chain : Chain) (d : Definition) → e ≡ called q chain d → ⊥) → followed e go ≡ []
unfolding followed
none_follow (called p chain d) go h = absurd (h p chain d refl)
none_follow (drew d) go h = refl
none_follow (entered d before) go h = refl
none_follow (removed n before) go h = refl
none_follow (refused r chain) go h = refl

module _ (words : ℕ) (c : Counts) (left : ℕ) (t : Table) (chain : Chain) (net : List (Turn ℤ)) (p n : ℕ) (ts : List (Turn ℤ)) where
  abbrev it : Moment
  it = moment t chain net p (calling n ts)

  call-made : (d : Definition) → find n t ≡ some d → ((k : Rule) → Earlier k TooManyCalls → Breaks words c it k → ⊥) → event_at words it ≡ called p chain d
  unfolding event_of passage_of
  call-made d e h =
      called_found (deepest - length chain) chain n ts (find n t) p d (tallied (counts 0 0 0) it) e (kept_finishes words (counts 0 0 0) it kept)
    where
      kept : (k : Rule) → Broken words (counts 0 0 0) t chain net (calling n ts) k → ⊥
      kept k (off_axes_lem x) = h OffTheAxes (omega arith) (off_axes_lem x)
      kept k (undefined x) = h UndefinedSymbol (omega arith) (undefined x)
      kept k (being_drawn_lem x) = h BeingDrawn (omega arith) (being_drawn_lem x)
      kept k (deep x) = h TooDeep (omega arith) (deep x)
      kept k (many-calls x) = omega arith

  pub call-draws-body : (d : Definition) → find n t ≡ some d → ((k : Rule) → Earlier k TooManyCalls → Breaks words c it k → ⊥)
      → call_moments (suc left) t chain net p n ts
      ≡ it ∷ body_moments (call_moments left t (chain ++ (at p n ∷ [])) (ts ++ net)) t (chain ++ (at p n ∷ [])) (ts ++ net) d.body
  unfolding call_moments followed event_of
  call-draws-body d e h = rw (call-made d e h)

  pub call-draws-nothing : (k : Rule) → Earlier k TooManyCalls → Breaks words c it k → call_moments (suc left) t chain net p n ts ≡ it ∷ []
  unfolding call_moments event_of
  call-draws-nothing k h x =
      ap (λ (ms : List Moment). it ∷ ms)
      (none_follow (event_at words it) _ (λ q ch d e. made_unbroken words it q ch d e k (uncounted words c (counts 0 0 0) t chain net n ts k h x)))
