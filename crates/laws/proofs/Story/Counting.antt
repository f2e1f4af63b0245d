-- The counts are those of the drawing: a drawing that finishes has counted its calls, its shapes and its redefinitions, each once.
-- Assumes nothing.
use Rattle.std.specs.Prelude.{if◌then◌else◌}
use mathlib.Core.Path.{◌≡◌, refl, sym, subst}
use mathlib.Core.Bool.{Bool, true, false}
use mathlib.Core.List.{List, [], ◌∷◌}
use Prim.Native.Nat.{ℕ, ◌+◌, ◌≤◌, ◌<◌}
use native.Mathlib.Omega.{arith}
use lib.ListN.{length}
use Rattle.definition.specs.declared.Refusal.{Refusal}
use Rattle.definition.specs.Limits.{most_calls, most_shapes}
use Rattle.definition.specs.declared.Rule.TheVariants.{TooManyCalls, TooManyShapes}
use Rattle.definition.specs.Rules.{refuse}
use Rattle.definition.specs.Words.{none?}
use Rattle.definition.specs.Table.{Definition, find}
use Rattle.definition.specs.Drawing.{Chain, Event, called, drew, entered, removed, refused}
use Rattle.definition.specs.Counts.{Counts, counts, End, finished, stopped, counted, go_on, ending, shapes_of}
use Rattle.laws.proofs.Story.Decides.{Decides, holds, fails, ltb_decides}

-- the definitions that calls found; those that replaced an entry
unfoldable pub calls_of : List Event → List Definition
calls_of [] = []
calls_of (called p chain d ∷ es) = d ∷ calls_of es
calls_of (drew d ∷ es) = calls_of es
calls_of (entered d before ∷ es) = calls_of es
calls_of (removed n before ∷ es) = calls_of es
calls_of (refused r chain ∷ es) = calls_of es

unfoldable pub redefinitions_of : List Event → List Definition
redefinitions_of [] = []
redefinitions_of (entered d before ∷ es) = if none? (find d.symbol before) then redefinitions_of es else d ∷ redefinitions_of es
redefinitions_of (called p chain d ∷ es) = redefinitions_of es
redefinitions_of (drew d ∷ es) = redefinitions_of es
redefinitions_of (removed n before ∷ es) = redefinitions_of es
redefinitions_of (refused r chain ∷ es) = redefinitions_of es

-- a drawing from the counts b on finishes with the counts c
pub record Counted (b : Counts) (es : List Event) (c : Counts) : Type 0 where
  pub calls_are : c.calls ≡ b.calls + length (calls_of es)
  pub shapes_are : c.shapes ≡ b.shapes + length (shapes_of es)
  pub redefinitions_are : c.redefinitions ≡ b.redefinitions + length (redefinitions_of es)
  pub calls-few : b.calls ≤ most_calls → c.calls ≤ most_calls
  pub shapes-few : b.shapes ≤ most_shapes → c.shapes ≤ most_shapes

zero_one : ◌≡◌ {A = ℕ} 0 1 → ⊥
zero_one y = omega arith

-- a drawing that finishes counts its first event, and goes on
first_counted : (c : Counts) (e : Event) (es : List Event) (last : Counts) → ending c (e ∷ es) ≡ finished last
    → (next : Counts) × (counted c e ≡ finished next) × (ending next es ≡ finished last)
unfolding ending go_on
first_counted c e es last h = go (counted c e) refl h
  where
    go : (x : End) → counted c e ≡ x → go_on x (λ c'. ending c' es) ≡ finished last
        → (next : Counts) × (counted c e ≡ finished next) × (ending next es ≡ finished last)
    go (finished next) q r = (next, q, r)
    go (stopped x chain) q r = let z : ◌≡◌ {A = ℕ} 0 1 = cc in absurd (zero_one z)

same_counts : (a b : Counts) → finished a ≡ finished b → a ≡ b
same_counts a b h = cc

pub not_finished : {r : Refusal} {chain : Chain} {c : Counts} → stopped r chain ≡ finished c → ⊥
not_finished h = let z : ◌≡◌ {A = ℕ} 0 1 = cc in zero_one z

counted_from : (a next : Counts) (es : List Event) (last : Counts) → finished a ≡ finished next → Counted next es last → Counted a es last
counted_from a next es last h k = subst (λ (x : Counts). Counted x es last) (sym (same_counts a next h)) k

-- one event more
more-counted : (c : Counts) (e : Event) (es : List Event) (next last : Counts) → counted c e ≡ finished next → Counted next es last → Counted c (e ∷ es) last
unfolding counted calls_of shapes_of redefinitions_of
more-counted c (called p chain d) es next last h k = go (ltb_decides c.calls most_calls) h
  where
    go : {b : Bool} → Decides (c.calls < most_calls) b
        → ◌≡◌ {A = End} (if b then finished (counts (c.calls + 1) c.shapes c.redefinitions) else stopped (refuse TooManyCalls p) chain) (finished next)
        → Counted c (called p chain d ∷ es) last
    go (holds l) q =
        let k' : Counted (counts (c.calls + 1) c.shapes c.redefinitions) es last = counted_from _ next es last q k in
        record {
          calls_are = omega arith;
          shapes_are = k'.shapes_are;
          redefinitions_are = k'.redefinitions_are;
          calls-few = λ b. k'.calls-few (omega arith);
          shapes-few = k'.shapes-few;
        }
    go (fails l) q = absurd (not_finished q)
more-counted c (drew d) es next last h k = go (ltb_decides c.shapes most_shapes) h
  where
    go : {b : Bool} → Decides (c.shapes < most_shapes) b
        → ◌≡◌ {A = End} (if b then finished (counts c.calls (c.shapes + 1) c.redefinitions) else stopped (refuse TooManyShapes d.place) d.chain) (finished next)
        → Counted c (drew d ∷ es) last
    go (holds l) q =
        let k' : Counted (counts c.calls (c.shapes + 1) c.redefinitions) es last = counted_from _ next es last q k in
        record {
          calls_are = k'.calls_are;
          shapes_are = omega arith;
          redefinitions_are = k'.redefinitions_are;
          calls-few = k'.calls-few;
          shapes-few = λ b. k'.shapes-few (omega arith);
        }
    go (fails l) q = absurd (not_finished q)
more-counted c (entered d before) es next last h k =
    let k' : Counted (counts c.calls c.shapes (if none? (find d.symbol before) then c.redefinitions else c.redefinitions + 1)) es last =
    counted_from _ next es last h k in
    record {
      calls_are = k'.calls_are;
      shapes_are = k'.shapes_are;
      redefinitions_are = go (none? (find d.symbol before)) k'.redefinitions_are;
      calls-few = k'.calls-few;
      shapes-few = k'.shapes-few;
    }
  where
    go : (b : Bool) → last.redefinitions ≡ (if b then c.redefinitions else c.redefinitions + 1) + length (redefinitions_of es)
        → last.redefinitions ≡ c.redefinitions + length (if b then redefinitions_of es else d ∷ redefinitions_of es)
    go true e = e
    go false e = omega arith
more-counted c (removed n before) es next last h k =
    let k' : Counted c es last = counted_from c next es last h k in
    record { calls_are = k'.calls_are; shapes_are = k'.shapes_are; redefinitions_are = k'.redefinitions_are; calls-few = k'.calls-few; shapes-few = k'.shapes-few }
more-counted c (refused r chain) es next last h k = absurd (not_finished h)

-- so the counts that a drawing finishes with are those of its calls, shapes and redefinitions
pub counted_all : (b : Counts) (es : List Event) (c : Counts) → ending b es ≡ finished c → Counted b es c
unfolding ending calls_of shapes_of redefinitions_of
counted_all b [] c h =
    subst (λ (x : Counts). Counted b [] x) (same_counts b c h)
    (record { calls_are = omega arith; shapes_are = omega arith; redefinitions_are = omega arith; calls-few = λ l. l; shapes-few = λ l. l })
counted_all b (e ∷ es) c h =
    let (next, one, rest) = first_counted b e es c h in
    more-counted b e es next c one (counted_all next es c rest)

pub drawing_counts : (es : List Event) (c : Counts) → ending (counts 0 0 0) es ≡ finished c → c ≡ counts (length (calls_of es)) (length (shapes_of es)) (length (redefinitions_of es))
drawing_counts es c h =
    let k = counted_all (counts 0 0 0) es c h in
    let calls : c.calls ≡ length (calls_of es) = omega (arith, k.calls_are) in
    let shapes : c.shapes ≡ length (shapes_of es) = omega (arith, k.shapes_are) in
    let redefinitions : c.redefinitions ≡ length (redefinitions_of es) = omega (arith, k.redefinitions_are) in
    λ i. counts (calls i) (shapes i) (redefinitions i)

-- and neither count is over 1,048,576
pub drawing_few : (es : List Event) (c : Counts) → ending (counts 0 0 0) es ≡ finished c → (c.calls ≤ most_calls) × (c.shapes ≤ most_shapes)
drawing_few es c h =
    let k = counted_all (counts 0 0 0) es c h in
    (k.calls-few (omega arith), k.shapes-few (omega arith))
