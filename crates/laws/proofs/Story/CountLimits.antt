-- The limits of refusals 15 and 17 from both sides, for drawings that are too long to compute: a list of events without a refusal is finished up to
-- 1,048,576 calls and shapes, and stopped at the call or shape after that.
-- Assumes nothing.
use Rattle.std.specs.Prelude.{if◌then◌else◌}
use mathlib.Core.Path.{◌≡◌, refl, ap, ◌∙◌}
use mathlib.Core.List.{List, [], ◌∷◌, ◌++◌}
use Prim.Native.Nat.{ℕ, ◌+◌, ◌≤◌}
use native.Mathlib.Omega.{arith}
use lib.ListN.{length}
use Rattle.definition.specs.declared.Refusal.{Refusal}
use Rattle.definition.specs.Limits.{most_calls, most_shapes}
use Rattle.definition.specs.declared.Rule.TheVariants.{TooManyCalls, TooManyShapes}
use Rattle.definition.specs.Rules.{refuse}
use Rattle.definition.specs.Words.{Placed, none?}
use Rattle.definition.specs.Table.{Definition, Table, find}
use Rattle.definition.specs.Drawing.{Chain, Drawn, Event, called, drew, entered, removed, refused}
use Rattle.definition.specs.Counts.{Counts, counts, End, finished, stopped, counted, go_on, ending, shapes_of}
use Rattle.laws.proofs.Lists.Range.{All}
use Rattle.laws.proofs.Lists.Joined.{ending-++}
use Rattle.laws.proofs.Story.Counting.{calls_of, redefinitions_of, drawing_counts}
use Rattle.definition.proofs.Limits.{calls-reached, calls-passed, shapes-reached, shapes-passed}

-- no refusal of another rule
unfoldable pub Allowed : Event → Type 0
Allowed (called p chain d) = Unit {0}
Allowed (drew d) = Unit {0}
Allowed (entered d before) = Unit {0}
Allowed (removed n before) = Unit {0}
Allowed (refused r chain) = ⊥

entered-counted : (c : Counts) (d : Definition) (before : Table)
    → counted c (entered d before) ≡ finished (counts c.calls c.shapes (if none? (find d.symbol before) then c.redefinitions else c.redefinitions + 1))
unfolding counted
entered-counted c d before = refl

removed-counted : (c : Counts) (n : Placed ℕ) (before : Table) → counted c (removed n before) ≡ finished c
unfolding counted
removed-counted c n before = refl

finishes_from : (c : Counts) (es : List Event) → All Allowed es → c.calls + length (calls_of es) ≤ most_calls → c.shapes + length (shapes_of es) ≤ most_shapes
    → (last : Counts) × (ending c es ≡ finished last)
unfolding All Allowed ending go_on calls_of shapes_of
finishes_from c [] x a b = (c, refl)
finishes_from c (called p chain d ∷ es) x a b =
    rw (calls-reached c p chain d (omega arith)) (finishes_from (counts (c.calls + 1) c.shapes c.redefinitions) es x.1 (omega arith) b)
finishes_from c (drew d ∷ es) x a b =
    rw (shapes-reached c d (omega arith)) (finishes_from (counts c.calls (c.shapes + 1) c.redefinitions) es x.1 a (omega arith))
finishes_from c (entered d before ∷ es) x a b =
    rw (entered-counted c d before)
    (finishes_from (counts c.calls c.shapes (if none? (find d.symbol before) then c.redefinitions else c.redefinitions + 1)) es x.1 a b)
finishes_from c (removed n before ∷ es) x a b = rw (removed-counted c n before) (finishes_from c es x.1 a b)
finishes_from c (refused r chain ∷ es) x a b = absurd x.0

-- up to the limits a drawing finishes, with its counts
pub finishes : (es : List Event) → All Allowed es → length (calls_of es) ≤ most_calls → length (shapes_of es) ≤ most_shapes
    → ending (counts 0 0 0) es ≡ finished (counts (length (calls_of es)) (length (shapes_of es)) (length (redefinitions_of es)))
finishes es x a b =
    let (last, e) = finishes_from (counts 0 0 0) es x (omega arith) (omega arith) in
    e ∙ ap finished (drawing_counts es last e)

-- and the event that comes then ends it, where it is refused at those counts
stops_then : (before : List Event) (e : Event) (after : List Event) (r : Refusal) (chain : Chain) → All Allowed before
    → length (calls_of before) ≤ most_calls → length (shapes_of before) ≤ most_shapes
    → counted (counts (length (calls_of before)) (length (shapes_of before)) (length (redefinitions_of before))) e ≡ stopped r chain
    → ending (counts 0 0 0) (before ++ (e ∷ after)) ≡ stopped r chain
unfolding ending go_on
stops_then before e after r chain x a b h =
    ending-++ (counts 0 0 0) before (e ∷ after) ∙ ap (λ (y : End). go_on y (λ c. ending c (e ∷ after))) (finishes before x a b)
    ∙ ap (λ (y : End). go_on y (λ c. ending c after)) h

pub call-1048577 : (before : List Event) (p : ℕ) (chain : Chain) (d : Definition) (after : List Event) → All Allowed before
    → length (calls_of before) ≡ most_calls → length (shapes_of before) ≤ most_shapes → ending (counts 0 0 0) (before ++ (called p chain d ∷ after)) ≡ stopped (refuse TooManyCalls p) chain
call-1048577 before p chain d after x a b =
    stops_then before (called p chain d) after (refuse TooManyCalls p) chain x (omega arith) b (calls-passed _ p chain d (omega arith))

pub shape-1048577 : (before : List Event) (d : Drawn) (after : List Event) → All Allowed before
    → length (calls_of before) ≤ most_calls → length (shapes_of before) ≡ most_shapes → ending (counts 0 0 0) (before ++ (drew d ∷ after)) ≡ stopped (refuse TooManyShapes d.place) d.chain
shape-1048577 before d after x a b =
    stops_then before (drew d) after (refuse TooManyShapes d.place) d.chain x a (omega arith) (shapes-passed _ d (omega arith))
