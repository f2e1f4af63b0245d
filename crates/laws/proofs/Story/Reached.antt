-- Wherever the drawing gets, its limits have been kept; so the rule that stops it is broken by just one: 513 live definitions, depth 33, call 1,048,577, shape 1,048,577.
-- Assumes nothing.
use Rattle.std.specs.Prelude.{if◌then◌else◌}
use mathlib.Core.Path.{◌≡◌, refl, sym, subst}
use mathlib.Core.Bool.{Bool, true, false}
use mathlib.Core.List.{List, [], ◌∷◌, ◌++◌}
use Prim.Native.Nat.{ℕ, suc, ◌+◌, ◌≤◌, ◌<◌}
use native.Mathlib.Omega.{arith}
use lib.Dec.{ltb, eqb}
use lib.IntN.{ℤ}
use lib.ListN.{length}
use Rattle.definition.specs.Limits.{most_definitions, deepest, most_calls, most_shapes}
use Rattle.definition.specs.declared.Rule.{Rule}
use Rattle.definition.specs.declared.Rule.TheVariants.{TooManyDefinitions}
use Rattle.definition.specs.Words.{those}
use Rattle.definition.specs.Commands.{Turn}
use Rattle.definition.specs.Table.{Definition, Table, enter, forget}
use Rattle.definition.specs.Drawing.{Deed, output, define, remove, Chain, table_after}
use Rattle.definition.specs.Counts.{Counts, counts, shapes_of}
use Rattle.laws.proofs.Lists.Range.{All, all_at}
use Rattle.laws.proofs.Story.Moments.{Act, entering, Moment, events, deed_moments, moments}
use Rattle.laws.proofs.Rules.DrawingRules.{Broken, live, few_words, off_axes_lem, undefined, being_drawn_lem, deep, many-calls, far_x, far_y, many-shapes, tallied, tally, Unbroken, FirstStop, unbroken_first, unbroken_rest, passed}
use Rattle.laws.proofs.Story.Counting.{calls_of, redefinitions_of, drawing_counts, drawing_few}
use Rattle.laws.proofs.Story.Depth.{OpenedAt, OpenCalls, open_deed, moments_opened}

-- a definition that is entered makes the table longer by one at most, and DD does not make it longer
enter-longer : (d : Definition) (t : Table) → length (enter d t) ≤ length t + 1
unfolding enter
enter-longer d [] = omega arith
enter-longer d (e ∷ t) = go (ltb d.symbol e.symbol) (eqb d.symbol e.symbol) (enter-longer d t)
  where
    go : (a b : Bool) → length (enter d t) ≤ length t + 1 → length (if a then d ∷ e ∷ t else if b then d ∷ t else e ∷ enter d t) ≤ suc (length t) + 1
    go true b h = omega arith
    go false true h = omega arith
    go false false h = omega arith

those_shorter : {A : Type 0} (f : A → Bool) (l : List A) → length (those f l) ≤ length l
unfolding those
those_shorter f [] = omega arith
those_shorter f (a ∷ l) = go (f a) (those_shorter f l)
  where
    go : (b : Bool) → length (those f l) ≤ length l → length (if b then a ∷ those f l else those f l) ≤ suc (length l)
    go true h = omega arith
    go false h = omega arith

forget_shorter : (n : ℕ) (t : Table) → length (forget n t) ≤ length t
unfolding forget
forget_shorter n t = those_shorter (λ d. ltb d.symbol n) t

-- rule 10 is kept at the moment
abbrev Kept : Moment → Type 0
Kept m = (d : Definition) → m.act ≡ entering d → length (enter d m.table) ≤ most_definitions

-- while rule 10 is kept, the table has at most 512 entries
unfoldable Small : List Moment → Type 0
Small [] = Unit {0}
Small (m ∷ ms) = (length m.table ≤ most_definitions) × (Kept m → Small ms)

small-++ : (t : Table) (a b : List Moment) → length t ≤ most_definitions → All (OpenedAt t) a → Small b → Small (a ++ b)
unfolding Small All
small-++ t [] b h x y = y
small-++ t (m ∷ a) b h x y = (subst (λ (u : Table). length u ≤ most_definitions) (sym x.0.table_is) h, λ kept. small-++ t a b h x.1 y)

small : (t : Table) (ds : List Deed) → length t ≤ most_definitions → Small (moments t ds)
unfolding moments table_after deed_moments Small
small t [] h = tt
small t (output s ∷ ds) h = small-++ t (deed_moments t (output s)) (moments t ds) h (open_deed t (output s)) (small t ds h)
small t (define d ∷ ds) h = (h, λ kept. small (enter d t) ds (kept d refl))
small t (remove n ∷ ds) h = (h, λ kept. small (forget n.what t) ds (omega (arith, forget_shorter n.what t)))

-- a moment that is reached, after moments that broke no rule
small_at : (words : ℕ) (c : Counts) (before : List Moment) (m : Moment) (after : List Moment) → Small (before ++ (m ∷ after)) → Unbroken words c before → length m.table ≤ most_definitions
unfolding Small
small_at words c [] m after x u = x.0
small_at words c (b ∷ before) m after x u = small_at words (tallied c b) before m after (x.1 kept) (unbroken_rest words c b before u)
  where
    kept : Kept b
    kept d e =
        let no_more : ¬ (most_definitions < length (enter d b.table)) =
        λ h. unbroken_first words c b before u TooManyDefinitions (subst (λ (a : Act). Broken words c b.table b.chain b.net a TooManyDefinitions) (sym e) (live h)) in
        omega arith

-- the counts where a moment is reached are the numbers of the calls, shapes and redefinitions that happened before
pub reached-counts : (words : ℕ) (before : List Moment) → Unbroken words (counts 0 0 0) before
    → tally (counts 0 0 0) before
    ≡ counts (length (calls_of (events words before))) (length (shapes_of (events words before))) (length (redefinitions_of (events words before)))
reached-counts words before u = drawing_counts (events words before) (tally (counts 0 0 0) before) (passed words (counts 0 0 0) before u)

pub record Bounded (c : Counts) (m : Moment) : Type 0 where
  pub calls-few : c.calls ≤ most_calls
  pub shapes-few : c.shapes ≤ most_shapes
  pub table-few : length m.table ≤ most_definitions
  pub opened : OpenCalls m

pub reached_bounded : (words : ℕ) (t : Table) (ds : List Deed) → length t ≤ most_definitions → (before : List Moment) (m : Moment) (after : List Moment)
    → moments t ds ≡ before ++ (m ∷ after) → Unbroken words (counts 0 0 0) before → Bounded (tally (counts 0 0 0) before) m
reached_bounded words t ds h before m after e u =
    let few = drawing_few (events words before) (tally (counts 0 0 0) before) (passed words (counts 0 0 0) before u) in
    record {
      calls-few = few.0;
      shapes-few = few.1;
      table-few = small_at words (counts 0 0 0) before m after (subst Small e (small t ds h)) u;
      opened = all_at OpenCalls before m after (subst (All OpenCalls) e (moments_opened t ds));
    }

-- a limit is broken by just one
unfoldable pub JustOver : {words : ℕ} {c : Counts} {t : Table} {chain : Chain} {net : List (Turn ℤ)} {a : Act} {rule : Rule} → Broken words c t chain net a rule → Type 0
JustOver {t} (live {d} x) = length (enter d t) ≡ most_definitions + 1
JustOver (few_words x) = Unit {0}
JustOver (off_axes_lem x) = Unit {0}
JustOver (undefined x) = Unit {0}
JustOver (being_drawn_lem x) = Unit {0}
JustOver {chain} (deep x) = length chain + 1 ≡ deepest + 1
JustOver {c} (many-calls x) = c.calls + 1 ≡ most_calls + 1
JustOver (far_x x) = Unit {0}
JustOver (far_y x) = Unit {0}
JustOver {c} (many-shapes x) = c.shapes + 1 ≡ most_shapes + 1

just_over : {words : ℕ} {c : Counts} {t : Table} {chain : Chain} {net : List (Turn ℤ)} {a : Act} {rule : Rule}
    → c.calls ≤ most_calls → c.shapes ≤ most_shapes → length t ≤ most_definitions → length chain ≤ deepest → (x : Broken words c t chain net a rule) → JustOver x
unfolding JustOver
just_over {t} f g h i (live {d} x) = omega (arith, enter-longer d t)
just_over f g h i (few_words x) = tt
just_over f g h i (off_axes_lem x) = tt
just_over f g h i (undefined x) = tt
just_over f g h i (being_drawn_lem x) = tt
just_over f g h i (deep x) = omega arith
just_over f g h i (many-calls x) = omega arith
just_over f g h i (far_x x) = tt
just_over f g h i (far_y x) = tt
just_over f g h i (many-shapes x) = omega arith

-- the drawing is stopped at 513 live definitions, at depth 33, at call 1,048,577, at shape 1,048,577
pub stops_just_over : (words : ℕ) (t : Table) (ds : List Deed) → length t ≤ most_definitions → {rule : Rule} {place : ℕ} {chain : Chain} (f : FirstStop words (counts 0 0 0) (moments t ds) rule place chain)
    → JustOver f.foremost.breaks
stops_just_over words t ds h f =
    let b = reached_bounded words t ds h f.before f.it f.after f.parts f.unbroken in
    just_over b.calls-few b.shapes-few b.table-few b.opened.few f.foremost.breaks
