-- The refusals 10 to 17, 20 and 25 as RULES 12 has them, in plain facts, and the theorem that they are the refusals of the drawing: it is stopped with a number and a place
-- exactly where the first moment stands that breaks a rule, by the first rule of the order that it breaks; and it finishes exactly when no moment breaks any.
-- Assumes nothing.
use Rattle.std.specs.Prelude.{if◌then◌else◌}
use mathlib.Core.Path.{◌≡◌, refl, sym, ap, ap₂, ◌∙◌, subst}
use mathlib.Core.Bool.{Bool}
use mathlib.Core.List.{List, [], ◌∷◌, ◌++◌, map, nil≢cons, head-eq_of_cons-eq, tail-eq_of_cons-eq}
use mathlib.Core.Logic.{◌↔◌}
use mathlib.Core.Option.{Option, none, some}
use Prim.Native.Nat.{ℕ, suc, ◌+◌, ◌-◌, ◌<◌}
use native.Mathlib.Omega.{arith}
use lib.IntN.{ℤ}
use lib.ListN.{length}
use Rattle.definition.specs.declared.Refusal.{Refusal}
use Rattle.definition.specs.Limits.{most_definitions, deepest, most_calls, most_shapes}
use Rattle.definition.specs.Words.{none?}
use Rattle.definition.specs.declared.Rule.{Rule}
use Rattle.definition.specs.declared.Rule.TheVariants.{TooManyDefinitions, TooFewWords, OffTheAxes, UndefinedSymbol, BeingDrawn, TooDeep, TooManyCalls, XOutOfRange, YOutOfRange, TooManyShapes}
use Rattle.definition.specs.Rules.{refuse}
use Rattle.definition.specs.Commands.{Shape, Turn}
use Rattle.definition.specs.Turns.{moved}
use Rattle.definition.specs.Table.{Definition, Table, find, enter}
use Rattle.definition.specs.Drawing.{Deed, Chain, drew, entered, refused, barred, leads, passage_to, passage_of, drawn_shape, story}
use Rattle.definition.specs.Held.{words_in, held_to}
use Rattle.definition.specs.Counts.{Counts, counts, End, finished, stopped, counted, go_on, ending}
use Rattle.laws.proofs.Lists.Joined.{ending-++}
use Rattle.laws.proofs.Rules.Order.{rank, Earlier, one_rank, one_rule}
use Rattle.laws.proofs.Story.Moments.{Act, calling, drawing, entering, removing, Moment, moment, call_event, event_of, event_at, events, events-++, moments, story-events}
use Rattle.laws.proofs.Story.Decides.{Decides, holds, fails, Among, Askew, Defined, IsBeingDrawn, FinallyBeyondX, FinallyBeyondY}
use Rattle.laws.proofs.Story.Decides.{off_axes_decides, undefined_decides, being_drawn_decides, depth_decides, ltb_decides, final_x_decides, final_y_decides}

-- RULES 12, the rows 10 to 17, 20 and 25: what an act breaks where so many words are lent, the counts are c, the table t, the
-- open calls `chain` and their transformations `net`
pub data Broken (words : ℕ) (c : Counts) (t : Table) (chain : Chain) (net : List (Turn ℤ)) : Act → Rule → Type 0 where
  -- 513 live definitions
  live : {d : Definition} → most_definitions < length (enter d t) → Broken words c t chain net (entering d) TooManyDefinitions
  -- the live bodies need more words than were lent
  few_words : {d : Definition} → words < words_in (enter d t) → Broken words c t chain net (entering d) TooFewWords
  -- drawn call with an R off the axes
  off_axes_lem : {n : ℕ} {ts : List (Turn ℤ)} → Among Askew ts → Broken words c t chain net (calling n ts) OffTheAxes
  -- drawn call of an undefined symbol
  undefined : {n : ℕ} {ts : List (Turn ℤ)} → (Defined t n → ⊥) → Broken words c t chain net (calling n ts) UndefinedSymbol
  -- drawn call of a symbol already being drawn
  being_drawn_lem : {n : ℕ} {ts : List (Turn ℤ)} → IsBeingDrawn chain n → Broken words c t chain net (calling n ts) BeingDrawn
  -- depth 33: an executable call has depth 1
  deep : {n : ℕ} {ts : List (Turn ℤ)} → deepest < length chain + 1 → Broken words c t chain net (calling n ts) TooDeep
  -- call 1,048,577
  many-calls : {n : ℕ} {ts : List (Turn ℤ)} → most_calls < c.calls + 1 → Broken words c t chain net (calling n ts) TooManyCalls
  -- a final point whose x is beyond 16,777,215
  far_x : {l : List ℕ} {k : Shape ℤ} → FinallyBeyondX net k → Broken words c t chain net (drawing l k) XOutOfRange
  -- a final point whose y is; that 16 comes before it the order says
  far_y : {l : List ℕ} {k : Shape ℤ} → FinallyBeyondY net k → Broken words c t chain net (drawing l k) YOutOfRange
  -- shape 1,048,577
  many-shapes : {l : List ℕ} {k : Shape ℤ} → most_shapes < c.shapes + 1 → Broken words c t chain net (drawing l k) TooManyShapes

abbrev pub Breaks : (words : ℕ) → Counts → Moment → Rule → Type 0
Breaks words c m r = Broken words c m.table m.chain m.net m.act r

-- RULES 8: every call drawn, at any depth, counts as one call; so does every shape as one shape; an entry that is replaced counts as one redefinition
unfoldable pub tally_of : Counts → Table → Act → Counts
tally_of c t (calling n ts) = counts (c.calls + 1) c.shapes c.redefinitions
tally_of c t (drawing l k) = counts c.calls (c.shapes + 1) c.redefinitions
tally_of c t (entering d) = counts c.calls c.shapes (if none? (find d.symbol t) then c.redefinitions else c.redefinitions + 1)
tally_of c t (removing n) = c

abbrev pub tallied : Counts → Moment → Counts
tallied c m = tally_of c m.table m.act

unfoldable pub tally : Counts → List Moment → Counts
tally c [] = c
tally c (m ∷ ms) = tally (tallied c m) ms

-- no moment breaks a rule where it stands
abbrev pub Unbroken : (words : ℕ) → Counts → List Moment → Type 0
Unbroken words c ms =
    (before : List Moment) (m : Moment) (after : List Moment) → ms ≡ before ++ (m ∷ after) → (r : Rule) → Breaks words (tally c before) m r → ⊥

-- the rule is the first in the order that the moment breaks: RULES 12, "at one command by number"
pub record Foremost (words : ℕ) (c : Counts) (m : Moment) (r : Rule) : Type 0 where
  pub breaks : Breaks words c m r
  pub none_earlier : (k : Rule) → Earlier k r → Breaks words c m k → ⊥

-- RULES 12, "in the order of drawing": the first moment that breaks a rule
pub record FirstStop (words : ℕ) (c : Counts) (ms : List Moment) (rule : Rule) (place : ℕ) (chain : Chain) : Type 0 where
  pub before : List Moment
  pub it : Moment
  pub after : List Moment
  pub parts : ms ≡ before ++ (it ∷ after)
  pub unbroken : Unbroken words c before
  pub foremost : Foremost words (tally c before) it rule
  pub place_is : place ≡ it.place
  pub chain_is : chain ≡ it.chain

-- ---- one moment

-- what a moment comes to, counted
pub data Met (words : ℕ) (c : Counts) (m : Moment) : End → Type 0 where
  goes_on : ((k : Rule) → Breaks words c m k → ⊥) → Met words c m (finished (tallied c m))
  stops : {r : Rule} → Foremost words c m r → Met words c m (stopped (refuse r m.place) m.chain)

module _ (words : ℕ) (c : Counts) (t : Table) (chain : Chain) (net : List (Turn ℤ)) (p : ℕ) where
  -- a call breaks no rule below a rank where the facts of those rules fail; so a shape, and a definition
  call-rule : (n : ℕ) (ts : List (Turn ℤ)) (top : ℕ) → (rank OffTheAxes < top → Among Askew ts → ⊥)
      → (rank UndefinedSymbol < top → (Defined t n → ⊥) → ⊥) → (rank BeingDrawn < top → IsBeingDrawn chain n → ⊥)
      → (rank TooDeep < top → deepest < length chain + 1 → ⊥) → (rank TooManyCalls < top → most_calls < c.calls + 1 → ⊥)
      → (k : Rule) → rank k < top → Broken words c t chain net (calling n ts) k → ⊥
  call-rule n ts top a b d e f k h (off_axes_lem x) = a h x
  call-rule n ts top a b d e f k h (undefined x) = b h x
  call-rule n ts top a b d e f k h (being_drawn_lem x) = d h x
  call-rule n ts top a b d e f k h (deep x) = e h x
  call-rule n ts top a b d e f k h (many-calls x) = f h x

  module _ (n : ℕ) (ts : List (Turn ℤ)) where
    abbrev itself : Moment
    itself = moment t chain net p (calling n ts)

    -- a call that breaks no rule from 11 to 14
    made : {b : Bool} → (Among Askew ts → ⊥) → ((Defined t n → ⊥) → ⊥) → (IsBeingDrawn chain n → ⊥)
        → (deepest < length chain + 1 → ⊥) → Decides (c.calls < most_calls) b
        → Met words c itself (if b then finished (counts (c.calls + 1) c.shapes c.redefinitions) else stopped (refuse TooManyCalls p) chain)
    unfolding tally_of
    made x y z u (holds v) = goes_on (λ k. call-rule n ts (suc (rank k)) (λ h. x) (λ h. y) (λ h. z) (λ h. u) (omega arith) k (omega arith))
    made x y z u (fails v) =
        let many : most_calls < c.calls + 1 = omega arith in
        stops (record { breaks = many-calls many; none_earlier = call-rule n ts (rank TooManyCalls) (λ h. x) (λ h. y) (λ h. z) (λ h. u) (omega arith) })

    call_met : Met words c itself (counted c (event_of words t chain net p (calling n ts)))
    unfolding event_of passage_of passage_to call_event counted
    call_met = go (off_axes_decides ts) (find n t) (undefined_decides n t)
      where
        found_met : {a b : Bool} → (Among Askew ts → ⊥) → ((Defined t n → ⊥) → ⊥) → (d : Definition) → Decides (IsBeingDrawn chain n) a
            → Decides (deepest < length chain + 1) b
            → Met words c itself (counted c (call_event (if a then barred BeingDrawn else if b then barred TooDeep else leads d) p chain))
        found_met x y d (holds z) u =
            stops (record { breaks = being_drawn_lem z; none_earlier = call-rule n ts (rank BeingDrawn) (λ h. x) (λ h. y) (omega arith) (omega arith) (omega arith) })
        found_met x y d (fails z) (holds u) =
            stops (record { breaks = deep u; none_earlier = call-rule n ts (rank TooDeep) (λ h. x) (λ h. y) (λ h. z) (omega arith) (omega arith) })
        found_met x y d (fails z) (fails u) = made x y z u (ltb_decides c.calls most_calls)

        go : {a : Bool} → Decides (Among Askew ts) a → (found : Option Definition) → Decides (Defined t n → ⊥) (none? found)
            → Met words c itself (counted c (call_event (if a then barred OffTheAxes else passage_to found (deepest - length chain) chain n) p chain))
        go (holds x) found y =
            stops (record { breaks = off_axes_lem x; none_earlier = call-rule n ts (rank OffTheAxes) (omega arith) (omega arith) (omega arith) (omega arith) (omega arith) })
        go (fails x) none (holds y) =
            stops (record { breaks = undefined y; none_earlier = call-rule n ts (rank UndefinedSymbol) (λ h. x) (omega arith) (omega arith) (omega arith) (omega arith) })
        go (fails x) (some d) (fails y) = found_met x y d (being_drawn_decides n chain) (depth_decides (length chain))

  module _ (l : List ℕ) (k : Shape ℤ) where
    shape-rule : (top : ℕ) → (rank XOutOfRange < top → FinallyBeyondX net k → ⊥) → (rank YOutOfRange < top → FinallyBeyondY net k → ⊥)
        → (rank TooManyShapes < top → most_shapes < c.shapes + 1 → ⊥) → (i : Rule) → rank i < top → Broken words c t chain net (drawing l k) i → ⊥
    shape-rule top a b d i h (far_x x) = a h x
    shape-rule top a b d i h (far_y x) = b h x
    shape-rule top a b d i h (many-shapes x) = d h x

    inside : {b : Bool} → (FinallyBeyondX net k → ⊥) → (FinallyBeyondY net k → ⊥) → Decides (c.shapes < most_shapes) b
        → Met words c (moment t chain net p (drawing l k)) (if b then finished (counts c.calls (c.shapes + 1) c.redefinitions) else stopped (refuse TooManyShapes p) chain)
    unfolding tally_of
    inside x y (holds z) = goes_on (λ i. shape-rule (suc (rank i)) (λ h. x) (λ h. y) (omega arith) i (omega arith))
    inside x y (fails z) =
        let many : most_shapes < c.shapes + 1 = omega arith in
        stops (record { breaks = many-shapes many; none_earlier = shape-rule (rank TooManyShapes) (λ h. x) (λ h. y) (omega arith) })

    shape_met : Met words c (moment t chain net p (drawing l k)) (counted c (event_of words t chain net p (drawing l k)))
    unfolding event_of drawn_shape counted
    shape_met = go (final_x_decides net k) (final_y_decides net k)
      where
        go : {a b : Bool} → Decides (FinallyBeyondX net k) a → Decides (FinallyBeyondY net k) b
            → Met words c (moment t chain net p (drawing l k))
            (counted c (if a then refused (refuse XOutOfRange p) chain else if b then refused (refuse YOutOfRange p) chain
            else drew (record { place = p; chain = chain; net = net; layer_of = l; itself = moved net k })))
        go (holds x) y = stops (record { breaks = far_x x; none_earlier = shape-rule (rank XOutOfRange) (omega arith) (omega arith) (omega arith) })
        go (fails x) (holds y) = stops (record { breaks = far_y y; none_earlier = shape-rule (rank YOutOfRange) (λ h. x) (omega arith) (omega arith) })
        go (fails x) (fails y) = inside x y (ltb_decides c.shapes most_shapes)

  enter-rule : (d : Definition) (top : ℕ) → (rank TooManyDefinitions < top → most_definitions < length (enter d t) → ⊥)
      → (rank TooFewWords < top → words < words_in (enter d t) → ⊥) → (k : Rule) → rank k < top → Broken words c t chain net (entering d) k → ⊥
  enter-rule d top a b k h (live x) = a h x
  enter-rule d top a b k h (few_words x) = b h x

  enter_met : (d : Definition) → Met words c (moment t chain net p (entering d)) (counted c (event_of words t chain net p (entering d)))
  unfolding event_of counted tally_of
  enter_met d = go (ltb_decides most_definitions (length (enter d t))) (ltb_decides words (words_in (enter d t)))
    where
      go : {a b : Bool} → Decides (most_definitions < length (enter d t)) a → Decides (words < words_in (enter d t)) b
          → Met words c (moment t chain net p (entering d))
          (counted c (if a then refused (refuse TooManyDefinitions p) chain else if b then refused (refuse TooFewWords p) chain else entered d t))
      go (holds x) y = stops (record { breaks = live x; none_earlier = enter-rule d (rank TooManyDefinitions) (omega arith) (omega arith) })
      go (fails x) (holds y) = stops (record { breaks = few_words y; none_earlier = enter-rule d (rank TooFewWords) (λ h. x) (omega arith) })
      go (fails x) (fails y) = goes_on (λ k. enter-rule d (suc (rank k)) (λ h. x) (λ h. y) k (omega arith))

  remove_met : (n : ℕ) → Met words c (moment t chain net p (removing n)) (counted c (event_of words t chain net p (removing n)))
  unfolding event_of counted tally_of
  remove_met n = goes_on (λ k. elim [ ])

  act_met : (a : Act) → Met words c (moment t chain net p a) (counted c (event_of words t chain net p a))
  act_met (calling n ts) = call_met n ts
  act_met (drawing l k) = shape_met l k
  act_met (entering d) = enter_met d
  act_met (removing n) = remove_met n

pub met : (words : ℕ) (c : Counts) (m : Moment) → Met words c m (counted c (event_at words m))
met words c m = act_met words c m.table m.chain m.net m.place m.act

-- 16 and 20: only a shape breaks them; 16 is of one with some x beyond the range, whatever else it breaks, and 20 of one whose x are all good and some y is not
pub record ShapeFar (Far : List (Turn ℤ) → Shape ℤ → Type 0) (m : Moment) : Type 0 where
  pub layer : List ℕ
  pub itself : Shape ℤ
  pub is : m.act ≡ drawing layer itself
  pub far : Far m.net itself

abbrev pub FarInX : List (Turn ℤ) → Shape ℤ → Type 0
FarInX net k = FinallyBeyondX net k

abbrev pub FarInY : List (Turn ℤ) → Shape ℤ → Type 0
FarInY net k = (FinallyBeyondX net k → ⊥) × FinallyBeyondY net k

module _ {words : ℕ} {c : Counts} where
  pub x-foremost : {t : Table} {chain : Chain} {net : List (Turn ℤ)} {p : ℕ} {l : List ℕ} {k : Shape ℤ} → FarInX net k
      → Foremost words c (moment t chain net p (drawing l k)) XOutOfRange
  x-foremost {t} {chain} {net} {p} {l} {k} x =
      record { breaks = far_x x; none_earlier = shape-rule words c t chain net p l k (rank XOutOfRange) (omega arith) (omega arith) (omega arith) }

  pub y-foremost : {t : Table} {chain : Chain} {net : List (Turn ℤ)} {p : ℕ} {l : List ℕ} {k : Shape ℤ} → FarInY net k
      → Foremost words c (moment t chain net p (drawing l k)) YOutOfRange
  y-foremost {t} {chain} {net} {p} {l} {k} y =
      record { breaks = far_y y.1; none_earlier = shape-rule words c t chain net p l k (rank YOutOfRange) (λ h. y.0) (omega arith) (omega arith) }

  -- a rule that a call or a definition breaks is neither
  x_broken : {t : Table} {chain : Chain} {net : List (Turn ℤ)} {p : ℕ} {a : Act} {r : Rule} → Broken words c t chain net a r → r ≡ XOutOfRange → ShapeFar FarInX (moment t chain net p a)
  x_broken (live x) e = absurd (omega (arith, ap rank e))
  x_broken (few_words x) e = absurd (omega (arith, ap rank e))
  x_broken (off_axes_lem x) e = absurd (omega (arith, ap rank e))
  x_broken (undefined x) e = absurd (omega (arith, ap rank e))
  x_broken (being_drawn_lem x) e = absurd (omega (arith, ap rank e))
  x_broken (deep x) e = absurd (omega (arith, ap rank e))
  x_broken (many-calls x) e = absurd (omega (arith, ap rank e))
  x_broken (far_x {l} {k} x) e = record { layer = l; itself = k; is = refl; far = x }
  x_broken (far_y x) e = absurd (omega (arith, ap rank e))
  x_broken (many-shapes x) e = absurd (omega (arith, ap rank e))

  y_broken : {t : Table} {chain : Chain} {net : List (Turn ℤ)} {p : ℕ} {a : Act} {r : Rule} → Broken words c t chain net a r → r ≡ YOutOfRange
      → (Broken words c t chain net a XOutOfRange → ⊥) → ShapeFar FarInY (moment t chain net p a)
  y_broken (live x) e g = absurd (omega (arith, ap rank e))
  y_broken (few_words x) e g = absurd (omega (arith, ap rank e))
  y_broken (off_axes_lem x) e g = absurd (omega (arith, ap rank e))
  y_broken (undefined x) e g = absurd (omega (arith, ap rank e))
  y_broken (being_drawn_lem x) e g = absurd (omega (arith, ap rank e))
  y_broken (deep x) e g = absurd (omega (arith, ap rank e))
  y_broken (many-calls x) e g = absurd (omega (arith, ap rank e))
  y_broken (far_x x) e g = absurd (omega (arith, ap rank e))
  y_broken (far_y {l} {k} y) e g = record { layer = l; itself = k; is = refl; far = (λ x. g (far_x x), y) }
  y_broken (many-shapes x) e g = absurd (omega (arith, ap rank e))

  pub x_only : {m : Moment} → Foremost words c m XOutOfRange → ShapeFar FarInX m
  x_only {m} f = x_broken {p = m.place} f.breaks refl

  pub y_only : {m : Moment} → Foremost words c m YOutOfRange → ShapeFar FarInY m
  y_only {m} f = y_broken {p = m.place} f.breaks refl (f.none_earlier XOutOfRange (omega arith))

-- ---- a list of moments

unbroken_none : (words : ℕ) (c : Counts) → Unbroken words c []
unbroken_none words c [] m after e = absurd (nil≢cons e)
unbroken_none words c (b ∷ before) m after e = absurd (nil≢cons e)

unbroken_more : (words : ℕ) (c : Counts) (m : Moment) (ms : List Moment) → ((k : Rule) → Breaks words c m k → ⊥) → Unbroken words (tallied c m) ms → Unbroken words c (m ∷ ms)
unfolding tally
unbroken_more words c m ms h u [] m' after e k x = h k (subst (λ (i : Moment). Breaks words c i k) (sym (head-eq_of_cons-eq e)) x)
unbroken_more words c m ms h u (b ∷ before) m' after e k x =
    u before m' after (tail-eq_of_cons-eq e) k (subst (λ (i : Moment). Breaks words (tally (tallied c i) before) m' k) (sym (head-eq_of_cons-eq e)) x)

pub unbroken_first : (words : ℕ) (c : Counts) (m : Moment) (ms : List Moment) → Unbroken words c (m ∷ ms) → (k : Rule) → Breaks words c m k → ⊥
unfolding tally
unbroken_first words c m ms u = u [] m ms refl

pub unbroken_rest : (words : ℕ) (c : Counts) (m : Moment) (ms : List Moment) → Unbroken words c (m ∷ ms) → Unbroken words (tallied c m) ms
unfolding tally
unbroken_rest words c m ms u before m' after e = u (m ∷ before) m' after (ap (λ (x : List Moment). m ∷ x) e)

-- what an end says of the moments
unfoldable pub Ends : (words : ℕ) → Counts → List Moment → End → Type 0
Ends words c ms (finished d) = Unbroken words c ms × (d ≡ tally c ms)
Ends words c ms (stopped r chain) = (rule : Rule) × (r ≡ refuse rule r.place) × FirstStop words c ms rule r.place chain

ends_more : (words : ℕ) (c : Counts) (m : Moment) (ms : List Moment) (e : End) → ((k : Rule) → Breaks words c m k → ⊥) → Ends words (tallied c m) ms e → Ends words c (m ∷ ms) e
unfolding Ends tally
ends_more words c m ms (finished d) h x = (unbroken_more words c m ms h x.0, x.1)
ends_more words c m ms (stopped r chain) h (rule, e, x) = (
  rule,
  e,
  record {
    before = m ∷ x.before;
    it = x.it;
    after = x.after;
    parts = ap (λ (l : List Moment). m ∷ l) x.parts;
    unbroken = unbroken_more words c m x.before h x.unbroken;
    foremost = x.foremost;
    place_is = x.place_is;
    chain_is = x.chain_is;
  },
)

ends : (words : ℕ) (c : Counts) (ms : List Moment) → Ends words c ms (ending c (events words ms))
unfolding Ends ending go_on tally
ends words c [] = (unbroken_none words c, refl)
ends words c (m ∷ ms) = go (met words c m) (ends words (tallied c m) ms)
  where
    go : {e : End} → Met words c m e → Ends words (tallied c m) ms (ending (tallied c m) (events words ms)) → Ends words c (m ∷ ms) (go_on e (λ c'. ending c' (events words ms)))
    go (goes_on h) x = ends_more words c m ms (ending (tallied c m) (events words ms)) h x
    go (stops {r} l) x = (
      r,
      refl,
      record { before = []; it = m; after = ms; parts = refl; unbroken = unbroken_none words c; foremost = l; place_is = refl; chain_is = refl },
    )

-- moments that break no rule are passed, and the counts are the tally
pub passed : (words : ℕ) (c : Counts) (ms : List Moment) → Unbroken words c ms → ending c (events words ms) ≡ finished (tally c ms)
unfolding ending go_on tally
passed words c [] u = refl
passed words c (m ∷ ms) u = go (met words c m) (passed words (tallied c m) ms (unbroken_rest words c m ms u))
  where
    go : {e : End} → Met words c m e → ending (tallied c m) (events words ms) ≡ finished (tally (tallied c m) ms)
        → go_on e (λ c'. ending c' (events words ms)) ≡ finished (tally (tallied c m) ms)
    go (goes_on h) x = x
    go (stops l) x = absurd (unbroken_first words c m ms u _ l.breaks)

-- one rule is the foremost
one_foremost : (words : ℕ) (c : Counts) (m : Moment) (j k : Rule) → Foremost words c m j → Foremost words c m k → j ≡ k
one_foremost words c m j k x y =
    let after : ¬ (rank j < rank k) = λ h. y.none_earlier j h x.breaks in
    let before : ¬ (rank k < rank j) = λ h. x.none_earlier k h y.breaks in
    one_rank j k (omega arith)

stops-here : (words : ℕ) (c : Counts) (m : Moment) (ms : List Moment) (rule : Rule) → Foremost words c m rule → ending c (events words (m ∷ ms)) ≡ stopped (refuse rule m.place) m.chain
unfolding ending go_on
stops-here words c m ms rule l = go (met words c m)
  where
    go : {e : End} → Met words c m e → go_on e (λ c'. ending c' (events words ms)) ≡ stopped (refuse rule m.place) m.chain
    go (goes_on h) = absurd (h rule l.breaks)
    go (stops k) = ap (λ (i : Rule). stopped (refuse i m.place) m.chain) (one_foremost words c m _ rule k l)

stops_there : (words : ℕ) (c : Counts) (ms : List Moment) (rule : Rule) (place : ℕ) (chain : Chain) → FirstStop words c ms rule place chain → ending c (events words ms) ≡ stopped (refuse rule place) chain
unfolding go_on
stops_there words c ms rule place chain f =
    let rest = f.it ∷ f.after in
    ap (λ (x : List Moment). ending c (events words x)) f.parts
    ∙ ap (ending c) (events-++ words f.before rest)
    ∙ ending-++ c (events words f.before) (events words rest)
    ∙ ap (λ (e : End). go_on e (λ c'. ending c' (events words rest))) (passed words c f.before f.unbroken)
    ∙ stops-here words (tally c f.before) f.it f.after rule f.foremost
    ∙ ap₂ {C = End} (λ (p : ℕ) (l : Chain). stopped (refuse rule p) l) (sym f.place_is) (sym f.chain_is)

-- so a list of moments has one first stop
pub one_stop : (words : ℕ) (c : Counts) (ms : List Moment) (r : Rule) (p : ℕ) (chain : Chain) (r' : Rule) (p' : ℕ) (chain' : Chain)
    → FirstStop words c ms r p chain → FirstStop words c ms r' p' chain' → stopped (refuse r p) chain ≡ stopped (refuse r' p') chain'
one_stop words c ms r p chain r' p' chain' x y = sym (stops_there words c ms r p chain x) ∙ stops_there words c ms r' p' chain' y

pub ending_is : (words : ℕ) (c : Counts) (ms : List Moment) (e : End) → (ending c (events words ms) ≡ e) ↔ Ends words c ms e
unfolding Ends
ending_is words c ms e = (λ h. subst (Ends words c ms) h (ends words c ms), back e)
  where
    back : (e : End) → Ends words c ms e → ending c (events words ms) ≡ e
    back (finished d) x = passed words c ms x.0 ∙ ap finished (sym x.1)
    back (stopped r chain) (rule, q, x) = stops_there words c ms rule r.place chain x ∙ ap (λ (y : Refusal). stopped y chain) (sym q)

-- ---- the drawing

pub drawing_ends : (words : ℕ) (t : Table) (ds : List Deed) (e : End) → (ending (counts 0 0 0) (map (held_to words) (story t ds)) ≡ e) ↔ Ends words (counts 0 0 0) (moments t ds) e
drawing_ends words t ds e = rw (story-events words t ds) (ending_is words (counts 0 0 0) (moments t ds) e)

-- it is stopped exactly where the first moment stands that breaks a rule, by the first rule of the order that it breaks
pub drawing_stops : (words : ℕ) (t : Table) (ds : List Deed) (rule : Rule) (place : ℕ) (chain : Chain)
    → (ending (counts 0 0 0) (map (held_to words) (story t ds)) ≡ stopped (refuse rule place) chain) ↔ FirstStop words (counts 0 0 0) (moments t ds) rule place chain
unfolding Ends
drawing_stops words t ds rule place chain = (
  λ e. let (q, h, f) = (drawing_ends words t ds (stopped (refuse rule place) chain)).0 e in
      subst (λ (r : Rule). FirstStop words (counts 0 0 0) (moments t ds) r place chain) (one_rule q rule (sym h)) f,
  λ f. (drawing_ends words t ds (stopped (refuse rule place) chain)).1 (rule, refl, f),
)

-- whatever refusal stops it is by a rule
pub drawing_rule : (words : ℕ) (t : Table) (ds : List Deed) (r : Refusal) (chain : Chain) → ending (counts 0 0 0) (map (held_to words) (story t ds)) ≡ stopped r chain → (rule : Rule) × (r ≡ refuse rule r.place)
unfolding Ends
drawing_rule words t ds r chain e = let (rule, h, f) = (drawing_ends words t ds (stopped r chain)).0 e in (rule, h)

-- it finishes exactly when no moment breaks a rule, with the tally of its moments
pub drawing_finishes : (words : ℕ) (t : Table) (ds : List Deed) (c : Counts)
    → (ending (counts 0 0 0) (map (held_to words) (story t ds)) ≡ finished c) ↔ (Unbroken words (counts 0 0 0) (moments t ds) × (c ≡ tally (counts 0 0 0) (moments t ds)))
unfolding Ends
drawing_finishes words t ds c = drawing_ends words t ds (finished c)
