-- Whose net transformation a shape has: of all that is drawn where these calls are open, the shapes with exactly these calls have the transformations of these; all others are drawn by deeper calls.
-- So a shape at which a counting stops has those of the calls that are told with the refusal.
-- Assumes nothing.
use Rattle.std.specs.Prelude.{if◌then◌else◌}
use mathlib.Core.Path.{◌≡◌, refl, sym, ap, ◌∙◌, subst}
use mathlib.Core.Bool.{Bool, true, false}
use mathlib.Core.List.{List, [], ◌∷◌, ◌++◌, map}
use mathlib.Core.Option.{Option, none, some}
use Prim.Native.Nat.{ℕ, zero, suc, ◌+◌, ◌<◌}
use native.Mathlib.Omega.{arith}
use lib.Dec.{leb, ltb}
use lib.IntN.{ℤ}
use lib.ListN.{length, length-append}
use Rattle.definition.specs.declared.Refusal.{Refusal}
use Rattle.definition.specs.Limits.{most_definitions, most_shapes, deepest}
use Rattle.definition.specs.Words.{Placed, at}
use Rattle.definition.specs.declared.Rule.{Rule}
use Rattle.definition.specs.declared.Rule.TheVariants.{TooManyDefinitions, TooFewWords, TooFewRecords, TooManyShapes}
use Rattle.definition.specs.Rules.{refuse}
use Rattle.definition.specs.Commands.{Shape, Turn}
use Rattle.definition.specs.Table.{Step, shape, instance, setting, Definition, Table, enter}
use Rattle.definition.specs.Drawing.{Deed, output, define, remove, Chain, Drawn, Event, called, drew, entered, removed, refused}
use Rattle.definition.specs.Drawing.{drawn_shape, drawn_step, drawn_body, Passage, barred, leads, passage_of, through, drawn_call, happens, table_after, story}
use Rattle.definition.specs.Counts.{Counts, counts, End, finished, stopped, counted, go_on, ending}
use Rattle.definition.specs.Held.{words_in, held_to}
use Rattle.definition.specs.Records.{stacked_to}
use Rattle.laws.proofs.Lists.Range.{All, all-++, all_to}
use Rattle.laws.proofs.Story.Axes.{by_axes}
use Rattle.laws.proofs.Story.Counting.{not_finished}
use Rattle.reasons.specs.Stops.{stop_by, stop_of}
use Rattle.reasons.specs.Parts.{StopsIn}

-- ---- what holds of a shape, and of nothing else that happens

abbrev OfShape : (Drawn → Type 0) → Event → Type 0
OfShape P (drew d) = P d
OfShape P (called p chain d) = Unit {0}
OfShape P (entered d before) = Unit {0}
OfShape P (removed n before) = Unit {0}
OfShape P (refused r chain) = Unit {0}

-- drawn by deeper calls than these
abbrev Deeper : Chain → Event → Type 0
Deeper chain = OfShape (λ d. length chain < length d.chain)

-- with exactly these calls it has these transformations
abbrev pub Own : Chain → List (Turn ℤ) → Event → Type 0
Own chain net = OfShape (λ d. d.chain ≡ chain → d.net ≡ net)

of_shape : {P R : Drawn → Type 0} → ((d : Drawn) → P d → R d) → (e : Event) → OfShape P e → OfShape R e
of_shape f (drew d) h = f d h
of_shape f (called p chain d) h = tt
of_shape f (entered d before) h = tt
of_shape f (removed n before) h = tt
of_shape f (refused r chain) h = tt

deeper-own : (chain : Chain) (net : List (Turn ℤ)) (e : Event) → Deeper chain e → Own chain net e
deeper-own chain net = of_shape (λ d h q. absurd (let z = ap length q in omega (arith, h, z)))

longer : (chain : Chain) (p n : ℕ) → length (chain ++ (at p n ∷ [])) ≡ length chain + 1
longer chain p n = length-append chain (at p n ∷ [])

-- ---- of all that a body and a call draw

module _ (P : Drawn → Type 0) where
  module _ (f : ℕ → ℕ → List (Turn ℤ) → List Event) (chain : Chain) (net : List (Turn ℤ)) (shapes : (p : ℕ) (l : List ℕ) (k : Shape ℤ) → OfShape P (drawn_shape chain net p l k))
      (calls : (p n : ℕ) (ts : List (Turn ℤ)) → All (OfShape P) (f p n ts)) where
    step_all : (p : ℕ) (s : Step) → All (OfShape P) (drawn_step f chain net p s)
    unfolding drawn_step All
    step_all p (shape l k) = (shapes p l k, tt)
    step_all p (instance n ts) = calls p n ts
    step_all p (setting l) = tt

    body_all : (ss : List (Placed Step)) → All (OfShape P) (drawn_body f chain net ss)
    unfolding drawn_body All
    body_all [] = tt
    body_all (s ∷ ss) = all-++ (OfShape P) (drawn_step f chain net s.place s.what) (drawn_body f chain net ss) (step_all s.place s.what) (body_all ss)

  through_all : (w : Passage) (p : ℕ) (chain : Chain) (go : Definition → List Event) → ((d : Definition) → All (OfShape P) (go d)) → All (OfShape P) (through w p chain go)
  unfolding through All
  through_all (barred r) p chain go f = (tt, tt)
  through_all (leads d) p chain go f = (tt, f d)

  -- and of events that are held to words or records: a shape stays as it is
  map_all : (f : Event → Event) → ((e : Event) → OfShape P e → OfShape P (f e)) → (es : List Event) → All (OfShape P) es → All (OfShape P) (map f es)
  unfolding All
  map_all f k [] a = tt
  map_all f k (e ∷ es) a = (k e a.0, map_all f k es a.1)

  stacked_keeps : (n : ℕ) (e : Event) → OfShape P e → OfShape P (stacked_to n e)
  unfolding stacked_to
  stacked_keeps n (drew d) h = h
  stacked_keeps n (called p chain d) h = go (leb n (length chain))
    where
      go : (b : Bool) → OfShape P (if b then refused (refuse TooFewRecords p) chain else called p chain d)
      go true = tt
      go false = tt
  stacked_keeps n (entered d before) h = tt
  stacked_keeps n (removed m before) h = tt
  stacked_keeps n (refused r chain) h = tt

  held_keeps : (w : ℕ) (e : Event) → OfShape P e → OfShape P (held_to w e)
  unfolding held_to
  held_keeps w (drew d) h = h
  held_keeps w (called p chain d) h = tt
  held_keeps w (entered d before) h = go (ltb w (words_in (enter d before)))
    where
      go : (b : Bool) → OfShape P (if b then refused (refuse TooFewWords d.place) [] else entered d before)
      go true = tt
      go false = tt
  held_keeps w (removed m before) h = tt
  held_keeps w (refused r chain) h = tt

own-shape : (chain : Chain) (net : List (Turn ℤ)) (p : ℕ) (l : List ℕ) (k : Shape ℤ) → Own chain net (drawn_shape chain net p l k)
own-shape chain net p l k = by_axes chain net p l k (Own chain net) tt tt (λ e q. refl)

call-deeper : (left : ℕ) (t : Table) (chain : Chain) (net : List (Turn ℤ)) (p n : ℕ) (ts : List (Turn ℤ)) → All (Deeper chain) (drawn_call left t chain net p n ts)
unfolding drawn_call All
call-deeper zero t chain net p n ts = through_all (λ d. length chain < length d.chain) (passage_of 0 t chain n ts) p chain (λ d. []) (λ d. tt)
call-deeper (suc left) t chain net p n ts =
    let further : Chain = chain ++ (at p n ∷ []) in
    let more = longer chain p n in
    through_all (λ d. length chain < length d.chain) (passage_of (suc left) t chain n ts) p chain (λ d. drawn_body (drawn_call left t further (ts ++ net)) further (ts ++ net) d.body)
    (λ d. body_all (λ x. length chain < length x.chain) (drawn_call left t further (ts ++ net)) further (ts ++ net)
    (λ q l k. by_axes further (ts ++ net) q l k (Deeper chain) tt tt (λ e. omega (arith, more)))
    (λ q m us. all_to (Deeper further) (Deeper chain) (of_shape (λ x h. omega (arith, h, more))) (drawn_call left t further (ts ++ net) q m us) (call-deeper left t further (ts ++ net) q m us))
    d.body)

module _ (left : ℕ) (t : Table) (chain : Chain) (net : List (Turn ℤ)) where
  call-own : (p n : ℕ) (ts : List (Turn ℤ)) → All (Own chain net) (drawn_call left t chain net p n ts)
  call-own p n ts = all_to (Deeper chain) (Own chain net) (deeper-own chain net) (drawn_call left t chain net p n ts) (call-deeper left t chain net p n ts)

  pub body_own : (records : ℕ) (ss : List (Placed Step)) → All (Own chain net) (map (stacked_to records) (drawn_body (drawn_call left t chain net) chain net ss))
  body_own records ss =
      map_all (λ d. d.chain ≡ chain → d.net ≡ net) (stacked_to records) (stacked_keeps (λ d. d.chain ≡ chain → d.net ≡ net) records) (drawn_body (drawn_call left t chain net) chain net ss)
      (body_all (λ d. d.chain ≡ chain → d.net ≡ net) (drawn_call left t chain net) chain net (own-shape chain net) call-own ss)

-- ---- and of a story: what no call draws is moved by nothing

happens-own : (t : Table) (d : Deed) → All (Own [] []) (happens t d)
unfolding happens All
happens-own t (output s) = step_all (λ d. d.chain ≡ [] → d.net ≡ []) (drawn_call deepest t [] []) [] [] (own-shape [] []) (call-own deepest t [] []) s.place s.what
happens-own t (define d) = go (ltb most_definitions (length (enter d t)))
  where
    go : (b : Bool) → Own [] [] (if b then refused (refuse TooManyDefinitions d.place) [] else entered d t) × Unit {0}
    go true = (tt, tt)
    go false = (tt, tt)
happens-own t (remove n) = (tt, tt)

story-own : (t : Table) (ds : List Deed) → All (Own [] []) (story t ds)
unfolding story All
story-own t [] = tt
story-own t (d ∷ ds) = all-++ (Own [] []) (happens t d) (story (table_after t d) ds) (happens-own t d) (story-own (table_after t d) ds)

pub held-own : (records words : ℕ) (t : Table) (ds : List Deed) → All (Own [] []) (map (stacked_to records) (map (held_to words) (story t ds)))
held-own records words t ds =
    map_all (λ d. d.chain ≡ [] → d.net ≡ []) (stacked_to records) (stacked_keeps (λ d. d.chain ≡ [] → d.net ≡ []) records) (map (held_to words) (story t ds))
    (map_all (λ d. d.chain ≡ [] → d.net ≡ []) (held_to words) (held_keeps (λ d. d.chain ≡ [] → d.net ≡ []) words) (story t ds) (story-own t ds))

-- ---- the shape at which a counting is stopped

some_same : {e x : Event} → some x ≡ some e → x ≡ e
some_same h = cc

none_stops : {e : Event} → none ≡ some e → ⊥
none_stops h = let z : ◌≡◌ {A = ℕ} 0 1 = cc in omega (arith, z)

stop-has : (P : Event → Type 0) (c : Counts) (es : List Event) (e : Event) → All P es → stop_of c es ≡ some e → P e
unfolding stop_of stop_by All
stop-has P c [] e a h = absurd (none_stops h)
stop-has P c (x ∷ es) e a h = go (counted c x) (λ k. stop-has P k es e a.1) h
  where
    go : (y : End) → ((k : Counts) → stop_of k es ≡ some e → P e) → stop_by y x (λ n. stop_of n es) ≡ some e → P e
    go (finished k) on g = on k g
    go (stopped r chain) on g = subst P (some_same g) a.0

drew-chain : (c : Counts) (d : Drawn) {r : Refusal} {chain : Chain} → counted c (drew d) ≡ stopped r chain → d.chain ≡ chain
unfolding counted
drew-chain c d {r} {chain} h = go (ltb c.shapes most_shapes) h
  where
    go : (b : Bool) → (if b then finished (counts c.calls (c.shapes + 1) c.redefinitions) else stopped (refuse TooManyShapes d.place) d.chain) ≡ stopped r chain → d.chain ≡ chain
    go true q = absurd (not_finished (sym q))
    go false q = cc

stop-chain : (c : Counts) (es : List Event) {r : Refusal} {chain : Chain} → ending c es ≡ stopped r chain → (d : Drawn) → stop_of c es ≡ some (drew d) → d.chain ≡ chain
unfolding stop_of stop_by ending go_on
stop-chain c [] h d s = absurd (none_stops s)
stop-chain c (x ∷ es) {r} {chain} h d s = go (counted c x) refl (λ k g f. stop-chain k es g d f) h s
  where
    go : (y : End) → counted c x ≡ y → ((k : Counts) → ending k es ≡ stopped r chain → stop_of k es ≡ some (drew d) → d.chain ≡ chain) → go_on y (λ n. ending n es) ≡ stopped r chain
        → stop_by y x (λ n. stop_of n es) ≡ some (drew d) → d.chain ≡ chain
    go (finished k) q on g f = on k g f
    go (stopped u o) q on g f = drew-chain c d (ap (counted c) (sym (some_same f)) ∙ q ∙ g)

-- where these calls are open, it has their transformations
pub net_there : (c : Counts) (es : List Event) {net : List (Turn ℤ)} {r : Refusal} {chain : Chain} → All (Own chain net) es → ending c es ≡ stopped r chain
    → (d : Drawn) → stop_of c es ≡ some (drew d) → d.net ≡ net
net_there c es {net} {r} {chain} a h d s = stop-has (Own chain net) c es (drew d) a s (stop-chain c es h d s)
