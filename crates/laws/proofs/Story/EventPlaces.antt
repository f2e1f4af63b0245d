-- What holds of the place of every command holds of every place that the drawing names: of what is drawn, of a refusal, and of the calls open
-- there. And a drawing is stopped by a rule of 10 to 17, 20 or 25, with no calls open at 10 and 25.
-- Assumes nothing.
use Rattle.std.specs.Prelude.{if◌then◌else◌}
use mathlib.Core.Path.{◌≡◌, refl, subst}
use mathlib.Core.Bool.{Bool, true, false}
use mathlib.Core.List.{List, [], ◌∷◌, ◌++◌, map}
use mathlib.Core.Option.{Option, none, some}
use Prim.Native.Nat.{ℕ, zero, suc, ◌+◌}
use native.Mathlib.Omega.{arith}
use lib.Dec.{ltb, eqb}
use lib.IntN.{ℤ}
use lib.ListN.{length}
use Rattle.definition.specs.declared.Refusal.{Refusal}
use Rattle.definition.specs.Limits.{most_definitions, deepest, most_calls, most_shapes}
use Rattle.definition.specs.Words.{Placed, at, any, those}
use Rattle.definition.specs.declared.Rule.{Rule}
use Rattle.definition.specs.declared.Rule.TheVariants.{TooManyDefinitions, TooFewWords, OffTheAxes, BeingDrawn, TooDeep, TooManyCalls, XOutOfRange, YOutOfRange, TooManyShapes}
use Rattle.definition.specs.Rules.{refuse}
use Rattle.definition.specs.Commands.{Shape, Turn, Command, draw, layer, call, start, finish, delete, nothing}
use Rattle.definition.specs.Standing.{Standing, outside, after}
use Rattle.definition.specs.Turns.{off_axes}
use Rattle.definition.specs.Table.{Step, shape, instance, setting, Definition, Table, find, enter, forget}
use Rattle.definition.specs.Drawing.{step_of, retained, Deed, output, define, remove, deed_of, deeds, Chain, Event, called, drew, entered, removed, refused}
use Rattle.definition.specs.Drawing.{drawn_shape, drawn_step, drawn_body, Passage, barred, leads, passage_to, passage_of, through, drawn_call, happens, table_after, story}
use Rattle.definition.specs.Held.{words_in, held_to}
use Rattle.definition.specs.Counts.{Counts, counts, End, finished, stopped, counted, go_on, ending}
use Rattle.definition.specs.Answer.{drawing_of, held_drawing}
use Rattle.laws.proofs.Lists.Range.{All, all-++}
use Rattle.laws.proofs.Rules.Order.{ByDrawing, UnderCalls}
use Rattle.laws.proofs.Story.Axes.{by_axes}

-- what holds of every entry of a table is kept as the table changes, and holds of what is found
module _ (P : Definition → Type 0) where
  abbrev Found : Option Definition → Type 0
  Found none = Unit {0}
  Found (some d) = P d

  entry_found : (n : ℕ) (t : Table) → All P t → Found (find n t)
  unfolding find All
  entry_found n [] x = tt
  entry_found n (d ∷ t) x = go (eqb d.symbol n) (entry_found n t x.1)
    where
      go : (b : Bool) → Found (find n t) → Found (if b then some d else find n t)
      go true y = x.0
      go false y = y

  pub entries_entered : (d : Definition) (t : Table) → P d → All P t → All P (enter d t)
  unfolding enter All
  entries_entered d [] h x = (h, tt)
  entries_entered d (e ∷ t) h x = go (ltb d.symbol e.symbol) (eqb d.symbol e.symbol) (entries_entered d t h x.1)
    where
      go : (a b : Bool) → All P (enter d t) → All P (if a then d ∷ e ∷ t else if b then d ∷ t else e ∷ enter d t)
      go true b y = (h, x)
      go false true y = (h, x.1)
      go false false y = (x.0, y)

  pub entries_left : (f : Definition → Bool) (t : Table) → All P t → All P (those f t)
  unfolding those All
  entries_left f [] x = tt
  entries_left f (d ∷ t) x = go (f d) (entries_left f t x.1)
    where
      go : (b : Bool) → All P (those f t) → All P (if b then d ∷ those f t else those f t)
      go true y = (x.0, y)
      go false y = y

module _ (P : ℕ → Type 0) where
  abbrev pub At : {A : Type 0} → Placed A → Type 0
  At x = P x.place

  record AtEntry (d : Definition) : Type 0 where
    own : P d.place
    body_at : All At d.body

  abbrev AtDeed : Deed → Type 0
  AtDeed (output s) = P s.place
  AtDeed (define d) = AtEntry d
  AtDeed (remove n) = Unit {0}

  abbrev pub AtChain : Chain → Type 0
  AtChain chain = All At chain

  -- a refusal's rule, its place, and the open calls
  pub record Refuses (r : Refusal) (chain : Chain) : Type 0 where
    pub rule : Rule
    pub by_drawing : ByDrawing rule
    pub is : r ≡ refuse rule r.place
    pub place : P r.place
    pub open_calls : AtChain chain
    pub calls_only : (UnderCalls rule → ⊥) → chain ≡ []

  abbrev pub AtEvent : Event → Type 0
  AtEvent (called p chain d) = P p × AtChain chain
  AtEvent (drew d) = P d.place × AtChain d.chain
  AtEvent (entered d before) = P d.place
  AtEvent (removed n before) = Unit {0}
  AtEvent (refused r chain) = Refuses r chain

  -- ---- from commands to deeds

  steps_at : (p : ℕ) (l : List Step) → P p → All At (map (at p) l)
  unfolding All
  steps_at p [] h = tt
  steps_at p (s ∷ l) h = (h, steps_at p l h)

  retained_at : (s : Standing) (cs : List (Placed Command)) → All At cs → All At (retained s cs)
  unfolding retained All
  retained_at s [] x = tt
  retained_at s (c ∷ cs) x = go s.inside (retained_at (after c.what s) cs x.1)
    where
      go : (b : Bool) → All At (retained (after c.what s) cs)
          → All At (if b then map (at c.place) (step_of s c.what) ++ retained (after c.what s) cs else [])
      go true y = all-++ _ (map (at c.place) (step_of s c.what)) _ (steps_at c.place (step_of s c.what) x.0) y
      go false y = tt

  outputs_at : (p : ℕ) (b : Bool) (l : List Step) → P p → All AtDeed (if b then [] else map (λ x. output (at p x)) l)
  unfolding All
  outputs_at p true l h = tt
  outputs_at p false [] h = tt
  outputs_at p false (s ∷ l) h = (h, outputs_at p false l h)

  deed_at : (s : Standing) (p : ℕ) (c : Command) (cs : List (Placed Command)) → P p → All At cs → All AtDeed (deed_of s p c cs)
  unfolding deed_of All
  deed_at s p (draw k) cs h x = outputs_at p s.inside (step_of s (draw k)) h
  deed_at s p (call n ts) cs h x = outputs_at p s.inside (step_of s (call n ts)) h
  deed_at s p (start n a b) cs h x = (record { own = h; body_at = retained_at (after (start n a b) s) cs x }, tt)
  deed_at s p (delete n) cs h x = (tt, tt)
  deed_at s p (layer l) cs h x = tt
  deed_at s p finish cs h x = tt
  deed_at s p nothing cs h x = tt

  deeds_at : (s : Standing) (cs : List (Placed Command)) → All At cs → All AtDeed (deeds s cs)
  unfolding deeds All
  deeds_at s [] x = tt
  deeds_at s (c ∷ cs) x =
      all-++ AtDeed (deed_of s c.place c.what cs) (deeds (after c.what s) cs) (deed_at s c.place c.what cs x.0 x.1) (deeds_at (after c.what s) cs x.1)

  -- ---- from deeds to events

  refuses : (r : Rule) {p : ℕ} {chain : Chain} → UnderCalls r → P p → AtChain chain → Refuses (refuse r p) chain
  refuses r b h x =
      let least = b.least in
      let most = b.most in
      record {
        rule = r;
        by_drawing = record { least = omega arith; most = omega arith };
        is = refl;
        place = h;
        open_calls = x;
        calls_only = λ n. absurd (n b);
      }

  refuses_entry : (r : Rule) {p : ℕ} → ByDrawing r → P p → Refuses (refuse r p) []
  unfolding All
  refuses_entry r b h = record { rule = r; by_drawing = b; is = refl; place = h; open_calls = tt; calls_only = λ n. refl }

  shape_at : (chain : Chain) (net : List (Turn ℤ)) (p : ℕ) (l : List ℕ) (k : Shape ℤ) → P p → AtChain chain → AtEvent (drawn_shape chain net p l k)
  shape_at chain net p l k h x =
      by_axes chain net p l k AtEvent
      (refuses XOutOfRange (record { least = omega arith; most = omega arith }) h x)
      (refuses YOutOfRange (record { least = omega arith; most = omega arith }) h x)
      (λ e. (h, x))

  module _ (f : ℕ → ℕ → List (Turn ℤ) → List Event) (call_at : (p n : ℕ) (ts : List (Turn ℤ)) → P p → All AtEvent (f p n ts)) (chain : Chain) (calls : AtChain chain) where
    step_at : (net : List (Turn ℤ)) (p : ℕ) (s : Step) → P p → All AtEvent (drawn_step f chain net p s)
    unfolding drawn_step All
    step_at net p (shape l k) h = (shape_at chain net p l k h calls, tt)
    step_at net p (instance n ts) h = call_at p n ts h
    step_at net p (setting l) h = tt

    body-events : (net : List (Turn ℤ)) (b : List (Placed Step)) → All At b → All AtEvent (drawn_body f chain net b)
    unfolding drawn_body All
    body-events net [] x = tt
    body-events net (s ∷ b) x = all-++ AtEvent (drawn_step f chain net s.place s.what) (drawn_body f chain net b) (step_at net s.place s.what x.0) (body-events net b x.1)

  -- the rule that bars a call, or the definition that it leads to
  abbrev AtPassage : Passage → Type 0
  AtPassage (barred r) = UnderCalls r
  AtPassage (leads d) = AtEntry d

  passage_at : (left : ℕ) (t : Table) (chain : Chain) (n : ℕ) (ts : List (Turn ℤ)) → All AtEntry t → AtPassage (passage_of left t chain n ts)
  unfolding passage_of passage_to
  passage_at left t chain n ts x = go (off_axes ts) (find n t) (entry_found AtEntry n t x)
    where
      further : (a b : Bool) (d : Definition) → AtEntry d → AtPassage (if a then barred BeingDrawn else if b then barred TooDeep else leads d)
      further true b d y = record { least = omega arith; most = omega arith }
      further false true d y = record { least = omega arith; most = omega arith }
      further false false d y = y

      go : (a : Bool) (found : Option Definition) → Found AtEntry found → AtPassage (if a then barred OffTheAxes else passage_to found left chain n)
      go true found y = record { least = omega arith; most = omega arith }
      go false none y = record { least = omega arith; most = omega arith }
      go false (some d) y = further (any (λ c. eqb c.what n) chain) (eqb left 0) d y

  through_at : (o : Passage) (p : ℕ) (chain : Chain) (go : Definition → List Event) → AtPassage o → P p → AtChain chain
      → ((d : Definition) → AtEntry d → All AtEvent (go d)) → All AtEvent (through o p chain go)
  unfolding through All
  through_at (barred r) p chain go o h x f = (refuses r o h x, tt)
  through_at (leads d) p chain go o h x f = ((h, x), f d o)

  call-events : (left : ℕ) (t : Table) → All AtEntry t → (chain : Chain) → AtChain chain → (net : List (Turn ℤ)) (p n : ℕ) (ts : List (Turn ℤ)) → P p → All AtEvent (drawn_call left t chain net p n ts)
  unfolding drawn_call All
  call-events zero t x chain y net p n ts h =
      through_at (passage_of 0 t chain n ts) p chain (λ d. []) (passage_at 0 t chain n ts x) h y (λ d z. tt)
  call-events (suc left) t x chain y net p n ts h =
      let deeper : Chain = chain ++ (at p n ∷ []) in
      let deeper-at : AtChain deeper = all-++ At chain (at p n ∷ []) y (h, tt) in
      through_at (passage_of (suc left) t chain n ts) p chain (λ d. drawn_body (drawn_call left t deeper (ts ++ net)) deeper (ts ++ net) d.body)
      (passage_at (suc left) t chain n ts x) h y
      (λ d z. body-events (drawn_call left t deeper (ts ++ net)) (λ q k us g. call-events left t x deeper deeper-at (ts ++ net) q k us g) deeper deeper-at (ts ++ net) d.body z.body_at)

  happens_at : (t : Table) (d : Deed) → All AtEntry t → AtDeed d → All AtEvent (happens t d)
  unfolding happens All
  happens_at t (output s) x h = step_at (drawn_call deepest t [] []) (λ q k us g. call-events deepest t x [] tt [] q k us g) [] tt [] s.place s.what h
  happens_at t (define d) x h = (go (ltb most_definitions (length (enter d t))), tt)
    where
      go : (b : Bool) → AtEvent (if b then refused (refuse TooManyDefinitions d.place) [] else entered d t)
      go true = refuses_entry TooManyDefinitions (record { least = omega arith; most = omega arith }) h.own
      go false = h.own
  happens_at t (remove n) x h = (tt, tt)

  table_at : (t : Table) (d : Deed) → All AtEntry t → AtDeed d → All AtEntry (table_after t d)
  unfolding table_after forget
  table_at t (output s) x h = x
  table_at t (define d) x h = entries_entered AtEntry d t h x
  table_at t (remove n) x h = entries_left AtEntry _ t x

  story_at : (t : Table) (ds : List Deed) → All AtEntry t → All AtDeed ds → All AtEvent (story t ds)
  unfolding story All
  story_at t [] x y = tt
  story_at t (d ∷ ds) x y = all-++ AtEvent (happens t d) (story (table_after t d) ds) (happens_at t d x y.0) (story_at (table_after t d) ds (table_at t d x y.0) y.1)

  -- all that happens
  pub drawing_at : (cs : List (Placed Command)) → All At cs → All AtEvent (drawing_of cs)
  unfolding All
  drawing_at cs x = story_at [] (deeds (outside []) cs) tt (deeds_at (outside []) cs x)

  -- and held to the words lent, which refuse a definition at its place
  held_one_at : (words : ℕ) (e : Event) → AtEvent e → AtEvent (held_to words e)
  unfolding held_to All
  held_one_at words (entered d before) x = go (ltb words (words_in (enter d before)))
    where
      go : (b : Bool) → AtEvent (if b then refused (refuse TooFewWords d.place) [] else entered d before)
      go true = refuses_entry TooFewWords (record { least = omega arith; most = omega arith }) x
      go false = x
  held_one_at words (called p chain d) x = x
  held_one_at words (drew d) x = x
  held_one_at words (removed n before) x = x
  held_one_at words (refused r chain) x = x

  held_at : (words : ℕ) (es : List Event) → All AtEvent es → All AtEvent (map (held_to words) es)
  unfolding All
  held_at words [] x = tt
  held_at words (e ∷ es) x = (held_one_at words e x.0, held_at words es x.1)

  -- ---- how it ends

  abbrev AtEnd : End → Type 0
  AtEnd (finished c) = Unit {0}
  AtEnd (stopped r chain) = Refuses r chain

  counted_at : (c : Counts) (e : Event) → AtEvent e → AtEnd (counted c e)
  unfolding counted
  counted_at c (called p chain d) x = go (ltb c.calls most_calls)
    where
      go : (b : Bool) → AtEnd (if b then finished (counts (c.calls + 1) c.shapes c.redefinitions) else stopped (refuse TooManyCalls p) chain)
      go true = tt
      go false = refuses TooManyCalls (record { least = omega arith; most = omega arith }) x.0 x.1
  counted_at c (drew d) x = go (ltb c.shapes most_shapes)
    where
      go : (b : Bool) → AtEnd (if b then finished (counts c.calls (c.shapes + 1) c.redefinitions) else stopped (refuse TooManyShapes d.place) d.chain)
      go true = tt
      go false = refuses TooManyShapes (record { least = omega arith; most = omega arith }) x.0 x.1
  counted_at c (entered d before) x = tt
  counted_at c (removed n before) x = tt
  counted_at c (refused r chain) x = x

  ending_at : (c : Counts) (es : List Event) → All AtEvent es → AtEnd (ending c es)
  unfolding ending go_on All
  ending_at c [] x = tt
  ending_at c (e ∷ es) x = go (counted c e) (counted_at c e x.0) (λ c'. ending_at c' es x.1)
    where
      go : (o : End) → AtEnd o → ((c' : Counts) → AtEnd (ending c' es)) → AtEnd (go_on o (λ c'. ending c' es))
      go (finished c') y f = f c'
      go (stopped r chain) y f = y

  pub stopped_at : (words : ℕ) (cs : List (Placed Command)) → All At cs → {r : Refusal} {chain : Chain}
      → ending (counts 0 0 0) (held_drawing words cs) ≡ stopped r chain → Refuses r chain
  stopped_at words cs x e = subst AtEnd e (ending_at (counts 0 0 0) (held_drawing words cs) (held_at words (drawing_of cs) (drawing_at cs x)))
