-- Every shape of a drawing is explained (specs/Explains.antt): by an executable command, the table as it stood then, the calls of its chain one after the other, and its net transformation.
-- Assumes nothing.
use Rattle.std.specs.Prelude.{if◌then◌else◌}
use mathlib.Core.Path.{◌≡◌, refl, sym, ap, ◌∙◌, subst}
use mathlib.Core.Bool.{Bool, true, false}
use mathlib.Core.List.Memᴰ
use mathlib.Core.List.{List, [], ◌∷◌, ◌++◌, append_assoc}
use mathlib.Core.Option.{Option, none, some}
use Prim.Native.Nat.{ℕ, zero, suc}
use native.Mathlib.Omega.{arith}
use lib.Dec.{ltb, eqb}
use lib.IntN.{ℤ}
use lib.ListN.{length}
use Rattle.definition.specs.Limits.{most_definitions, deepest}
use Rattle.definition.specs.Words.{Placed, at, any}
use Rattle.definition.specs.declared.Rule.TheVariants.{TooManyDefinitions, OffTheAxes, UndefinedSymbol, BeingDrawn, TooDeep}
use Rattle.definition.specs.Rules.{refuse}
use Rattle.definition.specs.Commands.{Shape, Turn}
use Rattle.definition.specs.Turns.{moved, off_axes}
use Rattle.definition.specs.Table.{Step, shape, instance, setting, Definition, Table, find, enter}
use Rattle.definition.specs.Drawing.{Deed, output, define, remove, Chain, Drawn, Event, called, drew, entered, removed, refused}
use Rattle.definition.specs.Drawing.{drawn_shape, drawn_step, drawn_body, Passage, barred, leads, passage_to, passage_of, through, drawn_call, happens, table_after, story}
use Rattle.definition.specs.Counts.{shapes_of}
use Rattle.definition.specs.Summary.{table_then}
use Rattle.laws.proofs.Lists.Range.{All, all-++, all_to}
use Rattle.laws.proofs.Story.Axes.{by_axes}
use Rattle.reasons.specs.Explains.{◌∈◌, Explains, by_command, by_call, ExplainedBy}

-- ---- steps that stand in others

wider : {t : Table} {d : Drawn} {a b : List (Placed Step)} {calls : Chain} {around : List (Turn ℤ)} → ((s : Placed Step) → s ∈ a → s ∈ b) → Explains t d a calls around → Explains t d b calls around
wider f (by_command k h e m) = by_command k (f _ h) e m
wider f (by_call p n own found h u e x) = by_call p n own found (f _ h) u e x

-- ---- what is drawn where the calls of a chain are open

-- the calls of d beyond the chain lead to it
record Beyond (t : Table) (chain : Chain) (net : List (Turn ℤ)) (steps : List (Placed Step)) (d : Drawn) : Type 0 where
  rest : Chain
  chain_is : d.chain ≡ chain ++ rest
  explains : Explains t d steps rest net

unfoldable Accounted : Table → Chain → List (Turn ℤ) → List (Placed Step) → Event → Type 0
Accounted t chain net steps (drew d) = Beyond t chain net steps d
Accounted t chain net steps (called p x d) = Unit {0}
Accounted t chain net steps (entered d before) = Unit {0}
Accounted t chain net steps (removed n before) = Unit {0}
Accounted t chain net steps (refused r x) = Unit {0}

accounted_in : (t : Table) (chain : Chain) (net : List (Turn ℤ)) (a b : List (Placed Step)) → ((s : Placed Step) → s ∈ a → s ∈ b) → (e : Event) → Accounted t chain net a e → Accounted t chain net b e
unfolding Accounted
accounted_in t chain net a b f (drew d) h = record { rest = h.rest; chain_is = h.chain_is; explains = wider f h.explains }
accounted_in t chain net a b f (called p x d) h = tt
accounted_in t chain net a b f (entered d before) h = tt
accounted_in t chain net a b f (removed n before) h = tt
accounted_in t chain net a b f (refused r x) h = tt

nil-right : (chain : Chain) → chain ≡ chain ++ []
nil-right [] = refl
nil-right (c ∷ chain) = ap (λ (x : Chain). c ∷ x) (nil-right chain)

module _ (t : Table) (chain : Chain) (net : List (Turn ℤ)) where
  shape_accounted : (p : ℕ) (l : List ℕ) (k : Shape ℤ) → Accounted t chain net (at p (shape l k) ∷ []) (drawn_shape chain net p l k)
  unfolding Accounted
  shape_accounted p l k =
      by_axes chain net p l k (Accounted t chain net (at p (shape l k) ∷ [])) tt tt
      (λ e. record { rest = []; chain_is = nil-right chain; explains = by_command k (Memᴰ.head refl) refl refl })

  module _ (f : ℕ → ℕ → List (Turn ℤ) → List Event) (calls : (p n : ℕ) (ts : List (Turn ℤ)) → All (Accounted t chain net (at p (instance n ts) ∷ [])) (f p n ts)) where
    step_accounted : (p : ℕ) (s : Step) → All (Accounted t chain net (at p s ∷ [])) (drawn_step f chain net p s)
    unfolding drawn_step All
    step_accounted p (shape l k) = (shape_accounted p l k, tt)
    step_accounted p (instance n ts) = calls p n ts
    step_accounted p (setting l) = tt

    body_accounted : (b : List (Placed Step)) → All (Accounted t chain net b) (drawn_body f chain net b)
    unfolding drawn_body All
    body_accounted [] = tt
    body_accounted (s ∷ b) =
        all-++ (Accounted t chain net (s ∷ b)) (drawn_step f chain net s.place s.what) (drawn_body f chain net b)
        (all_to (Accounted t chain net (s ∷ [])) (Accounted t chain net (s ∷ b)) (accounted_in t chain net (s ∷ []) (s ∷ b) (λ x h. Memᴰ.append_left b h)) (drawn_step f chain net s.place s.what)
        (step_accounted s.place s.what))
        (all_to (Accounted t chain net b) (Accounted t chain net (s ∷ b)) (accounted_in t chain net b (s ∷ b) (λ x h. Memᴰ.tail h)) (drawn_body f chain net b) (body_accounted b))

-- ---- a call

-- a call that leads to a definition has no R off the axes, and the table has that definition
record LeadsTo (t : Table) (n : ℕ) (ts : List (Turn ℤ)) (d : Definition) : Type 0 where
  upright : off_axes ts ≡ false
  found : find n t ≡ some d

unfoldable Leading : Table → ℕ → List (Turn ℤ) → Passage → Type 0
Leading t n ts (barred r) = Unit {0}
Leading t n ts (leads d) = LeadsTo t n ts d

passage_leads : (left : ℕ) (t : Table) (chain : Chain) (n : ℕ) (ts : List (Turn ℤ)) → Leading t n ts (passage_of left t chain n ts)
unfolding passage_of passage_to Leading
passage_leads left t chain n ts = go (off_axes ts) refl (find n t) refl
  where
    further : (a b : Bool) (d : Definition) → LeadsTo t n ts d → Leading t n ts (if a then barred BeingDrawn else if b then barred TooDeep else leads d)
    further true b d h = tt
    further false true d h = tt
    further false false d h = h

    go : (a : Bool) → off_axes ts ≡ a → (x : Option Definition) → find n t ≡ x → Leading t n ts (if a then barred OffTheAxes else passage_to x left chain n)
    go true e x h = tt
    go false e none h = tt
    go false e (some d) h = further (any (λ c. eqb c.what n) chain) (eqb left 0) d (record { upright = e; found = h })

-- what is accounted for beyond a call and those before it is beyond those before it, by that call
one_call : (t : Table) (chain : Chain) (net : List (Turn ℤ)) (p n : ℕ) (ts : List (Turn ℤ)) (d : Definition) → LeadsTo t n ts d
    → (e : Event) → Accounted t (chain ++ (at p n ∷ [])) (ts ++ net) d.body e → Accounted t chain net (at p (instance n ts) ∷ []) e
unfolding Accounted
one_call t chain net p n ts d l (drew x) h = record {
  rest = at p n ∷ h.rest;
  chain_is = h.chain_is ∙ append_assoc chain (at p n ∷ []) h.rest;
  explains = by_call p n ts d (Memᴰ.head refl) l.upright l.found h.explains;
}
one_call t chain net p n ts d l (called q x f) h = tt
one_call t chain net p n ts d l (entered f before) h = tt
one_call t chain net p n ts d l (removed m before) h = tt
one_call t chain net p n ts d l (refused r x) h = tt

through_accounted : (t : Table) (chain : Chain) (net : List (Turn ℤ)) (p n : ℕ) (ts : List (Turn ℤ)) (w : Passage) (go : Definition → List Event) → Leading t n ts w
    → ((d : Definition) → LeadsTo t n ts d → All (Accounted t chain net (at p (instance n ts) ∷ [])) (go d)) → All (Accounted t chain net (at p (instance n ts) ∷ [])) (through w p chain go)
unfolding through All Leading Accounted
through_accounted t chain net p n ts (barred r) go l f = (tt, tt)
through_accounted t chain net p n ts (leads d) go l f = (tt, f d l)

call_accounted : (left : ℕ) (t : Table) (chain : Chain) (net : List (Turn ℤ)) (p n : ℕ) (ts : List (Turn ℤ)) → All (Accounted t chain net (at p (instance n ts) ∷ [])) (drawn_call left t chain net p n ts)
unfolding drawn_call All
call_accounted zero t chain net p n ts = through_accounted t chain net p n ts (passage_of 0 t chain n ts) (λ d. []) (passage_leads 0 t chain n ts) (λ d l. tt)
call_accounted (suc left) t chain net p n ts =
    let deeper : Chain = chain ++ (at p n ∷ []) in
    through_accounted t chain net p n ts (passage_of (suc left) t chain n ts) (λ d. drawn_body (drawn_call left t deeper (ts ++ net)) deeper (ts ++ net) d.body)
    (passage_leads (suc left) t chain n ts)
    (λ d l. all_to (Accounted t deeper (ts ++ net) d.body) (Accounted t chain net (at p (instance n ts) ∷ [])) (one_call t chain net p n ts d l)
    (drawn_body (drawn_call left t deeper (ts ++ net)) deeper (ts ++ net) d.body)
    (body_accounted t deeper (ts ++ net) (drawn_call left t deeper (ts ++ net)) (λ q m us. call_accounted left t deeper (ts ++ net) q m us) d.body))

-- ---- the story

unfoldable Owed : Table → List Deed → Event → Type 0
Owed t ds (drew d) = ExplainedBy t ds d
Owed t ds (called p x d) = Unit {0}
Owed t ds (entered d before) = Unit {0}
Owed t ds (removed n before) = Unit {0}
Owed t ds (refused r x) = Unit {0}

owed_first : (t : Table) (s : Placed Step) (ds : List Deed) (e : Event) → Accounted t [] [] (s ∷ []) e → Owed t (output s ∷ ds) e
unfolding Accounted Owed table_then
owed_first t s ds (drew d) h = record {
  before = [];
  executable = s;
  after = ds;
  parted = refl;
  explains = subst (λ (c : Chain). Explains t d (s ∷ []) c []) (sym h.chain_is) h.explains;
}
owed_first t s ds (called p x d) h = tt
owed_first t s ds (entered d before) h = tt
owed_first t s ds (removed n before) h = tt
owed_first t s ds (refused r x) h = tt

owed_later : (t : Table) (x : Deed) (ds : List Deed) (e : Event) → Owed (table_after t x) ds e → Owed t (x ∷ ds) e
unfolding Owed table_then
owed_later t x ds (drew d) h = record {
  before = x ∷ h.before;
  executable = h.executable;
  after = h.after;
  parted = ap (λ (l : List Deed). x ∷ l) h.parted;
  explains = h.explains;
}
owed_later t x ds (called p y d) h = tt
owed_later t x ds (entered d before) h = tt
owed_later t x ds (removed n before) h = tt
owed_later t x ds (refused r y) h = tt

happens_owed : (t : Table) (x : Deed) (ds : List Deed) → All (Owed t (x ∷ ds)) (happens t x)
unfolding happens All Owed
happens_owed t (output s) ds =
    all_to (Accounted t [] [] (s ∷ [])) (Owed t (output s ∷ ds)) (owed_first t s ds) (drawn_step (drawn_call deepest t [] []) [] [] s.place s.what)
    (step_accounted t [] [] (drawn_call deepest t [] []) (λ q m us. call_accounted deepest t [] [] q m us) s.place s.what)
happens_owed t (define d) ds = (go (ltb most_definitions (length (enter d t))), tt)
  where
    go : (b : Bool) → Owed t (define d ∷ ds) (if b then refused (refuse TooManyDefinitions d.place) [] else entered d t)
    go true = tt
    go false = tt
happens_owed t (remove n) ds = (tt, tt)

story_owed : (t : Table) (ds : List Deed) → All (Owed t ds) (story t ds)
unfolding story All
story_owed t [] = tt
story_owed t (x ∷ ds) =
    all-++ (Owed t (x ∷ ds)) (happens t x) (story (table_after t x) ds) (happens_owed t x ds)
    (all_to (Owed (table_after t x) ds) (Owed t (x ∷ ds)) (owed_later t x ds) (story (table_after t x) ds) (story_owed (table_after t x) ds))

owed_shapes : (t : Table) (ds : List Deed) (es : List Event) → All (Owed t ds) es → All (ExplainedBy t ds) (shapes_of es)
unfolding All shapes_of Owed
owed_shapes t ds [] h = tt
owed_shapes t ds (drew d ∷ es) h = (h.0, owed_shapes t ds es h.1)
owed_shapes t ds (called p x d ∷ es) h = owed_shapes t ds es h.1
owed_shapes t ds (entered d before ∷ es) h = owed_shapes t ds es h.1
owed_shapes t ds (removed n before ∷ es) h = owed_shapes t ds es h.1
owed_shapes t ds (refused r x ∷ es) h = owed_shapes t ds es h.1

-- so every shape that a story draws is explained
pub shapes_explained : (t : Table) (ds : List Deed) → All (ExplainedBy t ds) (shapes_of (story t ds))
shapes_explained t ds = owed_shapes t ds (story t ds) (story_owed t ds)
