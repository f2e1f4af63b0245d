-- What moving makes of every shape that a step may draw holds of every shape drawn: the one walk through the drawing, for any property of shapes.
-- Assumes nothing.
use Rattle.std.specs.Prelude.{if◌then◌else◌}
use mathlib.Core.Path.{◌≡◌}
use mathlib.Core.Bool.{Bool, true, false}
use mathlib.Core.List.{List, [], ◌∷◌, ◌++◌, map}
use mathlib.Core.Option.{Option, none, some}
use Prim.Native.Nat.{ℕ, zero, suc}
use lib.Dec.{ltb, eqb}
use lib.IntN.{ℤ}
use lib.ListN.{length}
use Rattle.definition.specs.Limits.{most_definitions, deepest}
use Rattle.definition.specs.Words.{Placed, at, any, those}
use Rattle.definition.specs.declared.Rule.TheVariants.{TooManyDefinitions, OffTheAxes, BeingDrawn, TooDeep}
use Rattle.definition.specs.Rules.{refuse}
use Rattle.definition.specs.Commands.{Shape, Turn, Command, draw, layer, call, start, finish, delete, nothing}
use Rattle.definition.specs.Standing.{Standing, after}
use Rattle.definition.specs.Faults.{beyond, both, faults, all_faults}
use Rattle.definition.specs.Turns.{moved, off_axes}
use Rattle.definition.specs.Table.{Step, shape, instance, setting, Definition, Table, find, enter, forget}
use Rattle.definition.specs.Drawing.{step_of, retained, Deed, output, define, remove, deed_of, deeds, Chain, Drawn, Event, called, drew, entered, removed, refused}
use Rattle.definition.specs.Drawing.{drawn_shape, drawn_step, drawn_body, Passage, barred, leads, passage_to, passage_of, through, drawn_call, happens, table_after, story}
use Rattle.definition.specs.Counts.{shapes_of}
use Rattle.laws.proofs.Lists.Range.{All, all-++, Within}
use Rattle.laws.proofs.Story.Axes.{by_axes}
use Rattle.laws.proofs.Commands.Sizes.{nil-left, nil-right, all_map}

-- a step draws a shape of which P holds, or a call
unfoldable pub StepP : (List ℕ → Shape ℤ → Type 0) → Step → Type 0
StepP P (shape l k) = P l k
StepP P (instance n ts) = Unit {0}
StepP P (setting l) = Unit {0}

-- P holds of shapes as they are written, and Q of shapes as they are drawn: moved, with their points within range
module _ (P Q : List ℕ → Shape ℤ → Type 0)
    (moves : (ts : List (Turn ℤ)) (l : List ℕ) (k : Shape ℤ) → P l k → any beyond (both (moved ts k).points) ≡ false → Q l (moved ts k)) where
  abbrev FitSteps : List (Placed Step) → Type 0
  FitSteps b = All (λ s. StepP P s.what) b

  abbrev FitTable : Table → Type 0
  FitTable t = All (λ d. FitSteps d.body) t

  unfoldable FitDeed : Deed → Type 0
  FitDeed (output s) = StepP P s.what
  FitDeed (define d) = FitSteps d.body
  FitDeed (remove n) = Unit {0}

  -- ---- the table

  unfoldable FitFound : Option Definition → Type 0
  FitFound none = Unit {0}
  FitFound (some d) = FitSteps d.body

  fit-find : (n : ℕ) (t : Table) → FitTable t → FitFound (find n t)
  unfolding find All FitFound
  fit-find n [] x = tt
  fit-find n (d ∷ t) x = go (eqb d.symbol n) (fit-find n t x.1)
    where
      go : (b : Bool) → FitFound (find n t) → FitFound (if b then some d else find n t)
      go true y = x.0
      go false y = y

  fit-enter : (d : Definition) (t : Table) → FitSteps d.body → FitTable t → FitTable (enter d t)
  unfolding enter All
  fit-enter d [] h x = (h, tt)
  fit-enter d (e ∷ t) h x = go (ltb d.symbol e.symbol) (eqb d.symbol e.symbol) (fit-enter d t h x.1)
    where
      go : (a b : Bool) → FitTable (enter d t) → FitTable (if a then d ∷ e ∷ t else if b then d ∷ t else e ∷ enter d t)
      go true b y = (h, x)
      go false true y = (h, x.1)
      go false false y = (x.0, y)

  fit-those : (f : Definition → Bool) (t : Table) → FitTable t → FitTable (those f t)
  unfolding those All
  fit-those f [] x = tt
  fit-those f (d ∷ t) x = go (f d) (fit-those f t x.1)
    where
      go : (b : Bool) → FitTable (those f t) → FitTable (if b then d ∷ those f t else those f t)
      go true y = (x.0, y)
      go false y = y

  fit-after : (t : Table) (d : Deed) → FitTable t → FitDeed d → FitTable (table_after t d)
  unfolding table_after FitDeed forget
  fit-after t (output s) x y = x
  fit-after t (define d) x y = fit-enter d t y x
  fit-after t (remove n) x y = fit-those _ t x

  unfoldable pub Fitting : Event → Type 0
  Fitting (drew d) = Q d.layer_of d.itself
  Fitting (called p chain d) = Unit {0}
  Fitting (entered d before) = Unit {0}
  Fitting (removed n before) = Unit {0}
  Fitting (refused r chain) = Unit {0}

  fit-shape : (chain : Chain) (net : List (Turn ℤ)) (p : ℕ) (l : List ℕ) (k : Shape ℤ) → P l k → Fitting (drawn_shape chain net p l k)
  unfolding Fitting
  fit-shape chain net p l k x = by_axes chain net p l k Fitting tt tt (λ e. moves net l k x e)

  module _ (f : ℕ → ℕ → List (Turn ℤ) → List Event) (fits : (p n : ℕ) (ts : List (Turn ℤ)) → All Fitting (f p n ts)) where
    fit-draw : (chain : Chain) (net : List (Turn ℤ)) (p : ℕ) (s : Step) → StepP P s → All Fitting (drawn_step f chain net p s)
    unfolding drawn_step All StepP
    fit-draw chain net p (shape l k) x = (fit-shape chain net p l k x, tt)
    fit-draw chain net p (instance n ts) x = fits p n ts
    fit-draw chain net p (setting l) x = tt

    fit-body : (chain : Chain) (net : List (Turn ℤ)) (b : List (Placed Step)) → FitSteps b → All Fitting (drawn_body f chain net b)
    unfolding drawn_body All
    fit-body chain net [] x = tt
    fit-body chain net (s ∷ b) x = all-++ Fitting (drawn_step f chain net s.place s.what) (drawn_body f chain net b) (fit-draw chain net s.place s.what x.0) (fit-body chain net b x.1)

  unfoldable FitPassage : Passage → Type 0
  FitPassage (barred r) = Unit {0}
  FitPassage (leads d) = FitSteps d.body

  fit_passage : (left : ℕ) (t : Table) (chain : Chain) (n : ℕ) (ts : List (Turn ℤ)) → FitTable t → FitPassage (passage_of left t chain n ts)
  unfolding passage_of passage_to FitPassage FitFound
  fit_passage left t chain n ts x = go (off_axes ts) (find n t) (fit-find n t x)
    where
      further : (a b : Bool) (d : Definition) → FitSteps d.body → FitPassage (if a then barred BeingDrawn else if b then barred TooDeep else leads d)
      further true b d y = tt
      further false true d y = tt
      further false false d y = y

      go : (a : Bool) (found : Option Definition) → FitFound found → FitPassage (if a then barred OffTheAxes else passage_to found left chain n)
      go true found y = tt
      go false none y = tt
      go false (some d) y = further (any (λ c. eqb c.what n) chain) (eqb left 0) d y

  fit-through : (o : Passage) (p : ℕ) (chain : Chain) (go : Definition → List Event) → FitPassage o
      → ((d : Definition) → FitSteps d.body → All Fitting (go d)) → All Fitting (through o p chain go)
  unfolding through All Fitting FitPassage
  fit-through (barred r) p chain go x h = (tt, tt)
  fit-through (leads d) p chain go x h = (tt, h d x)

  fit-call : (left : ℕ) (t : Table) → FitTable t → (chain : Chain) (net : List (Turn ℤ)) (p n : ℕ) (ts : List (Turn ℤ)) → All Fitting (drawn_call left t chain net p n ts)
  unfolding drawn_call All
  fit-call zero t x chain net p n ts = fit-through (passage_of 0 t chain n ts) p chain (λ d. []) (fit_passage 0 t chain n ts x) (λ d y. tt)
  fit-call (suc left) t x chain net p n ts =
      let deeper : Chain = chain ++ (at p n ∷ []) in
      fit-through (passage_of (suc left) t chain n ts) p chain
      (λ d. drawn_body (drawn_call left t deeper (ts ++ net)) deeper (ts ++ net) d.body)
      (fit_passage (suc left) t chain n ts x)
      (λ d y. fit-body (drawn_call left t deeper (ts ++ net)) (λ q m us. fit-call left t x deeper (ts ++ net) q m us) deeper (ts ++ net) d.body y)

  fit-happens : (t : Table) (d : Deed) → FitTable t → FitDeed d → All Fitting (happens t d)
  unfolding happens All Fitting FitDeed
  fit-happens t (output s) x y = fit-draw (drawn_call deepest t [] []) (λ q m us. fit-call deepest t x [] [] q m us) [] [] s.place s.what y
  fit-happens t (define d) x y = (go (ltb most_definitions (length (enter d t))), tt)
    where
      go : (b : Bool) → Fitting (if b then refused (refuse TooManyDefinitions d.place) [] else entered d t)
      go true = tt
      go false = tt
  fit-happens t (remove n) x y = (tt, tt)

  fit-story : (t : Table) (ds : List Deed) → FitTable t → All FitDeed ds → All Fitting (story t ds)
  unfolding story All
  fit-story t [] x y = tt
  fit-story t (d ∷ ds) x y =
      all-++ Fitting (happens t d) (story (table_after t d) ds) (fit-happens t d x y.0) (fit-story (table_after t d) ds (fit-after t d x y.0) y.1)

  fitting : (es : List Event) → All Fitting es → All (λ (d : Drawn). Q d.layer_of d.itself) (shapes_of es)
  unfolding All shapes_of Fitting
  fitting [] x = tt
  fitting (drew d ∷ es) x = (x.0, fitting es x.1)
  fitting (called p chain d ∷ es) x = fitting es x.1
  fitting (entered d before ∷ es) x = fitting es x.1
  fitting (removed n before ∷ es) x = fitting es x.1
  fitting (refused r chain ∷ es) x = fitting es x.1

  -- what stands, and a command that is well made, give such steps and stand so afterwards
  module _ (N : Standing → Type 0) (W : Command → Type 0) (stands : (s : Standing) (c : Command) → N s → W c → N (after c s))
      (steps : (s : Standing) (p : ℕ) (c : Command) → N s → W c → faults s (at p c) ≡ [] → All (StepP P) (step_of s c)) where
    abbrev Ws : List (Placed Command) → Type 0
    Ws cs = All (λ c. W c.what) cs

    keep-retained : (s : Standing) (cs : List (Placed Command)) → N s → Ws cs → all_faults s cs ≡ [] → FitSteps (retained s cs)
    unfolding all_faults retained All
    keep-retained s [] x y e = tt
    keep-retained s (c ∷ cs) x y e = go s.inside (keep-retained (after c.what s) cs (stands s c.what x y.0) y.1 (nil-right (faults s c) _ e))
      where
        go : (b : Bool) → FitSteps (retained (after c.what s) cs)
            → FitSteps (if b then map (at c.place) (step_of s c.what) ++ retained (after c.what s) cs else [])
        go true z =
            all-++ _ (map (at c.place) (step_of s c.what)) _
            (all_map (λ (t : Placed Step). StepP P t.what) (at c.place) (step_of s c.what) (steps s c.place c.what x y.0 (nil-left (faults s c) _ e))) z
        go false z = tt

    keep-outputs : (p : ℕ) (b : Bool) (l : List Step) → All (StepP P) l → All FitDeed (if b then [] else map (λ x. output (at p x)) l)
    unfolding All FitDeed
    keep-outputs p true l x = tt
    keep-outputs p false l x = all_map FitDeed (λ t. output (at p t)) l x

    keep_deed : (s : Standing) (p : ℕ) (c : Command) (cs : List (Placed Command)) → N s → W c → Ws cs → faults s (at p c) ≡ [] → all_faults (after c s) cs ≡ [] → All FitDeed (deed_of s p c cs)
    unfolding deed_of All FitDeed
    keep_deed s p (draw k) cs x y z e f = keep-outputs p s.inside (step_of s (draw k)) (steps s p (draw k) x y e)
    keep_deed s p (call n ts) cs x y z e f = keep-outputs p s.inside (step_of s (call n ts)) (steps s p (call n ts) x y e)
    keep_deed s p (start n a b) cs x y z e f = (keep-retained (after (start n a b) s) cs (stands s (start n a b) x y) z f, tt)
    keep_deed s p (delete n) cs x y z e f = (tt, tt)
    keep_deed s p (layer l) cs x y z e f = tt
    keep_deed s p finish cs x y z e f = tt
    keep_deed s p nothing cs x y z e f = tt

    keep-deeds : (s : Standing) (cs : List (Placed Command)) → N s → Ws cs → all_faults s cs ≡ [] → All FitDeed (deeds s cs)
    unfolding all_faults deeds All
    keep-deeds s [] x y e = tt
    keep-deeds s (c ∷ cs) x y e =
        all-++ FitDeed (deed_of s c.place c.what cs) (deeds (after c.what s) cs)
        (keep_deed s c.place c.what cs x y.0 y.1 (nil-left (faults s c) _ e) (nil-right (faults s c) _ e))
        (keep-deeds (after c.what s) cs (stands s c.what x y.0) y.1 (nil-right (faults s c) _ e))

    pub kept : (s : Standing) (cs : List (Placed Command)) → N s → Ws cs → all_faults s cs ≡ [] → All (λ (d : Drawn). Q d.layer_of d.itself) (shapes_of (story [] (deeds s cs)))
    unfolding All
    kept s cs x y e = fitting (story [] (deeds s cs)) (fit-story [] (deeds s cs) tt (keep-deeds s cs x y e))

-- ---- of any commands, every point of every shape that is drawn lies within 16,777,215 of zero

all_of : {A : Type 0} (P : A → Type 0) → ((a : A) → P a) → (l : List A) → All P l
unfolding All
all_of P f [] = tt
all_of P f (a ∷ l) = (f a, all_of P f l)

pub shapes-within : (t : Table) (ds : List Deed) → All Within (shapes_of (story t ds))
unfolding FitDeed
shapes-within t ds = fitting Any Near moves (story t ds) (fit-story Any Near moves t ds (all_of _ (λ d. any_steps d.body) t) (all_of _ any_deed ds))
  where
    Any : List ℕ → Shape ℤ → Type 0
    Any l k = Unit {0}

    Near : List ℕ → Shape ℤ → Type 0
    Near l k = any beyond (both k.points) ≡ false

    moves : (ts : List (Turn ℤ)) (l : List ℕ) (k : Shape ℤ) → Any l k → any beyond (both (moved ts k).points) ≡ false → Near l (moved ts k)
    moves ts l k x e = e

    any_step : (s : Step) → StepP Any s
    any_step (shape l k) = unfold StepP in tt
    any_step (instance n ts) = unfold StepP in tt
    any_step (setting l) = unfold StepP in tt

    any_steps : (b : List (Placed Step)) → All (λ (s : Placed Step). StepP Any s.what) b
    any_steps b = all_of _ (λ s. any_step s.what) b

    any_deed : (d : Deed) → FitDeed Any Near moves d
    any_deed (output s) = any_step s.what
    any_deed (define d) = any_steps d.body
    any_deed (remove n) = tt
