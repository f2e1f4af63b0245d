-- Bodies are kept lean, and no call is lost by it: the dangling calls of a table that is kept lean are those of the table.
-- Assumes nothing.
use Rattle.std.specs.Prelude.{if◌then◌else◌}
use mathlib.Core.Path.{◌≡◌, refl, sym, ap, ap₂, ◌∙◌}
use mathlib.Core.Bool.{Bool, true, false}
use mathlib.Core.List.{List, [], ◌∷◌, ◌++◌, flat_map}
use mathlib.Core.Option.{Option, none, some, map}
use Rattle.definition.specs.Words.{Placed, those, none?}
use Rattle.definition.specs.Table.{Step, shape, instance, setting, Definition, Table, find}
use Rattle.definition.specs.Lean.{lean, lean_definition, lean_table}
use Rattle.definition.specs.Warnings.{dangles, dangling_calls}
use Rattle.laws.proofs.Lists.Joined.{kept_if, those-flat}
use Rattle.laws.proofs.Story.Lean.{Setting, lean-same, lean-find}

-- ---- calls

none_map : {A B : Type 0} (f : A → B) (o : Option A) → none? (map f o) ≡ none? o
none_map f none = refl
none_map f (some a) = refl

-- a call dangles by the numbers that are live, and these are the same
lean-dangles : (t : Table) (s : Step) → dangles (lean_table t) s ≡ dangles t s
unfolding dangles
lean-dangles t (instance n ts) = ap none? (lean-find n t) ∙ none_map lean_definition (find n t)
lean-dangles t (shape l k) = refl
lean-dangles t (setting l) = refl

layer-goes : (t : Table) (s : Placed Step) → Setting s.what → kept_if (dangles t s.what) s ≡ []
unfolding dangles Setting
layer-goes t s h = go s.what h
  where
    go : (x : Step) → Setting x → kept_if (dangles t x) s ≡ []
    go (setting l) h = refl
    go (shape l k) h = absurd h
    go (instance n ts) h = absurd h

flat_by : {A B : Type 0} (f g : A → List B) → ((a : A) → f a ≡ g a) → (l : List A) → flat_map f l ≡ flat_map g l
unfolding flat_map
flat_by f g e [] = refl
flat_by {B = B} f g e (a ∷ l) = ap₂ {C = List B} (λ (x y : List B). x ++ y) (e a) (flat_by f g e l)

module _ (t : Table) where
  abbrev calls_of : Placed Step → List (Placed Step)
  calls_of s = kept_if (dangles t s.what) s

  body_same : (ss : List (Placed Step)) → those (λ s. dangles (lean_table t) s.what) (lean ss) ≡ those (λ s. dangles t s.what) ss
  body_same ss =
      those-flat (λ s. dangles (lean_table t) s.what) (lean ss)
      ∙ (flat_by (λ s. kept_if (dangles (lean_table t) s.what) s) calls_of (λ s. ap (λ (b : Bool). kept_if b s) (lean-dangles t s.what)) (lean ss)
      ∙ (lean-same calls_of (layer-goes t) ss ∙ sym (those-flat (λ s. dangles t s.what) ss)))

  bodies_same : (ds : List Definition)
      → flat_map (λ d. those (λ s. dangles (lean_table t) s.what) d.body) (lean_table ds) ≡ flat_map (λ d. those (λ s. dangles t s.what) d.body) ds
  unfolding flat_map
  bodies_same [] = refl
  bodies_same (d ∷ ds) = ap₂ {C = List (Placed Step)} (λ (x y : List (Placed Step)). x ++ y) (body_same d.body) (bodies_same ds)

pub lean-dangling : (t : Table) → dangling_calls (lean_table t) ≡ dangling_calls t
unfolding dangling_calls
lean-dangling t = bodies_same t t
