-- What is told of a symbol is the same of lean bodies: own shapes, calls and layers, and what a call of it meets.
-- Assumes nothing.
use mathlib.Core.Path.{◌≡◌, refl, sym, ap, ap₂, ◌∙◌}
use mathlib.Core.Bool.{Bool, true, false}
use mathlib.Core.List.{List, [], ◌∷◌, ◌++◌, flat_map}
use mathlib.Core.Option.{Option, none, some, map}
use Prim.Native.Nat.{ℕ, zero, suc}
use native.Mathlib.Nat.{zero-max}
use lib.ListN.{length}
use Rattle.definition.specs.Words.{Placed, at}
use Rattle.definition.specs.Table.{Step, shape, instance, setting, Definition, Table, find}
use Rattle.definition.specs.Turns.{off_axes}
use Rattle.definition.specs.Words.{any}
use Rattle.definition.specs.Drawing.{Chain, Passage, barred, leads, passage_to, passage_of}
use Rattle.definition.specs.Lean.{lean, lean_definition, lean_table}
use Rattle.definition.specs.Summary.{Reply, bars, stands, both_reply, step_reply, body_reply, higher, reply_by, reply_to, shape?, call?, layers_of, own_shapes, own_calls, own_layers, body_found}
use Rattle.laws.proofs.Lists.Joined.{kept_if, those-flat}
use Rattle.laws.proofs.Story.Tables.{passage_then, passage_map}
use Rattle.laws.proofs.Story.Lean.{Setting, lean-same, lean_none, lean-find}

-- what is true of no L command is kept as it is
module _ (test : Step → Bool) (no_layer_lem : (x : Step) → Setting x → test x ≡ false) where
  abbrev kept : Placed Step → List (Placed Step)
  kept s = kept_if (test s.what) s

  layer-goes : (s : Placed Step) → Setting s.what → kept s ≡ []
  layer-goes s h = ap (λ (b : Bool). kept_if b s) (no_layer_lem s.what h)

  lean-kept : (ss : List (Placed Step)) → flat_map kept (lean ss) ≡ flat_map kept ss
  lean-kept ss = lean-same kept layer-goes ss

layer_no_shape : (x : Step) → Setting x → shape? x ≡ false
unfolding Setting shape?
layer_no_shape (setting l) h = refl
layer_no_shape (shape l k) h = absurd h
layer_no_shape (instance n ts) h = absurd h

layer_no_call : (x : Step) → Setting x → call? x ≡ false
unfolding Setting call?
layer_no_call (setting l) h = refl
layer_no_call (shape l k) h = absurd h
layer_no_call (instance n ts) h = absurd h

counted_same : (test : Step → Bool) → ((x : Step) → Setting x → test x ≡ false) → (ss : List (Placed Step))
    → flat_map (λ s. kept_if (test s.what) s) (lean ss) ≡ flat_map (λ s. kept_if (test s.what) s) ss
counted_same test no_layer_lem ss = lean-kept test no_layer_lem ss

pub lean-shapes : (ss : List (Placed Step)) → own_shapes (lean ss) ≡ own_shapes ss
unfolding own_shapes
lean-shapes ss =
    ap length (those-flat (λ s. shape? s.what) (lean ss) ∙ counted_same shape? layer_no_shape ss ∙ sym (those-flat (λ s. shape? s.what) ss))

pub lean-calls : (ss : List (Placed Step)) → own_calls (lean ss) ≡ own_calls ss
unfolding own_calls
lean-calls ss =
    ap length (those-flat (λ s. call? s.what) (lean ss) ∙ counted_same call? layer_no_call ss ∙ sym (those-flat (λ s. call? s.what) ss))

pub lean-layers : (ss : List (Placed Step)) → own_layers (lean ss) ≡ own_layers ss
unfolding own_layers layers_of Setting
lean-layers ss = lean-same (λ s. layers_of s.what) (λ s. go s.what) ss
  where
    go : (x : Step) → Setting x → layers_of x ≡ []
    go (setting l) h = refl
    go (shape l k) h = absurd h
    go (instance n ts) h = absurd h

-- ---- replies

no_layer? : Step → Bool
no_layer? (setting l) = false
no_layer? (shape l k) = true
no_layer? (instance n ts) = true

layer_no_other : (x : Step) → Setting x → no_layer? x ≡ false
unfolding Setting no_layer?
layer_no_other (setting l) h = refl
layer_no_other (shape l k) h = absurd h
layer_no_other (instance n ts) h = absurd h

nothing-before : (r : Reply) → both_reply (stands 0 []) r ≡ r
unfolding both_reply
nothing-before (bars r) = refl
nothing-before (stands k ms) = ap (λ (h : ℕ). stands h ms) (zero-max k)

-- an L command replies nothing
body-others : (ask : ℕ → ℕ → Reply) (ss : List (Placed Step)) → body_reply ask ss ≡ body_reply ask (flat_map (λ s. kept_if (no_layer? s.what) s) ss)
unfolding body_reply flat_map no_layer? both_reply step_reply
body-others ask [] = refl
body-others ask (s ∷ ss) = go s.what refl (body-others ask ss)
  where
    rest : List (Placed Step)
    rest = flat_map (λ s. kept_if (no_layer? s.what) s) ss

    go : (x : Step) → s.what ≡ x → body_reply ask ss ≡ body_reply ask rest
        → both_reply (step_reply ask s.place x) (body_reply ask ss) ≡ body_reply ask (kept_if (no_layer? x) s ++ rest)
    go (setting l) e h = nothing-before (body_reply ask ss) ∙ h
    go (shape l k) e h = ap₂ (λ (y : Step) (r : Reply). both_reply (step_reply ask s.place y) r) (sym e) h
    go (instance n ts) e h = ap₂ (λ (y : Step) (r : Reply). both_reply (step_reply ask s.place y) r) (sym e) h

pub lean-body : (ask : ℕ → ℕ → Reply) (ss : List (Placed Step)) → body_reply ask (lean ss) ≡ body_reply ask ss
lean-body ask ss = body-others ask (lean ss) ∙ ap (body_reply ask) (counted_same no_layer? layer_no_other ss) ∙ sym (body-others ask ss)

pub body_by : (f g : ℕ → ℕ → Reply) → ((p n : ℕ) → f p n ≡ g p n) → (ss : List (Placed Step)) → body_reply f ss ≡ body_reply g ss
unfolding body_reply step_reply
body_by f g e [] = refl
body_by f g e (s ∷ ss) = go s.what (body_by f g e ss)
  where
    go : (x : Step) → body_reply f ss ≡ body_reply g ss → both_reply (step_reply f s.place x) (body_reply f ss) ≡ both_reply (step_reply g s.place x) (body_reply g ss)
    go (shape l k) h = ap (both_reply (stands 0 (l ∷ []))) h
    go (setting l) h = ap (both_reply (stands 0 [])) h
    go (instance n ts) h = ap₂ both_reply (e s.place n) h

module _ (t : Table) where
  passage_lean : (left : ℕ) (chain : Chain) (n : ℕ) → passage_to (find n (lean_table t)) left chain n ≡ passage_then lean_definition (passage_to (find n t) left chain n)
  unfolding passage_of off_axes any
  passage_lean left chain n = passage_map lean_definition (λ d. refl) left t chain n []

  by_lean : (w : Passage) (f g : Definition → Reply) → ((d : Definition) → f (lean_definition d) ≡ g d) → reply_by (passage_then lean_definition w) f ≡ reply_by w g
  unfolding reply_by passage_then
  by_lean (barred r) f g h = refl
  by_lean (leads d) f g h = ap higher (h d)

  pub lean_replies : (left : ℕ) (chain : Chain) (p n : ℕ) → reply_to left (lean_table t) chain p n ≡ reply_to left t chain p n
  unfolding reply_to
  lean_replies zero chain p n =
      ap (λ (w : Passage). reply_by w (λ d. stands 0 [])) (passage_lean 0 chain n) ∙ by_lean (passage_to (find n t) 0 chain n) (λ d. stands 0 []) (λ d. stands 0 []) (λ d. refl)
  lean_replies (suc left) chain p n =
      let deeper : Chain = chain ++ (at p n ∷ []) in
      let f : Definition → Reply = λ d. body_reply (reply_to left (lean_table t) deeper) d.body in
      let g : Definition → Reply = λ d. body_reply (reply_to left t deeper) d.body in
      ap (λ (w : Passage). reply_by w f) (passage_lean (suc left) chain n)
      ∙ by_lean (passage_to (find n t) (suc left) chain n) f g
      (λ d. lean-body (reply_to left (lean_table t) deeper) d.body
      ∙ body_by (reply_to left (lean_table t) deeper) (reply_to left t deeper) (λ q m. lean_replies left deeper q m) d.body)

  -- and the body found is the lean one
  pub lean_found : (n : ℕ) → body_found (find n (lean_table t)) ≡ lean (body_found (find n t))
  unfolding body_found
  lean_found n = ap body_found (lean-find n t) ∙ go (find n t)
    where
      go : (o : Option Definition) → body_found (map lean_definition o) ≡ lean (body_found o)
      go none = sym lean_none
      go (some d) = refl
