-- Drawing over lean bodies draws the same: what happens is alike but for the definitions that calls name, so it ends the same and its shapes are the same. And what adding a
-- step to a lean body is, and that the lean table is found in, entered in and forgotten from as the table is.
-- Assumes nothing.
use mathlib.Core.Path.{◌≡◌, refl, sym, ap, ◌∙◌, subst}
use mathlib.Core.List.{List, [], ◌∷◌, ◌++◌, flat_map, append_assoc, append-nil}
use mathlib.Core.Option.{map}
use Prim.Native.Nat.{ℕ, zero, suc}
use lib.IntN.{ℤ}
use lib.ListN.{length, length-map}
use Rattle.definition.specs.Limits.{deepest}
use Rattle.definition.specs.Words.{Placed, at}
use Rattle.definition.specs.Commands.{Turn}
use Rattle.definition.specs.Table.{Step, shape, instance, setting, Definition, Table, find, enter, forget}
use Rattle.definition.specs.Drawing.{Chain, Drawn, Event, called, drew, entered, removed, refused, drawn_step, drawn_body, Passage, barred, leads, passage_of, through, drawn_call, output, happens}
use Rattle.definition.specs.Counts.{Counts, counted, ending, shapes_of}
use Rattle.definition.specs.Lean.{last_then, add, add_all, lean, lean_definition, lean_table}
use Rattle.laws.proofs.Lists.Joined.{flat-++, go_on-ap}
use Rattle.laws.proofs.Story.Tables.{Sorted, find-map, enter-map, forget-map, passage_then, passage_map, sorted-map}

-- ---- events that are alike

-- the same events, but for the definition that a call names
pub data Alike : List Event → List Event → Type 0 where
  no_more : Alike [] []
  same : {a b : List Event} (e : Event) → Alike a b → Alike (e ∷ a) (e ∷ b)
  same-call : {a b : List Event} (p : ℕ) (chain : Chain) (d f : Definition) → Alike a b → Alike (called p chain d ∷ a) (called p chain f ∷ b)

pub alike_itself : (es : List Event) → Alike es es
alike_itself [] = no_more
alike_itself (e ∷ es) = same e (alike_itself es)

pub alike_sym : {a b : List Event} → Alike a b → Alike b a
alike_sym no_more = no_more
alike_sym (same e h) = same e (alike_sym h)
alike_sym (same-call p chain d f h) = same-call p chain f d (alike_sym h)

pub alike-++ : {a b x y : List Event} → Alike a b → Alike x y → Alike (a ++ x) (b ++ y)
alike-++ no_more g = g
alike-++ (same e h) g = same e (alike-++ h g)
alike-++ (same-call p chain d f h) g = same-call p chain d f (alike-++ h g)

pub alike_ending : {a b : List Event} → Alike a b → (c : Counts) → ending c a ≡ ending c b
unfolding ending counted
alike_ending no_more c = refl
alike_ending (same {a} {b} e h) c = go_on-ap (counted c e) (λ c'. ending c' a) (λ c'. ending c' b) (λ c'. alike_ending h c')
alike_ending (same-call {a} {b} p chain d f h) c =
    go_on-ap (counted c (called p chain f)) (λ c'. ending c' a) (λ c'. ending c' b) (λ c'. alike_ending h c')

pub alike_shapes : {a b : List Event} → Alike a b → shapes_of a ≡ shapes_of b
unfolding shapes_of
alike_shapes no_more = refl
alike_shapes (same (drew d) h) = ap (λ (x : List Drawn). d ∷ x) (alike_shapes h)
alike_shapes (same (called p chain d) h) = alike_shapes h
alike_shapes (same (entered d before) h) = alike_shapes h
alike_shapes (same (removed n before) h) = alike_shapes h
alike_shapes (same (refused r chain) h) = alike_shapes h
alike_shapes (same-call p chain d f h) = alike_shapes h

-- ---- lean bodies

-- what `add` does: a step is appended, but an L command directly after an L command takes its place
unfoldable pub Setting : Step → Type 0
Setting (setting l) = Unit {0}
Setting (shape l k) = ⊥
Setting (instance n ts) = ⊥

last-replaced : (a : Placed Step) (x : Step) (s : Placed Step) (y : Step) → Setting x → Setting y → last_then a x s y ≡ s ∷ []
unfolding last_then Setting
last-replaced a (setting l) s (setting k) h g = refl
last-replaced a (setting l) s (shape k z) h g = absurd g
last-replaced a (setting l) s (instance n ts) h g = absurd g
last-replaced a (shape l x) s k h g = absurd h
last-replaced a (instance n ts) s k h g = absurd h

last-kept : (a : Placed Step) (x : Step) (s : Placed Step) (y : Step) → (Setting x → Setting y → ⊥) → last_then a x s y ≡ a ∷ s ∷ []
unfolding last_then Setting
last-kept a (setting l) s (setting k) h = absurd (h tt tt)
last-kept a (setting l) s (shape k z) h = refl
last-kept a (setting l) s (instance n ts) h = refl
last-kept a (shape l x) s k h = refl
last-kept a (instance n ts) s k h = refl

pub add-first : (s : Placed Step) → add [] s ≡ s ∷ []
unfolding add
add-first s = refl

-- the first of two steps or more stays
add-later : (a : Placed Step) (ss : List (Placed Step)) (b s : Placed Step) → add (a ∷ (ss ++ b ∷ [])) s ≡ a ∷ add (ss ++ b ∷ []) s
unfolding add
add-later a [] b s = refl
add-later a (x ∷ ss) b s = refl

pub add_replaces : (ss : List (Placed Step)) (a s : Placed Step) → Setting a.what → Setting s.what → add (ss ++ a ∷ []) s ≡ ss ++ s ∷ []
unfolding add
add_replaces [] a s h g = last-replaced a a.what s s.what h g
add_replaces (x ∷ ss) a s h g = add-later x ss a s ∙ ap (λ (l : List (Placed Step)). x ∷ l) (add_replaces ss a s h g)

pub add-after : (ss : List (Placed Step)) (a s : Placed Step) → (Setting a.what → Setting s.what → ⊥) → add (ss ++ a ∷ []) s ≡ ss ++ a ∷ s ∷ []
unfolding add
add-after [] a s h = last-kept a a.what s s.what h
add-after (x ∷ ss) a s h = add-later x ss a s ∙ ap (λ (l : List (Placed Step)). x ∷ l) (add-after ss a s h)

pub add_appends : (ss : List (Placed Step)) (s : Placed Step) → (Setting s.what → ⊥) → add ss s ≡ ss ++ s ∷ []
unfolding add
add_appends [] s h = refl
add_appends (a ∷ []) s h = last-kept a a.what s s.what (λ x. h)
add_appends (a ∷ b ∷ ss) s h = ap (λ (l : List (Placed Step)). a ∷ l) (add_appends (b ∷ ss) s h)

add_all-last : (kept ss : List (Placed Step)) (s : Placed Step) → add_all kept (ss ++ s ∷ []) ≡ add (add_all kept ss) s
unfolding add_all
add_all-last kept [] s = refl
add_all-last kept (a ∷ ss) s = add_all-last (add kept a) ss s

pub lean_none : lean [] ≡ []
unfolding lean add_all
lean_none = refl

pub lean-last : (ss : List (Placed Step)) (s : Placed Step) → lean (ss ++ s ∷ []) ≡ add (lean ss) s
unfolding lean
lean-last ss s = add_all-last [] ss s

-- what an L command adds nothing to is the same of a lean body
module _ {A : Type 0} (f : Placed Step → List A) (nothing : (s : Placed Step) → Setting s.what → f s ≡ []) where
  last-same : (a : Placed Step) (x : Step) (s : Placed Step) (y : Step) → a.what ≡ x → flat_map f (last_then a x s y) ≡ flat_map f (a ∷ s ∷ [])
  unfolding last_then flat_map Setting
  last-same a (setting l) s (setting k) p = sym (ap (λ (z : List A). z ++ (f s ++ [])) (nothing a (subst Setting (sym p) tt)))
  last-same a (setting l) s (shape k z) p = refl
  last-same a (setting l) s (instance n ts) p = refl
  last-same a (shape l x) s k p = refl
  last-same a (instance n ts) s k p = refl

  add_same : (ss : List (Placed Step)) (s : Placed Step) → flat_map f (add ss s) ≡ flat_map f (ss ++ s ∷ [])
  unfolding add flat_map
  add_same [] s = refl
  add_same (a ∷ []) s = last-same a a.what s s.what refl
  add_same (a ∷ b ∷ ss) s = ap (λ (z : List A). f a ++ z) (add_same (b ∷ ss) s)

  all_same : (kept ss : List (Placed Step)) → flat_map f (add_all kept ss) ≡ flat_map f kept ++ flat_map f ss
  unfolding add_all flat_map
  all_same kept [] = sym (append-nil (flat_map f kept))
  all_same kept (s ∷ ss) =
      all_same (add kept s) ss
      ∙ ap (λ (z : List A). z ++ flat_map f ss) (add_same kept s ∙ flat-++ f kept (s ∷ []))
      ∙ append_assoc (flat_map f kept) (flat_map f (s ∷ [])) (flat_map f ss)
      ∙ ap (λ (z : List A). flat_map f kept ++ z) (sym (flat-++ f (s ∷ []) ss))

  pub lean-same : (ss : List (Placed Step)) → flat_map f (lean ss) ≡ flat_map f ss
  unfolding lean flat_map
  lean-same ss = all_same [] ss

-- it draws nothing, so a body draws the same without it
module _ (f : ℕ → ℕ → List (Turn ℤ) → List Event) (chain : Chain) (net : List (Turn ℤ)) where
  abbrev drawn : Placed Step → List Event
  drawn s = drawn_step f chain net s.place s.what

  body-drawn : (ss : List (Placed Step)) → drawn_body f chain net ss ≡ flat_map drawn ss
  unfolding drawn_body flat_map
  body-drawn [] = refl
  body-drawn (s ∷ ss) = ap (λ (x : List Event). drawn s ++ x) (body-drawn ss)

  layer-drawn : (s : Placed Step) → Setting s.what → drawn s ≡ []
  unfolding drawn_step Setting
  layer-drawn s h = go s.what h
    where
      go : (x : Step) → Setting x → drawn_step f chain net s.place x ≡ []
      go (setting l) h = refl
      go (shape l k) h = absurd h
      go (instance n ts) h = absurd h

  pub lean-draws : (ss : List (Placed Step)) → drawn_body f chain net (lean ss) ≡ drawn_body f chain net ss
  lean-draws ss = body-drawn (lean ss) ∙ (lean-same drawn layer-drawn ss ∙ sym (body-drawn ss))

-- ---- lean tables

pub lean-find : (n : ℕ) (t : Table) → find n (lean_table t) ≡ map lean_definition (find n t)
lean-find n t = find-map lean_definition (λ d. refl) n t

pub lean-enter : (d : Definition) (t : Table) → lean_table (enter d t) ≡ enter (lean_definition d) (lean_table t)
lean-enter d t = sym (enter-map lean_definition (λ d. refl) d t)

pub lean-forget : (n : ℕ) (t : Table) → lean_table (forget n t) ≡ forget n (lean_table t)
lean-forget n t = sym (forget-map lean_definition (λ d. refl) n t)

pub lean-length : (t : Table) → length (lean_table t) ≡ length t
lean-length t = length-map t lean_definition

pub lean-sorted : (t : Table) → Sorted t → Sorted (lean_table t)
lean-sorted t x = sorted-map lean_definition (λ d. refl) t x

-- ---- drawing over them

-- calls by which what happens is alike
abbrev pub AlikeCalls : (ℕ → ℕ → List (Turn ℤ) → List Event) → (ℕ → ℕ → List (Turn ℤ) → List Event) → Type 0
AlikeCalls f g = (p n : ℕ) (ts : List (Turn ℤ)) → Alike (f p n ts) (g p n ts)

module _ (f g : ℕ → ℕ → List (Turn ℤ) → List Event) (alike : AlikeCalls f g) (chain : Chain) (net : List (Turn ℤ)) where
  pub alike_step : (p : ℕ) (s : Step) → Alike (drawn_step f chain net p s) (drawn_step g chain net p s)
  unfolding drawn_step
  alike_step p (shape l k) = alike_itself _
  alike_step p (instance n ts) = alike p n ts
  alike_step p (setting l) = no_more

  pub alike_body : (ss : List (Placed Step)) → Alike (drawn_body f chain net ss) (drawn_body g chain net ss)
  unfolding drawn_body
  alike_body [] = no_more
  alike_body (s ∷ ss) = alike-++ (alike_step s.place s.what) (alike_body ss)

  pub alike_lean-body : (ss : List (Placed Step)) → Alike (drawn_body f chain net (lean ss)) (drawn_body g chain net ss)
  alike_lean-body ss = subst (λ (x : List Event). Alike x (drawn_body g chain net ss)) (sym (lean-draws f chain net ss)) (alike_body ss)

through-lean : (w : Passage) (p : ℕ) (chain : Chain) (f g : Definition → List Event) → ((d : Definition) → Alike (f (lean_definition d)) (g d))
    → Alike (through (passage_then lean_definition w) p chain f) (through w p chain g)
unfolding through passage_then
through-lean (barred r) p chain f g h = alike_itself _
through-lean (leads d) p chain f g h = same-call p chain (lean_definition d) d (h d)

module _ (t : Table) where
  call_by : (left : ℕ) (chain : Chain) (p n : ℕ) (ts : List (Turn ℤ)) (f g : Definition → List Event) → ((d : Definition) → Alike (f (lean_definition d)) (g d))
      → Alike (through (passage_of left (lean_table t) chain n ts) p chain f) (through (passage_of left t chain n ts) p chain g)
  call_by left chain p n ts f g h =
      subst (λ (w : Passage). Alike (through w p chain f) (through (passage_of left t chain n ts) p chain g))
      (sym (passage_map lean_definition (λ d. refl) left t chain n ts))
      (through-lean (passage_of left t chain n ts) p chain f g h)

  pub alike_call : (left : ℕ) (chain : Chain) (net : List (Turn ℤ)) → AlikeCalls (drawn_call left (lean_table t) chain net) (drawn_call left t chain net)
  unfolding drawn_call
  alike_call zero chain net p n ts = call_by 0 chain p n ts (λ d. []) (λ d. []) (λ d. no_more)
  alike_call (suc left) chain net p n ts =
      let deeper : Chain = chain ++ (at p n ∷ []) in
      call_by (suc left) chain p n ts (λ d. drawn_body (drawn_call left (lean_table t) deeper (ts ++ net)) deeper (ts ++ net) d.body)
      (λ d. drawn_body (drawn_call left t deeper (ts ++ net)) deeper (ts ++ net) d.body)
      (λ d. alike_lean-body (drawn_call left (lean_table t) deeper (ts ++ net)) (drawn_call left t deeper (ts ++ net)) (λ q m us. alike_call left deeper (ts ++ net) q m us)
      deeper (ts ++ net) d.body)

  -- a body kept in a lean table, drawn by lean calls
  pub alike_drawn : (left : ℕ) (chain : Chain) (net : List (Turn ℤ)) (ss : List (Placed Step))
      → Alike (drawn_body (drawn_call left (lean_table t) chain net) chain net (lean ss)) (drawn_body (drawn_call left t chain net) chain net ss)
  alike_drawn left chain net ss =
      alike_lean-body (drawn_call left (lean_table t) chain net) (drawn_call left t chain net) (λ q m us. alike_call left chain net q m us) chain net ss

  -- a command that is output
  pub alike_output : (s : Placed Step) → Alike (happens (lean_table t) (output s)) (happens t (output s))
  unfolding happens
  alike_output s =
      alike_step (drawn_call deepest (lean_table t) [] []) (drawn_call deepest t [] []) (λ q m us. alike_call deepest [] [] q m us) [] [] s.place s.what
