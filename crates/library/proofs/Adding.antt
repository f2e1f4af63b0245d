-- A step added to a body, after its last step or in its place: the body's steps and words, and the table in which a definition grows.
-- Assumes nothing.
use Rattle.std.specs.Prelude.{if◌then◌else◌}
use mathlib.Core.Path.{◌≡◌, refl, sym, ap, ap₂, ◌∙◌}
use mathlib.Core.Bool.{Bool, true, false, ◌&&◌}
use mathlib.Core.List.{List, [], ◌∷◌, ◌++◌, append_assoc, append-nil}
use Prim.Native.Nat.{ℕ, suc, ◌≤◌}
use native.Mathlib.Omega.{arith}
use borrow.Author.Tests.{eqb-false, eq-eqb, ne_eqb}
use lib.Dec.{eqb, ltb}
use lib.IntN.{ℤ}
use lib.ListN.{length}
use Rattle.definition.specs.Words.{Placed}
use Rattle.definition.specs.Table.{Step, shape, instance, setting, Table, enter}
use Rattle.definition.specs.Lean.{add}
use Rattle.laws.proofs.Story.Lean.{Setting, add-after, add_replaces}
use Rattle.moves.specs.Moves.{most_values}
use Rattle.library.specs.Memory.{layer_after}
use Rattle.library.specs.Sound.{values_of, step_words, all_words, Fair, Proper}
use Rattle.library.specs.Storing.{layer_words, grown, layer_now, is_layer, last_sets}

pub words_then : (ss : List (Placed Step)) (s : Placed Step) → all_words (ss ++ (s ∷ [])) ≡ all_words ss ++ step_words s
unfolding all_words
words_then [] s = append-nil (step_words s)
words_then (x ∷ ss) s = ap (λ (l : List ℤ). step_words x ++ l) (words_then ss s) ∙ sym (append_assoc (step_words x) (all_words ss) (step_words s))

pub proper_then : (l : List ℕ) (ss : List (Placed Step)) (s : Placed Step) → Proper l ss → Fair (layer_now l ss) s.what → length (values_of s.what) ≤ most_values → Proper l (ss ++ (s ∷ []))
unfolding Proper layer_now
proper_then l [] s p f n = (f, n, tt)
proper_then l (x ∷ ss) s p f n = (p.0, p.1, proper_then (layer_after x.what l) ss s p.2 f n)

-- ---- a step added to a body

is_setting : (x : Step) → is_layer x ≡ true → Setting x
unfolding is_layer Setting
is_setting (setting l) e = tt
is_setting (shape l k) e = cc
is_setting (instance n ts) e = cc

not_both : (x y : Step) → (is_layer x && is_layer y) ≡ false → Setting x → Setting y → ⊥
unfolding is_layer Setting
not_both (setting l) (setting m) e h g = cc
not_both (setting l) (shape m k) e h g = g
not_both (setting l) (instance n ts) e h g = g
not_both (shape l k) y e h g = h
not_both (instance n ts) y e h g = h

pub add-plain : (ss : List (Placed Step)) (s : Placed Step) → (last_sets ss && is_layer s.what) ≡ false → ss ++ (s ∷ []) ≡ add ss s
unfolding add last_sets
add-plain [] s e = refl
add-plain (a ∷ []) s e = sym (add-after [] a s (not_both a.what s.what e))
add-plain (a ∷ c ∷ ss) s e = ap (λ (x : List (Placed Step)). a ∷ x) (add-plain (c ∷ ss) s e)

pub add-again : (ss : List (Placed Step)) (a s : Placed Step) → is_layer a.what ≡ true → is_layer s.what ≡ true → ss ++ (s ∷ []) ≡ add (ss ++ (a ∷ [])) s
add-again ss a s e f = sym (add_replaces ss a s (is_setting a.what e) (is_setting s.what f))

pub last-added : (ss : List (Placed Step)) (s : Placed Step) → last_sets (ss ++ (s ∷ [])) ≡ is_layer s.what
unfolding last_sets
last-added [] s = refl
last-added (a ∷ []) s = refl
last-added (a ∷ c ∷ ss) s = last-added (c ∷ ss) s

-- a body whose last step is an L command
pub record Front (ss : List (Placed Step)) : Type 0 where
  pub kept : List (Placed Step)
  pub layer : Placed Step
  pub are : ss ≡ kept ++ (layer ∷ [])
  pub sets : is_layer layer.what ≡ true

pub front_of : (ss : List (Placed Step)) → last_sets ss ≡ true → Front ss
unfolding last_sets
front_of [] e = absurd (cc)
front_of (a ∷ []) e = record { kept = []; layer = a; are = refl; sets = e }
front_of (a ∷ c ∷ ss) e =
    let r = front_of (c ∷ ss) e in
    record { kept = a ∷ r.kept; layer = r.layer; are = ap (λ (x : List (Placed Step)). a ∷ x) r.are; sets = r.sets }

pub proper_front : (l : List ℕ) (ss : List (Placed Step)) (s : Placed Step) → Proper l (ss ++ (s ∷ [])) → Proper l ss
unfolding Proper
proper_front l [] s p = tt
proper_front l (a ∷ ss) s p = (p.0, p.1, proper_front (layer_after a.what l) ss s p.2)

-- an L command is fair whatever layer stands
pub fair_anywhere : (l m : List ℕ) (s : Step) → is_layer s ≡ true → Fair l s → Fair m s
unfolding is_layer Fair
fair_anywhere l m (setting k) e f = f
fair_anywhere l m (shape k x) e f = absurd (cc)
fair_anywhere l m (instance n ts) e f = absurd (cc)

pub layer_words_lem : (s : Placed Step) → is_layer s.what ≡ true → length (step_words s) ≡ layer_words
layer_words_lem s e = go s.what e
  where
    go : (x : Step) → is_layer x ≡ true → suc (suc (length (values_of x))) ≡ layer_words
    go (setting k) e = unfold values_of in refl
    go (shape k x) e = absurd (let z : ◌≡◌ {A = ℕ} 0 1 = unfold is_layer in cc in omega arith)
    go (instance n ts) e = absurd (let z : ◌≡◌ {A = ℕ} 0 1 = unfold is_layer in cc in omega arith)

-- the definition that is entered grows as the table does
pub enter-grown : (n p : ℕ) (ss : List (Placed Step)) (s : Placed Step) (t : Table)
    → grown n s (enter (record { symbol = n; place = p; body = ss }) t) ≡ enter (record { symbol = n; place = p; body = add ss s }) t
unfolding enter grown
enter-grown n p ss s [] = rw (eq-eqb n n refl)
enter-grown n p ss s (e ∷ t) = go (ltb n e.symbol) (eqb n e.symbol) refl (enter-grown n p ss s t)
  where
    go : (x y : Bool) → eqb n e.symbol ≡ y → grown n s (enter (record { symbol = n; place = p; body = ss }) t) ≡ enter (record { symbol = n; place = p; body = add ss s }) t
        → grown n s (if x then record { symbol = n; place = p; body = ss } ∷ e ∷ t else if y then record { symbol = n; place = p; body = ss } ∷ t else e ∷ enter (record { symbol = n; place = p; body = ss }) t)
        ≡ (if x then record { symbol = n; place = p; body = add ss s } ∷ e ∷ t else if y then record { symbol = n; place = p; body = add ss s } ∷ t else e ∷ enter (record { symbol = n; place = p; body = add ss s }) t)
    go true y q h = unfold grown in rw (eq-eqb n n refl)
    go false true q h = unfold grown in rw (eq-eqb n n refl)
    go false false q h = let z : e.symbol ≡ n → ⊥ = λ w. eqb-false n e.symbol q (sym w) in unfold grown in rw (ne_eqb e.symbol n z) (ap (λ (x : Table). e ∷ x) h)

-- ---- the layer that stands after a body

layer_then : (l : List ℕ) (ss : List (Placed Step)) (s : Placed Step) → layer_now l (ss ++ (s ∷ [])) ≡ layer_after s.what (layer_now l ss)
unfolding layer_now
layer_then l [] s = refl
layer_then l (a ∷ ss) s = layer_then (layer_after a.what l) ss s

layer_anyway : (l m : List ℕ) (x : Step) → is_layer x ≡ true → layer_after x l ≡ layer_after x m
unfolding is_layer
layer_anyway l m (setting k) e = refl
layer_anyway l m (shape k x) e = absurd (cc)
layer_anyway l m (instance n ts) e = absurd (cc)

pub layer-added : (l : List ℕ) (ss : List (Placed Step)) (s : Placed Step) → layer_now l (add ss s) ≡ layer_after s.what (layer_now l ss)
layer-added l ss s = go (last_sets ss) refl (is_layer s.what) refl
  where
    go : (x : Bool) → last_sets ss ≡ x → (y : Bool) → is_layer s.what ≡ y → layer_now l (add ss s) ≡ layer_after s.what (layer_now l ss)
    go true e true f =
        let r = front_of ss e in
        ap (layer_now l) (ap (λ (z : List (Placed Step)). add z s) r.are ∙ sym (add-again r.kept r.layer s r.sets f))
        ∙ (layer_then l r.kept s ∙ layer_anyway (layer_now l r.kept) (layer_now l ss) s.what f)
    go true e false f = ap (layer_now l) (sym (add-plain ss s (ap₂ {C = Bool} (λ (a b : Bool). a && b) e f))) ∙ layer_then l ss s
    go false e y f = ap (layer_now l) (sym (add-plain ss s (ap (λ (a : Bool). a && is_layer s.what) e))) ∙ layer_then l ss s
