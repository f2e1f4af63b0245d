-- The words that bodies need, as a sum that is kept up step by step: what a step more, a definition entered and entries forgotten make of it. And a lean body
-- needs no more than the body.
-- Assumes nothing.
use Rattle.std.specs.Prelude.{if◌then◌else◌}
use mathlib.Core.Path.{◌≡◌, refl, sym, ap, subst}
use mathlib.Core.Bool.{Bool, true, false, not}
use mathlib.Core.List.{List, [], ◌∷◌, ◌++◌}
use mathlib.Core.Option.{Option, none, some}
use Prim.Native.Nat.{ℕ, ◌+◌, ◌≤◌}
use native.Mathlib.Omega.{arith}
use lib.Dec.{ltb, eqb}
use borrow.Author.Tests.{ltb-true, eqb-true, eqb-false, ne_eqb, eq-eqb}
use Rattle.definition.specs.Words.{Placed, those}
use Rattle.definition.specs.Table.{Step, shape, instance, setting, Definition, Table, find, enter, forget}
use Rattle.definition.specs.Held.{total, words_of_step, words_of_body, words_in}
use Rattle.definition.specs.Lean.{last_then, add, add_all, lean, lean_table}
use Rattle.laws.proofs.Lists.Range.{all_to}
use Rattle.laws.proofs.Story.Tables.{Above, Sorted, find-above, forgotten}

pub total-++ : {A : Type 0} (f : A → ℕ) (a b : List A) → total f (a ++ b) ≡ total f a + total f b
total-++ f [] b = omega arith
total-++ f (x ∷ a) b = omega (arith, total-++ f a b)

-- ---- a body

pub body_words-++ : (a b : List (Placed Step)) → words_of_body (a ++ b) ≡ words_of_body a + words_of_body b
unfolding words_of_body
body_words-++ a b = total-++ (λ s. words_of_step s.what) a b

pub body_words_last : (ss : List (Placed Step)) (s : Placed Step) → words_of_body (ss ++ s ∷ []) ≡ words_of_body ss + words_of_step s.what
unfolding words_of_body
body_words_last ss s = omega (arith, body_words-++ ss (s ∷ []))

last_words : (a : Placed Step) (x : Step) (s : Placed Step) (y : Step) → words_of_body (last_then a x s y) ≤ words_of_body (a ∷ s ∷ [])
unfolding last_then words_of_body
last_words a (setting l) s (setting k) = omega arith
last_words a (setting l) s (shape k z) = omega arith
last_words a (setting l) s (instance n ts) = omega arith
last_words a (shape l x) s k = omega arith
last_words a (instance n ts) s k = omega arith

pub add_words : (ss : List (Placed Step)) (s : Placed Step) → words_of_body (add ss s) ≤ words_of_body ss + words_of_step s.what
unfolding add words_of_body
add_words [] s = omega arith
add_words (a ∷ []) s = omega (arith, last_words a a.what s s.what)
add_words (a ∷ b ∷ ss) s = omega (arith, add_words (b ∷ ss) s)

add_all_words : (kept ss : List (Placed Step)) → words_of_body (add_all kept ss) ≤ words_of_body kept + words_of_body ss
unfolding add_all words_of_body
add_all_words kept [] = omega arith
add_all_words kept (s ∷ ss) = omega (arith, add_all_words (add kept s) ss, add_words kept s)

pub lean_words : (ss : List (Placed Step)) → words_of_body (lean ss) ≤ words_of_body ss
unfolding lean words_of_body
lean_words ss = omega (arith, add_all_words [] ss)

-- ---- a table

pub words-++ : (a b : Table) → words_in (a ++ b) ≡ words_in a + words_in b
unfolding words_in
words-++ a b = total-++ (λ d. words_of_body d.body) a b

pub lean_words_in : (t : Table) → words_in (lean_table t) ≤ words_in t
unfolding words_in
lean_words_in [] = omega arith
lean_words_in (d ∷ t) = omega (arith, lean_words d.body, lean_words_in t)

unfoldable pub words_found : Option Definition → ℕ  -- of the entry found, if one is
words_found none = 0
words_found (some d) = words_of_body d.body

-- a definition entered adds its words, and those of the entry that it replaces go
pub words_entered : (d : Definition) (t : Table) → Sorted t → words_in (enter d t) + words_found (find d.symbol t) ≡ words_in t + words_of_body d.body
unfolding enter find words_in words_found Sorted
words_entered d [] x = omega arith
words_entered d (e ∷ t) x = go (ltb d.symbol e.symbol) refl (eqb d.symbol e.symbol) refl (words_entered d t x.1)
  where
    go : (a : Bool) → ltb d.symbol e.symbol ≡ a → (b : Bool) → eqb d.symbol e.symbol ≡ b
        → words_in (enter d t) + words_found (find d.symbol t) ≡ words_in t + words_of_body d.body
        → words_in (if a then d ∷ e ∷ t else if b then d ∷ t else e ∷ enter d t) + words_found (if eqb e.symbol d.symbol then some e else find d.symbol t)
        ≡ words_in (e ∷ t) + words_of_body d.body
    go true p b q y =
        rw (
          ne_eqb e.symbol d.symbol (λ h. omega (arith, ltb-true d.symbol e.symbol p)),
          find-above d.symbol t (all_to (Above e.symbol) (Above d.symbol) (λ f g. omega (arith, ltb-true d.symbol e.symbol p)) t x.0),
        )
        (omega arith)
    go false p true q y = rw (eq-eqb e.symbol d.symbol (sym (eqb-true d.symbol e.symbol q))) (omega arith)
    go false p false q y = rw (ne_eqb e.symbol d.symbol (λ h. eqb-false d.symbol e.symbol q (sym h))) (omega arith)

-- under one number, the shorter body needs no more
pub words_enter-less : (d f : Definition) (t : Table) → d.symbol ≡ f.symbol → words_of_body d.body ≤ words_of_body f.body → words_in (enter d t) ≤ words_in (enter f t)
unfolding enter words_in
words_enter-less d f [] e h = omega arith
words_enter-less d f (g ∷ t) e h =
    subst (λ (n : ℕ). words_in (if ltb n g.symbol then d ∷ g ∷ t else if eqb n g.symbol then d ∷ t else g ∷ enter d t) ≤ words_in (enter f (g ∷ t))) (sym e)
    (go (ltb f.symbol g.symbol) (eqb f.symbol g.symbol) (words_enter-less d f t e h))
  where
    go : (a b : Bool) → words_in (enter d t) ≤ words_in (enter f t)
        → words_in (if a then d ∷ g ∷ t else if b then d ∷ t else g ∷ enter d t) ≤ words_in (if a then f ∷ g ∷ t else if b then f ∷ t else g ∷ enter f t)
    go true b y = omega arith
    go false true y = omega arith
    go false false y = omega arith

-- so what is stored of the live bodies, while a definition is read of which more is to come, is no more than what they need after its DF
pub stored-less : (d f : Definition) (rest : List (Placed Step)) (t : Table) → d.symbol ≡ f.symbol → f.body ≡ d.body ++ rest
    → words_in (lean_table (enter d t)) ≤ words_in (enter f t)
stored-less d f rest t e h =
    omega (arith, lean_words_in (enter d t), words_enter-less d f t e (omega (arith, ap words_of_body h, body_words-++ d.body rest)))

-- entries forgotten take their words with them
pub words_forgotten : (n : ℕ) (t : Table) → words_in (forget n t) + words_in (forgotten n t) ≡ words_in t
unfolding forget forgotten those words_in
words_forgotten n [] = refl
words_forgotten n (d ∷ t) = go (ltb d.symbol n) (words_forgotten n t)
  where
    kept : Table
    kept = forget n t

    gone : Table
    gone = forgotten n t

    go : (b : Bool) → words_in kept + words_in gone ≡ words_in t → words_in (if b then d ∷ kept else kept) + words_in (if not b then d ∷ gone else gone) ≡ words_in (d ∷ t)
    go true y = omega arith
    go false y = omega arith

pub words_forget-less : (n : ℕ) (t : Table) → words_in (forget n t) ≤ words_in t
words_forget-less n t = omega (arith, words_forgotten n t)
