-- The symbol table: that it stays in order, each number once; what `forget` leaves is its beginning; and that a change of its definitions which keeps their numbers goes
-- through every operation.
-- Assumes nothing.
use Rattle.std.specs.Prelude.{if◌then◌else◌}
use mathlib.Core.Path.{◌≡◌, refl, ap, ap₂, ◌∙◌}
use mathlib.Core.Bool.{Bool, true, false, not}
use mathlib.Core.List.{List, [], ◌∷◌, ◌++◌, map}
use mathlib.Core.Option
use mathlib.Core.Option.{Option, none, some}
use Prim.Native.Nat.{ℕ, ◌<◌}
use native.Mathlib.Omega.{arith}
use lib.Dec.{ltb, eqb}
use lib.IntN.{ℤ}
use borrow.Author.Tests.{le-ltb, ltb-true, ltb-false, eqb-true, eqb-false, ne_eqb}
use Rattle.definition.specs.Words.{those, any}
use Rattle.definition.specs.Commands.{Turn}
use Rattle.definition.specs.Turns.{off_axes}
use Rattle.definition.specs.Table.{Definition, Table, find, enter, forget}
use Rattle.definition.specs.Drawing.{Deed, output, define, remove, Chain, Passage, barred, leads, passage_to, passage_of, table_after}
use Rattle.laws.proofs.Lists.Range.{All, all_to}
use Rattle.laws.proofs.Lists.Joined.{table_then}
use Rattle.laws.proofs.Story.EventPlaces.{entries_entered, entries_left}

-- ---- order

abbrev pub Above : ℕ → Definition → Type 0
Above n d = n < d.symbol

unfoldable pub Sorted : Table → Type 0  -- each entry's number is below those after it
Sorted [] = Unit {0}
Sorted (d ∷ t) = All (Above d.symbol) t × Sorted t

above_more : {m n : ℕ} (t : Table) → m < n → All (Above n) t → All (Above m) t
above_more {m} {n} t h x = all_to (Above n) (Above m) (λ d g. omega arith) t x

pub sorted-enter : (d : Definition) (t : Table) → Sorted t → Sorted (enter d t)
unfolding enter Sorted All
sorted-enter d [] x = (tt, tt)
sorted-enter d (e ∷ t) x = go (ltb d.symbol e.symbol) refl (eqb d.symbol e.symbol) refl (sorted-enter d t x.1)
  where
    go : (a : Bool) → ltb d.symbol e.symbol ≡ a → (b : Bool) → eqb d.symbol e.symbol ≡ b → Sorted (enter d t)
        → Sorted (if a then d ∷ e ∷ t else if b then d ∷ t else e ∷ enter d t)
    go true p b q y = ((ltb-true _ _ p, above_more t (ltb-true _ _ p) x.0), x)
    go false p true q y =
        let same : d.symbol ≡ e.symbol = eqb-true _ _ q in
        (rw same x.0, x.1)
    go false p false q y =
        let below : e.symbol < d.symbol = omega (arith, ltb-false d.symbol e.symbol p, eqb-false d.symbol e.symbol q) in
        (entries_entered (Above e.symbol) d t below x.0, y)

pub sorted-forget : (n : ℕ) (t : Table) → Sorted t → Sorted (forget n t)
unfolding forget those Sorted
sorted-forget n [] x = tt
sorted-forget n (e ∷ t) x = go (ltb e.symbol n) (sorted-forget n t x.1)
  where
    go : (a : Bool) → Sorted (those (λ d. ltb d.symbol n) t)
        → Sorted (if a then e ∷ those (λ d. ltb d.symbol n) t else those (λ d. ltb d.symbol n) t)
    go true y = (entries_left (Above e.symbol) _ t x.0, y)
    go false y = y

pub sorted_after : (t : Table) (d : Deed) → Sorted t → Sorted (table_after t d)
unfolding table_after
sorted_after t (output s) x = x
sorted_after t (define d) x = sorted-enter d t x
sorted_after t (remove n) x = sorted-forget n.what t x

pub sorted_then : (t : Table) (ds : List Deed) → Sorted t → Sorted (table_then t ds)
unfolding table_then
sorted_then t [] x = x
sorted_then t (d ∷ ds) x = sorted_then (table_after t d) ds (sorted_after t d x)

-- a number below all of a table is not in it
pub find-above : (n : ℕ) (t : Table) → All (Above n) t → find n t ≡ none
unfolding find All
find-above n [] x = refl
find-above n (d ∷ t) x = rw (ne_eqb d.symbol n (λ e. omega (arith, x.0))) (find-above n t x.1)

-- what `forget` takes away; in a sorted table it is the end, and what stays the beginning
unfoldable pub forgotten : ℕ → Table → Table
forgotten n t = those (λ d. not (ltb d.symbol n)) t

all_forgotten : (n : ℕ) (t : Table) → All (Above n) t → (forget n t ≡ []) × (forgotten n t ≡ t)
unfolding forget forgotten those All
all_forgotten n [] x = (refl, refl)
all_forgotten n (d ∷ t) x =
    let y : (forget n t ≡ []) × (forgotten n t ≡ t) = all_forgotten n t x.1 in
    let out : ltb d.symbol n ≡ false = le-ltb d.symbol n (omega (arith, x.0)) in
    (rw out y.0, rw out (ap (λ (u : Table). d ∷ u) y.1))

pub forget-parts : (n : ℕ) (t : Table) → Sorted t → forget n t ++ forgotten n t ≡ t
unfolding forget forgotten those Sorted
forget-parts n [] x = refl
forget-parts n (d ∷ t) x = go (ltb d.symbol n) refl (forget-parts n t x.1)
  where
    kept : Table
    kept = forget n t

    gone : Table
    gone = forgotten n t

    go : (b : Bool) → ltb d.symbol n ≡ b → kept ++ gone ≡ t → (if b then d ∷ kept else kept) ++ (if not b then d ∷ gone else gone) ≡ d ∷ t
    go true e y = ap (λ (u : Table). d ∷ u) y
    go false e y =
        let later : (kept ≡ []) × (gone ≡ t) = all_forgotten n t (all_to (Above d.symbol) (Above n) (λ f g. omega (arith, ltb-false d.symbol n e)) t x.0) in
        rw (later.0, later.1)

-- ---- a change of definitions that keeps their numbers

-- a function of one of two is one of the two functions
pub chosen : {A B : Type 0} (f : A → B) (b : Bool) {x y : A} {x' y' : B} → x' ≡ f x → y' ≡ f y → (if b then x' else y') ≡ f (if b then x else y)
chosen f true e g = e
chosen f false e g = g

unfoldable pub passage_then : (Definition → Definition) → Passage → Passage
passage_then f (barred r) = barred r
passage_then f (leads d) = leads (f d)

module _ (f : Definition → Definition) (keeps : (d : Definition) → (f d).symbol ≡ d.symbol) where
  pub find-map : (n : ℕ) (t : Table) → find n (map f t) ≡ Option.map f (find n t)
  unfolding find
  find-map n [] = refl
  find-map n (d ∷ t) =
      ap (λ (s : ℕ). if eqb s n then some (f d) else find n (map f t)) (keeps d)
      ∙ chosen (Option.map f) (eqb d.symbol n) refl (find-map n t)

  pub enter-map : (d : Definition) (t : Table) → enter (f d) (map f t) ≡ map f (enter d t)
  unfolding enter
  enter-map d [] = refl
  enter-map d (e ∷ t) =
      ap₂ {C = Table} (λ (m n : ℕ). if ltb m n then f d ∷ f e ∷ map f t else if eqb m n then f d ∷ map f t else f e ∷ enter (f d) (map f t)) (keeps d) (keeps e)
      ∙ chosen (map f) (ltb d.symbol e.symbol) refl
      (chosen (map f) (eqb d.symbol e.symbol) refl (ap (λ (x : Table). f e ∷ x) (enter-map d t)))

  pub forget-map : (n : ℕ) (t : Table) → forget n (map f t) ≡ map f (forget n t)
  unfolding forget those
  forget-map n [] = refl
  forget-map n (d ∷ t) =
      ap (λ (s : ℕ). if ltb s n then f d ∷ forget n (map f t) else forget n (map f t)) (keeps d)
      ∙ chosen (map f) (ltb d.symbol n) (ap (λ (x : Table). f d ∷ x) (forget-map n t)) (forget-map n t)

  pub passage_map : (left : ℕ) (t : Table) (chain : Chain) (n : ℕ) (ts : List (Turn ℤ)) → passage_of left (map f t) chain n ts ≡ passage_then f (passage_of left t chain n ts)
  unfolding passage_of passage_to passage_then
  passage_map left t chain n ts = rw (find-map n t) (chosen (passage_then f) (off_axes ts) refl (go (find n t)))
    where
      go : (found : Option Definition) → passage_to (Option.map f found) left chain n ≡ passage_then f (passage_to found left chain n)
      go none = refl
      go (some d) = chosen (passage_then f) (any (λ c. eqb c.what n) chain) refl (chosen (passage_then f) (eqb left 0) refl refl)

  sorted_all : (n : ℕ) (t : Table) → All (Above n) t → All (Above n) (map f t)
  unfolding All
  sorted_all n [] x = tt
  sorted_all n (d ∷ t) x = (rw (keeps d) x.0, sorted_all n t x.1)

  pub sorted-map : (t : Table) → Sorted t → Sorted (map f t)
  unfolding Sorted
  sorted-map [] x = tt
  sorted-map (d ∷ t) x = (rw (keeps d) (sorted_all d.symbol t x.0), sorted-map t x.1)
