-- Rows that move as a definition is entered, and the column with them: afterwards it is what would be made afresh from the bodies.
-- Assumes nothing.
use Rattle.std.specs.Prelude.{if◌then◌else◌}
use mathlib.Core.Path.{◌≡◌, refl, sym, ap, ◌∙◌, subst}
use mathlib.Core.Bool.{Bool, true, false}
use mathlib.Core.List.{List, [], ◌∷◌}
use mathlib.Core.Logic.{◌⊎◌, inl, inr}
use Prim.Native.Nat.{ℕ, zero, suc, ◌+◌, ◌≤◌, ◌<◌}
use native.Mathlib.Omega.{arith}
use lib.Dec.{ltb, eqb}
use lib.IntN.{ℤ}
use lib.ListN.{length, get_or}
use Rattle.definition.specs.Words.{Placed}
use Rattle.definition.specs.Table.{Step, Definition, Table, enter}
use Rattle.definition.specs.Lean.{lean, lean_definition}
use Rattle.library.specs.Memory.{most, symbol_at, body_at, definition_at}
use Rattle.library.specs.Rows.{Sorted, bare}
use Rattle.library.specs.Holds.{HoldsFrom, Holds}
use Rattle.columns.specs.declared.Own.{Own}
use Rattle.columns.specs.Columns.{own_at, OwnBy, Puts, More, Stands, Enters, Afresh}

-- ---- where an entry comes to stand

record PlacedAt (d x : Definition) (t u : Table) (r : ℕ) : Type 0 where
  inside : r < length u
  size : (length u ≡ length t) ⊎ (length u ≡ length t + 1)
  here : get_or u r x ≡ d
  below : (j : ℕ) → j < r → get_or u j x ≡ get_or t j x
  replaced : length u ≡ length t → (j : ℕ) → r < j → get_or u j x ≡ get_or t j x
  added : length u ≡ length t + 1 → (j : ℕ) → r ≤ j → get_or u (suc j) x ≡ get_or t j x

module _ (d x : Definition) where
  to_none : PlacedAt d x [] (d ∷ []) 0
  to_none = record {
    inside = omega arith;
    size = inr (omega arith);
    here = refl;
    below = λ j h. absurd (omega (arith, h));
    replaced = λ e j h. absurd (omega (arith, e));
    added = λ e j h. refl;
  }

  to_first : (e : Definition) (t : Table) → PlacedAt d x (e ∷ t) (d ∷ e ∷ t) 0
  to_first e t = record {
    inside = omega arith;
    size = inr (omega arith);
    here = refl;
    below = λ j h. absurd (omega (arith, h));
    replaced = λ q j h. absurd (omega (arith, q));
    added = λ q j h. refl;
  }

  to_same : (e : Definition) (t : Table) → PlacedAt d x (e ∷ t) (d ∷ t) 0
  to_same e t = record {
    inside = omega arith;
    size = inl (omega arith);
    here = refl;
    below = λ j h. absurd (omega (arith, h));
    replaced = λ q. later;
    added = λ q j h. absurd (omega (arith, q));
  }
    where
      later : (j : ℕ) → 0 < j → get_or (d ∷ t) j x ≡ get_or (e ∷ t) j x
      later zero h = absurd (omega (arith, h))
      later (suc j) h = refl

  to_later : (e : Definition) (t u : Table) (r : ℕ) → PlacedAt d x t u r → PlacedAt d x (e ∷ t) (e ∷ u) (suc r)
  to_later e t u r p = record {
    inside = omega (arith, p.inside);
    size = more p.size;
    here = p.here;
    below = low;
    replaced = λ q. high (omega (arith, q));
    added = λ q. higher (omega (arith, q));
  }
    where
      more : (length u ≡ length t) ⊎ (length u ≡ length t + 1) → (length (e ∷ u) ≡ length (e ∷ t)) ⊎ (length (e ∷ u) ≡ length (e ∷ t) + 1)
      more (inl q) = inl (omega (arith, q))
      more (inr q) = inr (omega (arith, q))

      low : (j : ℕ) → j < suc r → get_or (e ∷ u) j x ≡ get_or (e ∷ t) j x
      low zero h = refl
      low (suc j) h = p.below j (omega (arith, h))

      high : length u ≡ length t → (j : ℕ) → suc r < j → get_or (e ∷ u) j x ≡ get_or (e ∷ t) j x
      high q zero h = absurd (omega (arith, h))
      high q (suc j) h = p.replaced q j (omega (arith, h))

      higher : length u ≡ length t + 1 → (j : ℕ) → suc r ≤ j → get_or (e ∷ u) (suc j) x ≡ get_or (e ∷ t) j x
      higher q zero h = absurd (omega (arith, h))
      higher q (suc j) h = p.added q j (omega (arith, h))

  placed : (t : Table) → (r : ℕ) × PlacedAt d x t (enter d t) r
  unfolding enter
  placed [] = (0, to_none)
  placed (e ∷ t) = go (ltb d.symbol e.symbol) (eqb d.symbol e.symbol) (placed t)
    where
      go : (a b : Bool) → ((r : ℕ) × PlacedAt d x t (enter d t) r)
          → (r : ℕ) × PlacedAt d x (e ∷ t) (if a then d ∷ e ∷ t else if b then d ∷ t else e ∷ enter d t) r
      go true b p = (0, to_first e t)
      go false true p = (0, to_same e t)
      go false false p = (suc p.0, to_later e t (enter d t) p.0 p.1)

-- ---- what a row holds

from_means : (rows : List ℕ) (b : List ℤ) (t : Table) (i k : ℕ) (x : Definition) → HoldsFrom rows b i t → k < length t → definition_at rows b (i + k) ≡ lean_definition (get_or t k x)
unfolding HoldsFrom
from_means rows b [] i k x h l = absurd (omega (arith, l))
from_means rows b (d ∷ t) i zero x h l =
    let e : i + 0 ≡ i = omega arith in ap (definition_at rows b) e ∙ h.0.kept_lean
from_means rows b (d ∷ t) i (suc k) x h l =
    let e : i + suc k ≡ i + 1 + k = omega arith in ap (definition_at rows b) e ∙ from_means rows b t (i + 1) k x h.1 (omega (arith, l))

module _ {rows : List ℕ} {b : List ℤ} {live : ℕ} {t : Table} (h : Holds rows b live t) (x : Definition) (k : ℕ) (l : k < live) where
  means : definition_at rows b k ≡ lean_definition (get_or t k x)
  means = let e : 0 + k ≡ k = omega arith in sym (ap (definition_at rows b) e) ∙ from_means rows b t 0 k x h.each (omega (arith, l, h.many))

  pub body-held : body_at rows b k ≡ lean (get_or t k x).body
  body-held = ap (λ (d : Definition). d.body) means

  pub symbol-held : symbol_at rows k ≡ (get_or t k x).symbol
  symbol-held = ap (λ (d : Definition). d.symbol) means

-- a number stands in one row
one_row : {rows : List ℕ} {live i j : ℕ} → Sorted rows live → i < live → j < live → symbol_at rows i ≡ symbol_at rows j → i ≡ j
one_row {rows} {live} {i} {j} s h g e = go (three i j)
  where
    three : (i j : ℕ) → (i ≡ j) ⊎ ((i < j) ⊎ (j < i))
    three zero zero = inl refl
    three zero (suc j) = inr (inl (omega arith))
    three (suc i) zero = inr (inr (omega arith))
    three (suc i) (suc j) = more (three i j)
      where
        more : (i ≡ j) ⊎ ((i < j) ⊎ (j < i)) → (suc i ≡ suc j) ⊎ ((suc i < suc j) ⊎ (suc j < suc i))
        more (inl q) = inl (ap suc q)
        more (inr (inl q)) = inr (inl (omega (arith, q)))
        more (inr (inr q)) = inr (inr (omega (arith, q)))

    go : (i ≡ j) ⊎ ((i < j) ⊎ (j < i)) → i ≡ j
    go (inl q) = q
    go (inr (inl q)) = absurd (let z = s.rising i j q g in omega (arith, z, e))
    go (inr (inr q)) = absurd (let z = s.rising j i q h in omega (arith, z, e))

-- ---- a definition is entered

module _ {rows rows' : List ℕ} {b b' : List ℤ} {live live' : ℕ} {t : Table} (d : Definition) (h : Holds rows b live t) (h' : Holds rows' b' live' (enter d t)) where
  abbrev x : Definition
  x = bare 0 0

  abbrev r : ℕ
  r = (placed d x t).0

  abbrev p : PlacedAt d x t (enter d t) r
  p = (placed d x t).1

  inside_live : r < live'
  inside_live = omega (arith, p.inside, h'.many)

  -- as many rows as before or one more, and it is one of them
  pub entered-more : More live live'
  entered-more = go p.size
    where
      go : (length (enter d t) ≡ length t) ⊎ (length (enter d t) ≡ length t + 1) → More live live'
      go (inl e) = inl (omega (arith, e, h.many, h'.many))
      go (inr e) = inr (omega (arith, e, h.many, h'.many))

  symbol_there : symbol_at rows' r ≡ d.symbol
  symbol_there = symbol-held h' x r inside_live ∙ ap (λ (e : Definition). e.symbol) p.here

  pub entered-stands : {n : ℕ} → n ≡ d.symbol → Stands rows' live' n
  entered-stands e = record { at = r; within = inside_live; is = symbol_there ∙ sym e }

  module _ (s : Sorted rows' live') {row : ℕ} (here : row < live') (q : symbol_at rows' row ≡ d.symbol) where
    is_row : r ≡ row
    is_row = one_row s inside_live here (symbol_there ∙ sym q)

    -- the body of another row is the one that it was
    stays-below : (j : ℕ) → j < row → j < live' → j < live → body_at rows' b' j ≡ body_at rows b j
    stays-below j l m k =
        body-held h' x j m ∙ (ap (λ (e : Definition). lean e.body) (p.below j (omega (arith, l, is_row))) ∙ sym (body-held h x j k))

    stays-above : live' ≡ live → (j : ℕ) → row < j → (m : j < live') → body_at rows' b' j ≡ body_at rows b j
    stays-above e j l m =
        body-held h' x j m
        ∙ (ap (λ (e : Definition). lean e.body) (p.replaced (omega (arith, e, h.many, h'.many)) j (omega (arith, l, is_row))) ∙ sym (body-held h x j (omega (arith, m, e))))

    goes_up : live' ≡ live + 1 → (j : ℕ) → row ≤ j → (m : suc j < live') → body_at rows' b' (suc j) ≡ body_at rows b j
    goes_up e j l m =
        body-held h' x (suc j) m
        ∙ (ap (λ (e : Definition). lean e.body) (p.added (omega (arith, e, h.many, h'.many)) j (omega (arith, l, is_row))) ∙ sym (body-held h x j (omega (arith, m, e))))

    -- so are its numbers, whatever is told of a body
    module _ (P : Own → List (Placed Step) → Type 0) {old new : List Own} {v : Own} (put : Puts old live live' row v new) (mine : P v (body_at rows' b' row))
        (others : (i : ℕ) → i < live → P (own_at old i) (body_at rows b i)) where
      low : (j : ℕ) → j < row → j < live' → j < live → P (own_at new j) (body_at rows' b' j)
      low j l m k =
          subst (λ (n : Own). P n (body_at rows' b' j)) (sym (put.below j l)) (subst (P (own_at old j)) (sym (stays-below j l m k)) (others j k))

      high : live' ≡ live → (j : ℕ) → row < j → j < live' → P (own_at new j) (body_at rows' b' j)
      high e j l m =
          subst (λ (n : Own). P n (body_at rows' b' j)) (sym (put.replaced e j l)) (subst (P (own_at old j)) (sym (stays-above e j l m)) (others j (omega (arith, m, e))))

      up : live' ≡ live + 1 → (j : ℕ) → row < j → j < live' → P (own_at new j) (body_at rows' b' j)
      up e zero l m = absurd (omega (arith, l))
      up e (suc j) l m =
          let one : j + 1 ≡ suc j = omega arith in
          subst (λ (n : Own). P n (body_at rows' b' (suc j))) (sym (sym (ap (λ (k : ℕ). own_at new k) one) ∙ put.added e j (omega (arith, l)) (omega (arith, m, e))))
          (subst (P (own_at old j)) (sym (goes_up e j (omega (arith, l)) m)) (others j (omega (arith, m, e))))

      after : More live live' → (j : ℕ) → row < j → j < live' → P (own_at new j) (body_at rows' b' j)
      after (inl e) j l m = high e j l m
      after (inr e) j l m = up e j l m

      moved : (j : ℕ) → j < live' → P (own_at new j) (body_at rows' b' j)
      moved j m = go (three_way j row)
        where
          three_way : (i j : ℕ) → (i < j) ⊎ ((i ≡ j) ⊎ (j < i))
          three_way zero zero = inr (inl refl)
          three_way zero (suc j) = inl (omega arith)
          three_way (suc i) zero = inr (inr (omega arith))
          three_way (suc i) (suc j) = more (three_way i j)
            where
              more : (i < j) ⊎ ((i ≡ j) ⊎ (j < i)) → (suc i < suc j) ⊎ ((suc i ≡ suc j) ⊎ (suc j < suc i))
              more (inl q) = inl (omega (arith, q))
              more (inr (inl q)) = inr (inl (ap suc q))
              more (inr (inr q)) = inr (inr (omega (arith, q)))

          go : (j < row) ⊎ ((j ≡ row) ⊎ (row < j)) → P (own_at new j) (body_at rows' b' j)
          go (inl l) = low j l m (below_live entered-more)
            where
              below_live : More live live' → j < live
              below_live (inl e) = omega (arith, e, m)
              below_live (inr e) = omega (arith, e, l, here)
          go (inr (inl e)) = subst (λ (k : ℕ). P (own_at new k) (body_at rows' b' k)) (sym e) (subst (λ (n : Own). P n (body_at rows' b' row)) (sym put.here) mine)
          go (inr (inr l)) = after entered-more j l m

  -- the theorem: after a DF the column is the one made afresh
  pub afresh-entered : {names : List ℕ} {count : ℕ} {column column' : List Own} {n : ℕ} → n ≡ d.symbol → Sorted rows' live'
      → Afresh rows b live names count column → Enters b' rows' live live' n names count column column' → Afresh rows' b' live' names count column'
  afresh-entered {names} {count} q s a e = record {
    sized = e.put.size ∙ a.sized;
    are = moved s e.here (e.symbol_is ∙ q) (λ v ss. OwnBy names count ss v) e.put e.own_is a.are;
  }

-- and after a DD
pub afresh-cut : {rows : List ℕ} {b : List ℤ} {live left : ℕ} {names : List ℕ} {count : ℕ} {column : List Own} → left ≤ live
    → Afresh rows b live names count column → Afresh rows b left names count column
afresh-cut h a = record { sized = a.sized; are = λ i l. a.are i (omega (arith, l, h)) }

-- of no rows
pub afresh_none : (rows : List ℕ) (b : List ℤ) (names : List ℕ) (count : ℕ) {column : List Own} → length column ≡ most → Afresh rows b 0 names count column
afresh_none rows b names count e = record { sized = e; are = λ i l. absurd (omega (arith, l)) }
