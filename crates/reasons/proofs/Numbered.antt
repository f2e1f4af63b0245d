-- The shape with a count, from 1: it stands there in the list, with one fewer before it than the count; and there is none exactly for count 0 and for a count above the shapes.
-- Assumes nothing.
use mathlib.Core.Path.{◌≡◌, refl, sym, ap, ◌∙◌}
use mathlib.Core.List.{List, [], ◌∷◌, ◌++◌}
use mathlib.Core.Logic.{◌⊎◌, inl, inr, ◌↔◌}
use mathlib.Core.Option.{Option, none, some}
use Prim.Native.Nat.{ℕ, zero, suc, ◌+◌, ◌≤◌, ◌<◌}
use native.Mathlib.Omega.{arith}
use lib.ListN.{length, drop}
use Rattle.definition.specs.Words.{first}
use Rattle.definition.specs.Drawing.{Drawn}
use Rattle.definition.specs.Why.{numbered}

pub none_some : {A : Type 0} {a : A} → none ≡ some a → ⊥
none_some h = let z : ◌≡◌ {A = ℕ} 0 1 = cc in omega (arith, z)

-- d stands at this count in the list
pub record ListedAt (count : ℕ) (ds : List Drawn) (d : Drawn) : Type 0 where
  pub before : List Drawn
  pub after : List Drawn
  pub parted : ds ≡ before ++ d ∷ after
  pub counts_to : length before + 1 ≡ count

one_more : (n : ℕ) (x : Drawn) (ds : List Drawn) {d : Drawn} → ListedAt (suc n) ds d → ListedAt (suc (suc n)) (x ∷ ds) d
one_more n x ds l = record { before = x ∷ l.before; after = l.after; parted = ap (λ (y : List Drawn). x ∷ y) l.parted; counts_to = let h = l.counts_to in omega (arith, h) }

listed_from : (n : ℕ) (ds : List Drawn) (d : Drawn) → first (drop n ds) ≡ some d → ListedAt (suc n) ds d
unfolding first
listed_from zero [] d h = absurd (none_some h)
listed_from (suc n) [] d h = absurd (none_some h)
listed_from zero (x ∷ ds) d h = record { before = []; after = ds; parted = ap (λ (y : Drawn). y ∷ ds) (same h); counts_to = refl }
  where
    same : some x ≡ some d → x ≡ d
    same q = cc
listed_from (suc n) (x ∷ ds) d h = one_more n x ds (listed_from n ds d h)

found_from : (before : List Drawn) (d : Drawn) (after : List Drawn) → first (drop (length before) (before ++ d ∷ after)) ≡ some d
unfolding first
found_from [] d after = refl
found_from (x ∷ before) d after = found_from before d after

pub numbered-when : (count : ℕ) (ds : List Drawn) (d : Drawn) → (numbered count ds ≡ some d) ↔ ListedAt count ds d
unfolding numbered
numbered-when count ds d = (there count, back count)
  where
    there : (c : ℕ) → numbered c ds ≡ some d → ListedAt c ds d
    there zero h = absurd (none_some h)
    there (suc n) h = listed_from n ds d h

    back : (c : ℕ) → ListedAt c ds d → numbered c ds ≡ some d
    back zero l = let h = l.counts_to in absurd (omega (arith, h))
    back (suc n) l =
        let e : n ≡ length l.before = let h = l.counts_to in omega (arith, h) in
        ap (λ (k : ℕ). first (drop k ds)) e ∙ ap (λ (x : List Drawn). first (drop (length l.before) x)) l.parted ∙ found_from l.before d l.after

-- count 0, or a count above the shapes
abbrev pub Missing : (count : ℕ) → List Drawn → Type 0
Missing count ds = (count ≡ 0) ⊎ (length ds < count)

none_from : (n : ℕ) (ds : List Drawn) → (first (drop n ds) ≡ none) ↔ (length ds ≤ n)
unfolding first
none_from zero [] = (λ h. omega arith, λ h. refl)
none_from (suc n) [] = (λ h. omega arith, λ h. refl)
none_from zero (x ∷ ds) = (λ h. absurd (none_some (sym h)), λ h. absurd (omega (arith, h)))
none_from (suc n) (x ∷ ds) = (λ h. (let l = (none_from n ds).0 h in omega (arith, l)), λ h. (none_from n ds).1 (omega (arith, h)))

pub none_when : (count : ℕ) (ds : List Drawn) → (numbered count ds ≡ none) ↔ Missing count ds
unfolding numbered
none_when zero ds = (λ h. inl refl, λ h. refl)
none_when (suc n) ds = (λ h. (let l = (none_from n ds).0 h in inr (omega (arith, l))), back)
  where
    back : Missing (suc n) ds → first (drop n ds) ≡ none
    back (inl h) = absurd (omega (arith, h))
    back (inr h) = (none_from n ds).1 (omega (arith, h))
