-- The numbers of a line, one by one: a space before each but the first.
-- Assumes nothing.
use mathlib.Core.Path.{◌≡◌, refl, sym, ap, ◌∙◌, subst}
use mathlib.Core.Bool.{Bool, true, false}
use mathlib.Core.List.{List, [], ◌∷◌, ◌++◌, append_assoc, append-nil}
use Prim.Native.Nat.{ℕ, ◌+◌, ◌*◌, ◌≤◌, ◌<◌}
use native.Mathlib.Numerals.{add-one}
use native.Mathlib.Omega.{arith}
use borrow.Author.Tests.{ne_eqb}
use lib.Dec.{eqb}
use lib.IntN.{ℤ, pos, nat_abs}
use lib.ListN.{length, get_or, drop, drop_of_length-le}
use lib.Seq.{drop-cons}
use Rattle.definition.specs.Flat.{decimal, spaced, line}
use Rattle.digits.specs.Writes.{Writes}
use Rattle.pen.specs.Lines.{space, number}
use Rattle.digits.proofs.Writing.{WrittenSoFar, begun, goes_on, over}
use Rattle.digits.proofs.Digits.{decimal-64}

-- a space, and the number behind it
pub space-short : (first : Bool) → length (space first) ≤ 1
space-short true = omega arith
space-short false = omega arith

pub space-number : (first : Bool) (z : ℤ) → space first ++ decimal z ≡ number first z
space-number true z = refl
space-number false z = refl

-- the numbers, of which the first is a line's first or not
unfoldable pub numbers_by : Bool → List ℤ → List ℕ
numbers_by first [] = []
numbers_by first (z ∷ zs) = number first z ++ numbers_by false zs

pub spaced_is : (zs : List ℤ) → spaced zs ≡ numbers_by true zs
unfolding spaced numbers_by
spaced_is [] = refl
spaced_is (z ∷ []) = sym (append-nil (decimal z))
spaced_is (z ∷ y ∷ zs) = ap (λ (l : List ℕ). decimal z ++ l) (others y zs)
  where
    others : (y : ℤ) (zs : List ℤ) → 32 ∷ spaced (y ∷ zs) ≡ numbers_by false (y ∷ zs)
    others y [] = ap (λ (l : List ℕ). 32 ∷ l) (sym (append-nil (decimal y)))
    others y (x ∷ zs) = ap (λ (l : List ℕ). 32 ∷ (decimal y ++ l)) (others x zs)

-- numbers that are written in several runs
pub numbers-++ : (first : Bool) (z : ℤ) (zs ys : List ℤ) → numbers_by first (z ∷ zs ++ ys) ≡ numbers_by first (z ∷ zs) ++ numbers_by false ys
unfolding numbers_by
numbers-++ first z [] ys = ap (λ (l : List ℕ). l ++ numbers_by false ys) (sym (append-nil (number first z)))
numbers-++ first z (y ∷ zs) ys =
    ap (λ (l : List ℕ). number first z ++ l) (numbers-++ false y zs ys)
    ∙ sym (append_assoc (number first z) (numbers_by false (y ∷ zs)) (numbers_by false ys))

-- a line number by number
pub line_is : (letter : ℕ) (zs : List ℤ) → line letter (spaced zs) ≡ letter ∷ (numbers_by true zs ++ (59 ∷ 10 ∷ []))
line_is letter zs = ap (line letter) (spaced_is zs)

-- one more, as a loop over a lent run comes to it
pub next-number : (zs : List ℤ) (i : ℕ) → i < length zs → numbers_by (eqb i 0) (drop i zs) ≡ number (eqb i 0) (get_or zs i (pos 0)) ++ numbers_by (eqb (i + 1) 0) (drop (i + 1) zs)
unfolding numbers_by
next-number zs i h = rw (ne_eqb (i + 1) 0 (λ e. omega (arith, e)), drop-cons zs i (pos 0), add-one)

pub no_number : (zs : List ℤ) (i : ℕ) → length zs ≤ i → numbers_by (eqb i 0) (drop i zs) ≡ []
unfolding numbers_by
no_number zs i h = rw (drop_of_length-le zs h)

pub number-64 : (first : Bool) (z : ℤ) → nat_abs z ≤ 9223372036854775808 → length (number first z) ≤ 21
number-64 true z h = let q = decimal-64 z h in omega (arith, q)
number-64 false z h = let q = decimal-64 z h in omega (arith, q)

-- ---- the loop over a run of numbers

-- i of them are written
pub record Along (old new : List ℕ) (start at : ℕ) (zs : List ℤ) (i : ℕ) : Type 0 where
  pub within : i ≤ length zs
  pub short : at ≤ start + 21 * i
  pub going : WrittenSoFar old new start at (spaced zs) (numbers_by (eqb i 0) (drop i zs))

pub first-along : (room : List ℕ) (start : ℕ) (zs : List ℤ) → Along room room start start zs 0
first-along room start zs = record { within = omega arith; short = omega arith; going = subst (WrittenSoFar room room start start (spaced zs)) (spaced_is zs) (begun room start (spaced zs)) }

pub next-along : {r₀ r₁ r₂ : List ℕ} {start at next : ℕ} {zs : List ℤ} {i : ℕ} → Along r₀ r₁ start at zs i → i < length zs
    → nat_abs (get_or zs i (pos 0)) ≤ 9223372036854775808 → Writes r₁ r₂ at next (number (eqb i 0) (get_or zs i (pos 0))) → Along r₀ r₂ start next zs (i + 1)
next-along {zs = zs} {i} a h n w = record {
  within = omega arith;
  short = omega (arith, a.short, w.ends, number-64 (eqb i 0) (get_or zs i (pos 0)) n);
  going = goes_on (number (eqb i 0) (get_or zs i (pos 0))) a.going (next-number zs i h) w;
}

pub all_along : {old new : List ℕ} {start at : ℕ} {zs : List ℤ} {i : ℕ} → Along old new start at zs i → length zs ≤ i → Writes old new start at (spaced zs)
all_along {zs = zs} {i} a h = over a.going (no_number zs i h)
