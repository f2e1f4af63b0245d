-- The places of the open calls, written one after the other: what a refusal's line tells after its column.
-- Assumes nothing.
use mathlib.Core.Path.{◌≡◌, refl, sym, ap, ◌∙◌}
use mathlib.Core.List.{List, [], ◌∷◌, ◌++◌, map, append_assoc, append-nil}
use Prim.Native.Nat.{ℕ, ◌+◌, ◌≤◌, ◌<◌}
use lib.IntN.{pos}
use lib.ListN.{length, get_or, drop}
use Rattle.definition.specs.Words.{bytes_of}
use Rattle.definition.specs.Flat.{decimal}
use Rattle.definition.specs.Listing.{fields}
use Rattle.digits.proofs.Writing.{next-byte, no_byte}
use Rattle.listing.specs.Account.{tabbed}

-- numbers, each after a tab, are fields, and the line ends
pub tabbed-fields : (l : List ℕ) → tabbed l ++ (10 ∷ []) ≡ fields (map (λ (n : ℕ). decimal (pos n)) l)
unfolding tabbed fields bytes_of
tabbed-fields [] = refl
tabbed-fields (n ∷ l) = append_assoc (9 ∷ decimal (pos n)) (tabbed l) (10 ∷ []) ∙ ap (λ (x : List ℕ). 9 ∷ (decimal (pos n) ++ x)) (tabbed-fields l)

-- one more at the end
pub tabbed-more : (l : List ℕ) (n : ℕ) → tabbed l ++ (9 ∷ decimal (pos n)) ≡ tabbed (l ++ (n ∷ []))
unfolding tabbed
tabbed-more [] n = sym (append-nil (9 ∷ decimal (pos n)))
tabbed-more (m ∷ l) n = append_assoc (9 ∷ decimal (pos m)) (tabbed l) (9 ∷ decimal (pos n)) ∙ ap (λ (x : List ℕ). (9 ∷ decimal (pos m)) ++ x) (tabbed-more l n)

-- what is left of them
pub next-place : (l : List ℕ) (i : ℕ) → i < length l → tabbed (drop i l) ≡ (9 ∷ decimal (pos (get_or l i 0))) ++ tabbed (drop (i + 1) l)
unfolding tabbed
next-place l i h = ap tabbed (next-byte l i h)

pub no_place : (l : List ℕ) (i : ℕ) → length l ≤ i → tabbed (drop i l) ≡ []
unfolding tabbed
no_place l i h = ap tabbed (no_byte l i h)
