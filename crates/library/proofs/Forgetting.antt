-- What DD leaves, and the words that it gives back.
-- Assumes nothing.
use mathlib.Core.Path.{◌≡◌, refl, sym, ap}
use mathlib.Core.List.{List, [], ◌∷◌}
use Prim.Native.Nat.{ℕ, zero, suc, ◌+◌, ◌≤◌, ◌<◌}
use native.Mathlib.Nat.{not-suc-le-zero}
use native.Mathlib.Omega.{arith}
use borrow.Author.Tests.{lt-ltb, le-ltb}
use lib.IntN.{ℤ}
use lib.ListN.{length}
use Rattle.definition.specs.Words.{those}
use Rattle.definition.specs.Table.{Table, forget}
use Rattle.library.specs.Memory.{row_numbers, symbol_at, definition_at, table_from}
use Rattle.library.specs.Sound.{Stocked}
use Rattle.library.specs.Moving.{Laid}
use Rattle.library.specs.Rows.{Sorted, Parted, Forgets}

module _ (rows : List ℕ) (b : List ℤ) (n : ℕ) where
  all_gone : (m j : ℕ) → ((k : ℕ) → j ≤ k → k < j + m → n ≤ symbol_at rows k) → forget n (table_from rows b j m) ≡ []
  unfolding forget those table_from
  all_gone zero j h = refl
  all_gone (suc m) j h = rw (le-ltb (symbol_at rows j) n (h j (omega arith) (omega arith))) (all_gone m (j + 1) (λ k l q. h k (omega arith) (omega arith)))

  some_gone : (d m j i : ℕ) → i ≡ j + d → d ≤ m → ((k : ℕ) → j ≤ k → k < i → symbol_at rows k < n) → ((k : ℕ) → i ≤ k → k < j + m → n ≤ symbol_at rows k)
      → forget n (table_from rows b j m) ≡ table_from rows b j d
  unfolding forget those table_from
  some_gone zero m j i e l h g = all_gone m j (λ k a c. g k (omega arith) c)
  some_gone (suc d) zero j i e l h g = absurd (not-suc-le-zero l)
  some_gone (suc d) (suc m) j i e l h g =
      rw (lt-ltb (symbol_at rows j) n (h j (omega arith) (omega arith)))
      (ap (λ (t : Table). definition_at rows b j ∷ t) (some_gone d m (j + 1) i (omega arith) (omega arith) (λ k a c. h k (omega arith) c) (λ k a c. g k a (omega arith))))

pub forgets : (rows : List ℕ) (live symbol i : ℕ) → Sorted rows live → Parted rows live symbol i → Forgets rows live symbol i
forgets rows live symbol i o p = record {
  sorted = record { few = omega (arith, o.few, p.within); rising = λ k j a c. o.rising k j a (omega (arith, p.within)) };
  parted = p;
  table = λ b. sym (some_gone rows b symbol i live 0 i (omega arith) p.within (λ k a c. p.below k c) (λ k a c. p.above k a (omega arith)));
}

-- the bodies of the rows left stand as they did, within as many words or more
pub laid_fewer : {rows : List ℕ} {live used left more : ℕ} → Laid rows live used → left ≤ live → used ≤ more → Laid rows left more
laid_fewer h l m = record {
  few = omega (arith, h.few);
  sized = h.sized;
  within = λ i n z. let w = h.within i (omega arith) z in omega arith;
  apart = λ i j n o. h.apart i j (omega arith) (omega arith);
}

pub stocked_fewer : {rows : List ℕ} {b : List ℤ} {live left : ℕ} → Stocked rows b live → left ≤ live → Stocked rows b left
stocked_fewer h l = record { few = omega (arith, h.few); within = λ i m. h.within i (omega arith); sound = λ i m. h.sound i (omega arith) }

-- where no row is live yet
pub sorted_none : (rows : List ℕ) → Sorted rows 0
sorted_none rows = record { few = omega arith; rising = λ i j h l. absurd (omega arith) }

pub laid_none : (rows : List ℕ) → length rows ≡ row_numbers → Laid rows 0 0
laid_none rows e = record { few = omega arith; sized = e; within = λ i l. absurd (omega arith); apart = λ i j k l. absurd (omega arith) }

pub stocked_none : (rows : List ℕ) (b : List ℤ) → Stocked rows b 0
stocked_none rows b = record { few = omega arith; within = λ i l. absurd (omega arith); sound = λ i l. absurd (omega arith) }
