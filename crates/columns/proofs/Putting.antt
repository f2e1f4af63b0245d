-- Own numbers put into the column: those of the rows from there on move up first, where a row was added.
-- Assumes nothing.
use mathlib.Core.Path.{◌≡◌, refl, ap, ◌∙◌, subst}
use mathlib.Core.List.{List}
use mathlib.Core.Logic.{◌⊎◌, inl, inr}
use Prim.Native.Nat.{ℕ, ◌+◌, ◌-◌, ◌≤◌, ◌<◌}
use native.Mathlib.Nat.{eq-or-lt_of_le}
use native.Mathlib.Omega.{arith}
use lib.ListN.{length, set, length-set}
use lib.Seq.{get_or-set_same, get_or-set_other}
use Rattle.std.specs.Prelude.{Option, Some, None, IsSome}
use Rattle.library.specs.Memory.{symbol_at}
use Rattle.library.specs.Rows.{Finds}
use Rattle.columns.specs.declared.Own.{Own}
use Rattle.columns.specs.Columns.{none_own, own_at, Shifted, Puts, More, Stands}

-- ---- moved up, from the last down to k

pub record Shifting (old : List Own) (before row k : ℕ) (now : List Own) : Type 0 where
  pub low : row ≤ k
  pub high : k ≤ before
  pub size : length now ≡ length old
  pub still : (j : ℕ) → j ≤ k → own_at now j ≡ own_at old j
  pub gone_up : (j : ℕ) → k ≤ j → j < before → own_at now (j + 1) ≡ own_at old j

pub shift_begin : (old : List Own) (before row : ℕ) → row ≤ before → Shifting old before row before old
shift_begin old before row h = record { low = h; high = omega arith; size = refl; still = λ j l. refl; gone_up = λ j l m. absurd (omega (arith, l, m)) }

at_most : (i n : ℕ) → i ≤ n → i ≤ n
at_most i n h = h

pub shift_on : {old now : List Own} {before row k lower : ℕ} {v : Own} → Shifting old before row k now → row < k → before < length old → lower ≡ k - 1 → v ≡ own_at now lower
    → Shifting old before row lower (set now k v)
shift_on {old} {now} {before} {row} {k} {lower} {v} s h room e q = record {
  low = omega (arith, h, e);
  high = omega (arith, s.high, e);
  size = length-set now k v ∙ s.size;
  still = λ j l. get_or-set_other now k j v none_own (λ f. omega (arith, f, l, e, h)) ∙ s.still j (omega (arith, l, e));
  gone_up = λ j l m. go j m (eq-or-lt_of_le (at_most lower j l));
}
  where
    go : (j : ℕ) → j < before → (lower ≡ j) ⊎ (lower < j) → own_at (set now k v) (j + 1) ≡ own_at old j
    go j m (inl f) =
        let top : j + 1 ≡ k = omega (arith, f, e, h) in
        ap (λ (i : ℕ). own_at (set now k v) i) top
        ∙ (get_or-set_same now k v none_own (omega (arith, s.high, room, s.size))
        ∙ (q ∙ (ap (λ (i : ℕ). own_at now i) f ∙ s.still j (omega (arith, f, e, h)))))
    go j m (inr f) = get_or-set_other now k (j + 1) v none_own (λ g. omega (arith, g, f, e, h)) ∙ s.gone_up j (omega (arith, f, e, h)) m

pub shift_over : {old now : List Own} {before row k : ℕ} → Shifting old before row k now → k ≤ row → Shifted old before row now
shift_over s h = record {
  size = s.size;
  below = λ j l. s.still j (omega (arith, l, s.low));
  above = λ j l m. s.gone_up j (omega (arith, l, h)) m;
}

-- ---- and put

pub put_added : {old mid : List Own} {before live row : ℕ} (own : Own) → Shifted old before row mid → before < live → row < length old → Puts old before live row own (set mid row own)
put_added {old} {mid} {before} {live} {row} own s more room = record {
  size = length-set mid row own ∙ s.size;
  here = get_or-set_same mid row own none_own (omega (arith, room, s.size));
  below = λ k l. get_or-set_other mid row k own none_own (λ f. omega (arith, f, l)) ∙ s.below k l;
  replaced = λ e. absurd (omega (arith, e, more));
  added = λ e k l m. get_or-set_other mid row (k + 1) own none_own (λ f. omega (arith, f, l)) ∙ s.above k l m;
}

pub put_replaced : {old : List Own} {before live row : ℕ} (own : Own) → live ≤ before → row < length old → Puts old before live row own (set old row own)
put_replaced {old} {before} {live} {row} own less room = record {
  size = length-set old row own;
  here = get_or-set_same old row own none_own room;
  below = λ k l. get_or-set_other old row k own none_own (λ f. omega (arith, f, l));
  replaced = λ e k l. get_or-set_other old row k own none_own (λ f. omega (arith, f, l));
  added = λ e. absurd (omega (arith, e, less));
}

pub row_low : {before live row : ℕ} → More before live → row < live → before < live → row ≤ before
row_low (inl e) h m = absurd (omega (arith, e, m))
row_low (inr e) h m = omega (arith, e, h)

-- ---- the row of a number that is live

pub row_found : (rows : List ℕ) (live n : ℕ) {f : Option ℕ} {i : ℕ} → Finds rows live n f → f ≡ Some i → (i < live) × (symbol_at rows i ≡ n)
unfolding Finds
row_found rows live n x e = let y = subst (Finds rows live n) e x in (y.0, y.1)

pub it_stands : (rows : List ℕ) (live n : ℕ) (f : Option ℕ) → Finds rows live n f → Stands rows live n → IsSome f
unfolding Finds
it_stands rows live n (Some i) x s = refl
it_stands rows live n None x s = absurd (x s.at s.within s.is)
