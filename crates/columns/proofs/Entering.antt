-- What `enter` hands on: the words of a row's body are sound, and the column.
-- Assumes nothing.
use mathlib.Core.Path.{◌≡◌, sym, subst}
use mathlib.Core.List.{List}
use Prim.Native.Nat.{ℕ, ◌+◌, ◌≤◌, ◌<◌}
use native.Mathlib.Omega.{arith}
use lib.IntN.{ℤ}
use lib.ListN.{length}
use Rattle.library.specs.Memory.{symbol_at, start_at, length_at}
use Rattle.library.specs.Sound.{Sound, Stocked}
use Rattle.columns.specs.Columns.{OwnOf, Puts, Enters}
use Rattle.columns.specs.declared.Own.{Own}

module _ {rows : List ℕ} {b : List ℤ} {live row from many : ℕ} where
  pub row-sound : Stocked rows b live → row < live → from ≡ start_at rows row → many ≡ length_at rows row → Sound b from many
  row-sound k h p q = subst (λ (x : ℕ). Sound b x many) (sym p) (subst (Sound b (start_at rows row)) (sym q) (k.sound row h))

  pub row_inside : Stocked rows b live → row < live → from ≡ start_at rows row → many ≡ length_at rows row → from + many ≤ length b
  row_inside k h p q = omega (arith, p, q, k.within row h)

  pub entered_all : {before symbol count : ℕ} {names : List ℕ} {own : Own} {column column' : List Own} → row < live → symbol_at rows row ≡ symbol
      → from ≡ start_at rows row → many ≡ length_at rows row → OwnOf b from many names count own → Puts column before live row own column'
      → Enters b rows before live symbol names count column column'
  entered_all {count = count} {names = names} {own = own} h e p q o x = record {
    row = row;
    here = h;
    symbol_is = e;
    own = own;
    own_is = subst (λ (i : ℕ). OwnOf b i (length_at rows row) names count own) p (subst (λ (i : ℕ). OwnOf b from i names count own) q o);
    put = x;
  }
