-- Columns beside the rows: what they are when they are made afresh from the bodies, and what it takes to enter a definition's numbers. A running account, not
-- to be believed.
-- Assumes nothing.
use Rattle.std.specs.Prelude.{◌≡◌, List, ℕ, ◌+◌, ◌≤◌, ◌<◌, ℤ, length, get_or, ◌⊎◌}
use Rattle.definition.specs.Words.{Placed}
use Rattle.definition.specs.Table.{Step}
use Rattle.definition.specs.Summary.{Names, own_shapes, own_calls, own_layers}
use Rattle.definition.specs.Marks.{set_of_layers}
use Rattle.library.specs.Memory.{most, steps_in, symbol_at, start_at, length_at, body_at}
use Rattle.marks.specs.Noted.{Noted}
use Rattle.columns.specs.declared.Own.{Own}

-- the set of the layers of a body's own shapes, whatever names the marks stand for
abbrev pub SetOf : (names : List ℕ) (count : ℕ) → List (Placed Step) → (set : ℕ) → Type 0
SetOf names count ss r = (ns : Names) → Noted names count ns → r ≡ set_of_layers ns (own_layers ss)

-- the own numbers of a body
pub record OwnBy (names : List ℕ) (count : ℕ) (ss : List (Placed Step)) (r : Own) : Type 0 where
  pub shapes : r.shapes ≡ own_shapes ss
  pub calls : r.calls ≡ own_calls ss
  pub layers : SetOf names count ss r.layers

abbrev pub OwnOf : (b : List ℤ) (from many : ℕ) (names : List ℕ) (count : ℕ) → Own → Type 0
OwnOf b from many names count r = OwnBy names count (steps_in b from many) r

abbrev pub none_own : Own
none_own = record { shapes = 0; calls = 0; layers = 0 }

abbrev pub own_at : List Own → ℕ → Own
own_at column k = get_or column k none_own

-- what stands from a row on stands one higher
pub record Shifted (old : List Own) (before row : ℕ) (new : List Own) : Type 0 where
  pub size : length new ≡ length old
  pub below : (k : ℕ) → k < row → own_at new k ≡ own_at old k
  pub above : (k : ℕ) → row ≤ k → k < before → own_at new (k + 1) ≡ own_at old k

-- there are as many rows as before or one more
abbrev pub More : (before live : ℕ) → Type 0
More before live = (live ≡ before) ⊎ (live ≡ before + 1)

-- a number is live
pub record Stands (rows : List ℕ) (live symbol : ℕ) : Type 0 where
  pub at : ℕ
  pub within : at < live
  pub is : symbol_at rows at ≡ symbol

-- own numbers are put: at their row, and those of the other rows stay with them
pub record Puts (old : List Own) (before live row : ℕ) (own : Own) (new : List Own) : Type 0 where
  pub size : length new ≡ length old
  pub here : own_at new row ≡ own
  pub below : (k : ℕ) → k < row → own_at new k ≡ own_at old k
  pub replaced : live ≡ before → (k : ℕ) → row < k → own_at new k ≡ own_at old k
  pub added : live ≡ before + 1 → (k : ℕ) → row ≤ k → k < before → own_at new (k + 1) ≡ own_at old k

pub record Enters (b : List ℤ) (rows : List ℕ) (before live symbol : ℕ) (names : List ℕ) (count : ℕ) (column column' : List Own) : Type 0 where
  pub row : ℕ
  pub here : row < live
  pub symbol_is : symbol_at rows row ≡ symbol
  pub own : Own
  pub own_is : OwnOf b (start_at rows row) (length_at rows row) names count own
  pub put : Puts column before live row own column'

-- the column made afresh from the bodies in memory
pub record Afresh (rows : List ℕ) (b : List ℤ) (live : ℕ) (names : List ℕ) (count : ℕ) (column : List Own) : Type 0 where
  pub sized : length column ≡ most
  pub are : (i : ℕ) → i < live → OwnBy names count (body_at rows b i) (own_at column i)
