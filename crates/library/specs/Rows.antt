-- Rows by number: where the numbers part, and what it leaves to begin a definition and to forget some. A running account, not to be believed.
-- Assumes nothing.
use Rattle.std.specs.Prelude.{◌≡◌, List, [], ℕ, Option, Some, None, ◌+◌, ◌-◌, ◌*◌, ◌≤◌, ◌<◌, ltb, ℤ, length, get_or, set, if◌then◌else◌}
use Rattle.std.proofs.Math.Option.{none}
use Rattle.definition.specs.Table.{Definition, find, enter, forget}
use Rattle.library.specs.Memory.{symbol_at, place_at, start_at, length_at, needed_at, table_of, most, row_numbers}
use Rattle.library.specs.declared.Begun.{Begun}
use Rattle.library.specs.declared.Begun.TheVariants.{Replaced, Added}

-- each number is below those after it, and there are at most 512
pub record Sorted (rows : List ℕ) (live : ℕ) : Type 0 where
  pub few : live ≤ most
  pub rising : (i j : ℕ) → i < j → j < live → symbol_at rows i < symbol_at rows j

-- below place i stand lower numbers and after it higher ones, so the number stands there or nowhere
pub record Nearest (rows : List ℕ) (live symbol i : ℕ) : Type 0 where
  pub within : i ≤ live
  pub below : (k : ℕ) → k < i → symbol_at rows k < symbol
  pub above : (k : ℕ) → i < k → k < live → symbol < symbol_at rows k

-- place i parts the numbers: below it stand lower ones, and from it on none
pub record Parted (rows : List ℕ) (live symbol i : ℕ) : Type 0 where
  pub within : i ≤ live
  pub below : (k : ℕ) → k < i → symbol_at rows k < symbol
  pub above : (k : ℕ) → i ≤ k → k < live → symbol ≤ symbol_at rows k

-- what a look-up answers: the first live row of a number (proofs/Looking.antt: it is what crates/definition finds in the table)
unfoldable pub Finds : List ℕ → ℕ → ℕ → Option ℕ → Type 0
Finds rows live n (Some i) = (i < live) × (symbol_at rows i ≡ n) × ((k : ℕ) → k < i → symbol_at rows k ≡ n → ⊥)
Finds rows live n None = (k : ℕ) → k < live → symbol_at rows k ≡ n → ⊥

-- DD: whatever the bodies are
pub record Forgets (rows : List ℕ) (live symbol left : ℕ) : Type 0 where
  pub sorted : Sorted rows left
  pub parted : Parted rows live symbol left
  pub table : (b : List ℤ) → table_of rows b left ≡ forget symbol (table_of rows b live)

-- ---- a definition begun: its row is there, with no body yet

abbrev pub bare : ℕ → ℕ → Definition
bare symbol place = record { symbol = symbol; place = place; body = [] }

-- the five numbers of a row are those of another
pub record SameAt (rows : List ℕ) (k : ℕ) (rows' : List ℕ) (j : ℕ) : Type 0 where
  pub symbol : symbol_at rows' j ≡ symbol_at rows k
  pub place : place_at rows' j ≡ place_at rows k
  pub start : start_at rows' j ≡ start_at rows k
  pub words : length_at rows' j ≡ length_at rows k
  pub needed : needed_at rows' j ≡ needed_at rows k

-- which row it was, where a row was put at i and those from there on moved up
abbrev pub before : ℕ → ℕ → ℕ
before i j = if ltb j i then j else j - 1

-- every row but one is the one that `source` tells, and no two are the same
pub record Keeps (rows : List ℕ) (live i : ℕ) (source : ℕ → ℕ) (rows' : List ℕ) (live' : ℕ) : Type 0 where
  pub within : (j : ℕ) → j < live' → (j ≡ i → ⊥) → source j < live
  pub same : (j : ℕ) → j < live' → (j ≡ i → ⊥) → SameAt rows (source j) rows' j
  pub one : (j m : ℕ) → (j ≡ i → ⊥) → (m ≡ i → ⊥) → source j ≡ source m → j ≡ m

-- the live rows from i on stand one higher, and those after them as they did
pub record Shifted (rows : List ℕ) (live i : ℕ) (rows' : List ℕ) : Type 0 where
  pub size : length rows' ≡ length rows
  pub below : (k : ℕ) → k < 5 * i → get_or rows' k 0 ≡ get_or rows k 0
  pub above : (k : ℕ) → 5 * i ≤ k → k < 5 * live → get_or rows' (k + 5) 0 ≡ get_or rows k 0
  pub beyond : (k : ℕ) → 5 * live + 5 ≤ k → get_or rows' k 0 ≡ get_or rows k 0

-- a row with no body
abbrev pub with_row : List ℕ → ℕ → ℕ → ℕ → List ℕ
with_row rows i symbol place = set (set (set (set (set rows (5 * i) symbol) (5 * i + 1) place) (5 * i + 2) 0) (5 * i + 3) 0) (5 * i + 4) 0

-- a definition of this number and place stands at row i, with no body, and the others and the rows after the live ones as they did
pub record Entry (rows : List ℕ) (live symbol place : ℕ) (rows' : List ℕ) (live' i : ℕ) (source : ℕ → ℕ) : Type 0 where
  pub sorted : Sorted rows' live'
  pub sized : length rows' ≡ row_numbers
  pub here : i < live'
  pub symbol_is : symbol_at rows' i ≡ symbol
  pub place_is : place_at rows' i ≡ place
  pub start_is : start_at rows' i ≡ 0
  pub empty : length_at rows' i ≡ 0
  pub free : needed_at rows' i ≡ 0
  pub keeps : Keeps rows live i source rows' live'
  pub beyond : (k : ℕ) → 5 * live' ≤ k → get_or rows' k 0 ≡ get_or rows k 0
  pub table : (b : List ℤ) → table_of rows' b live' ≡ enter (bare symbol place) (table_of rows b live)

-- instead of one of its number, whose words are free; beside the others; or not at all, since 512 others are live
unfoldable pub Begins : List ℕ → ℕ → ℕ → ℕ → Option Begun → List ℕ → Type 0
Begins rows live n p (Some (Replaced i freed)) rows' = Entry rows live n p rows' live i (λ j. j) × (freed ≡ needed_at rows i) × (symbol_at rows i ≡ n) × ((b : List ℤ) → find n (table_of rows b live) ≡ none → ⊥)
Begins rows live n p (Some (Added i)) rows' = Entry rows live n p rows' (live + 1) i (before i) × ((b : List ℤ) → find n (table_of rows b live) ≡ none)
Begins rows live n p None rows' = (rows' ≡ rows) × (live ≡ most) × ((b : List ℤ) → find n (table_of rows b live) ≡ none)
