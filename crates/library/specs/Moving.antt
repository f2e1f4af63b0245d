-- How live bodies stand in the run, and what moving them together leaves. A running account, not to be believed.
-- Assumes nothing.
use Rattle.std.specs.Prelude.{◌≡◌, List, ℕ, Option, Some, None, ◌+◌, ◌*◌, ◌≤◌, ◌<◌, ltb, ℤ, pos, length, get_or, set, if◌then◌else◌}
use Rattle.library.specs.Memory.{words_at, table_of, symbol_at, place_at, start_at, length_at, needed_at, sum_of, words_held, most, row_numbers}

-- bodies that are not empty stand within the first words of the run, and none overlaps another
pub record Laid (rows : List ℕ) (live used : ℕ) : Type 0 where
  pub few : live ≤ most
  pub sized : length rows ≡ row_numbers
  pub within : (i : ℕ) → i < live → 0 < length_at rows i → start_at rows i + length_at rows i ≤ used
  pub apart : (i j : ℕ) → i < live → j < live → (i ≡ j → ⊥) → 0 < length_at rows i → 0 < length_at rows j → start_at rows i ≤ start_at rows j
      → start_at rows i + length_at rows i ≤ start_at rows j

-- the first words of a part stand at a lower place, and all others as they did
pub record Moved (b : List ℤ) (from to n : ℕ) (b' : List ℤ) : Type 0 where
  pub size : length b' ≡ length b
  pub here : (k : ℕ) → k < n → get_or b' (to + k) (pos 0) ≡ get_or b (from + k) (pos 0)
  pub below : (k : ℕ) → k < to → get_or b' k (pos 0) ≡ get_or b k (pos 0)
  pub above : (k : ℕ) → to + n ≤ k → get_or b' k (pos 0) ≡ get_or b k (pos 0)

-- the first word of a row's body, if it has one, made way for the row's number, and is noted under that number
pub record Numbered (rows : List ℕ) (i : ℕ) (b firsts b' firsts' : List ℤ) : Type 0 where
  pub none : length_at rows i ≡ 0 → (b' ≡ b) × (firsts' ≡ firsts)
  pub some : 0 < length_at rows i → (b' ≡ set b (start_at rows i) (pos i)) × (firsts' ≡ set firsts i (get_or b (start_at rows i) (pos 0)))

-- the bodies of the first rows, as far as they start from a place on, have their rows' numbers as first words, and those words are noted
pub record Tagged (rows : List ℕ) (b : List ℤ) (seen at : ℕ) (b' firsts : List ℤ) : Type 0 where
  pub size : length b' ≡ length b
  pub many : length firsts ≡ most
  pub tags : (i : ℕ) → i < seen → 0 < length_at rows i → at ≤ start_at rows i → get_or b' (start_at rows i) (pos 0) ≡ pos i
  pub noted : (i : ℕ) → i < seen → 0 < length_at rows i → at ≤ start_at rows i → get_or firsts i (pos 0) ≡ get_or b (start_at rows i) (pos 0)
  pub others : (k : ℕ) → at ≤ k → ((i : ℕ) → i < seen → 0 < length_at rows i → start_at rows i ≡ k → ⊥) → get_or b' k (pos 0) ≡ get_or b k (pos 0)

-- the row whose body starts at a place; None where the word there is the number of no such row
pub record Owns (rows : List ℕ) (b : List ℤ) (live at : ℕ) (r : Option ℕ) : Type 0 where
  pub none : r ≡ None → (i : ℕ) → i < live → get_or b at (pos 0) ≡ pos i → 0 < length_at rows i → start_at rows i ≡ at → ⊥
  pub some : (i : ℕ) → r ≡ Some i → (i < live) × (0 < length_at rows i) × (start_at rows i ≡ at)

-- a body with its first word back stands at a lower place, and its row says so
pub record Settled (rows : List ℕ) (b : List ℤ) (i at to : ℕ) (first : ℤ) (n : ℕ) (rows' : List ℕ) (b' : List ℤ) : Type 0 where
  pub words : n ≡ length_at rows i
  pub row : rows' ≡ set rows (5 * i + 2) to
  pub body : Moved (set b at first) at to n b'

-- a row stands for the same definition, which needs the same words
pub record SameRow (rows : List ℕ) (b : List ℤ) (rows' : List ℕ) (b' : List ℤ) (i : ℕ) : Type 0 where
  pub symbol : symbol_at rows' i ≡ symbol_at rows i
  pub place : place_at rows' i ≡ place_at rows i
  pub words : length_at rows' i ≡ length_at rows i
  pub needed : needed_at rows' i ≡ needed_at rows i
  pub body : words_at b' (start_at rows' i) (length_at rows i) ≡ words_at b (start_at rows i) (length_at rows i)

-- the words of the bodies that stand below a place
abbrev pub length_below : List ℕ → ℕ → ℕ → ℕ
length_below rows to i = if ltb (start_at rows i) to then length_at rows i else 0

abbrev pub held_below : List ℕ → ℕ → ℕ → ℕ
held_below rows to n = sum_of (length_below rows to) n

-- word k is one of a live body's
pub record Covered (rows : List ℕ) (live k : ℕ) : Type 0 where
  pub row : ℕ
  pub here : row < live
  pub from : start_at rows row ≤ k
  pub to : k < start_at rows row + length_at rows row

-- The bodies stand together, and the table is what it was. The last five settle the rest: each body stands after those that stood below it, so no word
-- below `used` is free; empty bodies, the rows after the live ones and the words after the used ones stay.
pub record Compacted (rows : List ℕ) (b : List ℤ) (live : ℕ) (used : ℕ) (rows' : List ℕ) (b' : List ℤ) : Type 0 where
  pub size : length b' ≡ length b
  pub table : table_of rows' b' live ≡ table_of rows b live
  pub same : (i : ℕ) → i < live → SameRow rows b rows' b' i
  pub laid : Laid rows' live used
  pub tight : used ≡ words_held rows live
  pub within : used ≤ length b
  pub highest : (i : ℕ) → i < live → 0 < length_at rows i → ((j : ℕ) → j < live → 0 < length_at rows j → start_at rows j ≤ start_at rows i)
      → start_at rows' i + length_at rows' i ≡ used
  pub starts : (i : ℕ) → i < live → 0 < length_at rows i → start_at rows' i ≡ held_below rows (start_at rows i) live
  pub empties : (i : ℕ) → i < live → length_at rows i ≡ 0 → start_at rows' i ≡ start_at rows i
  pub covered : (k : ℕ) → k < used → Covered rows' live k
  pub rest : (k : ℕ) → 5 * live ≤ k → get_or rows' k 0 ≡ get_or rows k 0
  pub beyond : (k : ℕ) → used ≤ k → get_or b' k (pos 0) ≡ get_or b k (pos 0)
