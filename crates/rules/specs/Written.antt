-- The commands of a text as they are written: each with its place, its first letter, and its pieces up to its semicolon. A running account, not to be
-- believed: what a text means stands in crates/definition.
-- Assumes nothing.
use Rattle.std.specs.Prelude.{Bool, true, false, List, [], ◌∷◌, ℕ, ◌+◌, eqb, if◌then◌else◌}
unfoldable pub use Rattle.names.specs.Names.{packed_by}
use Rattle.pieces.specs.Pieces.{inside_after}
use Rattle.pieces.specs.declared.Piece.{Piece}
use Rattle.pieces.specs.declared.Piece.TheVariants.{First, Second, Number, Word, Stop}
use Rattle.rules.specs.Letters.{letter_t, letter_m, letter_r}

-- a command: its place, its first letter, its other pieces, and whether a semicolon ends it
pub record Written : Type 0 where
  pub place : ℕ
  pub letter : ℕ
  pub items : List Piece
  pub stopped : Bool

-- the pieces of a command behind its first letter, and whether a semicolon ends them
unfoldable pub items_of : List Piece → List Piece
items_of [] = []
items_of (First p b ∷ xs) = []
items_of (Second b ∷ xs) = Second b ∷ items_of xs
items_of (Number p σ n ∷ xs) = Number p σ n ∷ items_of xs
items_of (Word b ∷ xs) = Word b ∷ items_of xs
items_of (Stop ∷ xs) = []

unfoldable pub stops : List Piece → Bool
stops [] = false
stops (First p b ∷ xs) = false
stops (Second b ∷ xs) = stops xs
stops (Number p σ n ∷ xs) = stops xs
stops (Word b ∷ xs) = stops xs
stops (Stop ∷ xs) = true

abbrev pub written_at : ℕ → ℕ → List Piece → Written
written_at p b xs = record { place = p; letter = b; items = items_of xs; stopped = stops xs }

-- each first letter begins a command
unfoldable pub written : List Piece → List Written
written [] = []
written (First p b ∷ xs) = written_at p b xs ∷ written xs
written (Second b ∷ xs) = written xs
written (Number p σ n ∷ xs) = written xs
written (Word b ∷ xs) = written xs
written (Stop ∷ xs) = written xs

-- a number of a command: its place, its minus sign, its distance from zero, the last letter before it, how many numbers came before it, and whether
-- the last of them was 0
pub record Figure : Type 0 where
  pub place : ℕ
  pub minus : Bool
  pub size : ℕ
  pub word : ℕ
  pub index : ℕ
  pub zero : Bool

-- the numbers of pieces behind the letter w and i numbers
unfoldable pub figures : ℕ → ℕ → Bool → List Piece → List Figure
figures w i z [] = []
figures w i z (First p b ∷ xs) = figures w i z xs
figures w i z (Second b ∷ xs) = figures b i z xs
figures w i z (Number p σ n ∷ xs) = record { place = p; minus = σ; size = n; word = w; index = i; zero = z } ∷ figures w (i + 1) (eqb n 0) xs
figures w i z (Word b ∷ xs) = figures b i z xs
figures w i z (Stop ∷ xs) = figures w i z xs

abbrev pub numbers : Written → List Figure
numbers c = figures 0 0 false c.items

-- the size of number i, or d where there is none
unfoldable pub size_at : ℕ → List Figure → ℕ → ℕ
size_at d [] i = d
size_at d (f ∷ fs) i = if eqb f.index i then f.size else size_at d fs i

-- the letters of pieces
unfoldable pub letters : List Piece → List ℕ
letters [] = []
letters (First p b ∷ xs) = letters xs
letters (Second b ∷ xs) = b ∷ letters xs
letters (Number p σ n ∷ xs) = letters xs
letters (Word b ∷ xs) = b ∷ letters xs
letters (Stop ∷ xs) = letters xs

-- the last of letters, or w
unfoldable pub last_of : ℕ → List ℕ → ℕ
last_of w [] = w
last_of w (b ∷ bs) = last_of b bs

-- of a D command this is S, F or D
abbrev pub last_letter : Written → ℕ
last_letter c = last_of 0 (letters c.items)

-- how many letters begin a transformation
abbrev pub turning : ℕ → Bool
turning b = if eqb b letter_t then true else if eqb b letter_m then true else eqb b letter_r

abbrev pub one : Bool → ℕ
one b = if b then 1 else 0

unfoldable pub turns_of : List ℕ → ℕ
turns_of [] = 0
turns_of (b ∷ bs) = one (turning b) + turns_of bs

-- whether a definition is open behind pieces
unfoldable pub inside_behind : Bool → List Piece → Bool
inside_behind i [] = i
inside_behind i (x ∷ xs) = inside_behind (inside_after x i) xs
