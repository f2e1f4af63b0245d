-- A body that grows by a command. A running account, not to be believed.
-- Assumes nothing.
use Rattle.std.specs.Prelude.{◌≡◌, Bool, true, false, List, [], ◌∷◌, ℕ, ◌+◌, ◌-◌, ◌*◌, ◌^◌, ◌≤◌, ◌<◌, eqb, ℤ, pos, length, get_or, set, if◌then◌else◌}
use Rattle.definition.specs.Words.{Placed}
use Rattle.definition.specs.Table.{Step, shape, instance, setting, Table}
use Rattle.definition.specs.Lean.{add}
use Rattle.library.specs.Memory.{words_at, body_at, table_of, layer_after, symbol_at, place_at, start_at, length_at, needed_at, most}
use Rattle.library.specs.Sound.{step_words, Stocked}
use Rattle.library.specs.Moving.{Laid, Moved, SameRow}
use Rattle.library.specs.Rows.{Sorted}

-- an empty body starts where the next word goes
abbrev pub start_of : List ℕ → ℕ → ℕ → ℕ
start_of rows i used = if eqb (length_at rows i) 0 then used else start_at rows i

abbrev pub extended : List ℕ → ℕ → ℕ → ℕ → List ℕ
extended rows i used n = set (set (set rows (5 * i + 2) (start_of rows i used)) (5 * i + 3) (length_at rows i + n)) (5 * i + 4) (needed_at rows i + n)

-- an L command has three words; one that took the place of the last step leaves the row as it is, but the definition needs three words more
abbrev pub layer_words : ℕ
layer_words = 3

pub record Relayered (rows : List ℕ) (b : List ℤ) (i used : ℕ) (rows' : List ℕ) (b' : List ℤ) : Type 0 where
  pub rows_are : rows' ≡ set rows (5 * i + 4) (needed_at rows i + layer_words)
  pub moved : Moved b used (used - layer_words) layer_words b'

-- a command of n words after those used can be kept: in the place of the L command that it follows, or after the last
pub record Storable (rows : List ℕ) (b : List ℤ) (i used n : ℕ) (again : Bool) : Type 0 where
  pub here : i < most
  pub stored : length_at rows i + n < 2 ^ 64
  pub needed : needed_at rows i + n < 2 ^ 64
  pub within : used + n ≤ length b
  pub layer : again ≡ true → (n ≡ layer_words) × (layer_words ≤ used)

unfoldable pub Stores : (again : Bool) → List ℕ → List ℤ → ℕ → ℕ → ℕ → List ℕ → List ℤ → ℕ → Type 0
Stores true rows b i used n rows' b' used' = Relayered rows b i used rows' b' × (used' ≡ used)
Stores false rows b i used n rows' b' used' = (rows' ≡ extended rows i used n) × (b' ≡ b) × (used' ≡ used + n)

-- the definition of this number has one step more
unfoldable pub grown : ℕ → Placed Step → Table → Table
grown n s [] = []
grown n s (d ∷ t) =
    let later = grown n s t in
    if eqb d.symbol n then record { symbol = d.symbol; place = d.place; body = add d.body s } ∷ t else d ∷ later

unfoldable pub layer_now : List ℕ → List (Placed Step) → List ℕ
layer_now l [] = l
layer_now l (s ∷ ss) = layer_now (layer_after s.what l) ss

-- whether a step is an L command, and whether the last of a body is
unfoldable pub is_layer : Step → Bool
is_layer (setting l) = true
is_layer (shape l k) = false
is_layer (instance n ts) = false

unfoldable pub last_sets : List (Placed Step) → Bool
last_sets [] = false
last_sets (a ∷ []) = is_layer a.what
last_sets (a ∷ c ∷ ss) = last_sets (c ∷ ss)

-- the row whose body is the last in the run: it may grow; and whether its last step is an L command, of which the words end where the next word goes
pub record Growing (rows : List ℕ) (b : List ℤ) (live used i : ℕ) (layered : Bool) : Type 0 where
  pub stocked : Stocked rows b live
  pub laid : Laid rows live used
  pub sorted : Sorted rows live
  pub here : i < live
  pub last : 0 < length_at rows i → start_at rows i + length_at rows i ≡ used
  pub fits : used ≤ length b
  pub layer_last : last_sets (body_at rows b i) ≡ layered

-- a step was added to the body of row i; all other rows stand for what they did, and the row may grow on
pub record Grows (rows : List ℕ) (b : List ℤ) (live i : ℕ) (s : Placed Step) (rows' : List ℕ) (b' : List ℤ) (used' : ℕ) : Type 0 where
  pub symbol : symbol_at rows' i ≡ symbol_at rows i
  pub place : place_at rows' i ≡ place_at rows i
  pub body : body_at rows' b' i ≡ add (body_at rows b i) s
  pub needs : needed_at rows' i ≡ needed_at rows i + length (step_words s)
  pub others : (k : ℕ) → k < live → (k ≡ i → ⊥) → SameRow rows b rows' b' k
  pub table : table_of rows' b' live ≡ grown (symbol_at rows i) s (table_of rows b live)
  pub growing : Growing rows' b' live used' i (is_layer s.what)

-- the words of one command were laid after those used
pub record Put (b : List ℤ) (used : ℕ) (s : Placed Step) (b' : List ℤ) : Type 0 where
  pub size : length b' ≡ length b
  pub below : (k : ℕ) → k < used → get_or b' k (pos 0) ≡ get_or b k (pos 0)
  pub words : words_at b' used (length (step_words s)) ≡ step_words s
  pub room : used + length (step_words s) ≤ length b
