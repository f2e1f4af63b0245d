-- A body that grows command by command, as it is decoded into the run: the contracts of the functions below `define`. A running account, not to be
-- believed.
-- Assumes nothing.
use Rattle.std.specs.Prelude.{◌≡◌, Bool, true, ◌||◌, List, [], ◌∷◌, ◌++◌, ℕ, ◌+◌, ◌*◌, ◌≤◌, ◌<◌, eqb, ℤ, length, Option, Some, None}
use Rattle.definition.specs.Limits.{most_bytes}
use Rattle.definition.specs.Words.{Placed}
use Rattle.definition.specs.Commands.{Command}
use Rattle.definition.specs.Standing.{Standing, outside}
use Rattle.definition.specs.Table.{Step, Definition, Table, enter}
use Rattle.definition.specs.Held.{words_of_body, words_in}
use Rattle.definition.specs.Drawing.{retained, deeds}
use Rattle.pieces.specs.Pieces.{stream, Fit}
use Rattle.pieces.specs.declared.Spot.{Spot}
use Rattle.rules.specs.Letters.{letter_c, letter_l}
use Rattle.rules.specs.Rules.{shapely}
use Rattle.rules.specs.Written.{written}
use Rattle.library.specs.Memory.{body_at, symbol_at, length_at, needed_at, most_words}
use Rattle.library.specs.Sound.{step_words}
use Rattle.library.specs.Rows.{bare}
use Rattle.library.specs.Storing.{layer_now, Growing}
use Rattle.library.specs.Holds.{Holds}
use Rattle.keeping.specs.Voices.{Told}
use Rattle.keeping.specs.declared.Whole.{Whole}
use Rattle.keeping.specs.declared.Stored.{Stored}
use Rattle.keeping.specs.declared.Stored.TheVariants.{More, Last, Tight}

-- the letters of the commands that are steps of a body: L, C, and those of the shapes
abbrev pub steps : ℕ → Bool
steps k = eqb k letter_l || (eqb k letter_c || shapely k)

abbrev pub with_body : ℕ → ℕ → List (Placed Step) → Definition
with_body symbol place ss = record { symbol = symbol; place = place; body = ss }

-- ---- a body between two commands

-- the body of a row has these steps more, and may grow on; the definition whose row it is has them too, and no other definition changes
pub record Adds (rows : List ℕ) (b : List ℤ) (live row : ℕ) (ss : List (Placed Step)) (rows' : List ℕ) (b' : List ℤ) (used' : ℕ) (layered' : Bool) : Type 0 where
  pub symbol : symbol_at rows' row ≡ symbol_at rows row
  pub growing : Growing rows' b' live used' row layered'
  pub layers : layer_now [] (body_at rows' b' row) ≡ layer_now (layer_now [] (body_at rows b row)) ss
  pub needs : needed_at rows' row ≡ needed_at rows row + words_of_body ss
  pub holds : (place : ℕ) (done : List (Placed Step)) (table : Table) → Holds rows b live (enter (with_body (symbol_at rows row) place done) table)
      → Holds rows' b' live (enter (with_body (symbol_at rows row) place (done ++ ss)) table)

-- what is told from a spot on, where a definition is open at this scale and the layer stands that its body has set
pub record Within (t : List ℕ) (spot : Spot) (a b : ℕ) (rows : List ℕ) (words : List ℤ) (row : ℕ) (σ : Standing) (cs : List (Placed Command)) : Type 0 where
  pub told : Told σ (written (stream t spot)) cs
  pub opened : σ.inside ≡ true
  pub same_a : σ.a ≡ a
  pub same_b : σ.b ≡ b
  pub layer_now_lem : layer_now [] (body_at rows words row) ≡ σ.layer_set

-- the next command may be decoded. The words needed are bounded, since a command that takes no room has a byte at least
pub record Ready (t : List ℕ) (spot : Spot) (a b : ℕ) (rows : List ℕ) (words : List ℤ) (live row used : ℕ) (layered : Bool) : Type 0 where
  pub growing : Growing rows words live used row layered
  pub standing : Standing
  pub commands : List (Placed Command)
  pub within : Within t spot a b rows words row standing commands
  pub few_needed : needed_at rows row ≤ length_at rows row + 3 * spot.at
  pub text_short : length t ≤ most_bytes
  pub run_short : length words ≤ most_words

-- commands up to a spot are kept: the body has the steps that they are, and what is left to retain and to do is left here
pub record Keeps (t : List ℕ) (to : Spot) (a b : ℕ) (rows : List ℕ) (words : List ℤ) (live row : ℕ) (σ : Standing) (cs : List (Placed Command)) (rows' : List ℕ) (words' : List ℤ) (used' : ℕ)
    (layered' : Bool) : Type 0 where
  pub kept : List (Placed Step)
  pub adds : Adds rows words live row kept rows' words' used' layered'
  pub standing : Standing
  pub commands : List (Placed Command)
  pub within : Within t to a b rows' words' row standing commands
  pub retains : retained σ cs ≡ kept ++ retained standing commands
  pub left : deeds σ cs ≡ deeds standing commands
  pub same_outside : standing.layer_outside ≡ σ.layer_outside

-- commands of a definition are passed over: after its DF, where this spot is, the rest of the text is told, and no deed is left out
pub record Passes (t : List ℕ) (σ : Standing) (cs : List (Placed Command)) (to : Spot) : Type 0 where
  pub rest : List (Placed Command)
  pub told : Told (outside σ.layer_outside) (written (stream t to)) rest
  pub left : deeds σ cs ≡ deeds (outside σ.layer_outside) rest

-- ---- one command

pub record KeepsMore (t : List ℕ) (from : Spot) (a b : ℕ) (rows : List ℕ) (words : List ℤ) (live row : ℕ) (used' : ℕ) (layered' : Bool) (to : Spot) (rows' : List ℕ) (words' : List ℤ) : Type 0 where
  pub fit : Fit t to
  pub ahead : from.at < to.at
  pub ready : Ready t to a b rows' words' live row used' layered'
  pub keeps : (σ : Standing) (cs : List (Placed Command)) → Within t from a b rows words row σ cs → Keeps t to a b rows words live row σ cs rows' words' used' layered'

-- the definition ends
pub record KeepsLast (t : List ℕ) (from : Spot) (a b : ℕ) (rows : List ℕ) (words : List ℤ) (live row used : ℕ) (layered : Bool) (to : Spot) (rows' : List ℕ) (words' : List ℤ) : Type 0 where
  pub fit : Fit t to
  pub ahead : from.at ≤ to.at
  pub adds : Adds rows words live row [] rows' words' used layered
  pub same_rows : rows' ≡ rows
  pub nothing_more : (σ : Standing) (cs : List (Placed Command)) → Within t from a b rows words row σ cs → retained σ cs ≡ []
  pub passes : (σ : Standing) (cs : List (Placed Command)) → Within t from a b rows words row σ cs → Passes t σ cs to

-- a step is left that does not fit
pub record Lacks (used : ℕ) (room : ℕ) (ss : List (Placed Step)) : Type 0 where
  pub first : Placed Step
  pub later : List (Placed Step)
  pub are : ss ≡ first ∷ later
  pub over : room < used + length (step_words first)

pub record KeepsTight (t : List ℕ) (from : Spot) (a b : ℕ) (rows : List ℕ) (words : List ℤ) (live row used : ℕ) (layered : Bool) (rows' : List ℕ) (words' : List ℤ) : Type 0 where
  pub adds : Adds rows words live row [] rows' words' used layered
  pub same_rows : rows' ≡ rows
  pub ready : Ready t from a b rows' words' live row used layered
  pub lacks : (σ : Standing) (cs : List (Placed Command)) → Within t from a b rows words row σ cs → Lacks used (length words) (retained σ cs)

unfoldable pub KeepsBy : (t : List ℕ) (from : Spot) (a b : ℕ) (rows : List ℕ) (words : List ℤ) (live row used : ℕ) (layered : Bool) → Stored → (rows' : List ℕ) (words' : List ℤ) → Type 0
KeepsBy t from a b rows words live row used layered (More used' layered' to) rows' words' = KeepsMore t from a b rows words live row used' layered' to rows' words'
KeepsBy t from a b rows words live row used layered (Last to) rows' words' = KeepsLast t from a b rows words live row used layered to rows' words'
KeepsBy t from a b rows words live row used layered Tight rows' words' = KeepsTight t from a b rows words live row used layered rows' words'

-- the contract of `keep_command`
pub record KeepsCommand (t : List ℕ) (from : Spot) (a b : ℕ) (rows : List ℕ) (words : List ℤ) (live row used : ℕ) (layered : Bool) (r : Stored) (rows' : List ℕ) (words' : List ℤ) : Type 0 where
  pub size : length words' ≡ length words
  pub by : KeepsBy t from a b rows words live row used layered r rows' words'

-- ---- a body

pub record KeepsWhole (t : List ℕ) (from : Spot) (a b : ℕ) (rows : List ℕ) (words : List ℤ) (live row : ℕ) (used' : ℕ) (to : Spot) (rows' : List ℕ) (words' : List ℤ) : Type 0 where
  pub fit : Fit t to
  pub ahead : from.at ≤ to.at
  pub few_needed : needed_at rows' row ≤ 4 * most_words
  pub layered : Bool
  pub adds : (σ : Standing) (cs : List (Placed Command)) → Within t from a b rows words row σ cs → Adds rows words live row (retained σ cs) rows' words' used' layered
  pub passes : (σ : Standing) (cs : List (Placed Command)) → Within t from a b rows words row σ cs → Passes t σ cs to

-- the words lent are too few for every definition that has this body
pub record TooFew (t : List ℕ) (from : Spot) (a b : ℕ) (rows : List ℕ) (words : List ℤ) (live row : ℕ) : Type 0 where
  pub needs_more : (σ : Standing) (cs : List (Placed Command)) → Within t from a b rows words row σ cs → (place : ℕ) (table : Table)
      → Holds rows words live (enter (bare (symbol_at rows row) place) table) → length words < words_in (enter (with_body (symbol_at rows row) place (retained σ cs)) table)

unfoldable pub KeepsBodyBy : (t : List ℕ) (from : Spot) (a b : ℕ) (rows : List ℕ) (words : List ℤ) (live row : ℕ) → Option Whole → (rows' : List ℕ) (words' : List ℤ) → Type 0
KeepsBodyBy t from a b rows words live row (Some whole) rows' words' = KeepsWhole t from a b rows words live row whole.used whole.to rows' words'
KeepsBodyBy t from a b rows words live row None rows' words' = TooFew t from a b rows words live row

-- the contract of `keep_body`
pub record KeepsBody (t : List ℕ) (from : Spot) (a b : ℕ) (rows : List ℕ) (words : List ℤ) (live row : ℕ) (r : Option Whole) (rows' : List ℕ) (words' : List ℤ) : Type 0 where
  pub size : length words' ≡ length words
  pub by : KeepsBodyBy t from a b rows words live row r rows' words'
