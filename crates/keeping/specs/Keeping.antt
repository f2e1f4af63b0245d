-- The memory that the pass over a text keeps, and what it makes of it to take one definition: its body is decoded once, into the words lent, and the
-- definition is entered. A running account, not to be believed: what happens is said in crates/definition's events, and the pass joins it to the story.
-- Assumes nothing.
use Rattle.std.specs.Prelude.{◌≡◌, true, false, List, [], ℕ, ◌+◌, ◌≤◌, ◌<◌, ℤ, length, Result, Ok, Err}
use Rattle.definition.specs.declared.Rule.{Rule}
use Rattle.definition.specs.declared.Rule.TheVariants.{TooManyDefinitions, TooFewWords}
use Rattle.definition.specs.Limits.{most_bytes, most_definitions}
use Rattle.definition.specs.Words.{Placed}
use Rattle.definition.specs.Commands.{Command}
use Rattle.definition.specs.Standing.{Standing}
use Rattle.definition.specs.Table.{Definition, Table, enter}
use Rattle.definition.specs.Held.{words_in}
use Rattle.definition.specs.Drawing.{retained, entered}
use Rattle.definition.specs.Counts.{finished, counted}
use Rattle.pieces.specs.Pieces.{stream, Fit}
use Rattle.pieces.specs.declared.Spot.{Spot}
use Rattle.rules.specs.Written.{written}
use Rattle.counts.specs.declared.Counts.{Counts}
use Rattle.counts.specs.Counting.{tally}
use Rattle.library.specs.Memory.{body_at, symbol_at, needed_at}
pub use Rattle.library.specs.Memory.{most_words}
use Rattle.library.specs.Sound.{Stocked}
use Rattle.library.specs.Moving.{Laid}
use Rattle.library.specs.Rows.{Sorted, bare}
use Rattle.library.specs.Storing.{Growing}
use Rattle.library.specs.Holds.{Holds}
use Rattle.keeping.specs.Voices.{Told}
pub use Rattle.keeping.specs.Growth.{Passes}
use Rattle.keeping.specs.declared.Start.{Start}
use Rattle.keeping.specs.declared.Stock.{Stock}
use Rattle.keeping.specs.declared.Taken.{Taken}

-- the memory holds a table: how many definitions are live, how many words are used, and how many the live definitions need, which is at most those lent
pub record Kept (rows : List ℕ) (b : List ℤ) (stock : Stock) (t : Table) : Type 0 where
  pub holds : Holds rows b stock.live t
  pub stocked : Stocked rows b stock.live
  pub laid : Laid rows stock.live stock.used
  pub sorted : Sorted rows stock.live
  pub fits : stock.used ≤ length b
  pub needs : stock.needed ≡ words_in t
  pub enough : words_in t ≤ length b
  pub short : length b ≤ most_words

-- what is told from a spot on, where a definition is open at this scale and no layer is set in it yet
pub record Open (t : List ℕ) (from : Spot) (a b : ℕ) : Type 0 where
  pub standing : Standing
  pub commands : List (Placed Command)
  pub told : Told standing (written (stream t from)) commands
  pub opened : standing.inside ≡ true
  pub same_a : standing.a ≡ a
  pub same_b : standing.b ≡ b
  pub no_layer_lem : standing.layer_set ≡ []

-- the definition that a DS makes, by what is told after it
abbrev pub definition_of : {t : List ℕ} {from : Spot} {a b : ℕ} → Open t from a b → (symbol place : ℕ) → Definition
definition_of h symbol place = record { symbol = symbol; place = place; body = retained h.standing h.commands }

-- what a definition asks of the memory and of the text: some table is held, and a body is told
pub record Begins (t : List ℕ) (rows : List ℕ) (b : List ℤ) (stock : Stock) (from : Spot) (start : Start) : Type 0 where
  pub table : Table
  pub kept : Kept rows b stock table
  pub opens : Open t from start.a start.b

-- the definition was taken: the memory holds the table that it is entered in, it is counted as the definition counts it, and the next command is the
-- first after its DF
pub record Takes (t : List ℕ) (rows : List ℕ) (b : List ℤ) (from : Spot) (start : Start) (counts : Counts) (h : Open t from start.a start.b) (table : Table) (stock : Stock)
    (after_it : Counts) (to : Spot) : Type 0 where
  pub kept : Kept rows b stock (enter (definition_of h start.symbol start.place) table)
  pub few : length (enter (definition_of h start.symbol start.place) table) ≤ most_definitions
  pub counts_so : counted (tally counts) (entered (definition_of h start.symbol start.place) table) ≡ finished (tally after_it)
  pub same_calls : after_it.calls ≡ counts.calls
  pub same_shapes : after_it.shapes ≡ counts.shapes
  pub redefined : after_it.redefinitions ≤ counts.redefinitions + 1
  pub passes : Passes t h.standing h.commands to
  pub fit : Fit t to
  pub ahead : from.at ≤ to.at

-- or it is the 513th (refusal 10); or, where it is not, the live definitions need more words than are lent (refusal 25)
unfoldable pub Defines : (t : List ℕ) (rows : List ℕ) (b : List ℤ) (from : Spot) (start : Start) (counts : Counts) → Open t from start.a start.b → Table → Result Taken Rule → Type 0
Defines t rows b from start counts h table (Ok taken) = Takes t rows b from start counts h table taken.stock taken.counts taken.to
Defines t rows b from start counts h table (Err TooManyDefinitions) = most_definitions < length (enter (definition_of h start.symbol start.place) table)
Defines t rows b from start counts h table (Err TooFewWords) =
    (length (enter (definition_of h start.symbol start.place) table) ≤ most_definitions) × (length b < words_in (enter (definition_of h start.symbol start.place) table))
Defines t rows b from start counts h table (Err _) = ⊥

-- the contract of `define`, for every table that is held and whatever is told
pub record DefinesAt (t : List ℕ) (rows : List ℕ) (b : List ℤ) (stock : Stock) (from : Spot) (start : Start) (counts : Counts) (r : Result Taken Rule) (rows' : List ℕ) (b' : List ℤ) : Type 0 where
  pub size : length b' ≡ length b
  pub defines : (h : Open t from start.a start.b) (table : Table) → Kept rows b stock table → Defines t rows' b' from start counts h table r

-- ---- the same, of `fill`, where the row of the definition has been entered with no body yet

pub record Filling (t : List ℕ) (rows : List ℕ) (b : List ℤ) (stock : Stock) (row : ℕ) (from : Spot) (start : Start) : Type 0 where
  pub opens : Open t from start.a start.b
  pub growing : Growing rows b stock.live stock.used row false
  pub empty : body_at rows b row ≡ []
  pub free : needed_at rows row ≡ 0
  pub symbol_is : symbol_at rows row ≡ start.symbol
  pub few_needed : stock.needed ≤ most_words
  pub text_short : length t ≤ most_bytes
  pub run_short : length b ≤ most_words

pub record Fills (t : List ℕ) (rows : List ℕ) (b : List ℤ) (from : Spot) (start : Start) (counts : Counts) (h : Open t from start.a start.b) (table : Table) (stock : Stock)
    (after_it : Counts) (to : Spot) : Type 0 where
  pub kept : Kept rows b stock (enter (definition_of h start.symbol start.place) table)
  pub same_counts : after_it ≡ counts
  pub passes : Passes t h.standing h.commands to
  pub fit : Fit t to
  pub ahead : from.at ≤ to.at

unfoldable pub FillsBy : (t : List ℕ) (rows : List ℕ) (b : List ℤ) (from : Spot) (start : Start) (counts : Counts) → Open t from start.a start.b → Table → Result Taken Rule → Type 0
FillsBy t rows b from start counts h table (Ok taken) = Fills t rows b from start counts h table taken.stock taken.counts taken.to
FillsBy t rows b from start counts h table (Err TooFewWords) = length b < words_in (enter (definition_of h start.symbol start.place) table)
FillsBy t rows b from start counts h table (Err _) = ⊥

pub record FillsAt (t : List ℕ) (rows : List ℕ) (b : List ℤ) (stock : Stock) (from : Spot) (start : Start) (counts : Counts) (r : Result Taken Rule) (rows' : List ℕ) (b' : List ℤ) : Type 0 where
  pub size : length b' ≡ length b
  pub fills : (h : Open t from start.a start.b) (table : Table) → Holds rows b stock.live (enter (bare start.symbol start.place) table)
      → stock.needed ≡ words_in (enter (bare start.symbol start.place) table) → FillsBy t rows' b' from start counts h table r
