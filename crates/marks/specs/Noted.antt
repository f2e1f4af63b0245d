-- What a run of names means: each is one number, and its place is its mark. A running account, not to be believed: the sets that marks make are those of
-- crates/definition (specs/Marks.antt), and refusal 19 is the definition's.
-- Assumes nothing.
use Rattle.std.specs.Prelude.{◌≡◌, Bool, true, false, List, [], ℕ, Option, Some, None, Result, Ok, Err, ◌+◌, ◌^◌, ◌≤◌, ◌<◌, length, get_or, set}
use Rattle.std.proofs.Math.Option.{none, some}
use Rattle.definition.specs.Limits.{most_layers}
use Rattle.definition.specs.Words.{Placed}
use Rattle.definition.specs.declared.Rule.TheVariants.{TooManyLayers}
use Rattle.definition.specs.Rules.{refuse}
use Rattle.definition.specs.Commands.{Command}
use Rattle.definition.specs.Summary.{Names, layer_names, too_many_from}
use Rattle.names.specs.Names.{name_of, packed}
use Rattle.marks.specs.declared.Names.{Names as Run}

pub record Known (l : List ℕ) : Type 0 where  -- a name that comes back from its number
  pub some_letter : 0 < length l
  pub back : name_of (packed l) ≡ l

-- the first numbers of a run are these names, and no name stands there twice
pub record Noted (run : List ℕ) (count : ℕ) (ns : Names) : Type 0 where
  pub sized : length run ≡ most_layers
  pub many : length ns ≡ count
  pub few : count ≤ most_layers
  pub numbers : (i : ℕ) → i < count → get_or run i 0 ≡ packed (get_or ns i [])
  pub known : (i : ℕ) → i < count → Known (get_or ns i [])
  pub apart : (i j : ℕ) → i < count → j < count → get_or ns i [] ≡ get_or ns j [] → i ≡ j

abbrev pub New : List ℕ → ℕ → ℕ → Type 0  -- none of the first numbers is this one
New run count v = (k : ℕ) → k < count → get_or run k 0 ≡ v → ⊥

-- the contract of `mark_of`: the first place where it stands, or none
pub data MarkOf (run : List ℕ) (count : ℕ) (v : ℕ) : Option ℕ → Type 0 where
  marked : {i : ℕ} → i < count → New run i v → get_or run i 0 ≡ v → MarkOf run count v (Some i)
  unmarked : New run count v → MarkOf run count v None

abbrev pub bit_by : Option ℕ → ℕ
bit_by (Some i) = 2 ^ i
bit_by None = 0

-- the contract of `bit_of`
pub record BitOf (run : List ℕ) (count : ℕ) (v : ℕ) (r : ℕ) : Type 0 where
  pub mark : Option ℕ
  pub is_mark : MarkOf run count v mark
  pub is : r ≡ bit_by mark

-- the contract of `note`: a name that has a mark; a new one, which takes the next; and one too many
pub data Notes (run : Run) (v : ℕ) : Bool → Run → Type 0 where
  known : {i : ℕ} → i < run.count → get_or run.numbers i 0 ≡ v → Notes run v true run
  new : New run.numbers run.count v → run.count < most_layers → Notes run v true (record { numbers = set run.numbers run.count v; count = run.count + 1 })
  too_many : New run.numbers run.count v → run.count ≡ most_layers → Notes run v false run

-- the contract of `gather`, of the commands of a text
unfoldable pub Gathers : List (Placed Command) → Result Run ℕ → Type 0
Gathers cs (Ok run) = Noted run.numbers run.count (layer_names cs) × (too_many_from [] cs ≡ none)
Gathers cs (Err p) = too_many_from [] cs ≡ some (refuse TooManyLayers p)
