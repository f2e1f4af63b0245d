-- What a whole text is to draw: the story of its commands, held to the words lent, from nothing drawn and nothing written. Not to be believed: only names
-- for what crates/definition says.
-- Assumes nothing.
use Rattle.std.specs.Prelude.{◌≡◌, Bool, ◌||◌, List, [], map, ℕ, ◌≤◌, ltb, eqb, ℤ, pos, nat_abs, length, get_or, Result, Err, if◌then◌else◌}
use Rattle.std.proofs.Math.Option.{none}
use Rattle.grammar.specs.Notation.{Letter}
use Rattle.grammar.specs.Viable.{Marked}
use Rattle.definition.specs.declared.Rule.{Rule}
use Rattle.definition.specs.declared.Refusal.{Refusal}
use Rattle.definition.specs.Rules.{refuse}
use Rattle.definition.specs.Commands.{commands}
use Rattle.definition.specs.Faults.{first_fault}
use Rattle.definition.specs.Drawing.{Event}
use Rattle.definition.specs.Held.{held_to}
use Rattle.definition.specs.Answer.{drawing_of}
use Rattle.definition.specs.Limits.{most_bytes}
use Rattle.rules.specs.Letters.{letter_c}
use Rattle.rules.specs.Rules.{shapely}
use Rattle.library.specs.Memory.{needed_in}
use Rattle.library.specs.Rows.{Forgets}
use Rattle.keeping.specs.Keeping.{most_words}
use Rattle.keeping.specs.declared.Start.{Start}
use Rattle.keeping.specs.declared.Stock.{Stock}
use Rattle.chain.specs.Chain.{chain_in}
use Rattle.shapes.specs.declared.Ink.{Ink}
use Rattle.shapes.specs.Painting.{Painted}

-- a text that refusals 1 to 9 let pass
pub record Passed (t : List ℕ) : Type 0 where
  pub letters : List Letter
  pub marked : Marked t letters
  pub short : length t ≤ most_bytes
  pub clear : first_fault (commands 0 letters) ≡ none

abbrev pub to_draw : {t : List ℕ} → Passed t → List Event
to_draw p = drawing_of (commands 0 p.letters)

-- nothing is counted, and nothing written
abbrev pub dry : Ink
dry = record { counts = record { calls = 0; shapes = 0; redefinitions = 0 }; pen = record { at = 0; layer = 0 } }

-- the contract of `draw`, with so many words lent
abbrev pub TextDraws : (t : List ℕ) (words : ℕ) (room drawing' : List ℕ) → Result Ink Refusal → List ℕ → Type 0
TextDraws t words room drawing' r room' = (p : Passed t) → Painted dry (map (held_to words) (to_draw p)) room (chain_in drawing') r room'

-- a definition is refused: it stands outside of every call
pub record RefusedOutside (rule : Rule) (place : ℕ) (r : Result Ink Refusal) (drawing' : List ℕ) : Type 0 where
  pub is : r ≡ Err (refuse rule place)
  pub none_open : chain_in drawing' ≡ []

-- as many of the words lent as bodies can need
abbrev pub lent_of : ℕ → ℕ
lent_of n = if ltb n most_words then n else most_words

-- the letters of the commands that are output where they stand outside of definitions: C, and those of the shapes
abbrev pub outputs : ℕ → Bool
outputs k = eqb k letter_c || shapely k

-- what the words of a DS say
abbrev pub start_in : List ℤ → ℕ → Start
start_in words p = record { symbol = nat_abs (get_or words 2 (pos 0)); place = p; a = nat_abs (get_or words 3 (pos 0)); b = nat_abs (get_or words 4 (pos 0)) }

-- DD: fewer rows are live and need words, and no word is free yet
pub record Deletes (rows : List ℕ) (stock : Stock) (symbol : ℕ) (r : Stock) : Type 0 where
  pub forgets : Forgets rows stock.live symbol r.live
  pub same_used : r.used ≡ stock.used
  pub needs : r.needed ≡ needed_in rows r.live
