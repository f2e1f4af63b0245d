-- What the reader answers of a text, the words lent and a room: the order of refusals, what is given back, and what is left in the words and in the
-- room. The exported contract is `Promised`, at the end.
use Rattle.std.specs.Prelude.{◌≡◌, ◌&&◌, List, [], ◌++◌, map, ℕ, ◌≤◌, ◌<◌, leb, ℤ, pos, length, drop, replicate, if◌then◌else◌}
use Rattle.std.proofs.Math.Option.{Option, none, some}
use Rattle.grammar.specs.Notation.{Letter}
use Rattle.grammar.specs.Viable.{Marked}
use Rattle.grammar.specs.Viable.{Grammatical, LongestViable}
use Rattle.definition.specs.declared.Answer.{Answer}
use Rattle.definition.specs.declared.Refusal.{Refusal}
use Rattle.definition.specs.Limits.{most_bytes}
use Rattle.definition.specs.Words.{Placed}
use Rattle.definition.specs.declared.Rule.TheVariants.{TextTooLong, NotInGrammar, FlatFileTooLong}
use Rattle.definition.specs.Rules.{number_of, refuse}
use Rattle.definition.specs.Commands.{Command, commands}
use Rattle.definition.specs.Standing.{outside}
use Rattle.definition.specs.Faults.{first_fault}
use Rattle.definition.specs.Rounded.{rounded}
use Rattle.definition.specs.Drawing.{Chain, Event, deeds, story}
use Rattle.definition.specs.Counts.{Counts, counts, End, finished, stopped, ending, shapes_of}
use Rattle.definition.specs.Flat.{flat}
use Rattle.definition.specs.Held.{held_to}
use Rattle.definition.specs.Position.{line_of, column_of, chain_told}

pub data Outcome : Type 0 where  -- a text's commands are drawn, with the counts and all that happened; or it is refused, with the calls open there
  accepted : List (Placed Command) → Counts → List Event → Outcome
  rejected : Refusal → Chain → Outcome

-- RULES 1: on success the number and place are 0; on refusal the length and all counts are 0. Request 2: the result also
-- counts the rounded distances of the text. Request 4: line and column of every refusal and the chain; on success line and column are 0 and the chain is empty
unfoldable pub flat_file : Outcome → List ℕ
flat_file (accepted cs c es) = flat (shapes_of es)
flat_file (rejected r chain) = []

unfoldable pub success : (length : ℕ) → Counts → (rounded : ℕ) → Answer
success l c k = record {
  number = 0;
  place = 0;
  length = l;
  shapes = c.shapes;
  calls = c.calls;
  redefinitions = c.redefinitions;
  rounded = k;
  line = 0;
  column = 0;
  opened = 0;
  chain = chain_told [];
}

unfoldable pub failure : List ℕ → Refusal → Chain → Answer  -- of a text
failure t r chain = record {
  number = number_of r.rule;
  place = r.place;
  length = 0;
  shapes = 0;
  calls = 0;
  redefinitions = 0;
  rounded = 0;
  line = line_of t r.place;
  column = column_of t r.place;
  opened = length chain;
  chain = chain_told chain;
}

unfoldable pub given_back : List ℕ → Outcome → Answer
given_back t (accepted cs c es) = success (length (flat (shapes_of es))) c (rounded cs)
given_back t (rejected r chain) = failure t r chain

abbrev pub room_after : Outcome → List ℕ → List ℕ  -- the first bytes of the room hold the flat file, and the rest of the room is unchanged
room_after o room = flat_file o ++ drop (length (flat_file o)) room

abbrev pub drawing_of : List (Placed Command) → List Event  -- the drawing of commands
drawing_of cs = story [] (deeds (outside []) cs)

abbrev pub held_drawing : (words : ℕ) → List (Placed Command) → List Event  -- RULES 8, request 10: the same, held to the words lent
held_drawing words cs = map (held_to words) (drawing_of cs)

unfoldable pub fitted : End → List (Placed Command) → List Event → ℕ → Outcome  -- RULES 12, refusal 18: flat file longer than the room or than 16,777,216
fitted (stopped r chain) cs es room = rejected r chain
fitted (finished c) cs es room =
    if leb (length (flat (shapes_of es))) room && leb (length (flat (shapes_of es))) most_bytes then accepted cs c es else rejected (refuse FlatFileTooLong 0) []

-- RULES 12, the order: 3 to 9 for all commands, then 10 to 17 in the order of drawing, 25 directly after 10, then 18
unfoldable pub drawn : Option Refusal → List (Placed Command) → (words room : ℕ) → Outcome
drawn (some r) cs words room = rejected r []
drawn none cs words room = fitted (ending (counts 0 0 0) (held_drawing words cs)) cs (drawing_of cs) room

unfoldable pub outcome_of : List Letter → (words room : ℕ) → Outcome
outcome_of m words room = drawn (first_fault (commands 0 m)) (commands 0 m) words room

-- what may come of a text t, so many words and a room of the length said: 1; then 2, which knows grammar only; then what the text's commands say
pub data Answers (t : List ℕ) (words room : ℕ) : Outcome → Type 0 where
  too_long : most_bytes < length t → Answers t words room (rejected (refuse TextTooLong 0) [])
  not_cif : {n : ℕ} → length t ≤ most_bytes → (Grammatical t → ⊥) → LongestViable t n → Answers t words room (rejected (refuse NotInGrammar n) [])
  read : {m : List Letter} → length t ≤ most_bytes → Marked t m → Answers t words room (outcome_of m words room)

abbrev pub zeros : List ℤ → List ℤ  -- RULES 1, request 10: the words are all zero afterwards, refused or not
zeros words = replicate (length words) (pos 0)

-- the contract of a reader that gives back r of the text t, and leaves the words and the room so
pub record Promised (t : List ℕ) (words : List ℤ) (room : List ℕ) (r : Answer) (words' : List ℤ) (left : List ℕ) : Type 0 where
  pub outcome : Outcome
  pub answers : Answers t (length words) (length room) outcome
  pub given : r ≡ given_back t outcome
  pub kept : left ≡ room_after outcome room
  pub cleared : words' ≡ zeros words
