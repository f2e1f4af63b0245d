-- RULES 8, request 7: a second engine keeps its open calls in records that a host lends, one for each level. The refusal where they are too few, and what such an
-- engine promises. The story stays as it is: held to the words lent, it is held to the records lent too, event by event.
use Rattle.std.specs.Prelude.{◌≡◌, List, [], map, ℕ, ◌≤◌, ◌<◌, leb, ℤ, length, replicate, if◌then◌else◌}
use Rattle.std.proofs.Math.Option.{Option, none, some}
use Rattle.grammar.specs.Notation.{Letter}
use Rattle.grammar.specs.Viable.{Marked, Grammatical, LongestViable}
use Rattle.definition.specs.declared.Answer.{Answer}
use Rattle.definition.specs.declared.Refusal.{Refusal}
use Rattle.definition.specs.Limits.{most_bytes}
use Rattle.definition.specs.Words.{Placed}
use Rattle.definition.specs.declared.Rule.TheVariants.{TextTooLong, NotInGrammar, TooFewRecords}
use Rattle.definition.specs.Rules.{refuse}
use Rattle.definition.specs.Commands.{Command, commands}
use Rattle.definition.specs.Faults.{first_fault}
use Rattle.definition.specs.Drawing.{Event, called, drew, entered, removed, refused}
use Rattle.definition.specs.Counts.{counts, ending}
use Rattle.definition.specs.Answer.{Outcome, rejected, given_back, room_after, drawing_of, held_drawing, fitted, zeros}

-- refusal 21, with its chain, at the first call that needs one record more than lent: a call where d calls are open needs d + 1. It comes directly after 14,
-- which the story has, and before 15, which the counting finds
unfoldable pub stacked_to : (records : ℕ) → Event → Event
stacked_to records (called p chain d) = if leb records (length chain) then refused (refuse TooFewRecords p) chain else called p chain d
stacked_to records (drew d) = drew d
stacked_to records (entered d before) = entered d before
stacked_to records (removed n before) = removed n before
stacked_to records (refused r chain) = refused r chain

abbrev pub stacked_drawing : (words records : ℕ) → List (Placed Command) → List Event  -- the drawing of commands, held to the words and to the records lent
stacked_drawing words records cs = map (stacked_to records) (held_drawing words cs)

unfoldable pub drawn_with : Option Refusal → List (Placed Command) → (words records room : ℕ) → Outcome
drawn_with (some r) cs words records room = rejected r []
drawn_with none cs words records room = fitted (ending (counts 0 0 0) (stacked_drawing words records cs)) cs (drawing_of cs) room

unfoldable pub outcome_with : List Letter → (words records room : ℕ) → Outcome
outcome_with m words records room = drawn_with (first_fault (commands 0 m)) (commands 0 m) words records room

-- what may come of a text with so many words and records and a room of the length said, as `Answers` has it without records
pub data AnswersWith (t : List ℕ) (words records room : ℕ) : Outcome → Type 0 where
  too_long : most_bytes < length t → AnswersWith t words records room (rejected (refuse TextTooLong 0) [])
  not_cif : {n : ℕ} → length t ≤ most_bytes → (Grammatical t → ⊥) → LongestViable t n → AnswersWith t words records room (rejected (refuse NotInGrammar n) [])
  read : {m : List Letter} → length t ≤ most_bytes → Marked t m → AnswersWith t words records room (outcome_with m words records room)

-- the contract of an engine that is lent records, of any kind with a zero, gives back r of the text t, and leaves words, room and records so: the records are
-- all zero afterwards, refused or not
pub record PromisedWith {F : Type 0} (zero_record : F) (t : List ℕ) (words : List ℤ) (room : List ℕ) (records : List F) (r : Answer) (words' : List ℤ) (left : List ℕ)
    (records' : List F) : Type 0 where
  pub outcome : Outcome
  pub answers : AnswersWith t (length words) (length records) (length room) outcome
  pub given : r ≡ given_back t outcome
  pub kept : left ≡ room_after outcome room
  pub cleared : words' ≡ zeros words
  pub emptied : records' ≡ replicate (length records) zero_record
