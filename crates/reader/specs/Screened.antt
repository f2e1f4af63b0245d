-- The first of refusals 1 to 9: over the longest text 1, and else what `reading` refuses; and how a text comes out before the words are cleared. A running
-- account, not to be believed: proofs/Promises.antt shows that it is the definition's.
-- Assumes nothing.
use Rattle.std.specs.Prelude.{◌≡◌, List, map, ℕ, ◌≤◌, ◌<◌, length, Result, Err}
use Rattle.definition.specs.declared.Answer.{Answer}
use Rattle.definition.specs.declared.Refusal.{Refusal}
use Rattle.definition.specs.declared.Rule.TheVariants.{TextTooLong}
use Rattle.definition.specs.Answer.{Outcome, Answers, given_back, room_after}
use Rattle.definition.specs.Held.{held_to}
use Rattle.definition.specs.Limits.{most_bytes}
use Rattle.definition.specs.Rules.{refuse}
use Rattle.definition.specs.Commands.{commands}
use Rattle.definition.specs.Rounded.{rounded}
use Rattle.passing.specs.Passed.{Passed, to_draw, dry}
use Rattle.shapes.specs.Painting.{bytes_of}
use Rattle.reading.specs.Refusal.{Refuses}

pub data Screened (t : List ℕ) : Result ℕ Refusal → Type 0 where
  over : most_bytes < length t → Screened t (Err (refuse TextTooLong 0))
  within : {r : Result ℕ Refusal} → length t ≤ most_bytes → Refuses t r → Screened t r

-- a text that refusals 1 to 9 let pass, and how many of its distances are rounded
pub record Rounds (t : List ℕ) (k : ℕ) : Type 0 where
  pub passed : Passed t
  pub is : k ≡ rounded (commands 0 passed.letters)

-- how the text t comes out with so many words lent, and what is left in the room: all that is promised but the words left
pub record Comes (t : List ℕ) (words : ℕ) (room : List ℕ) (r : Answer) (left : List ℕ) : Type 0 where
  pub outcome : Outcome
  pub answers : Answers t words (length room) outcome
  pub given : r ≡ given_back t outcome
  pub kept : left ≡ room_after outcome room

-- the lines that a drawing with so many words lent lays
abbrev pub held_lines : (words : ℕ) → {t : List ℕ} → Passed t → List ℕ
held_lines words p = bytes_of dry (map (held_to words) (to_draw p))
