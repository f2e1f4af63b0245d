-- What `join` makes of two texts and a room (RULES 18, request 14): the joined text in the room, or a refusal and which text it is about. Refusals come in the order of RULES 12: 1, for
-- the first and then for the second; 2, likewise; then 18, which is about neither.
use Rattle.std.specs.Prelude.{◌≡◌, ◌≢◌, ◌&&◌, List, ◌++◌, ℕ, ◌≤◌, ◌<◌, leb, length, slice_index, take, drop, if◌then◌else◌, Err, Ok, Result}
use Rattle.grammar.specs.Viable.{Judged}
use Rattle.definition.specs.Limits.{most_bytes}
use Rattle.definition.specs.declared.Rule.{Rule}
use Rattle.definition.specs.declared.Rule.TheVariants.{TextTooLong, NotInGrammar, FlatFileTooLong}
use Rattle.definition.specs.Rules.{refuse}
use Rattle.joining.specs.Joined.{before_e, joined}
use Rattle.join.specs.declared.NotJoined.{NotJoined}
use Rattle.join.specs.declared.Which.{Which}
use Rattle.join.specs.declared.Which.TheVariants.{Neither, First, Second}

-- a refusal, and the text it is about
abbrev pub about : (text : Which) → Rule → (place : ℕ) → Result ℕ NotJoined
about text rule place = Err (record { refusal = refuse rule place; text = text })

-- a joined text of so many bytes: 18 where it is longer than the room or than a text may be
abbrev pub fitted : (bytes room : ℕ) → Result ℕ NotJoined
fitted bytes room = if leb bytes room && leb bytes most_bytes then Ok bytes else about Neither FlatFileTooLong 0

-- by the verdicts on the two texts
abbrev pub by_verdicts : Result Unit ℕ → Result Unit ℕ → Result ℕ NotJoined → Result ℕ NotJoined
by_verdicts (Err n) w j = about First NotInGrammar n
by_verdicts (Ok _) (Err n) j = about Second NotInGrammar n
by_verdicts (Ok _) (Ok _) j = j

-- what may come of two texts and a room of so many bytes
pub data Joining (first second : List ℕ) (room : ℕ) : Result ℕ NotJoined → Type 0 where
  first_too_long : most_bytes < length first → Joining first second room (about First TextTooLong 0)
  second_too_long : length first ≤ most_bytes → most_bytes < length second → Joining first second room (about Second TextTooLong 0)
  judged : (v w : Result Unit ℕ) → length first ≤ most_bytes → length second ≤ most_bytes → Judged first v → Judged second w
      → Joining first second room (by_verdicts v w (fitted (length (joined first second)) room))

-- what is left in the room: the joined text and then what stood there; on a refusal the room is unchanged
abbrev pub room_after : Result ℕ NotJoined → (text room : List ℕ) → List ℕ
room_after (Ok bytes) text room = text ++ drop (length text) room
room_after (Err _) text room = room

pub record Made (first second room : List ℕ) (r : Result ℕ NotJoined) (left : List ℕ) : Type 0 where
  pub joining : Joining first second (length room) r
  pub kept : left ≡ room_after r (joined first second) room

-- for the code alone: the first text's E stands at this place
pub record CutAt (first : List ℕ) (end : ℕ) : Type 0 where
  pub before : take end first ≡ before_e first
  pub within : end ≤ length first

-- a letter E stands at this place, and none after it
abbrev pub LastAt : List ℕ → ℕ → Type 0
LastAt t i = (i < length t) × (slice_index t i ≡ 69) × ((k : ℕ) → i < k → k < length t → slice_index t k ≢ 69)

-- one of the two texts leaves the grammar: 2 at its place
abbrev pub LeavesAt : List ℕ → Which → NotJoined → Type 0
LeavesAt t text e = (n : ℕ) × (e ≡ record { refusal = refuse NotInGrammar n; text = text }) × Judged t (Err n)
