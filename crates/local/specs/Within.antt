-- What a client of the machine promises that keeps the records itself. The engine's promise is `PromisedWith`; the records it speaks of are the client's own, and
-- gone when it returns.
-- Assumes nothing.
use Rattle.std.specs.Prelude.{◌≡◌, false, List, ℕ, ℤ, length, replicate}
use Rattle.definition.specs.declared.Answer.{Answer}
use Rattle.definition.specs.Records.{PromisedWith}
use Rattle.machine.specs.States.{no_frame}
use Rattle.machine.specs.Underway.{Host, UnderwayFor}
use Rattle.machine.specs.declared.Frame.{Frame}
use Rattle.machine.specs.declared.State.{State}

abbrev pub no_records : ℕ → List Frame  -- so many records that are all zero
no_records n = replicate n no_frame

-- the contract of `flatten`: what an engine promises that is lent so many records
pub record Within (t : List ℕ) (words : List ℤ) (room : List ℕ) (records : ℕ) (r : Answer) (words' : List ℤ) (room' : List ℕ) : Type 0 where
  pub left : List Frame
  pub promised : PromisedWith no_frame t words room (no_records records) r words' room' left

-- ---- the loop, over any entry: not to be believed
-- what `run` asks: the state is under way for some entry
pub record Begun (t : List ℕ) (s : State) (records : ℕ) (rows : List ℕ) (b : List ℤ) (room : List ℕ) : Type 0 where
  pub h : Host
  pub underway : UnderwayFor t h s (no_records records) rows b room

-- a state that is over, under way for this entry
pub record Ended (t : List ℕ) (h : Host) (r : State) (b' : List ℤ) (room' : List ℕ) : Type 0 where
  pub left : List Frame
  pub rows : List ℕ
  pub is_over : r.going ≡ false
  pub underway : UnderwayFor t h r left rows b' room'

-- the contract of `run`: for every entry for which the state is under way
abbrev pub Runs : (t : List ℕ) → State → (records : ℕ) (rows : List ℕ) (b : List ℤ) (room : List ℕ) → State → (b' : List ℤ) (room' : List ℕ) → Type 0
Runs t s records rows b room r b' room' = (h : Host) → UnderwayFor t h s (no_records records) rows b room → Ended t h r b' room'
