-- What a call and a body draw, in the table that the memory holds and where the first calls of the run are open, with the chain that is told where an
-- event is refused. A running account, not to be believed: what is drawn is said by crates/definition's `drawn_body` and `drawn_call`.
-- Assumes nothing.
use Rattle.std.specs.Prelude.{◌≡◌, List, ◌++◌, ℕ, ◌+◌, ◌-◌, ◌≤◌, ℤ, length, Result}
use Rattle.definition.specs.Commands.{Turn}
use Rattle.definition.specs.Limits.{deepest}
use Rattle.definition.specs.Turns.{off_axes}
use Rattle.definition.specs.Drawing.{Chain, drawn_body, drawn_call}
use Rattle.definition.specs.declared.Refusal.{Refusal}
use Rattle.turns.specs.declared.Net.{Net}
use Rattle.turns.specs.Nets.{Carries}
use Rattle.moves.specs.Moves.{most_values}
use Rattle.shapes.specs.declared.Ink.{Ink}
use Rattle.shapes.specs.Painting.{Reached, Painted}
use Rattle.library.specs.Memory.{steps_in, table_of, most_words}
use Rattle.library.specs.Sound.{Sound, Stocked}
use Rattle.library.specs.Rows.{Sorted}
use Rattle.chain.specs.Chain.{run_length, open_calls}
use Rattle.opening.specs.declared.Call.{Call}

-- the calls that are open where so many levels are left
abbrev pub open_at : List ℕ → (left : ℕ) → Chain
open_at drawing left = open_calls drawing (deepest - left)

-- what a drawing needs: rows in order, bodies that are sound, and the lengths of the lent runs
pub record Ready (rows : List ℕ) (b : List ℤ) (live : ℕ) (numbers : List ℤ) (drawing : List ℕ) (left : ℕ) (ink : Ink) : Type 0 where
  pub sorted : Sorted rows live
  pub stocked : Stocked rows b live
  pub short : length b ≤ most_words
  pub roomy : most_values + 2 ≤ length numbers
  pub levels : length drawing ≡ run_length
  pub some_left : left ≤ deepest
  pub reached : Reached ink

pub record BodyAt (b : List ℤ) (from end : ℕ) : Type 0 where
  pub forward : from ≤ end
  pub within : end ≤ length b
  pub sound : Sound b from (end - from)

-- the contract of `draw_body`
abbrev pub Draws : (rows : List ℕ) (b : List ℤ) (live : ℕ) (drawing : List ℕ) (net : Net) (left from end : ℕ) → Ink → List ℕ → (told : Chain) → Result Ink Refusal → List ℕ → Type 0
Draws rows b live drawing net left from end ink room told r room' =
    (outer : List (Turn ℤ)) → Carries outer net
    → Painted ink (drawn_body (drawn_call left (table_of rows b live) (open_at drawing left) outer) (open_at drawing left) outer (steps_in b from (end - from))) room told r room'

-- of `draw_call`: the call's own list acts before those of the open calls
abbrev pub CallDraws : (rows : List ℕ) (b : List ℤ) (live : ℕ) (drawing : List ℕ) (call : Call) (left : ℕ) → Ink → List ℕ → (told : Chain) → Result Ink Refusal → List ℕ → Type 0
CallDraws rows b live drawing call left ink room told r room' =
    (outer ts : List (Turn ℤ)) → call.askew ≡ off_axes ts → Carries (ts ++ outer) call.net
    → Painted ink (drawn_call left (table_of rows b live) (open_at drawing left) outer call.place call.symbol ts) room told r room'
