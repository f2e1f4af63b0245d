-- What `open_call` answers of a call where these calls are open: that its first event is refused, or that the call leads into a row and is counted. Stated
-- over the definition's `passage_of` and `counted` in the table that the rows hold, whatever the bodies are, for any list that is askew or not as the call
-- is. Where the open calls are kept is not said: an engine may keep them otherwise. A running account, not to be believed.
-- Assumes nothing.
use Rattle.std.specs.Prelude.{◌≡◌, List, ◌∷◌, ℕ, ℤ, Some, Result, Ok, Err}
use Rattle.definition.specs.Commands.{Turn}
use Rattle.definition.specs.Turns.{off_axes}
use Rattle.definition.specs.Table.{Definition}
use Rattle.definition.specs.Drawing.{Chain, Event, called, leads, passage_of, through}
use Rattle.definition.specs.Counts.{finished, stopped, counted}
use Rattle.definition.specs.declared.Refusal.{Refusal}
use Rattle.counts.specs.declared.Counts.{Counts}
use Rattle.counts.specs.Counting.{tally}
use Rattle.library.specs.Memory.{definition_at, table_of}
use Rattle.library.specs.Rows.{Finds}
use Rattle.opening.specs.declared.Call.{Call}
use Rattle.opening.specs.declared.Entered.{Entered}

abbrev pub entered_at : ℕ → Counts → Entered
entered_at row more = record { row = row; counts = more }

-- the first of these events is refused
pub record Stops (c : Counts) (es : List Event) (why : Refusal) (chain : Chain) : Type 0 where
  pub event : Event
  pub rest : List Event
  pub are : es ≡ event ∷ rest
  pub stops : counted (tally c) event ≡ stopped why chain

-- the call has no fault: its symbol's row, and the counts with it
pub record Descent (rows : List ℕ) (live : ℕ) (chain : Chain) (left : ℕ) (call : Call) (c : Counts) (row : ℕ) (more : Counts) : Type 0 where
  pub finds : Finds rows live call.symbol (Some row)
  pub some_left : left ≡ 0 → ⊥
  pub no_fault : (b : List ℤ) (ts : List (Turn ℤ)) → call.askew ≡ off_axes ts
      → passage_of left (table_of rows b live) chain call.symbol ts ≡ leads (definition_at rows b row)
  pub counts_it : (d : Definition) → counted (tally c) (called call.place chain d) ≡ finished (tally more)

unfoldable pub Opens : (rows : List ℕ) (live : ℕ) (chain : Chain) (left : ℕ) (call : Call) (c : Counts) → Result Entered Refusal → Type 0
Opens rows live chain left call c (Err why) =
    (b : List ℤ) (ts : List (Turn ℤ)) → call.askew ≡ off_axes ts → (go : Definition → List Event)
    → Stops c (through (passage_of left (table_of rows b live) chain call.symbol ts) call.place chain go) why chain
Opens rows live chain left call c (Ok entered) = Descent rows live chain left call c entered.row entered.counts
