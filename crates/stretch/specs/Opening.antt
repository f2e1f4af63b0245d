-- What `open_call` answers of a call where these calls are open and so many records are lent: as crate opening has it, with the call's events held to the records.
-- A running account, not to be believed.
-- Assumes nothing.
use Rattle.std.specs.Prelude.{◌≡◌, List, map, ℕ, ◌<◌, ℤ, length, Err, Ok, Result}
use Rattle.definition.specs.Commands.{Turn}
use Rattle.definition.specs.Turns.{off_axes}
use Rattle.definition.specs.Table.{Definition}
use Rattle.definition.specs.Drawing.{Chain, Event, passage_of, through}
use Rattle.definition.specs.Records.{stacked_to}
use Rattle.counts.specs.declared.Counts.{Counts}
use Rattle.library.specs.Memory.{table_of}
use Rattle.opening.specs.declared.Call.{Call}
use Rattle.opening.specs.Opening.{Stops, Descent}
use Rattle.opening.specs.declared.Entered.{Entered}
use Rattle.definition.specs.declared.Refusal.{Refusal}

unfoldable pub OpensWith : (records : ℕ) (rows : List ℕ) (live : ℕ) (chain : Chain) (left : ℕ) (call : Call) (c : Counts) → Result Entered Refusal → Type 0
OpensWith records rows live chain left call c (Err why) =
    (b : List ℤ) (ts : List (Turn ℤ)) → call.askew ≡ off_axes ts → (go : Definition → List Event)
    → Stops c (map (stacked_to records) (through (passage_of left (table_of rows b live) chain call.symbol ts) call.place chain go)) why chain
OpensWith records rows live chain left call c (Ok entered) = Descent rows live chain left call c entered.row entered.counts × (length chain < records)
