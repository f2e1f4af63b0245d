-- What a stretch of a text draws: what is left of its story where it stands between two commands, held to the words and to the records lent, or as much of it as
-- comes before the body of a call. A running account, not to be believed: the story is crates/definition's, and where a pass stands is crate passing's.
-- Assumes nothing.
use Rattle.std.specs.Prelude.{◌≡◌, List, [], map, ℕ, ◌≤◌, ◌<◌, ℤ, length, Err, Ok, Result}
use Rattle.definition.specs.Limits.{most_bytes}
use Rattle.definition.specs.Words.{at}
use Rattle.definition.specs.Table.{Step, Table}
use Rattle.definition.specs.Drawing.{Deed, output, Chain, Event, happens, story}
use Rattle.definition.specs.Held.{held_to}
use Rattle.definition.specs.Records.{stacked_to}
use Rattle.definition.specs.declared.Refusal.{Refusal}
use Rattle.reasons.specs.Parts.{StopsIn}
use Rattle.names.specs.Names.{name_of}
use Rattle.pieces.specs.Pieces.{Fit}
use Rattle.counts.specs.Counting.{tally}
use Rattle.shapes.specs.declared.Ink.{Ink}
use Rattle.shapes.specs.Painting.{Painted}
use Rattle.shapes.proofs.Painting.{PaintedSoFar}
use Rattle.library.specs.Memory.{table_of, most_words, row_numbers}
use Rattle.library.specs.Sound.{Stocked}
use Rattle.library.specs.Rows.{Sorted}
use Rattle.engine.specs.Outer.{Says}
use Rattle.passing.proofs.Stands.{Stands, to_do}
use Rattle.opening.specs.declared.Call.{Call}
use Rattle.stretch.specs.Bodies.{Led}
use Rattle.stretch.specs.Bodies.{Opens as OpensCall}
use Rattle.between.specs.declared.Stand.{Stand}
use Rattle.between.specs.declared.Text.{Text}
use Rattle.between.specs.declared.Outer.{Outer}
use Rattle.between.specs.declared.Text.TheVariants.{Over, Calls}
use Rattle.between.specs.declared.Outer.TheVariants.{Shown, Opens}

-- what deeds come to, held to the words and to the records lent; and one of them
abbrev pub held_story : (records words : ℕ) → Table → List Deed → List Event
held_story n w t ds = map (stacked_to n) (map (held_to w) (story t ds))

abbrev pub held_deed : (records words : ℕ) → Table → Deed → List Event
held_deed n w t d = map (stacked_to n) (map (held_to w) (happens t d))

-- where a drawing begins: what is counted and written before it, and the room as it is there
pub record Origin : Type 0 where
  pub ink : Ink
  pub room : List ℕ

-- where a text stands between two commands: what is left of all that was to be drawn, onto the room as it was where it began
pub record Paused (t : List ℕ) (w n : ℕ) (all : List Event) (from : Origin) (rows : List ℕ) (b : List ℤ) (stand : Stand) (ink : Ink) (room : List ℕ) : Type 0 where
  pub stands : Stands t rows b stand.stock stand.spot
  pub layer_is : name_of stand.layer ≡ stands.standing.layer_set
  pub going : PaintedSoFar all from.ink from.room (held_story n w stands.table (to_do stands)) ink room
  pub short : length t ≤ most_bytes
  pub fit : Fit t stand.spot
  pub size : length b ≡ w
  pub redefined : ink.counts.redefinitions ≤ stand.spot.at

-- of some drawing
pub record Pausing (t : List ℕ) (n : ℕ) (rows : List ℕ) (b : List ℤ) (stand : Stand) (ink : Ink) (room : List ℕ) : Type 0 where
  pub w : ℕ
  pub all : List Event
  pub from : Origin
  pub paused : Paused t w n all from rows b stand ink room

-- ---- a command outside of definitions that draws

abbrev pub shown_by : (records : ℕ) (rows : List ℕ) (b : List ℤ) (live place : ℕ) → Step → List Event
shown_by n rows b live place s = map (stacked_to n) (happens (table_of rows b live) (output (at place s)))

pub record OuterOpens (n : ℕ) (rows : List ℕ) (live place : ℕ) (s : Step) (ink : Ink) (room : List ℕ) (call : Call) (row : ℕ) (ink' : Ink) (room' : List ℕ) : Type 0 where
  pub led : Led n live [] 32 call row
  pub opens : (b : List ℤ) → OpensCall n rows b live [] 32 [] (shown_by n rows b live place s) [] ink room call row ink' room'

unfoldable pub OuterCase : (n : ℕ) (rows : List ℕ) (live place : ℕ) (s : Step) → Ink → List ℕ → Result Outer Refusal → List ℕ → Type 0
OuterCase n rows live place s ink room (Ok (Shown ink')) room' = (b : List ℤ) → Painted ink (shown_by n rows b live place s) room [] (Ok ink') room'
OuterCase n rows live place s ink room (Err why) room' = (b : List ℤ) → Painted ink (shown_by n rows b live place s) room [] (Err why) room'
OuterCase n rows live place s ink room (Ok (Opens call row ink')) room' = OuterOpens n rows live place s ink room call row ink' room'

pub record OuterBy (n : ℕ) (rows : List ℕ) (live place : ℕ) (s : Step) (ink : Ink) (room : List ℕ) (r : Result Outer Refusal) (room' : List ℕ) : Type 0 where
  pub comes : OuterCase n rows live place s ink room r room'

-- the contract of `draw_outer`, whatever the bodies are
abbrev pub OuterComes : (n : ℕ) (rows : List ℕ) (live : ℕ) (words : List ℤ) (kind place end layer : ℕ) → Ink → List ℕ → Result Outer Refusal → List ℕ → Type 0
OuterComes n rows live words kind place end layer ink room r room' = (s : Step) → Says words kind end (name_of layer) s → OuterBy n rows live place s ink room r room'

-- ---- a stretch

-- an executable call is opened: what is painted of its events makes the text go on, or stops it
pub record CallsOut (t : List ℕ) (w n : ℕ) (all : List Event) (from : Origin) (rows : List ℕ) (b : List ℤ) (stand : Stand) (call : Call) (row : ℕ) (ink : Ink) (room : List ℕ) : Type 0 where
  pub events : List Event
  pub ink_there : Ink
  pub room_there : List ℕ
  pub led : Led n stand.stock.live [] 32 call row
  pub opens : OpensCall n rows b stand.stock.live [] 32 [] events [] ink_there room_there call row ink room
  pub sorted : Sorted rows stand.stock.live
  pub stocked : Stocked rows b stand.stock.live
  pub short : length b ≤ most_words
  pub sized : length rows ≡ row_numbers
  pub resumes : {ink' : Ink} {room' : List ℕ} → Painted ink_there events room_there [] (Ok ink') room' → Paused t w n all from rows b stand ink' room'
  pub halts : {why : Refusal} {chain : Chain} {room' : List ℕ} → Painted ink_there events room_there chain (Err why) room' → Painted from.ink all from.room chain (Err why) room'
  pub stops_in : StopsIn (tally from.ink.counts) all (tally ink_there.counts) events  -- where it stops it, the same shape does

unfoldable pub TextCase : (t : List ℕ) (w n : ℕ) (all : List Event) (from : Origin) → Result Text Refusal → (rows : List ℕ) (b : List ℤ) (room : List ℕ) → Type 0
TextCase t w n all from (Ok (Over ink)) rows b room = Painted from.ink all from.room [] (Ok ink) room
TextCase t w n all from (Err why) rows b room = Painted from.ink all from.room [] (Err why) room
TextCase t w n all from (Ok (Calls stand call row ink)) rows b room = CallsOut t w n all from rows b stand call row ink room

pub record TextBy (t : List ℕ) (w n : ℕ) (all : List Event) (from : Origin) (r : Result Text Refusal) (rows : List ℕ) (b : List ℤ) (room : List ℕ) : Type 0 where
  pub comes : TextCase t w n all from r rows b room

-- the contract of `draw_text`
abbrev pub TextComes : (t : List ℕ) (n : ℕ) (rows : List ℕ) (b : List ℤ) (stand : Stand) → Ink → List ℕ → Result Text Refusal → List ℕ → List ℤ → List ℕ → Type 0
TextComes t n rows b stand ink room r rows' b' room' =
    (w : ℕ) (all : List Event) (from : Origin) → Paused t w n all from rows b stand ink room → TextBy t w n all from r rows' b' room'

-- calls are counted up, and a call that is opened is one of them
unfoldable pub OuterGrows : Ink → Result Outer Refusal → Type 0
OuterGrows ink (Ok (Shown ink')) = ink.counts.calls ≤ ink'.counts.calls
OuterGrows ink (Ok (Opens call row ink')) = ink.counts.calls < ink'.counts.calls
OuterGrows ink (Err why) = Unit {0}

unfoldable pub TextGrows : Ink → Result Text Refusal → Type 0
TextGrows ink (Ok (Over ink')) = ink.counts.calls ≤ ink'.counts.calls
TextGrows ink (Ok (Calls stand call row ink')) = ink.counts.calls < ink'.counts.calls
TextGrows ink (Err why) = Unit {0}
