-- What a stretch of a body draws: what its steps from here on draw in the table that the memory holds, held to the records lent, or as much of it as comes before
-- the body of a call. What is left is a function of the memory. A running account, not to be believed.
-- Assumes nothing.
use Rattle.std.specs.Prelude.{◌≡◌, List, [], ◌∷◌, ◌++◌, map, ℕ, ◌-◌, ◌*◌, ◌^◌, ◌≤◌, ◌<◌, ℤ, length, Err, Ok, Result}
use Rattle.definition.specs.Words.{Placed, at}
use Rattle.definition.specs.Limits.{deepest}
use Rattle.definition.specs.Commands.{Turn}
use Rattle.definition.specs.Table.{Step, Table}
use Rattle.definition.specs.Drawing.{Chain, Event, drawn_body, drawn_call}
use Rattle.definition.specs.Records.{stacked_to}
use Rattle.names.specs.Names.{name_of}
use Rattle.turns.specs.Nets.{Carries, Near}
use Rattle.shapes.specs.declared.Ink.{Ink}
use Rattle.shapes.specs.Painting.{Reached, Painted}
use Rattle.shapes.proofs.Painting.{PaintedSoFar}
use Rattle.library.specs.Memory.{words_at, steps_of, body_at, table_of, most_words}
use Rattle.library.specs.Sound.{all_words, Proper, Stocked}
use Rattle.library.specs.Rows.{Sorted}
use Rattle.chain.specs.Chain.{run_length}
use Rattle.opening.specs.declared.Call.{Call}
use Rattle.stretch.specs.declared.Here.{Here}
use Rattle.stretch.specs.declared.Body.{Body}
use Rattle.definition.specs.declared.Refusal.{Refusal}
use Rattle.stretch.specs.declared.Body.TheVariants.{Ends, Calls}

-- the steps that are left of an open body, by its words and the layer that stands
abbrev pub rest_of : List ℤ → Here → List (Placed Step)
rest_of b here = steps_of (here.end - here.at) (name_of here.layer) (words_at b here.at (here.end - here.at))

-- its words are those of steps
pub record Rests (b : List ℤ) (here : Here) : Type 0 where
  pub steps : List (Placed Step)
  pub proper : Proper (name_of here.layer) steps
  pub words : words_at b here.at (here.end - here.at) ≡ all_words steps
  pub low : here.at ≤ here.end
  pub within : here.end ≤ length b

-- what steps draw where these calls are open, and what a call does, both held to the records lent
abbrev pub body_story : (records : ℕ) → Table → (left : ℕ) → Chain → List (Turn ℤ) → List (Placed Step) → List Event
body_story records t left chain outer ss = map (stacked_to records) (drawn_body (drawn_call left t chain outer) chain outer ss)

abbrev pub call_story : (records : ℕ) → Table → (left : ℕ) → Chain → List (Turn ℤ) → (place symbol : ℕ) → List (Turn ℤ) → List Event
call_story records t left chain outer p n ts = map (stacked_to records) (drawn_call left t chain outer p n ts)

abbrev pub deeper : Chain → Call → Chain
deeper chain call = chain ++ (at call.place call.symbol ∷ [])

-- what a drawing needs
pub record Poised (rows : List ℕ) (b : List ℤ) (live : ℕ) (drawing : List ℕ) (left : ℕ) (ink : Ink) : Type 0 where
  pub sorted : Sorted rows live
  pub stocked : Stocked rows b live
  pub short : length b ≤ most_words
  pub levels : length drawing ≡ run_length
  pub some_left : left ≤ deepest
  pub reached : Reached ink

-- a call that is opened has a level, a record and a row
pub record Led (records live : ℕ) (chain : Chain) (left : ℕ) (call : Call) (row : ℕ) : Type 0 where
  pub row_live : row < live
  pub a_level : left ≡ 0 → ⊥
  pub a_record : length chain < records
  pub near : Near ((33 - left) * 2 ^ 36) call.net

-- of these events the call is counted, and what its body draws is left, and then what comes after it
pub record Opens (records : ℕ) (rows : List ℕ) (b : List ℤ) (live : ℕ) (chain : Chain) (left : ℕ) (outer : List (Turn ℤ)) (all later : List Event) (ink : Ink) (room : List ℕ)
    (call : Call) (row : ℕ) (ink' : Ink) (room' : List ℕ) : Type 0 where
  pub own : List (Turn ℤ)
  pub carries : Carries (own ++ outer) call.net
  pub going : PaintedSoFar all ink room (body_story records (table_of rows b live) (left - 1) (deeper chain call) (own ++ outer) (body_at rows b row) ++ later) ink' room'

pub record CallsOn (records : ℕ) (rows : List ℕ) (b : List ℤ) (live : ℕ) (chain : Chain) (left : ℕ) (here : Here) (ink : Ink) (room : List ℕ)
    (on : Here) (call : Call) (row : ℕ) (ink' : Ink) (room' : List ℕ) : Type 0 where
  pub rests : Rests b on
  pub same_net : on.net ≡ here.net
  pub led : Led records live chain left call row
  pub opens : (outer : List (Turn ℤ)) → Carries outer here.net
      → Opens records rows b live chain left outer (body_story records (table_of rows b live) left chain outer (rest_of b here)) (body_story records (table_of rows b live) left chain outer (rest_of b on))
      ink room call row ink' room'

-- the contract of `draw_body`
unfoldable pub BodyComes : (records : ℕ) (rows : List ℕ) (b : List ℤ) (live : ℕ) (chain : Chain) (left : ℕ) (here : Here) → Ink → List ℕ → Result Body Refusal → List ℕ → Type 0
BodyComes records rows b live chain left here ink room (Ok (Ends ink')) room' =
    (outer : List (Turn ℤ)) → Carries outer here.net → Painted ink (body_story records (table_of rows b live) left chain outer (rest_of b here)) room [] (Ok ink') room'
BodyComes records rows b live chain left here ink room (Err why) room' =
    (outer : List (Turn ℤ)) → Carries outer here.net → Painted ink (body_story records (table_of rows b live) left chain outer (rest_of b here)) room chain (Err why) room'
BodyComes records rows b live chain left here ink room (Ok (Calls on call row ink')) room' = CallsOn records rows b live chain left here ink room on call row ink' room'

-- calls are counted up, and a call that is opened is one of them
unfoldable pub Grows : Ink → Result Body Refusal → Type 0
Grows ink (Ok (Ends ink')) = ink.counts.calls ≤ ink'.counts.calls
Grows ink (Ok (Calls on call row ink')) = ink.counts.calls < ink'.counts.calls
Grows ink (Err why) = Unit {0}
