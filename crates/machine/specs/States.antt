-- The machine's records and states as they are made: what a record keeps of a body, and the state after each thing that can happen. A running account, not to be
-- believed: what a state means stands in Underway.antt.
-- Assumes nothing.
use Rattle.std.specs.Prelude.{◌≡◌, Bool, true, false, List, [], ◌∷◌, ℕ, ◌+◌, ◌-◌, ◌*◌, ◌/◌, ◌%◌, ◌^◌, ◌<◌, ◌≤◌, eqb, ℤ, pos, length, take, replicate, if◌then◌else◌, Result}
use Rattle.std.proofs.lemmas.List.Edits.{sets}
use Rattle.definition.specs.declared.Answer.{Answer}
use Rattle.definition.specs.declared.Refusal.{Refusal}
use Rattle.definition.specs.Drawing.{Chain}
use Rattle.definition.specs.Answer.{success}
use Rattle.definition.specs.Counts.{counts}
use Rattle.turns.specs.declared.Net.{Net}
use Rattle.counts.specs.Counting.{tally}
use Rattle.shapes.specs.declared.Ink.{Ink}
use Rattle.chain.specs.Chain.{open_calls, Pushed}
use Rattle.passing.specs.Passed.{lent_of}
use Rattle.opening.specs.declared.Call.{Call}
use Rattle.library.specs.Memory.{start_at, length_at}
use Rattle.turns.specs.Nets.{Near}
use Rattle.stretch.specs.declared.Here.{Here}
use Rattle.stretch.specs.Bodies.{Rests, Poised, BodyComes, Grows}
use Rattle.between.specs.Texts.{TextComes, TextGrows}
use Rattle.between.specs.declared.Stand.{Stand}
use Rattle.machine.specs.declared.Frame.{Frame}
use Rattle.machine.specs.declared.Course.{Course}
use Rattle.machine.specs.declared.Kind.{Kind}
use Rattle.machine.specs.declared.Kind.TheVariants.{Clear, Push, Pop, Unwind}
use Rattle.machine.specs.declared.State.{State}
use Rattle.stretch.specs.declared.Body.{Body}
use Rattle.between.specs.declared.Text.{Text}

-- ---- records

abbrev pub no_frame : Frame
no_frame = record { place = 0; symbol = 0; at = 0; end = 0; layer = 0; turn = 0; tx = pos 0; ty = pos 0 }

abbrev pub bit_of : Bool → ℕ → ℕ
bit_of true n = n
bit_of false n = 0

abbrev pub turn_of : Net → ℕ
turn_of n = bit_of n.swap 1 + bit_of n.negx 2 + bit_of n.negy 4

abbrev pub frame_of : Call → Here → Frame
frame_of call on = record {
  place = call.place;
  symbol = call.symbol;
  at = on.at;
  end = on.end;
  layer = on.layer;
  turn = turn_of on.net;
  tx = on.net.tx;
  ty = on.net.ty;
}

abbrev pub net_of : ℕ → ℤ → ℤ → Net
net_of turn x y = record { swap = eqb (turn % 2) 1; negx = eqb (turn / 2 % 2) 1; negy = eqb (turn / 4 % 2) 1; tx = x; ty = y }

abbrev pub here_of : Frame → Here
here_of f = record { at = f.at; end = f.end; layer = f.layer; net = net_of f.turn f.tx f.ty }

-- ---- states

abbrev pub no_here : Here
no_here = record { at = 0; end = 0; layer = 0; net = record { swap = false; negx = false; negy = false; tx = pos 0; ty = pos 0 } }

abbrev pub no_answer : Answer
no_answer = success 0 (counts 0 0 0) 0

abbrev pub no_stand : Stand
no_stand = record { spot = record { at = 0; state = 0 }; layer = 0; stock = record { live = 0; used = 0; needed = 0 } }

-- nothing is written yet, and so many shapes count as drawn
abbrev pub started : ℕ → Ink
started k = record { counts = record { calls = 0; shapes = k; redefinitions = 0 }; pen = record { at = 0; layer = 0 } }

abbrev pub fresh_course : (records : ℕ) (writing : Bool) (rounded earlier : ℕ) → Course
fresh_course m w k e = record { records = m; writing = w; rounded = k; earlier = e; level = 0; stand = no_stand; ink = started e; run = replicate 65 0 }

abbrev pub zero_at : Bool → ℕ → Answer → Kind → Here → Course → State
zero_at g slot a k here c = record { going = g; slot = slot; put = no_frame; answer = a; kind = k; here = here; course = c }

abbrev pub zero_to : Bool → ℕ → Answer → Kind → Course → State
zero_to g slot a k c = zero_at g slot a k no_here c

abbrev pub over_at : Answer → Here → ℕ → State
over_at a here m = zero_at false 0 a Clear here (fresh_course m false 0 0)

abbrev pub over_state : Answer → ℕ → State
over_state a m = over_at a no_here m

abbrev pub clearing : (records earlier slot : ℕ) → State
clearing m e slot = zero_to true slot no_answer Clear (fresh_course m false 0 e)

abbrev pub at_level : Course → ℕ → Ink → Course
at_level c l ink = record { records = c.records; writing = c.writing; rounded = c.rounded; earlier = c.earlier; level = l; stand = c.stand; ink = ink; run = c.run }

abbrev pub popping : Course → Ink → State
popping c ink = zero_to true (c.level - 1) no_answer Pop (at_level c (c.level - 1) ink)

abbrev pub unwinding : Answer → Course → Here → State
unwinding a c here = zero_at true (c.level - 1) a Unwind here (at_level c (c.level - 1) c.ink)

-- down to level 0, where the words are cleared and the state is over; it keeps where the drawing was refused
pub record Unwinds (a : Answer) (c : Course) (here : Here) (b : List ℤ) (r : State) (b' : List ℤ) : Type 0 where
  pub is : r ≡ (if eqb c.level 0 then over_at a here c.records else unwinding a c here)
  pub words : b' ≡ (if eqb c.level 0 then replicate (length b) (pos 0) else b)

-- the calls that are open
abbrev pub open_in : Course → Chain
open_in c = open_calls c.run c.level

-- the state where a call is opened: the caller's record goes to the slot of its level
abbrev pub pushing : Course → Stand → Here → Call → (from size : ℕ) → Ink → List ℕ → State
pushing c stand on call from size ink run = record {
  going = true;
  slot = c.level;
  put = frame_of call on;
  answer = no_answer;
  kind = Push;
  here = record { at = from; end = from + size; layer = 0; net = call.net };
  course = record { records = c.records; writing = c.writing; rounded = c.rounded; earlier = c.earlier; level = c.level + 1; stand = stand; ink = ink; run = run };
}

pub record Pushes (rows : List ℕ) (c : Course) (stand : Stand) (on : Here) (call : Call) (row : ℕ) (ink : Ink) (r : State) : Type 0 where
  pub run : List ℕ
  pub pushed : Pushed c.level call.place call.symbol c.run run
  pub same : length run ≡ length c.run
  pub fits : on.layer < 2 ^ 32
  pub is : r ≡ pushing c stand on call (start_at rows row) (length_at rows row) ink run

-- ---- what is lent on

-- of the words as many as bodies can need; of the room nothing while measuring
abbrev pub cut : List ℤ → List ℤ
cut b = take (lent_of (length b)) b

abbrev pub seen_of : Bool → ℕ → ℕ
seen_of true n = n
seen_of false n = 0

abbrev pub onto : Bool → List ℕ → List ℕ
onto true room = room
onto false room = []

unfoldable pub Spares : Bool → List ℕ → List ℕ → Type 0
Spares true room room' = Unit {0}
Spares false room room' = room' ≡ room

-- ---- stretches, of the words and the room as a host lends them

-- what the open body's stretch asks
pub record StandsIn (rows : List ℕ) (b : List ℤ) (c : Course) (here : Here) : Type 0 where
  pub poised : Poised rows b c.stand.stock.live c.run (32 - c.level) c.ink
  pub low : c.level ≤ 32
  pub near : Near (c.level * 2 ^ 36) here.net
  pub rests : Rests b here

pub record Stretches (rows : List ℕ) (b : List ℤ) (c : Course) (here : Here) (room : List ℕ) (r : Result Body Refusal) (room' : List ℕ) : Type 0 where
  pub comes : BodyComes c.records rows b c.stand.stock.live (open_in c) (32 - c.level) here c.ink (onto c.writing room) r (onto c.writing room')
  pub grows : Grows c.ink r
  pub spares : Spares c.writing room room'

pub record Passes (t : List ℕ) (rows : List ℕ) (b : List ℤ) (c : Course) (room : List ℕ) (r : Result Text Refusal) (rows' : List ℕ) (b' : List ℤ) (room' : List ℕ) : Type 0 where
  pub comes : TextComes t c.records rows (cut b) c.stand c.ink (onto c.writing room) r rows' (cut b') (onto c.writing room')
  pub grows : TextGrows c.ink r
  pub spares : Spares c.writing room room'
  pub same_words : length b' ≡ length b

-- the last line is written, and the state is over
pub record Writes (c : Course) (ink : Ink) (b : List ℤ) (room : List ℕ) (r : State) (b' : List ℤ) (room' : List ℕ) : Type 0 where
  pub is : r ≡ over_state (success (ink.pen.at + 2) (tally ink.counts) c.rounded) c.records
  pub words : b' ≡ replicate (length b) (pos 0)
  pub laid : room' ≡ sets room ink.pen.at (69 ∷ 10 ∷ [])
