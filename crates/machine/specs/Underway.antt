-- What a state of the machine means: what is left to be drawn, by the records, the words and the room as they are. `Underway` is the invariant of every loop over
-- `turn`, whoever keeps the records. A running account, not to be believed: what is promised is crates/definition's.
-- Assumes nothing.
use Rattle.std.specs.Prelude.{◌≡◌, Bool, true, false, List, [], ◌∷◌, ◌++◌, map, ℕ, zero, suc, ◌+◌, ◌-◌, ◌*◌, ◌^◌, ◌<◌, ◌≤◌, ℤ, pos, length, get_or, set, replicate, Err, Ok, Result}
use Rattle.std.proofs.Math.Option.{some}
use Rattle.std.proofs.Common.{arith}
use Rattle.std.proofs.lemmas.List.Edits.{sets}
use Rattle.definition.specs.declared.Answer.{Answer}
use Rattle.definition.specs.declared.Refusal.{Refusal}
use Rattle.definition.specs.Limits.{most_calls, most_shapes, most_bytes}
use Rattle.definition.specs.Commands.{Turn, commands}
use Rattle.definition.specs.Rounded.{rounded}
use Rattle.definition.specs.Table.{Table}
use Rattle.definition.specs.declared.Rule.TheVariants.{FlatFileTooLong}
use Rattle.definition.specs.Rules.{refuse}
use Rattle.definition.specs.Drawing.{Chain, Drawn, Event, drew}
use Rattle.definition.specs.Counts.{counts, stopped, ending}
use Rattle.definition.specs.Held.{held_to}
use Rattle.definition.specs.Records.{stacked_to, AnswersWith}
use Rattle.definition.specs.Answer.{Outcome, given_back, room_after, success, failure}
use Rattle.laws.proofs.Rules.Outcomes.{TooLong}
use Rattle.reasons.specs.Stops.{stop_of}
use Rattle.reasons.specs.Parts.{StopsIn}
use Rattle.turns.specs.declared.Net.{Net}
use Rattle.turns.specs.Nets.{Carries, Near}
use Rattle.counts.specs.Counting.{tally}
use Rattle.shapes.specs.declared.Ink.{Ink}
use Rattle.shapes.specs.Painting.{Goes, Painted}
use Rattle.shapes.proofs.Painting.{PaintedSoFar}
use Rattle.library.specs.Memory.{table_of, row_numbers, most_words}
use Rattle.library.specs.Sound.{Stocked}
use Rattle.library.specs.Rows.{Sorted}
use Rattle.chain.specs.Chain.{run_length, open_calls}
use Rattle.passing.specs.Passed.{Passed, to_draw, lent_of}
use Rattle.reader.specs.Screened.{Screened}
use Rattle.stretch.specs.declared.Here.{Here}
use Rattle.stretch.specs.Bodies.{rest_of, Rests, body_story}
use Rattle.between.specs.declared.Stand.{Stand}
use Rattle.between.specs.Texts.{Origin, Paused}
use Rattle.machine.specs.declared.Frame.{Frame}
use Rattle.machine.specs.declared.Course.{Course}
use Rattle.machine.specs.declared.Kind.{Kind}
use Rattle.machine.specs.declared.Kind.TheVariants.{Clear, Push, Pop, Unwind}
use Rattle.machine.specs.declared.State.{State}
use Rattle.machine.specs.States.{no_frame, here_of, started, cut, onto}

-- what a host lends: so many words, a room, and so many records; and how many shapes count as drawn before its text
pub record Host : Type 0 where
  pub lent : ℕ
  pub room : List ℕ
  pub records : ℕ
  pub earlier : ℕ
  pub few : earlier ≤ most_shapes

abbrev pub lends_from : ℕ → List ℕ → ℕ → (earlier : ℕ) → earlier ≤ most_shapes → Host
lends_from w r n e few = record { lent = w; room = r; records = n; earlier = e; few = few }

pub none_earlier : 0 ≤ most_shapes
none_earlier = omega arith

abbrev pub lends : ℕ → List ℕ → ℕ → Host
lends w r n = lends_from w r n 0 none_earlier

-- where its drawing begins
abbrev pub origin_of : Bool → Host → Origin
origin_of writing h = record { ink = started h.earlier; room = onto writing h.room }

-- ---- how many turns are left at most

abbrev pub phase_turns : Bool → ℕ
phase_turns true = 0
phase_turns false = 2 * most_calls + 2

abbrev pub course_turns : Course → ℕ
course_turns c = phase_turns c.writing + 2 * (most_calls - c.ink.counts.calls) + c.level + 1

abbrev pub start_turns : ℕ
start_turns = 4 * most_calls + 4

abbrev pub kind_turns : Kind → State → ℕ
kind_turns Clear s = (s.course.records - s.slot) + start_turns
kind_turns Push s = course_turns s.course
kind_turns Pop s = course_turns s.course
kind_turns Unwind s = s.course.level + 1

abbrev pub going_turns : Bool → State → ℕ
going_turns true s = kind_turns s.kind s
going_turns false s = 0

unfoldable pub turns_left : State → ℕ
turns_left s = going_turns s.going s

-- ---- which records are zero

abbrev pub Blank : ℕ → List Frame → Type 0  -- all from this one on
Blank k fs = (i : ℕ) → k ≤ i → get_or fs i no_frame ≡ no_frame

abbrev pub Cleared : ℕ → List Frame → Type 0  -- all before this one
Cleared k fs = (i : ℕ) → i < k → get_or fs i no_frame ≡ no_frame

-- ---- the answer is known, where no shape counts as drawn before

pub record Settled (t : List ℕ) (h : Host) (a : Answer) (room : List ℕ) : Type 0 where
  pub outcome : Outcome
  pub answers : AnswersWith t h.lent h.records (length h.room) outcome
  pub given : a ≡ given_back t outcome
  pub kept : room ≡ room_after outcome h.room

-- ---- a text is drawn

-- all that a text that passes 1 to 9 draws, held to the words and to the records lent
abbrev pub all_of : {t : List ℕ} → Passed t → Host → List Event
all_of p h = map (stacked_to h.records) (map (held_to (lent_of h.lent)) (to_draw p))

-- the net transformation of the shape at which the drawing is refused, where a shape is refused there (17)
abbrev pub NetThere : {t : List ℕ} → Passed t → Host → Net → Type 0
NetThere p h net = (d : Drawn) → stop_of (counts 0 h.earlier 0) (all_of p h) ≡ some (drew d) → Carries d.net net

-- how it came out, whatever counts as drawn before: refused before it is drawn, refused in its drawing, too long for the room, or written
pub data CameOut (t : List ℕ) (h : Host) (a : Answer) (net : Net) (room : List ℕ) : Type 0 where
  refused_early : {d : Result ℕ Refusal} {why : Refusal} → Screened t d → d ≡ Err why → a ≡ failure t why [] → room ≡ h.room → CameOut t h a net room
  stopped_there : (p : Passed t) {why : Refusal} {chain : Chain} → ending (counts 0 h.earlier 0) (all_of p h) ≡ stopped why chain → NetThere p h net → a ≡ failure t why chain → room ≡ h.room
      → CameOut t h a net room
  too_long_for : (p : Passed t) {ink : Ink} → Painted (started h.earlier) (all_of p h) [] [] (Ok ink) [] → TooLong (ink.pen.at + 2) (length h.room)
      → a ≡ failure t (refuse FlatFileTooLong 0) [] → room ≡ h.room → CameOut t h a net room
  written_out : (p : Passed t) {ink : Ink} {before_last : List ℕ} → Painted (started h.earlier) (all_of p h) h.room [] (Ok ink) before_last → ink.pen.at + 2 ≤ length h.room
      → ink.pen.at + 2 ≤ most_bytes → room ≡ sets before_last ink.pen.at (69 ∷ 10 ∷ []) → {k : ℕ} → k ≡ rounded (commands 0 p.letters)
      → a ≡ success (ink.pen.at + 2) (tally ink.counts) k → CameOut t h a net room

-- the room is as it was while measuring; while writing it is known how the drawing ends, and that the flat file fits
pub record Fits (all : List Event) (h : Host) : Type 0 where
  pub ink : Ink
  pub goes : Goes (started h.earlier) all ink
  pub in_room : ink.pen.at + 2 ≤ length h.room
  pub in_limit : ink.pen.at + 2 ≤ most_bytes

unfoldable pub Phase : Bool → List Event → Host → (room : List ℕ) → Type 0
Phase false all h room = room ≡ h.room
Phase true all h room = Fits all h

pub record Base (t : List ℕ) (h : Host) (fs : List Frame) (c : Course) (rows : List ℕ) (b : List ℤ) (room : List ℕ) : Type 0 where
  pub passed : Passed t
  pub rounded_is : c.rounded ≡ rounded (commands 0 passed.letters)
  pub records_is : c.records ≡ h.records
  pub earlier_is : c.earlier ≡ h.earlier
  pub size : length fs ≡ h.records
  pub lent_is : length b ≡ h.lent
  pub run_size : length c.run ≡ run_length
  pub rows_size : length rows ≡ row_numbers
  pub room_size : length room ≡ length h.room
  pub phase : Phase c.writing (all_of passed h) h room

-- the drawing stands in the text, between two commands
pub record AtText (t : List ℕ) (h : Host) (fs : List Frame) (c : Course) (rows : List ℕ) (b : List ℤ) (room : List ℕ) : Type 0 where
  pub base : Base t h fs c rows b room
  pub outside : c.level ≡ 0
  pub blank : Blank 0 fs
  pub paused : Paused t (lent_of h.lent) h.records (all_of base.passed h) (origin_of c.writing h) rows (cut b) c.stand c.ink (onto c.writing room)

-- ---- calls are open

-- an executable call is drawn, of which these events are left; what comes of it comes of the text
pub record Calling (t : List ℕ) (w n : ℕ) (all : List Event) (from : Origin) (rows : List ℕ) (b : List ℤ) (stand : Stand) (left : List Event) (ink : Ink) (room : List ℕ) : Type 0 where
  pub events : List Event
  pub ink_there : Ink
  pub room_there : List ℕ
  pub sorted : Sorted rows stand.stock.live
  pub stocked : Stocked rows b stand.stock.live
  pub short : length b ≤ most_words
  pub resumes : {ink' : Ink} {room' : List ℕ} → Painted ink_there events room_there [] (Ok ink') room' → Paused t w n all from rows b stand ink' room'
  pub halts : {why : Refusal} {chain : Chain} {room' : List ℕ} → Painted ink_there events room_there chain (Err why) room' → Painted from.ink all from.room chain (Err why) room'
  pub stops_in : StopsIn (tally from.ink.counts) all (tally ink_there.counts) events
  pub going : PaintedSoFar events ink_there room_there left ink room

-- the body of a record, which is at this level: what it has left to draw comes first, and then what is left after it
pub record Caller (n : ℕ) (t : Table) (b : List ℤ) (run : List ℕ) (f : Frame) (level : ℕ) (later after : List Event) : Type 0 where
  pub outer : List (Turn ℤ)
  pub carries : Carries outer (here_of f).net
  pub near : Near (level * 2 ^ 36) (here_of f).net
  pub rests : Rests b (here_of f)
  pub layer_fits : f.layer < 2 ^ 32
  pub is : later ≡ body_story n t (32 - level) (open_calls run level) outer (rest_of b (here_of f)) ++ after

-- the bodies of the records 1 to k, the innermost first; record 0 is the text's
unfoldable pub Callers : (n : ℕ) (t : Table) (b : List ℤ) (run : List ℕ) (fs : List Frame) → ℕ → List Event → Type 0
Callers n t b run fs zero later = later ≡ []
Callers n t b run fs (suc k) later = (after : List Event) × Caller n t b run (get_or fs (suc k) no_frame) (suc k) later after × Callers n t b run fs k after

-- the drawing stands in a body, where k + 1 calls are open
pub record InBody (t : List ℕ) (h : Host) (fs : List Frame) (c : Course) (here : Here) (rows : List ℕ) (b : List ℤ) (room : List ℕ) : Type 0 where
  pub base : Base t h fs c rows b room
  pub k : ℕ
  pub level_is : c.level ≡ suc k
  pub deep : suc k ≤ 32
  pub held : suc k ≤ h.records
  pub blank : Blank (suc k) fs
  pub outer : List (Turn ℤ)
  pub later : List Event
  pub carries : Carries outer here.net
  pub near : Near (suc k * 2 ^ 36) here.net
  pub rests : Rests (cut b) here
  pub callers : Callers h.records (table_of rows (cut b) c.stand.stock.live) (cut b) c.run fs k later
  pub calling : Calling t (lent_of h.lent) h.records (all_of base.passed h) (origin_of c.writing h) rows (cut b) c.stand
      (body_story h.records (table_of rows (cut b) c.stand.stock.live) (32 - suc k) (open_calls c.run (suc k)) outer (rest_of (cut b) here) ++ later) c.ink (onto c.writing room)

-- a body is left, and its record is at hand: the drawing stands in the text, or in the record's body
pub data Back (t : List ℕ) (h : Host) (fs : List Frame) (c : Course) (old : Frame) (rows : List ℕ) (b : List ℤ) (room : List ℕ) : Type 0 where
  to_text : AtText t h fs c rows b room → Back t h fs c old rows b room
  to_body : InBody t h fs c (here_of old) rows b room → old.layer < 2 ^ 32 → Back t h fs c old rows b room

-- nothing is drawn yet, and so many records are zero
pub record Beginning (h : Host) (fs : List Frame) (records earlier : ℕ) (rows : List ℕ) (b : List ℤ) (room : List ℕ) : Type 0 where
  pub size : length fs ≡ h.records
  pub records_is : records ≡ h.records
  pub earlier_is : earlier ≡ h.earlier
  pub lent_is : length b ≡ h.lent
  pub rows_size : length rows ≡ row_numbers
  pub same_room : room ≡ h.room

-- the text is refused, where the state says, and records from a level on are zero
pub record Refusing (t : List ℕ) (h : Host) (fs : List Frame) (s : State) (b : List ℤ) (room : List ℕ) : Type 0 where
  pub came_out : CameOut t h s.answer s.here.net room
  pub size : length fs ≡ h.records
  pub lent_is : length b ≡ h.lent
  pub held : s.course.level ≤ h.records
  pub blank : Blank s.course.level fs

-- ---- a state, once its record is at its slot and what stood there is at hand

unfoldable pub Means : Kind → (t : List ℕ) (h : Host) (fs : List Frame) (s : State) (old : Frame) (rows : List ℕ) (b : List ℤ) (room : List ℕ) → Type 0
Means Clear t h fs s old rows b room = Beginning h fs s.course.records s.course.earlier rows b room × Cleared (s.slot + 1) fs
Means Push t h fs s old rows b room = InBody t h fs s.course s.here rows b room
Means Pop t h fs s old rows b room = Back t h fs s.course old rows b room
Means Unwind t h fs s old rows b room = Refusing t h fs s b room

-- a state that is over
pub record Over (t : List ℕ) (h : Host) (fs : List Frame) (a : Answer) (net : Net) (b : List ℤ) (room : List ℕ) : Type 0 where
  pub came_out : CameOut t h a net room
  pub cleared : b ≡ replicate h.lent (pos 0)
  pub blank : Blank 0 fs

unfoldable pub MeansBy : Bool → (t : List ℕ) (h : Host) (fs : List Frame) (s : State) (rows : List ℕ) (b : List ℤ) (room : List ℕ) → Type 0
MeansBy true t h fs s rows b room = (s.slot < h.records) × Means s.kind t h (set fs s.slot s.put) s (get_or fs s.slot no_frame) rows b room
MeansBy false t h fs s rows b room = Over t h fs s.answer s.here.net b room

pub record UnderwayFor (t : List ℕ) (h : Host) (s : State) (fs : List Frame) (rows : List ℕ) (b : List ℤ) (room : List ℕ) : Type 0 where
  pub size : length fs ≡ h.records
  pub means : MeansBy s.going t h fs s rows b room

-- where no shape counts as drawn before
abbrev pub Underway : (t : List ℕ) (lent : ℕ) (room₀ : List ℕ) (records : ℕ) (s : State) (fs : List Frame) (rows : List ℕ) (b : List ℤ) (room : List ℕ) → Type 0
Underway t lent room₀ records = UnderwayFor t (lends lent room₀ records)

-- ---- the contracts

-- a state that the drawing comes to, in fewer turns than these
pub record Arrives (t : List ℕ) (h : Host) (fs : List Frame) (turns : ℕ) (r : State) (rows : List ℕ) (b : List ℤ) (room : List ℕ) : Type 0 where
  pub underway : UnderwayFor t h r fs rows b room
  pub less : turns_left r < turns

-- the contract of `begin_at`, and of `begin`
abbrev pub BeginsAt : (t : List ℕ) (lent : ℕ) (room₀ : List ℕ) (records earlier : ℕ) → State → (rows' : List ℕ) (b' : List ℤ) (room' : List ℕ) → Type 0
BeginsAt t lent room₀ records earlier r rows' b' room' =
    (few : earlier ≤ most_shapes) (fs : List Frame) → length fs ≡ records → UnderwayFor t (lends_from lent room₀ records earlier few) r fs rows' b' room'

abbrev pub Begins : (t : List ℕ) (lent : ℕ) (room₀ : List ℕ) (records : ℕ) → State → (rows' : List ℕ) (b' : List ℤ) (room' : List ℕ) → Type 0
Begins t lent room₀ records r rows' b' room' = (fs : List Frame) → length fs ≡ records → Underway t lent room₀ records r fs rows' b' room'

-- what `turn` asks: for some entry, and for some records of which the one at the slot is the old one
pub record Turnable (t : List ℕ) (s : State) (old : Frame) (rows : List ℕ) (b : List ℤ) (room : List ℕ) : Type 0 where
  pub h : Host
  pub fs : List Frame
  pub going : s.going ≡ true
  pub is_old : old ≡ get_or fs s.slot no_frame
  pub underway : UnderwayFor t h s fs rows b room

-- the contract of `turn`: with the record put at the slot it is under way, and nearer to its end
pub record TurnsTo (t : List ℕ) (h : Host) (s : State) (fs : List Frame) (r : State) (rows' : List ℕ) (b' : List ℤ) (room' : List ℕ) : Type 0 where
  pub underway : UnderwayFor t h r (set fs s.slot s.put) rows' b' room'
  pub less : turns_left r < turns_left s

abbrev pub Turns : (t : List ℕ) (s : State) (old : Frame) (rows : List ℕ) (b : List ℤ) (room : List ℕ) → State → (rows' : List ℕ) (b' : List ℤ) (room' : List ℕ) → Type 0
Turns t s old rows b room r rows' b' room' =
    (h : Host) (fs : List Frame) → s.going ≡ true → old ≡ get_or fs s.slot no_frame → UnderwayFor t h s fs rows b room → TurnsTo t h s fs r rows' b' room'

-- of the functions that draw, for whatever a host lends
abbrev pub BodyOn : (t : List ℕ) (c : Course) (here : Here) (rows : List ℕ) (b : List ℤ) (room : List ℕ) → State → (b' : List ℤ) (room' : List ℕ) → Type 0
BodyOn t c here rows b room r b' room' = (h : Host) (fs : List Frame) → InBody t h fs c here rows b room → Arrives t h fs (course_turns c) r rows b' room'

abbrev pub TextOn : (t : List ℕ) (c : Course) (rows : List ℕ) (b : List ℤ) (room : List ℕ) → State → (rows' : List ℕ) (b' : List ℤ) (room' : List ℕ) → Type 0
TextOn t c rows b room r rows' b' room' = (h : Host) (fs : List Frame) → AtText t h fs c rows b room → Arrives t h fs (course_turns c) r rows' b' room'

abbrev pub BackOn : (t : List ℕ) (c : Course) (old : Frame) (rows : List ℕ) (b : List ℤ) (room : List ℕ) → State → (rows' : List ℕ) (b' : List ℤ) (room' : List ℕ) → Type 0
BackOn t c old rows b room r rows' b' room' = (h : Host) (fs : List Frame) → Back t h fs c old rows b room → Arrives t h fs (course_turns c) r rows' b' room'

-- all is measured
pub record Measured (t : List ℕ) (h : Host) (fs : List Frame) (c : Course) (ink : Ink) (rows : List ℕ) (b : List ℤ) (room : List ℕ) : Type 0 where
  pub passed : Passed t
  pub rounded_is : c.rounded ≡ rounded (commands 0 passed.letters)
  pub records_is : c.records ≡ h.records
  pub earlier_is : c.earlier ≡ h.earlier
  pub size : length fs ≡ h.records
  pub lent_is : length b ≡ h.lent
  pub same_room : room ≡ h.room
  pub blank : Blank 0 fs
  pub painted : Painted (started h.earlier) (all_of passed h) [] [] (Ok ink) []

abbrev pub MeasuredOn : (t : List ℕ) (c : Course) (ink : Ink) (rows : List ℕ) (b : List ℤ) (room : List ℕ) → State → (rows' : List ℕ) (b' : List ℤ) (room' : List ℕ) → Type 0
MeasuredOn t c ink rows b room r rows' b' room' = (h : Host) (fs : List Frame) → Measured t h fs c ink rows b room → Arrives t h fs (2 * most_calls + 2) r rows' b' room'

-- nothing is drawn yet, and all records are zero; or those before `next` are
abbrev pub StartOn : (t : List ℕ) (m e : ℕ) (rows : List ℕ) (b : List ℤ) (room : List ℕ) → State → (rows' : List ℕ) (b' : List ℤ) (room' : List ℕ) → Type 0
StartOn t m e rows b room r rows' b' room' = (h : Host) (fs : List Frame) → Beginning h fs m e rows b room → Blank 0 fs → Arrives t h fs start_turns r rows' b' room'

abbrev pub ClearOn : (t : List ℕ) (m e next : ℕ) (rows : List ℕ) (b : List ℤ) (room : List ℕ) → State → (rows' : List ℕ) (b' : List ℤ) (room' : List ℕ) → Type 0
ClearOn t m e next rows b room r rows' b' room' =
    (h : Host) (fs : List Frame) → Beginning h fs m e rows b room → Cleared next fs → next ≤ m → Arrives t h fs ((m - next) + start_turns + 1) r rows' b' room'
