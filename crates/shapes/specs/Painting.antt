-- What a function that draws does: its events counted up to the first refusal, and the lines of the shapes before it in the room. A running account,
-- not to be believed: what happens is said by crates/definition, and proofs/Painting.antt joins what follows one another.
-- Assumes nothing.
use Rattle.std.specs.Prelude.{◌≡◌, List, [], ◌∷◌, ◌++◌, ℕ, ◌+◌, ◌*◌, ◌≤◌, ℤ, length, Result, Ok, Err}
use Rattle.std.proofs.lemmas.List.Edits.{sets}
use Rattle.definition.specs.Drawing.{Chain, Event, drawn_shape, Drawn as Shown}
use Rattle.definition.specs.Counts.{End, finished, stopped, counted, ending, shapes_of}
use Rattle.definition.specs.Counts.{Counts as Tally}
use Rattle.definition.specs.Flat.{lines}
use Rattle.definition.specs.Limits.{most_calls, most_shapes}
use Rattle.definition.specs.Commands.{Turn}
use Rattle.definition.specs.declared.Refusal.{Refusal}
use Rattle.turns.specs.Nets.{Carries}
use Rattle.turns.specs.declared.Net.{Net}
use Rattle.pen.specs.Names.{name_of}
use Rattle.moves.specs.Moves.{ShapedAt}
use Rattle.counts.specs.declared.Counts.{Counts}
use Rattle.counts.specs.Counting.{tally}
use Rattle.shapes.specs.declared.Pen.{Pen}
use Rattle.shapes.specs.declared.Ink.{Ink}

-- the events before the first that is refused
unfoldable pub going_by : End → Event → (Tally → List Event) → List Event
going_by (finished c) e more = e ∷ more c
going_by (stopped why chain) e more = []

unfoldable pub until : Tally → List Event → List Event
until c [] = []
until c (e ∷ es) = going_by (counted c e) e (λ c'. until c' es)

abbrev pub inked : Counts → Pen → Ink
inked c pen = record { counts = c; pen = pen }

-- their bytes, after a shape of the pen's layer
abbrev pub bytes_of : Ink → List Event → List ℕ
bytes_of ink es = lines (name_of ink.pen.layer) (shapes_of (until (tally ink.counts) es))

-- no shape has more bytes than this, its L line among them
abbrev pub longest : ℕ
longest = 65536

-- counts that the drawing can have come to, and a pen that has written so many shapes
pub record Reached (ink : Ink) : Type 0 where
  pub calls_most : ink.counts.calls ≤ most_calls
  pub shapes_most : ink.counts.shapes ≤ most_shapes
  pub place_most : ink.pen.at ≤ longest * ink.counts.shapes

-- the events all happen: counts, next place, and a last layer behind which further shapes are written
pub record Goes (ink : Ink) (es : List Event) (ink' : Ink) : Type 0 where
  pub ends : ending (tally ink.counts) es ≡ finished (tally ink'.counts)
  pub next : ink'.pen.at ≡ ink.pen.at + length (lines (name_of ink.pen.layer) (shapes_of es))
  pub on : (ds : List Shown) → lines (name_of ink.pen.layer) (shapes_of es ++ ds) ≡ lines (name_of ink.pen.layer) (shapes_of es) ++ lines (name_of ink'.pen.layer) ds
  pub reached : Reached ink'

-- where one of them is refused, these calls are open
unfoldable pub Answered : Ink → List Event → Chain → Result Ink Refusal → Type 0
Answered ink es chain (Ok ink') = Goes ink es ink'
Answered ink es chain (Err why) = ending (tally ink.counts) es ≡ stopped why chain

-- the contract of every function that draws
pub record Painted (ink : Ink) (es : List Event) (room : List ℕ) (chain : Chain) (r : Result Ink Refusal) (room' : List ℕ) : Type 0 where
  pub answer : Answered ink es chain r
  pub laid : room' ≡ sets room ink.pen.at (bytes_of ink es)

-- the contract of `draw_shape`, whatever calls are open, and for every list that does what the net transformation does
abbrev pub ShapeDraws : (words : List ℤ) (letter end : ℕ) (net : Net) (layer place : ℕ) → Ink → List ℕ → Result Ink Refusal → List ℕ → Type 0
ShapeDraws words letter end net layer place ink room r room' =
    (h : ShapedAt words letter end) (chain : Chain) (ts : List (Turn ℤ)) → Carries ts net → Painted ink (drawn_shape chain ts place (name_of layer) h.shape ∷ []) room chain r room'
