-- The counts of a drawing and how it ends: the story's events counted along, up to the first refusal.
use Rattle.std.specs.Prelude.{List, [], ◌∷◌, ℕ, ◌+◌, ltb, if◌then◌else◌}
use Rattle.definition.specs.declared.Refusal.{Refusal}
use Rattle.definition.specs.Limits.{most_calls, most_shapes}
use Rattle.definition.specs.Words.{none?}
use Rattle.definition.specs.declared.Rule.TheVariants.{TooManyCalls, TooManyShapes}
use Rattle.definition.specs.Rules.{refuse}
use Rattle.definition.specs.Table.{find}
use Rattle.definition.specs.Drawing.{Chain, Drawn, Event, called, drew, entered, removed, refused}

pub record Counts : Type 0 where  -- the running counts of calls, shapes and redefinitions are one record, carried along through the drawing
  pub calls : ℕ
  pub shapes : ℕ
  pub redefinitions : ℕ

abbrev pub counts : ℕ → ℕ → ℕ → Counts
counts c s r = record { calls = c; shapes = s; redefinitions = r }

pub data End : Type 0 where  -- how it ends: with counts, or by a refusal and the calls open there
  finished : Counts → End
  stopped : Refusal → Chain → End

unfoldable pub counted : Counts → Event → End  -- one event counted. RULES 12, refusals 15 and 17: call 1,048,577 and shape 1,048,577
counted c (called p chain d) =
    if ltb c.calls most_calls then finished (counts (c.calls + 1) c.shapes c.redefinitions) else stopped (refuse TooManyCalls p) chain
counted c (drew d) =
    if ltb c.shapes most_shapes then finished (counts c.calls (c.shapes + 1) c.redefinitions) else stopped (refuse TooManyShapes d.place) d.chain
counted c (entered d before) =
    finished (counts c.calls c.shapes (if none? (find d.symbol before) then c.redefinitions else c.redefinitions + 1))
counted c (removed n before) = finished c
counted c (refused r chain) = stopped r chain

unfoldable pub go_on : End → (Counts → End) → End
go_on (finished c) f = f c
go_on (stopped r chain) f = stopped r chain

unfoldable pub ending : Counts → List Event → End  -- the first refusal ends it
ending c [] = finished c
ending c (e ∷ es) = go_on (counted c e) (λ c'. ending c' es)

unfoldable pub shapes_of : List Event → List Drawn  -- the shapes of a story
shapes_of [] = []
shapes_of (drew d ∷ es) = d ∷ shapes_of es
shapes_of (called p chain d ∷ es) = shapes_of es
shapes_of (entered d before ∷ es) = shapes_of es
shapes_of (removed n before ∷ es) = shapes_of es
shapes_of (refused r chain ∷ es) = shapes_of es
