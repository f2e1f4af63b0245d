-- A counting that is stopped within a part of its events: it is stopped there as the part is, and by the same shape, where a shape stops it. For a contract of code that draws part by part.
-- Not to be believed.
-- Assumes nothing.
use Rattle.std.specs.Prelude.{◌≡◌, List}
use Rattle.std.proofs.Math.Option.{some}
use Rattle.definition.specs.declared.Refusal.{Refusal}
use Rattle.definition.specs.Drawing.{Chain, Drawn, Event, drew}
use Rattle.definition.specs.Counts.{Counts, stopped, ending}
use Rattle.reasons.specs.Stops.{stop_of}

-- all are counted from c₀ on, and the counting comes to this part with c
pub record StopsIn (c₀ : Counts) (all : List Event) (c : Counts) (part : List Event) : Type 0 where
  pub as_whole : {r : Refusal} {chain : Chain} → ending c part ≡ stopped r chain → ending c₀ all ≡ stopped r chain
  pub same_shape : {r : Refusal} {chain : Chain} → ending c part ≡ stopped r chain → (d : Drawn) → stop_of c₀ all ≡ some (drew d) → stop_of c part ≡ some (drew d)
