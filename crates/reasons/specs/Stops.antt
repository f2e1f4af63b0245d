-- The event at which a counting is stopped, beside `ending`, which says by what: so that a contract can say more of it than a refusal and a chain do. Not to be believed: it follows
-- from the definition's own counting, and nothing but code cites it.
-- Assumes nothing.
use Rattle.std.specs.Prelude.{List, [], ◌∷◌}
use Rattle.std.proofs.Math.Option.{Option, none, some}
use Rattle.definition.specs.Drawing.{Event}
use Rattle.definition.specs.Counts.{Counts, End, finished, stopped, counted}

unfoldable pub stop_by : End → Event → (Counts → Option Event) → Option Event
stop_by (finished c) e f = f c
stop_by (stopped r chain) e f = some e

unfoldable pub stop_of : Counts → List Event → Option Event  -- none where all are counted
stop_of c [] = none
stop_of c (e ∷ es) = stop_by (counted c e) e (λ c'. stop_of c' es)
