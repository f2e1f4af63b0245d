-- `placed` meets its contract: by whether x and y change places.
use mathlib.Core.Path.{◌∙◌}
use mir.Facts.{to_z-of_z}
use Rattle.turns.specs.Nets.{turned, apply}
use Rattle.turns.proofs.placed.Goals as goal

pub returns-then-net : goal.returns-then-net
unfolding apply turned
returns-then-net c = c.mirrored.ensures ∙ rw (to_z-of_z c.ranges.x, to_z-of_z c.ranges.y, c.if-net.true)

pub returns : goal.returns
unfolding apply turned
returns c = c.mirrored-2.ensures ∙ rw (to_z-of_z c.ranges.x, to_z-of_z c.ranges.y, c.if-net.false)
