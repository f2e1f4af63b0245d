-- `draw_shape` meets its contract: a shape has at most so many numbers.
use native.Mathlib.Omega.{arith}
use Rattle.stretch.proofs.draw_shape.Goals as goal

pub draw_shape-requires-2 : goal.draw_shape-requires-2
draw_shape-requires-2 c = let h = c.requires.0 in record { shaped_at = (h, omega (arith, h.ends, h.few)); near = (c.requires.1, c.requires.2) }
