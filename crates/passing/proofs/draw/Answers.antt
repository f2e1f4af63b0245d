-- `draw` meets its contract: it lends the tables, rows of no definition, the runs, and of the words lent as many as bodies can need.
use mathlib.Core.Path.{refl}
use native.Mathlib.Omega.{arith}
use lib.ListN.{length}
use Rattle.passing.proofs.Cut.{lent_in, lent-short, draws-lent}
use borrow.Author.Rules.{rules}
use Rattle.passing.proofs.draw.Goals as goal

pub slice_bounds-draw_text-end : goal.slice_bounds-draw_text-end
slice_bounds-draw_text-end c = lent_in _ c.at_most-lent.ensures

pub draw_text-requires : goal.draw_text-requires
draw_text-requires c = record { passed = (c.requires.0, refl, lent-short (length c.args.bodies.now) c.at_most-lent.ensures (search rules)); most_values_in_bounds = (omega arith, omega arith, c.requires.1) }

pub returns : goal.returns
returns c = draws-lent _ c.at_most-lent.ensures (search rules) _ c.draw_text.ensures
