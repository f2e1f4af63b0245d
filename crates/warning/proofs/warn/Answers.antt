-- `warn` meets its contract: it lends the tables, rows of no definition, the words of a command, and of the words lent as many as bodies can need.
use mathlib.Core.Path.{refl}
use native.Mathlib.Omega.{arith}
use lib.ListN.{length}
use Rattle.passing.proofs.Cut.{lent_in, lent-short}
use Rattle.warning.proofs.Cut.{warns_lent}
use borrow.Author.Rules.{rules}
use Rattle.warning.proofs.warn.Goals as goal

pub slice_bounds-warn_text-end : goal.slice_bounds-warn_text-end
slice_bounds-warn_text-end c = lent_in _ c.at_most-lent.ensures

pub warn_text-requires : goal.warn_text-requires
warn_text-requires c = record { passed = (c.requires.0, refl, lent-short (length c.args.bodies.now) c.at_most-lent.ensures (search rules)); most_values_in_bounds = (omega arith, c.requires.1) }

pub returns : goal.returns
returns c = warns_lent _ c.at_most-lent.ensures (search rules) c.warn_text.ensures
