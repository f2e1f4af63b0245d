-- `tell_passed` meets its contract: it lends the tables and memory of its own, and of the words lent as many as bodies can need.
use mathlib.Core.Path.{refl}
use native.Mathlib.Omega.{arith}
use borrow.Author.Rules.{rules}
use lib.ListN.{length}
use Rattle.passing.proofs.Cut.{lent_in, lent-short}
use Rattle.summary.proofs.Cut.{tells-lent}
use Rattle.summary.proofs.tell_passed.Goals as goal

pub slice_bounds-tell_text-end : goal.slice_bounds-tell_text-end
slice_bounds-tell_text-end c = lent_in _ c.at_most-lent.ensures

pub tell_text-requires : goal.tell_text-requires
tell_text-requires c = record { named_passed = (c.requires, refl, lent-short (length c.args.bodies.now) c.at_most-lent.ensures (search rules)); most_values_in_bounds = omega arith; column_len = refl }

pub returns : goal.returns
returns c = tells-lent _ c.at_most-lent.ensures (search rules) _ _ c.tell_text.ensures
