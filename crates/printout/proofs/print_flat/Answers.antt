-- `print_flat` meets its contract: the reader leaves the flat file at the start of the room, and the listing of it fits into its own.
use mathlib.Core.Path.{sym, ap, ◌∙◌}
use mathlib.Core.List.{List}
use Prim.Native.Nat.{ℕ}
use lib.ListN.{length}
use Rattle.printout.proofs.Printing.{flat-left, printed}
use Rattle.printout.proofs.print_flat.Goals as goal

pub slice_bounds-list-end : goal.slice_bounds-list-end
slice_bounds-list-end c = (flat-left c.flatten-answer.ensures).fits

pub slice_bounds-list-end-2 : goal.slice_bounds-list-end-2
slice_bounds-list-end-2 c = let f = flat-left c.flatten-answer.ensures in sym (ap (λ (l : List ℕ). length l) f.is ∙ f.size)

pub returns : goal.returns
returns c = printed c.requires.0 c.requires.1 c.requires.2 c.requires.3 c.flatten-answer.ensures c.list.ensures
