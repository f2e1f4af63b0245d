-- `note` meets its contract: a name that has a mark keeps it, and a new one takes the next, if there is one.
use mathlib.Core.Path.{sym}
use native.Mathlib.Omega.{arith}
use Rattle.marks.specs.Noted.{known, new, too_many}
use Rattle.marks.proofs.Marking.{has_mark, has_none}
use Rattle.marks.proofs.note.Goals as goal

pub returns-then-is_some : goal.returns-then-is_some
returns-then-is_some c = let k = has_mark c.mark_of.ensures (sym c.if-is_some.ensures) in known k.1 k.2

pub returns-then-names-eq-MOST_LAYERS : goal.returns-then-names-eq-MOST_LAYERS
returns-then-names-eq-MOST_LAYERS c = too_many (has_none c.mark_of.ensures (sym c.if-is_some.ensures)) c.if-names-eq-MOST_LAYERS.true

pub returns : goal.returns
returns c = new (has_none c.mark_of.ensures (sym c.if-is_some.ensures)) (omega (arith, c.if-names-eq-MOST_LAYERS.false, c.requires))
