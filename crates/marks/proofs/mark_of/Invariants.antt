-- `mark_of` meets its contract: none of the names passed is this one.
use Rattle.marks.specs.Noted.{New}
use Rattle.marks.proofs.mark_of.Given as goal

abbrev pub invariant-loop-i : goal.invariant-loop-i
invariant-loop-i l = New l.names.numbers l.i l.name
