-- `next_mark` meets its contract: until a letter begins a piece Seeking holds.
use Rattle.pieces.proofs.Marks.{Seeking}
use Rattle.pieces.proofs.next_mark.Given as goal

abbrev pub invariant-loop-i : goal.invariant-loop-i
invariant-loop-i l = Seeking l.text l.initial.q l.initial.i l.q l.i l.p
