-- `after_comment` meets its contract: Commented holds at each byte.
use Rattle.pieces.proofs.Comments.{Commented}
use Rattle.pieces.proofs.after_comment.Given as goal

abbrev pub invariant-loop-i : goal.invariant-loop-i
invariant-loop-i l = Commented l.text l.q l.from l.d l.i
