-- `copy` meets its contract: the loop's invariant says what is left to write.
use lib.ListN.{drop}
use Rattle.digits.proofs.Writing.{WrittenSoFar}
use Rattle.join.proofs.copy.Given as goal

abbrev pub invariant-loop-byte : goal.invariant-loop-byte
invariant-loop-byte l = WrittenSoFar l.initial.room l.room l.start l.at l.text (drop l.byte-index l.text)
