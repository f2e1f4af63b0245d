-- `put_word` meets its contract: the loop's invariant says what is left to write.
use lib.ListN.{drop}
use Rattle.digits.proofs.Writing.{WrittenSoFar}
use Rattle.digits.proofs.put_word.Given as goal

abbrev pub invariant-loop-byte : goal.invariant-loop-byte
invariant-loop-byte l = WrittenSoFar l.initial.room l.room l.start l.at l.word (drop l.byte-index l.word)
