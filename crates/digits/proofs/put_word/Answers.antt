-- `put_word` meets its contract: the loop's invariant says what is left to write.
use Rattle.digits.proofs.Writing.{goes_on, next-byte}
use Rattle.digits.proofs.put_word.Goals as goal

pub loop-byte-preserved : goal.loop-byte-preserved
loop-byte-preserved c = goes_on _ c.loop-byte.invariant (next-byte _ _ c.loop-byte-test.true) c.put-at.ensures
