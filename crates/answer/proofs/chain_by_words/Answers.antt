-- `chain_by_words` meets its contract: one word for each place.
use Rattle.answer.proofs.Places.{none_read, one_read, all_read}
use Rattle.answer.proofs.chain_by_words.Goals as goal

pub loop-i-init : goal.loop-i-init
loop-i-init c = none_read _

pub loop-i-preserved : goal.loop-i-preserved
loop-i-preserved c = one_read _ c.loop-i.invariant c.loop-i-test.true

pub returns : goal.returns
returns c = all_read _ c.loop-i.invariant c.loop-i-test.false
