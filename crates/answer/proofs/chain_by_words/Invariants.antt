-- `chain_by_words` meets its contract: one word for each place.
use Rattle.answer.specs.Words.{zeros, chain_by}
use Rattle.answer.proofs.Places.{Copied}
use Rattle.answer.proofs.chain_by_words.Given as goal

abbrev pub invariant-loop-i : goal.invariant-loop-i
invariant-loop-i l = Copied (zeros 32) 0 (chain_by l.told) l.i l.chain
