-- `words` meets its contract: the first words by `first_words`, and the places of the open calls one after the other.
use Rattle.answer.proofs.Places.{Copied}
use Rattle.answer.proofs.words.Given as goal

abbrev pub invariant-loop-i : goal.invariant-loop-i
invariant-loop-i l = Copied l.initial.told 16 l.chain l.i l.told
