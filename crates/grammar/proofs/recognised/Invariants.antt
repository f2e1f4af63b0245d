-- `recognised` meets its contract: where the loop stands, what is left of the text decides as the whole text does.
use Rattle.grammar.proofs.Steps.{RecognisedSoFar}
use Rattle.grammar.proofs.recognised.Given as goal

abbrev pub invariant-loop-i : goal.invariant-loop-i
invariant-loop-i l = RecognisedSoFar l.text l.q l.d l.i
