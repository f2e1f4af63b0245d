-- `places` meets its contract. The invariant: the places of the first calls are told, and after them stand zeros.
use Rattle.chain.proofs.Telling.{PlacesSoFar}
use Rattle.chain.proofs.places.Given as goal

abbrev pub invariant-loop-next : goal.invariant-loop-next
invariant-loop-next l = PlacesSoFar l.run l.told l.next
