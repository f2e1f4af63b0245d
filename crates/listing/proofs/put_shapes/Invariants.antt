-- `listing::put_shapes` meets its contract: `Walking` says what is written and what is left.
use Rattle.listing.proofs.Walking.{Walking}
use Rattle.listing.proofs.put_shapes.Given as goal

abbrev pub invariant-loop-b : goal.invariant-loop-b
invariant-loop-b l = Walking l.flat l.initial.out l.out l.at l.seen l.b-index
