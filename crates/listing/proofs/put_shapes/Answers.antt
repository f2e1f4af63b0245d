-- `listing::put_shapes` meets its contract: `Walking` says what is written and what is left.
use Rattle.listing.proofs.Walking.{next, all_walked}
use Rattle.listing.proofs.put_shapes.Goals as goal

pub loop-b-preserved : goal.loop-b-preserved
loop-b-preserved c = next c.loop-b.invariant c.loop-b-test.true (c.type_inv.flat c.loop-b.b-index).fits c.put_byte-at.ensures.writes c.put_byte-at.ensures.upper_bound c.after-seen.ensures

pub returns : goal.returns
returns c = all_walked c.loop-b.invariant c.loop-b-test.false
