-- `next_call` meets its contract: `Ahead` holds before each command.
use native.Mathlib.Omega.{arith}
use Rattle.heights.proofs.Nexts.{at_start, two_more, met, symbol_there, passes, found_call, no_more}
use Rattle.heights.proofs.next_call.Goals as goal

pub loop-at-init : goal.loop-at-init
loop-at-init c = at_start

pub head_at-head-requires : goal.head_at-head-requires
head_at-head-requires c = let g = c.loop-at.invariant.left c.requires.0 c.requires.1 in let z = two_more g c.loop-at-test.true in (omega (arith, z, g.inside), g.short)

pub overflow_add-at : goal.overflow_add-at
overflow_add-at c = let g = c.loop-at.invariant.left c.requires.0 c.requires.1 in omega (arith, c.loop-at-test.true, g.inside, g.short)

pub size_at-requires : goal.size_at-requires
size_at-requires c = let g = c.loop-at.invariant.left c.requires.0 c.requires.1 in let z = symbol_there g (met g c.loop-at-test.true c.head_at-head.ensures) c.if-head-eq67.true in omega (arith, z)

pub returns-then-head-eq67 : goal.returns-then-head-eq67
returns-then-head-eq67 c = found_call c.loop-at.invariant c.loop-at-test.true c.head_at-head.ensures c.if-head-eq67.true c.size_at.ensures

pub loop-at-smaller : goal.loop-at-smaller
loop-at-smaller c = let g = c.loop-at.invariant.left c.requires.0 c.requires.1 in let m = met g c.loop-at-test.true c.head_at-head.ensures in omega (arith, m.next, m.within)

pub loop-at-preserved : goal.loop-at-preserved
loop-at-preserved c = passes c.loop-at.invariant c.loop-at-test.true c.head_at-head.ensures c.if-head-eq67.false c.requires

pub returns : goal.returns
returns c = no_more c.loop-at.invariant (omega (arith, c.loop-at-test.false))
