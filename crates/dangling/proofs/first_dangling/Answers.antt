-- `first_dangling` meets its contract: `Between` holds before each definition, and `Within` before each of its commands.
use native.Mathlib.Omega.{arith}
use Rattle.dangling.proofs.Searching.{begin, row_fits, enters, searched_all, two_more, met, leaves, passes_other, symbol_there, passes-call, found_call}
use Rattle.dangling.proofs.first_dangling.Goals as goal

pub loop-i-init : goal.loop-i-init
loop-i-init c = begin _ _ _

pub start_at-at-requires : goal.start_at-at-requires
start_at-at-requires c = omega (arith, c.loop-i-test.true, c.requires.0.few)

pub length_at-requires : goal.length_at-requires
length_at-requires c = omega (arith, c.loop-i-test.true, c.requires.0.few)

pub overflow_add-end : goal.overflow_add-end
overflow_add-end c = let f = row_fits c.loop-i.invariant c.requires.1 c.loop-i-test.true c.start_at-at.ensures c.length_at.ensures in omega (arith, f, c.requires.2)

pub loop-at-init : goal.loop-at-init
loop-at-init c = enters c.loop-i.invariant c.requires.1 c.loop-i-test.true c.start_at-at.ensures c.length_at.ensures

pub head_at-head-requires : goal.head_at-head-requires
head_at-head-requires c = let f = row_fits c.loop-i.invariant c.requires.1 c.loop-i-test.true c.start_at-at.ensures c.length_at.ensures in let z = two_more c.loop-at.invariant c.loop-at-test.true in (omega (arith, f, z), c.requires.2)

pub overflow_add-at : goal.overflow_add-at
overflow_add-at c = let f = row_fits c.loop-i.invariant c.requires.1 c.loop-i-test.true c.start_at-at.ensures c.length_at.ensures in omega (arith, f, c.loop-at-test.true, c.requires.2)

pub size_at-requires : goal.size_at-requires
size_at-requires c = let z = symbol_there c.loop-at.invariant (met c.loop-at.invariant c.loop-at-test.true c.head_at-head.ensures) c.if-head-eq67.true (row_fits c.loop-i.invariant c.requires.1 c.loop-i-test.true c.start_at-at.ensures c.length_at.ensures) in omega (arith, z)

pub misses-requires : goal.misses-requires
misses-requires c = c.requires.0

pub loop-at-smaller-else-misses : goal.loop-at-smaller-else-misses
loop-at-smaller-else-misses c = let m = met c.loop-at.invariant c.loop-at-test.true c.head_at-head.ensures in omega (arith, m.next, m.within)

pub loop-at-preserved-else-misses : goal.loop-at-preserved-else-misses
loop-at-preserved-else-misses c = passes-call c.loop-at.invariant (met c.loop-at.invariant c.loop-at-test.true c.head_at-head.ensures) c.if-head-eq67.true (row_fits c.loop-i.invariant c.requires.1 c.loop-i-test.true c.start_at-at.ensures c.length_at.ensures) c.size_at.ensures c.misses.ensures c.if-misses.false

pub loop-at-smaller : goal.loop-at-smaller
loop-at-smaller c = let m = met c.loop-at.invariant c.loop-at-test.true c.head_at-head.ensures in omega (arith, m.next, m.within)

pub loop-at-preserved : goal.loop-at-preserved
loop-at-preserved c = passes_other c.loop-at.invariant (met c.loop-at.invariant c.loop-at-test.true c.head_at-head.ensures) c.if-head-eq67.false

pub loop-i-preserved : goal.loop-i-preserved
loop-i-preserved c = leaves c.loop-at.invariant (omega (arith, c.loop-at-test.false))

pub returns : goal.returns
returns c = searched_all c.loop-i.invariant (omega (arith, c.loop-i-test.false))

pub returns-then-misses : goal.returns-then-misses
returns-then-misses c = found_call c.loop-at.invariant (met c.loop-at.invariant c.loop-at-test.true c.head_at-head.ensures) c.if-head-eq67.true (row_fits c.loop-i.invariant c.requires.1 c.loop-i-test.true c.start_at-at.ensures c.length_at.ensures) c.size_at.ensures c.misses.ensures c.if-misses.true
