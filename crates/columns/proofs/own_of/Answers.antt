-- `own_of` meets its contract: `Adding` holds before each command.
use mathlib.Core.Path.{refl}
use native.Mathlib.Omega.{arith}
use Rattle.columns.proofs.Adding.{add_begin, two_more, met, added, name_there, add-layer, add-call, add-shape}
use Rattle.columns.proofs.own_of.Goals as goal

pub overflow_add-end : goal.overflow_add-end
overflow_add-end c = omega (arith, c.requires.1, c.requires.2)

pub loop-at-init : goal.loop-at-init
loop-at-init c = add_begin _ _ _ _ _ c.requires.0

pub head_at-head-requires : goal.head_at-head-requires
head_at-head-requires c = (let z = two_more c.loop-at.invariant c.loop-at-test.true in omega (arith, z, c.requires.1), c.requires.2)

pub overflow_add-at : goal.overflow_add-at
overflow_add-at c = omega (arith, c.loop-at-test.true, c.requires.1, c.requires.2)

pub size_at-requires : goal.size_at-requires
size_at-requires c = name_there c.loop-at.invariant (met c.loop-at.invariant c.loop-at-test.true c.head_at-head.ensures) c.requires.1 c.if-head-eq76.true

pub bit_of-layer-requires : goal.bit_of-layer-requires
bit_of-layer-requires c = c.requires.3

pub overflow_add-calls : goal.overflow_add-calls
overflow_add-calls c = omega (arith, c.loop-at.invariant.few.1, c.loop-at-test.true, c.requires.1, c.requires.2)

pub overflow_add-shapes : goal.overflow_add-shapes
overflow_add-shapes c = omega (arith, c.loop-at.invariant.few.0, c.loop-at-test.true, c.requires.1, c.requires.2)

pub loop-at-smaller-then-head-eq76 : goal.loop-at-smaller-then-head-eq76
loop-at-smaller-then-head-eq76 c = let m = (met c.loop-at.invariant c.loop-at-test.true c.head_at-head.ensures) in omega (arith, m.next, m.within)

pub loop-at-preserved-then-head-eq76 : goal.loop-at-preserved-then-head-eq76
loop-at-preserved-then-head-eq76 c = add-layer c.loop-at.invariant (met c.loop-at.invariant c.loop-at-test.true c.head_at-head.ensures) c.requires.1 c.if-head-eq76.true c.size_at.ensures c.bit_of-layer.ensures

pub loop-at-smaller-then-head-eq67 : goal.loop-at-smaller-then-head-eq67
loop-at-smaller-then-head-eq67 c = let m = (met c.loop-at.invariant c.loop-at-test.true c.head_at-head.ensures) in omega (arith, m.next, m.within)

pub loop-at-preserved-then-head-eq67 : goal.loop-at-preserved-then-head-eq67
loop-at-preserved-then-head-eq67 c = add-call c.loop-at.invariant (met c.loop-at.invariant c.loop-at-test.true c.head_at-head.ensures) c.requires.1 c.if-head-eq67.true

pub loop-at-smaller : goal.loop-at-smaller
loop-at-smaller c = let m = (met c.loop-at.invariant c.loop-at-test.true c.head_at-head.ensures) in omega (arith, m.next, m.within)

pub loop-at-preserved : goal.loop-at-preserved
loop-at-preserved c = add-shape c.loop-at.invariant (met c.loop-at.invariant c.loop-at-test.true c.head_at-head.ensures) c.requires.1 c.if-head-eq76.false c.if-head-eq67.false

pub returns : goal.returns
returns c = added c.loop-at.invariant c.loop-at-test.false refl
