-- `list_net` meets its contract. The invariant holds for every list that the words are those of: a part is done, whose net transformation is kept,
-- and what is left stands in the words from here on (`ComposedSoFar`).
use native.Mathlib.Omega.{arith}
use Rattle.turns.proofs.Lists.{start, near-enough, begins, nearer, further, finished}
use Rattle.turns.proofs.Nets.{near-more}
use Rattle.turns.proofs.list_net.Goals as goal

pub loop-at-init : goal.loop-at-init
loop-at-init c = λ h. start h _ c.still-net.ensures.0 c.still-net.ensures.1

pub single_at-single-requires : goal.single_at-single-requires
single_at-single-requires c = begins (c.loop-at.invariant c.requires) c.loop-at-test.true

pub compose-net-requires : goal.compose-net-requires
compose-net-requires c =
    let g = c.loop-at.invariant c.requires in
    (near-more (omega arith) (near-enough g), near-more (omega arith) (c.single_at-single.ensures (begins g c.loop-at-test.true)).near)

pub loop-at-smaller : goal.loop-at-smaller
loop-at-smaller c =
    let g = c.loop-at.invariant c.requires in
    let lt = c.loop-at-test.true in
    nearer g lt _ (c.single_at-single.ensures (begins g lt))

pub loop-at-preserved : goal.loop-at-preserved
loop-at-preserved c = λ h.
    let g = c.loop-at.invariant h in
    let lt = c.loop-at-test.true in
    further g lt _ (c.single_at-single.ensures (begins g lt)) _ _ c.compose-net.ensures c.either-askew.ensures

pub returns : goal.returns
returns c = λ h. finished (c.loop-at.invariant h) c.loop-at-test.false
