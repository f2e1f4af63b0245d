-- `move_points` meets its contract. The invariant, whatever the points are called: those done stand in their places (`Moving`).
use native.Mathlib.Omega.{arith}
use Rattle.moves.proofs.Moves.{begin, numbers-length, pair_fits, one_point, all_moved}
use Rattle.moves.proofs.move_points.Goals as goal

pub loop-next-init : goal.loop-next-init
loop-next-init c = λ h. begin c.args.net c.args.numbers.now h

pub place_at-far-requires-clause-i_in_bounds : goal.place_at-far-requires-clause-i_in_bounds
place_at-far-requires-clause-i_in_bounds c = (omega (arith, pair_fits (c.loop-next.invariant c.requires.pointed.0) c.loop-next-test.true, c.requires.pointed.0.within), omega (arith, pair_fits (c.loop-next.invariant c.requires.pointed.0) c.loop-next-test.true, c.requires.pointed.1, numbers-length (c.loop-next.invariant c.requires.pointed.0)))

pub loop-next-preserved : goal.loop-next-preserved
loop-next-preserved c = λ h. one_point (c.loop-next.invariant h) c.loop-next-test.true c.place_at-far.result _ c.place_at-far.ensures c.either-x.result c.either-y.result c.either-x.ensures c.either-y.ensures

pub returns : goal.returns
returns c = λ h. all_moved (c.loop-next.invariant h) c.loop-next-test.false
