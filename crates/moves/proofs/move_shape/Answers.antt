-- `move_shape` meets its contract: sizes, then points, then a box's direction (proofs/Moves.antt).
use mathlib.Core.Path.{refl}
use native.Mathlib.Omega.{arith}
use Rattle.moves.proofs.Moves.{in_order, pointed, box_ends, unaimed_moved, aimed-moved}
use Rattle.moves.proofs.move_shape.Goals as goal

pub copy_sizes-requires : goal.copy_sizes-requires
copy_sizes-requires c = let o = in_order c.requires.shaped_at.0 c.first_point-from.ensures c.points_end-last.ensures in (o.0, o.1, omega (arith, o.2, o.3, c.requires.shaped_at.0.within), omega (arith, o.2, o.3, c.requires.shaped_at.1))

pub move_points-far-requires-clause-pointed : goal.move_points-far-requires-clause-pointed
move_points-far-requires-clause-pointed c = (pointed c.requires.shaped_at.0 c.first_point-from.ensures c.points_end-last.ensures, omega (arith, (in_order c.requires.shaped_at.0 c.first_point-from.ensures c.points_end-last.ensures).3, c.copy_sizes.auto.numbers, c.requires.shaped_at.1))

pub returns-then-letter-ne66 : goal.returns-then-letter-ne66
unfolding pointed
returns-then-letter-ne66 c = λ h. unaimed_moved h c.first_point-from.ensures c.points_end-last.ensures c.args.net c.args.numbers.now c.copy_sizes.ensures (c.move_points-far.ensures (pointed h c.first_point-from.ensures c.points_end-last.ensures)) c.if-letter-ne66.true refl

pub aim_at-requires : goal.aim_at-requires
aim_at-requires c = let e = box_ends c.requires.shaped_at.0 c.first_point-from.ensures c.points_end-last.ensures c.if-letter-ne66.false in (omega (arith, e.0, e.1, c.requires.shaped_at.0.within), omega (arith, e.0, e.1, c.requires.shaped_at.1, c.copy_sizes.auto.numbers, c.move_points-far.auto.numbers))

pub returns : goal.returns
unfolding pointed
returns c = λ h. aimed-moved h c.first_point-from.ensures c.points_end-last.ensures c.args.net c.args.numbers.now c.copy_sizes.ensures (c.move_points-far.ensures (pointed h c.first_point-from.ensures c.points_end-last.ensures)) c.if-letter-ne66.false c.aim_at.ensures
