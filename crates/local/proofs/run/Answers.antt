-- `local::run` meets its contract: the loop's invariant is `RunSoFar`, and each goal is one law of it.
use mathlib.Core.Path.{refl}
use native.Mathlib.Omega.{arith}
use Rattle.local.proofs.RunSoFar.{begins, slot_low, asks, goes_on, falls, ends}
use Rattle.local.proofs.run.Goals as goal

pub loop-s-init : goal.loop-s-init
loop-s-init c = begins c.requires.0 c.requires.1 refl

pub offset_bounds-frames-slot : goal.offset_bounds-frames-slot
offset_bounds-frames-slot c = omega (arith, slot_low c.loop-s.invariant c.loop-s-test.true, c.loop-s.invariant.full)

pub bounds-frames-slot : goal.bounds-frames-slot
bounds-frames-slot c = omega (arith, slot_low c.loop-s.invariant c.loop-s-test.true, c.loop-s.invariant.full)

pub offset_bounds-frames-slot-in-loop-s : goal.offset_bounds-frames-slot-in-loop-s
offset_bounds-frames-slot-in-loop-s c = omega (arith, slot_low c.loop-s.invariant c.loop-s-test.true, c.loop-s.invariant.full)

pub bounds-frames-slot-in-loop-s : goal.bounds-frames-slot-in-loop-s
bounds-frames-slot-in-loop-s c = omega (arith, slot_low c.loop-s.invariant c.loop-s-test.true, c.loop-s.invariant.full)

pub turn-s-requires : goal.turn-s-requires
turn-s-requires c = asks c.loop-s.invariant c.loop-s-test.true refl

pub loop-s-smaller : goal.loop-s-smaller
loop-s-smaller c = falls c.loop-s.invariant c.loop-s-test.true refl c.turn-s.ensures

pub loop-s-preserved : goal.loop-s-preserved
loop-s-preserved c = goes_on c.loop-s.invariant c.loop-s-test.true refl c.turn-s.ensures c.turn-s.auto.bodies c.turn-s.auto.room

pub returns : goal.returns
returns c = ends c.loop-s.invariant c.loop-s-test.false
