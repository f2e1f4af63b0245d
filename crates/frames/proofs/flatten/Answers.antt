-- `flatten` meets its contract: each turn hands the slot's record over and goes on, by the laws of `Underway` (crates/machine, proofs/Underway.antt).
use Rattle.std.proofs.Common.{refl}
use Rattle.machine.proofs.Underway.{slot_held, turnable, goes_on, falls, finishes}
use Rattle.frames.proofs.flatten.Goals as goal

pub loop-s-init : goal.loop-s-init
loop-s-init c = c.begin-s.ensures c.args.records.now refl

pub exchange-old-requires : goal.exchange-old-requires
exchange-old-requires c = slot_held c.loop-s.invariant c.loop-s-test.true

pub turn-s-requires : goal.turn-s-requires
turn-s-requires c = turnable c.loop-s.invariant c.loop-s-test.true c.exchange-old.ensures.0

pub loop-s-smaller : goal.loop-s-smaller
loop-s-smaller c = falls c.loop-s.invariant c.loop-s-test.true c.exchange-old.ensures.0 c.turn-s.ensures

pub loop-s-preserved : goal.loop-s-preserved
loop-s-preserved c = rw c.exchange-old.ensures.1 (goes_on c.loop-s.invariant c.loop-s-test.true c.exchange-old.ensures.0 c.turn-s.ensures)

pub returns : goal.returns
returns c = finishes c.loop-s.invariant c.loop-s-test.false
