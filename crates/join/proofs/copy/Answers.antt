-- `copy` meets its contract: the loop's invariant says what is left to write.
use native.Mathlib.Omega.{arith}
use lib.ListN.{length-drop}
use Rattle.digits.proofs.Writing.{goes_on, next-byte, reaches}
use Rattle.join.proofs.copy.Goals as goal

pub lay-at-requires : goal.lay-at-requires
lay-at-requires c = omega (arith, reaches c.loop-byte.invariant, c.loop-byte.invariant.writes.kept, c.loop-byte-test.true, c.requires, length-drop c.loop-byte.byte-index c.args.text.now)

pub loop-byte-preserved : goal.loop-byte-preserved
loop-byte-preserved c = goes_on _ c.loop-byte.invariant (next-byte _ _ c.loop-byte-test.true) c.lay-at.ensures
