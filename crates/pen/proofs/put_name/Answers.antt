-- `pen::put_name` meets its contract: what is left to write is the name of what is left of the number, whose length is the measure.
use mathlib.Core.Path.{ap}
use native.Mathlib.Omega.{arith}
use lib.ListN.{length}
use Rattle.digits.proofs.Writing.{begun, goes_on, over, reaches}
use Rattle.pen.proofs.Names.{name-bytes, name-length, no_name}
use Rattle.pen.proofs.put_name.Goals as goal

pub put-at-requires : goal.put-at-requires
put-at-requires c = omega (arith, reaches c.loop-rest.invariant.0, name-length c.args.name)

pub loop-rest-smaller : goal.loop-rest-smaller
loop-rest-smaller c = let e = ap length (name-bytes c.loop-rest.rest c.loop-rest-test.true) in omega (arith, e)

pub loop-rest-preserved : goal.loop-rest-preserved
loop-rest-preserved c = (goes_on _ c.loop-rest.invariant.0 (name-bytes c.loop-rest.rest c.loop-rest-test.true) c.put-at.ensures, omega arith)

pub returns : goal.returns
returns c = over c.loop-rest.invariant.0 (no_name c.loop-rest.rest c.loop-rest-test.false)
