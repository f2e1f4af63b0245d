-- `put_letters` meets its contract: a name has at most four letters.
use native.Mathlib.Omega.{arith}
use Rattle.pen.proofs.Names.{name-length}
use Rattle.batch.proofs.put_letters.Goals as goal

pub returns : goal.returns
returns c = omega (arith, c.put_name.ensures.ends, name-length c.args.packed)
