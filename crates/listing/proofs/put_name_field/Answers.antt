-- `listing::put_name_field` meets its contract: a name has at most four letters.
use native.Mathlib.Omega.{arith}
use Rattle.pen.proofs.Names.{name-length}
use Rattle.listing.proofs.put_name_field.Goals as goal

pub returns-clause-upper_bound : goal.returns-clause-upper_bound
returns-clause-upper_bound c = omega (arith, c.put-next.ensures.ends, c.put_name.ensures.ends, name-length c.args.layer)
