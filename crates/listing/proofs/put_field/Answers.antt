-- `listing::put_field` meets its contract: a number of 64 bits has at most 20 digits.
use native.Mathlib.Omega.{arith}
use Rattle.digits.proofs.Digits.{digits-64}
use Rattle.listing.proofs.put_field.Goals as goal

pub returns-clause-upper_bound : goal.returns-clause-upper_bound
returns-clause-upper_bound c = omega (arith, c.put-next.ensures.ends, c.put_digits.ensures.ends, digits-64 c.args.n (omega arith))
