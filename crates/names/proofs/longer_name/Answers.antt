-- `longer_name` meets its contract: a name has room for its letter.
use native.Mathlib.Omega.{arith}
use borrow.Author.Rules.{rules}
use Rattle.names.proofs.Naming.{name-room}
use Rattle.names.proofs.longer_name.Goals as goal

pub overflow_mul-result : goal.overflow_mul-result
overflow_mul-result c = let h = name-room c.args.letter c.args.unit c.args.name c.ranges.letter.fits c.requires in omega arith

pub overflow_add-result : goal.overflow_add-result
overflow_add-result c = let h = name-room c.args.letter c.args.unit c.args.name c.ranges.letter.fits c.requires in omega arith
