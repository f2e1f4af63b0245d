-- `put_dangling` meets its contract.
use native.Mathlib.Omega.{arith}
use Rattle.definition.specs.Words.{bytes_of}
use Rattle.digits.proofs.Digits.{digits-64}
use Rattle.warning.proofs.Lines.{dangling-laid, none_dangling}
use Rattle.warning.proofs.put_dangling.Goals as goal

pub put-requires : goal.put-requires
put-requires c = omega (arith, c.put_word-first.ensures.ends, c.put_digits-second.ensures.ends, digits-64 c.in-Some.place (omega arith), c.requires)

pub returns-in-None : goal.returns-in-None
returns-in-None c = none_dangling _ _ _ c.in-None.is

pub returns-in-Some : goal.returns-in-Some
unfolding bytes_of
returns-in-Some c = dangling-laid (omega arith) _ c.in-Some.is c.put_word-first.ensures c.put_digits-second.ensures c.put.ensures
