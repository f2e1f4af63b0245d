-- `put_redefined` meets its contract.
use native.Mathlib.Omega.{arith}
use Rattle.definition.specs.Words.{bytes_of}
use Rattle.digits.proofs.Digits.{digits-64}
use Rattle.warning.proofs.Lines.{redefined-laid, not_redefined}
use Rattle.warning.proofs.put_redefined.Goals as goal

pub put_word-requires : goal.put_word-requires
put_word-requires c = (omega (arith, c.put_word-first.ensures.ends, c.put_digits-second.ensures.ends, digits-64 c.args.symbol (omega arith), c.requires), omega arith)

pub returns-then-before-after : goal.returns-then-before-after
unfolding bytes_of
returns-then-before-after c = redefined-laid (omega arith) _ _ c.if-before-after.true c.put_word-first.ensures c.put_digits-second.ensures c.put_word.ensures

pub returns : goal.returns
returns c = not_redefined _ _ c.args.symbol c.args.before c.args.after (omega (arith, c.if-before-after.false))
