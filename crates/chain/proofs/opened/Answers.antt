-- `opened` meets its contract (proofs/Telling.antt).
use native.Mathlib.Omega.{arith}
use Rattle.chain.proofs.Telling.{many-opened, so_many-opened}
use Rattle.chain.proofs.opened.Goals as goal

pub returns-then-level-gt-DEEPEST : goal.returns-then-level-gt-DEEPEST
returns-then-level-gt-DEEPEST c = many-opened c.args.run.now (omega (arith, c.if-level-gt-DEEPEST.true))

pub returns : goal.returns
returns c = so_many-opened c.args.run.now (omega (arith, c.if-level-gt-DEEPEST.false))
