-- `compose` meets its contract: its result is the account's `after` (`composed`), whose step is where the outer list puts the inner step.
use native.Mathlib.Omega.{arith}
use borrow.Author.Rules.{rules}
use Rattle.turns.specs.Nets.{after}
use Rattle.turns.proofs.Nets.{composed}
use Rattle.turns.proofs.Signed.{back}
use Rattle.turns.proofs.compose.Goals as goal

pub returns : goal.returns
unfolding after
returns c =
    let p = c.placed-step in
    let e =
    rw (back c.args.inner.tx (omega (arith, c.requires.0.across)), back c.args.inner.ty (omega (arith, c.requires.0.up)))
    at p.ensures in
    composed c.args.inner c.args.outer _ (search rules)
