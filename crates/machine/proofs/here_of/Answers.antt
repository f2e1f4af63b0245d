-- `here_of` meets its contract: three bits of the turn.
use borrow.Author.Rules.{rules}
use Rattle.machine.proofs.Making.{here-told}
use Rattle.machine.proofs.here_of.Goals as goal

pub returns : goal.returns
returns c = here-told c.args.f c.odd.ensures c.odd-2.ensures c.odd-3.ensures (search rules) (search rules)
