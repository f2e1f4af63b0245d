-- `frame_of` meets its contract: the turn is one of eight.
use borrow.Author.Rules.{rules}
use Rattle.machine.proofs.Making.{frame-told}
use Rattle.machine.proofs.frame_of.Goals as goal

pub returns : goal.returns
returns c = (frame-told c.args.call c.args.on c.turn_of-turn.ensures (search rules) (search rules), search rules)
