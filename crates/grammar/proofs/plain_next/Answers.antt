-- `plain_next` meets its contract: it takes the role off the entry.
use Rattle.grammar.proofs.Ahead.{next_is}
use Rattle.grammar.proofs.plain_next.Goals as goal

pub returns : goal.returns
returns c = next_is c.args.q c.args.b c.entry_at.result c.entry_at.ensures
