-- `found` meets its contract: where the directions along x and along y go.
use Rattle.why.proofs.Telling.{found_made}
use borrow.Author.Rules.{rules}
use Rattle.why.proofs.found.Goals as goal

pub returns : goal.returns
returns c = found_made c.args.answer c.args.net c.aim_direction-east.result c.aim_direction-north.result c.aim_direction-east.ensures c.aim_direction-north.ensures (search rules) (search rules) (search rules) (search rules) (search rules) (search rules)
