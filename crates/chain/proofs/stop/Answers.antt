-- `stop` meets its contract (proofs/Telling.antt).
use Rattle.chain.proofs.Telling.{stopped}
use Rattle.chain.proofs.stop.Goals as goal

pub returns : goal.returns
returns c = stopped c.args.run.now c.args.level c.requires.0 c.requires.1
