-- `push` meets its contract (proofs/Runs.antt).
use Rattle.std.proofs.Common.{arith}
use Rattle.chain.proofs.Runs.{pushed}
use Rattle.chain.proofs.push.Goals as goal

pub returns : goal.returns
returns c = pushed c.args.run.now c.args.level c.args.place c.args.symbol (omega (arith, c.requires))
