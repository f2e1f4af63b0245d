-- `body_words` meets its contract, by a law: counting so many zeros is more than the prover's stack holds. With its level and type written, the law's
-- statement is compared with the goal as it stands and not computed.
use mathlib.Core.Path.{sym}
use lib.IntN.{ℤ, pos}
use lib.ListN.{length-replicate}
use Rattle.batch.proofs.body_words.Goals as goal

pub returns : goal.returns
returns c = sym (length-replicate {0} {A = ℤ} 1048576 (pos 0))
