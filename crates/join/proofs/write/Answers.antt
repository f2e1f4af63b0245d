-- `write` meets its contract: three copies, one after the other.
use Rattle.definition.specs.Words.{bytes_of}
use Rattle.join.proofs.Making.{three_parts}
use Rattle.join.proofs.write.Goals as goal

pub returns : goal.returns
unfolding bytes_of
returns c = three_parts c.requires.0 _ c.copy-next.ensures c.copy-start.ensures c.copy.ensures
