-- `flatten` is safe: the length that is told lies within the room.
use Rattle.reader.proofs.Demands.{length-within}
use Rattle.batch.proofs.flatten.Goals as goal

pub put_flat-requires : goal.put_flat-requires
put_flat-requires g c = length-within c.flatten-answer.ensures
