-- `flatten` meets its contract: the text comes out as `read_text` says, and then all words are cleared.
use Rattle.reader.proofs.Promises.{cleared-promised}
use Rattle.reader.proofs.flatten.Goals as goal

pub returns : goal.returns
returns c = cleared-promised c.read_text-answer.ensures c.read_text-answer.auto.words c.clear.ensures
