-- `by_words` meets its contract: one word for each field, and the chain by `chain_by_words`.
use Rattle.answer.proofs.by_words.Goals as goal

pub returns : goal.returns
returns c = rw c.chain_by_words-chain.ensures
