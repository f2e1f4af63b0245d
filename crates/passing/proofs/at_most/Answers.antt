-- `at_most` meets its contract.
use borrow.Author.Tests.{lt-ltb, le-ltb}
use Rattle.passing.proofs.at_most.Goals as goal

pub returns-then-n-lt-MOST_WORDS : goal.returns-then-n-lt-MOST_WORDS
returns-then-n-lt-MOST_WORDS c = simp (lt-ltb _ _ c.if-n-lt-MOST_WORDS.true)

pub returns : goal.returns
returns c = simp (le-ltb _ _ c.if-n-lt-MOST_WORDS.false)
