-- `first_fault` meets its contract: 1 by the length, and else what `reading` says. What is found is only looked for, so that no callee is named here.
use Rattle.reader.specs.Screened.{over, within}
use borrow.Author.Rules.{rules}
use Rattle.reader.proofs.first_fault.Goals as goal

pub returns-then-text-gt-MOST_BYTES : goal.returns-then-text-gt-MOST_BYTES
returns-then-text-gt-MOST_BYTES c = search (rules, over)

pub returns : goal.returns
returns c = search (rules, within)
