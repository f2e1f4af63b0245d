-- `counts::count_shape` meets its contract: what `one_more` answers is counted as the definition counts it (`shape-counted-more`, `shape-counted-full`).
use borrow.Author.Rules.{rules}
use Rattle.counts.proofs.ByValue.{shape-counted-more, shape-counted-full}
use Rattle.counts.proofs.count_shape.Goals as goal

pub returns-in_err-shapes : goal.returns-in_err-shapes
returns-in_err-shapes c = search (rules, shape-counted-full)

pub returns : goal.returns
returns c = search (rules, shape-counted-more)
