-- `counts::count_call` meets its contract: what `one_more` answers is counted as the definition counts it (`call-counted-more`, `call-counted-full`).
use borrow.Author.Rules.{rules}
use Rattle.counts.proofs.ByValue.{call-counted-more, call-counted-full}
use Rattle.counts.proofs.count_call.Goals as goal

pub returns-in_err-calls : goal.returns-in_err-calls
returns-in_err-calls c = search (rules, call-counted-full)

pub returns : goal.returns
returns c = search (rules, call-counted-more)
