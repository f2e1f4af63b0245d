-- `listing::list` meets its contract: in each case the account is written, and for a text's answer and flat file the account is the definition's listing.
use Rattle.listing.proofs.Agrees.{nothing-listed, refusal-listed, shapes-listed}
use Rattle.listing.proofs.list.Goals as goal

pub returns-then-flat-gt-MOST_BYTES : goal.returns-then-flat-gt-MOST_BYTES
returns-then-flat-gt-MOST_BYTES c = nothing-listed _ _ c.args.answer _ _ c.if-flat-gt-MOST_BYTES.true

pub returns-then-answer-ne0 : goal.returns-then-answer-ne0
returns-then-answer-ne0 c = refusal-listed _ _ c.if-flat-gt-MOST_BYTES.false c.if-answer-ne0.true c.put_refusal.ensures.writes c.put_refusal.ensures.upper_bound

pub returns : goal.returns
returns c = shapes-listed c.put_shapes-at.result c.if-flat-gt-MOST_BYTES.false c.if-answer-ne0.false c.put_shapes-at.ensures c.warn_any-next.ensures c.put_ending.ensures.writes c.put_ending.ensures.upper_bound
