-- `foremost` meets its contract: the lower place comes first in the text.
use Rattle.summary.proofs.Starting.{foremost_none, foremost-name, foremost-before}
use Rattle.summary.proofs.foremost.Goals as goal

pub returns-then-place-refusal : goal.returns-then-place-refusal
returns-then-place-refusal c = foremost-name _ c.gather.ensures c.in-Err.is c.if-place-refusal.true

pub returns-in-Ok : goal.returns-in-Ok
returns-in-Ok c = foremost_none _ c.gather.ensures c.in-Ok.is

pub returns-else-place-refusal : goal.returns-else-place-refusal
returns-else-place-refusal c = foremost-before _ c.gather.ensures c.in-Err.is c.if-place-refusal.false
