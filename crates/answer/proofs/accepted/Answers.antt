-- `accepted` meets its contract: each field is that of a success.
use mathlib.Core.Path.{refl}
use Rattle.definition.specs.Answer.{success}
use Rattle.answer.proofs.accepted.Goals as goal

pub returns : goal.returns
unfolding success
returns c = refl
