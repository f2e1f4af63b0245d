-- `forget` meets its contract (proofs/Forgetting.antt).
use Rattle.library.proofs.Forgetting.{forgets}
use Rattle.library.proofs.forget.Goals as goal

pub returns : goal.returns
returns c = forgets _ _ _ _ c.requires c.seek.ensures
