-- `back_on` meets its contract: by what the record says (proofs/Starting.antt).
use Rattle.machine.proofs.Starting.{back-text, back-body, back-layer, here_in}
use Rattle.machine.proofs.back_on.Goals as goal

pub text_on-requires : goal.text_on-requires
text_on-requires c = (_, (_, back-text c.requires.1.1 c.if-c-eq0.true))

pub returns-then-c-eq0 : goal.returns-then-c-eq0
returns-then-c-eq0 c = λ h fs x. c.text_on.ensures h fs (back-text x c.if-c-eq0.true)

pub here_of-requires : goal.here_of-requires
here_of-requires c = back-layer c.requires.1.1 c.if-c-eq0.false

pub body_on-requires : goal.body_on-requires
body_on-requires c = (_, (_, here_in c.here_of.ensures (back-body c.requires.1.1 c.if-c-eq0.false)))

pub returns : goal.returns
returns c = λ h fs x. c.body_on.ensures h fs (here_in c.here_of.ensures (back-body x c.if-c-eq0.false))
