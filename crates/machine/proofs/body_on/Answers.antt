-- `body_on` meets its contract: the next state by what the stretch came to (proofs/Bodying.antt).
use Rattle.std.specs.Prelude.{Ok}
use mathlib.Core.Path.{ap, ◌∙◌}
use Rattle.machine.proofs.Bodying.{body-stands, body-low, body_some, body-stopped, body_ended, body_may_call, body-called}
use Rattle.machine.proofs.body_on.Goals as goal

pub body_stretch-requires : goal.body_stretch-requires
body_stretch-requires c = body-stands c.requires.1.1

pub stopped-requires : goal.stopped-requires
stopped-requires c = body-low c.requires.1.1

pub popped-requires : goal.popped-requires
popped-requires c = body_some c.requires.1.1

pub pushed-requires : goal.pushed-requires
pushed-requires c = rw c.in-Ok-Calls.row-is (body_may_call c.requires.1.1 _ c.body_stretch.ensures (c.in-Ok-Calls.is ∙ ap Ok c.in-Ok-Calls.field-0-is))

pub returns-in-Err : goal.returns-in-Err
returns-in-Err c = λ h fs x. body-stopped x _ c.body_stretch.ensures c.in-Err.is c.stopped.ensures

pub returns-in-Ok-Ends : goal.returns-in-Ok-Ends
returns-in-Ok-Ends c = λ h fs x. body_ended x _ c.body_stretch.ensures (c.in-Ok-Ends.is ∙ ap Ok c.in-Ok-Ends.field-0-is) c.body_stretch.auto.room (rw c.in-Ok-Ends.ink-is at c.popped.ensures)

pub returns-in-Ok-Calls : goal.returns-in-Ok-Calls
returns-in-Ok-Calls c = λ h fs x. body-called x _ c.body_stretch.ensures (c.in-Ok-Calls.is ∙ ap Ok c.in-Ok-Calls.field-0-is) c.body_stretch.auto.room (rw (c.in-Ok-Calls.on-is, c.in-Ok-Calls.call-is, c.in-Ok-Calls.row-is, c.in-Ok-Calls.ink-is) at c.pushed.ensures)
