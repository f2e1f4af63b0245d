-- `write` meets its contract (proofs/Texting.antt).
use Rattle.std.specs.Prelude.{Ok}
use mathlib.Core.Path.{ap, ◌∙◌}
use Rattle.machine.proofs.Texting.{text-stands, text-low, text-stopped, text_may_call, text-called, text-written, text_end}
use Rattle.machine.proofs.write.Goals as goal

pub text_stretch-requires : goal.text_stretch-requires
text_stretch-requires c = text-stands c.requires.1.1.1

pub stopped_outside-requires : goal.stopped_outside-requires
stopped_outside-requires c = text-low c.requires.1.1.1

pub written-requires : goal.written-requires
written-requires c = text_end c.requires.1.1.1 _ _ c.text_stretch.ensures (c.in-Ok-Over.is ∙ ap Ok c.in-Ok-Over.field-0-is)

pub pushed-requires : goal.pushed-requires
pushed-requires c = text_may_call c.requires.1.1.1 _ _ c.text_stretch.ensures (c.in-Ok-Calls.is ∙ ap Ok c.in-Ok-Calls.field-0-is)

pub returns-in-Err : goal.returns-in-Err
returns-in-Err c = λ h fs x. text-stopped x _ _ c.text_stretch.ensures c.in-Err.is c.stopped_outside.ensures

pub returns-in-Ok-Over : goal.returns-in-Ok-Over
returns-in-Ok-Over c = λ h fs x. text-written x c.requires.0 _ _ c.text_stretch.ensures (c.in-Ok-Over.is ∙ ap Ok c.in-Ok-Over.field-0-is) c.written.ensures

pub returns-in-Ok-Calls : goal.returns-in-Ok-Calls
returns-in-Ok-Calls c = λ h fs x. text-called x _ _ c.text_stretch.ensures (c.in-Ok-Calls.is ∙ ap Ok c.in-Ok-Calls.field-0-is) c.text_stretch.auto.room c.pushed.ensures
