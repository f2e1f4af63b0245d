-- `measure` meets its contract (proofs/Texting.antt, proofs/Starting.antt).
use Rattle.std.specs.Prelude.{Ok}
use mathlib.Core.Path.{ap, ◌∙◌}
use Rattle.machine.proofs.Texting.{text-stands, text-low, text-stopped, text_may_call, text-called}
use Rattle.machine.proofs.Starting.{sooner, text_measured, measure_bound}
use Rattle.machine.proofs.measure.Goals as goal

pub text_stretch-requires : goal.text_stretch-requires
text_stretch-requires c = text-stands c.requires.1.1.1

pub stopped_outside-requires : goal.stopped_outside-requires
stopped_outside-requires c = text-low c.requires.1.1.1

pub measured-requires : goal.measured-requires
measured-requires c = (_, (_, text_measured c.requires.1.1.1 c.requires.0 _ _ c.text_stretch.ensures (c.in-Ok-Over.is ∙ ap Ok c.in-Ok-Over.field-0-is)))

pub pushed-requires : goal.pushed-requires
pushed-requires c = text_may_call c.requires.1.1.1 _ _ c.text_stretch.ensures (c.in-Ok-Calls.is ∙ ap Ok c.in-Ok-Calls.field-0-is)

pub returns-in-Err : goal.returns-in-Err
returns-in-Err c = λ h fs x. text-stopped x _ _ c.text_stretch.ensures c.in-Err.is c.stopped_outside.ensures

pub returns-in-Ok-Over : goal.returns-in-Ok-Over
returns-in-Ok-Over c = λ h fs x. sooner (c.measured.ensures h fs (text_measured x c.requires.0 _ _ c.text_stretch.ensures (c.in-Ok-Over.is ∙ ap Ok c.in-Ok-Over.field-0-is))) (measure_bound c.args.c c.requires.0)

pub returns-in-Ok-Calls : goal.returns-in-Ok-Calls
returns-in-Ok-Calls c = λ h fs x. text-called x _ _ c.text_stretch.ensures (c.in-Ok-Calls.is ∙ ap Ok c.in-Ok-Calls.field-0-is) c.text_stretch.auto.room c.pushed.ensures
