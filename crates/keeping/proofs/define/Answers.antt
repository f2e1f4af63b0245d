-- `define` meets its contract: what it answers is in proofs/Entered.antt.
use Rattle.std.specs.Prelude.{Some}
use mathlib.Core.Path.{ap, ◌∙◌}
use Rattle.keeping.proofs.Entered.{freed_within, filling_over, filling_in, defines_full, defines-over, defines_in}
use Rattle.keeping.proofs.define.Goals as goal

pub overflow_sub-needed : goal.overflow_sub-needed
overflow_sub-needed c = freed_within c.requires.begins c.requires.text_len_bound.0 c.begin.result _ c.begin.ensures (c.in-Some-Replaced.is ∙ ap Some c.in-Some-Replaced.field-0-is)

pub fill-requires : goal.fill-requires
fill-requires c = record { fit = c.requires.fit; filling = filling_over c.requires.begins c.requires.text_len_bound.0 c.begin.result _ c.begin.ensures (c.in-Some-Replaced.is ∙ ap Some c.in-Some-Replaced.field-0-is) }

pub fill-requires-in-Some-Added : goal.fill-requires-in-Some-Added
fill-requires-in-Some-Added c = record { fit = c.requires.fit; filling = filling_in c.requires.begins c.requires.text_len_bound.0 c.begin.result _ c.begin.ensures (c.in-Some-Added.is ∙ ap Some c.in-Some-Added.field-0-is) }

pub returns-in-None : goal.returns-in-None
returns-in-None c = defines_full c.requires.begins c.requires.text_len_bound.0 c.begin.result _ c.begin.ensures c.in-None.is

pub returns-in-Some-Replaced : goal.returns-in-Some-Replaced
returns-in-Some-Replaced c = defines-over c.requires.begins c.requires.text_len_bound.0 c.begin.result _ c.begin.ensures (c.in-Some-Replaced.is ∙ ap Some c.in-Some-Replaced.field-0-is) c.count_redefinition-more.ensures c.fill.ensures

pub returns-in-Some-Added : goal.returns-in-Some-Added
returns-in-Some-Added c = defines_in c.requires.begins c.requires.text_len_bound.0 c.begin.result _ c.begin.ensures (c.in-Some-Added.is ∙ ap Some c.in-Some-Added.field-0-is) c.fill-in-Some-Added.ensures
