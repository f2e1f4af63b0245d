-- `gather_by` meets its contract: `Gathering` holds before each command, and what is left of the text falls.
use mathlib.Core.Path.{refl}
use native.Mathlib.Omega.{arith}
use Rattle.marks.proofs.Gathering.{read_as, gather_begin, gather_out, gather_other, gather_layer, gather_over, any_marking}
use Rattle.marks.proofs.gather_by.Goals as goal

pub loop-c-init : goal.loop-c-init
loop-c-init c = gather_begin _ _ c.requires.1 refl refl

pub read_command-requires : goal.read_command-requires
read_command-requires c = record { fit = (c.loop-c.invariant.fit, omega arith, omega arith) }

pub returns : goal.returns
returns c = any_marking _ c.loop-c.invariant.is_marked (gather_out c.loop-c.invariant c.read_command.result _ c.read_command.ensures c.in_default.is)

pub note-requires : goal.note-requires
note-requires c = c.loop-c.invariant.noted.few

pub returns-then-not-note : goal.returns-then-not-note
returns-then-not-note c = any_marking _ c.loop-c.invariant.is_marked (gather_over c.loop-c.invariant (read_as c.read_command.ensures c.in-Some.is).1 c.if-c-eq76.true c.size_at-name.ensures c.note.ensures c.if-not-note.true)

pub loop-c-smaller-else-not-note : goal.loop-c-smaller-else-not-note
loop-c-smaller-else-not-note c = let r = (read_as c.read_command.ensures c.in-Some.is).1 in omega (arith, r.ahead, r.fit.within)

pub loop-c-preserved-else-not-note : goal.loop-c-preserved-else-not-note
loop-c-preserved-else-not-note c = gather_layer c.loop-c.invariant (read_as c.read_command.ensures c.in-Some.is).1 c.if-c-eq76.true c.size_at-name.ensures c.note.ensures c.if-not-note.false

pub loop-c-smaller : goal.loop-c-smaller
loop-c-smaller c = let r = (read_as c.read_command.ensures c.in-Some.is).1 in omega (arith, r.ahead, r.fit.within)

pub loop-c-preserved : goal.loop-c-preserved
loop-c-preserved c = gather_other c.loop-c.invariant (read_as c.read_command.ensures c.in-Some.is).1 c.if-c-eq76.false
