-- `read_command` meets its contract: Seeking holds up to a first letter, the run is as it was, and what is left of the text falls.
use mathlib.Core.Path.{refl, ap}
use Rattle.grammar.specs.Steps.{number}
use Rattle.pieces.specs.declared.Begun.{Begun}
use Rattle.pieces.proofs.Finds.{finds, mark-less}
use Rattle.commands.proofs.Wording.{seeking_start, seeking_ended, seeking_past, seeking_found}
use Rattle.commands.proofs.read_command.Goals as goal

pub loop-m-init : goal.loop-m-init
loop-m-init c = (seeking_start _ _ c.requires.fit.0, refl)

pub next_mark-m-requires : goal.next_mark-m-requires
next_mark-m-requires c = record { fit = c.loop-m.invariant.0.fit }

pub returns-then-mark-eq-SKIP : goal.returns-then-mark-eq-SKIP
unfolding number
returns-then-mark-eq-SKIP c = (seeking_ended c.loop-m.invariant.0 (c.next_mark-m.ensures.none c.if-mark-eq-SKIP.true), c.loop-m.invariant.1)

pub read_items-requires : goal.read_items-requires
unfolding number
read_items-requires c = record { fit = ((c.next_mark-m.ensures.first c.if-mark-eq-HEAD.true).fit, c.requires.fit.1, c.requires.fit.2) }

pub returns-then-mark-eq-HEAD : goal.returns-then-mark-eq-HEAD
unfolding number
returns-then-mark-eq-HEAD c = seeking_found c.loop-m.invariant.0 (c.next_mark-m.ensures.first c.if-mark-eq-HEAD.true) (ap (λ (m : Begun). m.to) c.next_mark-m.ensures.exact) c.loop-m.invariant.1 c.args.a c.args.b c.read_items.result _ c.read_items.ensures

pub loop-m-smaller : goal.loop-m-smaller
unfolding number
loop-m-smaller c = mark-less c.next_mark-m.ensures c.if-mark-eq-SKIP.false

pub loop-m-preserved : goal.loop-m-preserved
unfolding number
loop-m-preserved c = (seeking_past c.loop-m.invariant.0 (finds c.next_mark-m.ensures) (ap (λ (m : Begun). m.to) c.next_mark-m.ensures.exact) c.if-mark-eq-SKIP.false c.if-mark-eq-HEAD.false, c.loop-m.invariant.1)
