-- `keep_command` meets its contract: what it answers is in proofs/Answered.antt.
use Rattle.std.proofs.Common.{◌≡◌, ◌∙◌, ◌&&◌, None, refl, arith}
use lib.Dec.{eqb}
use Rattle.rules.specs.Letters.{letter_l}
use Rattle.keeping.proofs.Answered.{answers_none, answers-last, answers_by, answers-tight, answers_storable, answers-stored}
use Rattle.keeping.proofs.keep_command.Goals as goal
use Rattle.keeping.proofs.keep_command.Goals.{then-layered, else-layered}

pub returns-then-kind-eq70 : goal.returns-then-kind-eq70
returns-then-kind-eq70 c = λ live g. answers-last g c.requires.fit.0 c.read_command.result _ c.read_command.ensures c.in-Some.is c.if-kind-eq70.true

pub returns-then-bodies-used : goal.returns-then-bodies-used
returns-then-bodies-used c = λ live g. answers-tight g c.requires.fit.0 c.read_command.result _ c.read_command.ensures c.in-Some.is c.if-kind-eq70.false c.is_step.ensures c.if-not-is_step.false c.if-bodies-used.true

pub store-more-requires : goal.store-more-requires
store-more-requires c =
    let idle_is : c.if-layered.idle ≡ (c.args.layered && eqb c.in-Some.field-0.kind letter_l) =
    elim c.if-layered.branch [ then-layered w ↦ rw w.if-layered.true w.idle-is | else-layered w ↦ rw w.if-layered.false (w.idle-is ∙ w.if-layered.false) ] in
    answers_storable c.requires.by_index.1 c.requires.fit.0 c.read_command.result _ c.read_command.ensures c.in-Some.is c.if-kind-eq70.false c.is_step.ensures c.if-not-is_step.false c.if-bodies-used.false {layer = eqb c.in-Some.field-0.kind letter_l} refl idle_is

pub returns : goal.returns
returns c =
    let idle_is : c.if-layered.idle ≡ (c.args.layered && eqb c.in-Some.field-0.kind letter_l) =
    elim c.if-layered.branch [ then-layered w ↦ rw w.if-layered.true w.idle-is | else-layered w ↦ rw w.if-layered.false (w.idle-is ∙ w.if-layered.false) ] in
    λ live g. answers-stored g c.requires.fit.0 c.read_command.result _ c.read_command.ensures c.in-Some.is c.if-kind-eq70.false c.is_step.ensures c.if-not-is_step.false c.if-bodies-used.false {layer = eqb c.in-Some.field-0.kind letter_l} refl idle_is c.store-more.ensures

pub returns-in_default : goal.returns-in_default
returns-in_default c =
    let none : c.read_command.result ≡ None = grind arith in
    λ live g. answers_none g c.requires.fit.0 c.read_command.result _ c.read_command.ensures none

pub returns-then-not-is_step : goal.returns-then-not-is_step
returns-then-not-is_step c = λ live g. answers_by g c.requires.fit.0 c.read_command.result _ c.read_command.ensures c.in-Some.is c.if-kind-eq70.false c.is_step.ensures c.if-not-is_step.true
