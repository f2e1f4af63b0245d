-- `draw_text` meets its contract: `Passing` holds before each command, and what is left of the text falls.
use Rattle.std.specs.Prelude.{None, Err}
use mathlib.Core.Path.{◌≡◌, sym, ◌∙◌}
use native.Mathlib.Omega.{arith}
use borrow.Author.Rules.{rules}
use Rattle.passing.proofs.Reading.{read_one}
use Rattle.passing.proofs.Passing.{passing_begin, few-redefined, may_delete, ready, passing_out, words_then, layer_fits, passing_layer, passing_delete, passing_starts, passing_begins, defined_on, passing_defined, passing_unkept, passing_idle, passing_says, passing_drawn, passing_stopped}
use Rattle.passing.proofs.draw_text.Goals as goal

pub loop-kind-init : goal.loop-kind-init
loop-kind-init c = passing_begin _ _ _ _ _ _ c.requires.passed.0 c.requires.passed.1 c.requires.passed.2 c.no_counts-counts.ensures

pub read_command-requires : goal.read_command-requires
read_command-requires c = record { fit = (c.loop-kind.invariant.fit, omega arith, omega arith) }

pub returns : goal.returns
returns c =
    let none : c.read_command.result ≡ None = grind arith in
    passing_out c.loop-kind.invariant c.read_command.result _ c.read_command.ensures none

pub slice_copy_out-layer : goal.slice_copy_out-layer
slice_copy_out-layer c = omega (arith, words_then c.loop-kind.invariant c.requires.most_values_in_bounds.0 (read_one c.read_command.ensures c.in-Some.is).1)

pub overflow_cast-layer : goal.overflow_cast-layer
overflow_cast-layer c = layer_fits c.loop-kind.invariant c.requires.most_values_in_bounds.0 (read_one c.read_command.ensures c.in-Some.is).1 c.if-kind-eq76.true (search rules)

pub loop-kind-smaller-then-kind-eq76 : goal.loop-kind-smaller-then-kind-eq76
loop-kind-smaller-then-kind-eq76 c = omega (arith, (read_one c.read_command.ensures c.in-Some.is).1.ahead, (read_one c.read_command.ensures c.in-Some.is).1.fit.within)

pub loop-kind-preserved-then-kind-eq76 : goal.loop-kind-preserved-then-kind-eq76
loop-kind-preserved-then-kind-eq76 c = passing_layer c.loop-kind.invariant c.requires.most_values_in_bounds.0 (read_one c.read_command.ensures c.in-Some.is).1 c.if-kind-eq76.true (search rules)

pub size_at-symbol-requires : goal.size_at-symbol-requires
size_at-symbol-requires c = omega (arith, words_then c.loop-kind.invariant c.requires.most_values_in_bounds.0 (read_one c.read_command.ensures c.in-Some.is).1)

pub delete-stock-requires : goal.delete-stock-requires
delete-stock-requires c = may_delete c.loop-kind.invariant

pub loop-kind-smaller-then-kind-eq68 : goal.loop-kind-smaller-then-kind-eq68
loop-kind-smaller-then-kind-eq68 c = omega (arith, (read_one c.read_command.ensures c.in-Some.is).1.ahead, (read_one c.read_command.ensures c.in-Some.is).1.fit.within)

pub loop-kind-preserved-then-kind-eq68 : goal.loop-kind-preserved-then-kind-eq68
loop-kind-preserved-then-kind-eq68 c = passing_delete c.loop-kind.invariant c.requires.most_values_in_bounds.0 (read_one c.read_command.ensures c.in-Some.is).1 c.if-kind-eq68.true c.size_at-symbol.ensures c.delete-stock.ensures

pub start_in-start-requires : goal.start_in-start-requires
start_in-start-requires c = words_then c.loop-kind.invariant c.requires.most_values_in_bounds.0 (read_one c.read_command.ensures c.in-Some.is).1

pub define-requires : goal.define-requires
define-requires c = record { fit = ((read_one c.read_command.ensures c.in-Some.is).1.fit, (passing_starts c.loop-kind.invariant c.requires.most_values_in_bounds.0 (read_one c.read_command.ensures c.in-Some.is).1 c.if-kind-eq83.true _ c.start_in-start.ensures).0, (passing_starts c.loop-kind.invariant c.requires.most_values_in_bounds.0 (read_one c.read_command.ensures c.in-Some.is).1 c.if-kind-eq83.true _ c.start_in-start.ensures).1); text_len_bound = (c.requires.passed.0.short, few-redefined c.loop-kind.invariant); begins = passing_begins c.loop-kind.invariant c.requires.most_values_in_bounds.0 (read_one c.read_command.ensures c.in-Some.is).1 c.if-kind-eq83.true _ c.start_in-start.ensures }

pub loop-kind-smaller-in-Ok : goal.loop-kind-smaller-in-Ok
loop-kind-smaller-in-Ok c = defined_on c.loop-kind.invariant c.requires.most_values_in_bounds.0 (read_one c.read_command.ensures c.in-Some.is).1 c.if-kind-eq83.true _ c.start_in-start.ensures c.define.ensures c.in-Ok.is

pub loop-kind-preserved-in-Ok : goal.loop-kind-preserved-in-Ok
loop-kind-preserved-in-Ok c = passing_defined c.loop-kind.invariant c.requires.most_values_in_bounds.0 (read_one c.read_command.ensures c.in-Some.is).1 c.if-kind-eq83.true _ c.start_in-start.ensures c.define.ensures c.in-Ok.is

pub refuse_definition-requires : goal.refuse_definition-requires
refuse_definition-requires c = c.loop-kind.invariant.drawing_kept ∙ c.requires.most_values_in_bounds.2

pub returns-in-Err : goal.returns-in-Err
returns-in-Err c = passing_unkept c.loop-kind.invariant c.requires.most_values_in_bounds.0 (read_one c.read_command.ensures c.in-Some.is).1 c.if-kind-eq83.true _ c.start_in-start.ensures c.define.ensures c.refuse_definition.ensures c.in-Err.is

pub draw_outer-requires : goal.draw_outer-requires
draw_outer-requires c = record { ready = ready c.loop-kind.invariant c.requires.most_values_in_bounds.1 c.requires.most_values_in_bounds.2; says = passing_says c.loop-kind.invariant c.requires.most_values_in_bounds.0 (read_one c.read_command.ensures c.in-Some.is).1 c.if-kind-eq76.false c.if-kind-eq68.false c.if-kind-eq83.false (sym c.draws.ensures ∙ c.if-draws.true) }

pub loop-kind-smaller-then-draws : goal.loop-kind-smaller-then-draws
loop-kind-smaller-then-draws c = omega (arith, (read_one c.read_command.ensures c.in-Some.is).1.ahead, (read_one c.read_command.ensures c.in-Some.is).1.fit.within)

pub loop-kind-preserved-then-draws : goal.loop-kind-preserved-then-draws
loop-kind-preserved-then-draws c = passing_drawn c.loop-kind.invariant c.requires.most_values_in_bounds.0 (read_one c.read_command.ensures c.in-Some.is).1 c.if-kind-eq76.false c.if-kind-eq68.false c.if-kind-eq83.false (sym c.draws.ensures ∙ c.if-draws.true) _ c.draw_outer.ensures c.in_ok-ink.was c.draw_outer.auto.numbers c.draw_outer.auto.drawing

pub returns-in_err-ink : goal.returns-in_err-ink
returns-in_err-ink c =
    let e : c.from_residual.result ≡ Err c.in_err-ink.field-0.0 = grind arith in
    rw e (passing_stopped c.loop-kind.invariant c.requires.most_values_in_bounds.0 (read_one c.read_command.ensures c.in-Some.is).1 c.if-kind-eq76.false c.if-kind-eq68.false c.if-kind-eq83.false (sym c.draws.ensures ∙ c.if-draws.true) _ c.draw_outer.ensures c.in_err-ink.was)

pub loop-kind-smaller : goal.loop-kind-smaller
loop-kind-smaller c = omega (arith, (read_one c.read_command.ensures c.in-Some.is).1.ahead, (read_one c.read_command.ensures c.in-Some.is).1.fit.within)

pub loop-kind-preserved : goal.loop-kind-preserved
loop-kind-preserved c = passing_idle c.loop-kind.invariant c.requires.most_values_in_bounds.0 (read_one c.read_command.ensures c.in-Some.is).1 c.if-kind-eq76.false c.if-kind-eq68.false c.if-kind-eq83.false (sym c.draws.ensures ∙ c.if-draws.false)
