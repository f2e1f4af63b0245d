-- `keep_text` meets its contract: `Along` holds before each command, and what is left of the text falls.
use mathlib.Core.Path.{◌≡◌}
use native.Mathlib.Omega.{arith}
use borrow.Author.Rules.{rules}
use Rattle.std.specs.Prelude.{Ok, Err}
use Rattle.definition.specs.declared.Rule.{Rule}
use Rattle.definition.specs.Rules.{refuse}
use Rattle.passing.proofs.Reading.{read_one}
use Rattle.summary.proofs.Along.{along_begin, few-redefined, may_delete, along_out, words_then, along_other, along_deleted, along-starts, along_begins, along_on, may_enter, along_defined, along_refused}
use Rattle.summary.proofs.keep_text.Goals as goal

pub loop-c-init : goal.loop-c-init
loop-c-init c = along_begin _ _ _ _ _ c.requires.passed.0 c.requires.passed.1 c.requires.passed.2 c.requires.column_len c.no_counts-counts.ensures

pub read_command-requires : goal.read_command-requires
read_command-requires c = record { fit = (c.loop-c.invariant.fit, omega arith, omega arith) }

pub returns : goal.returns
returns c = along_out c.loop-c.invariant c.read_command.result _ c.read_command.ensures c.in_default.is

pub size_at-symbol-requires : goal.size_at-symbol-requires
size_at-symbol-requires c = let z = words_then c.loop-c.invariant c.requires.most_values_in_bounds.0 (read_one c.read_command.ensures c.in-Some.is).1 in omega (arith, z)

pub delete-stock-requires : goal.delete-stock-requires
delete-stock-requires c = may_delete c.loop-c.invariant

pub loop-c-smaller-then-kind-eq68 : goal.loop-c-smaller-then-kind-eq68
loop-c-smaller-then-kind-eq68 c = omega (arith, (read_one c.read_command.ensures c.in-Some.is).1.ahead, (read_one c.read_command.ensures c.in-Some.is).1.fit.within)

pub loop-c-preserved-then-kind-eq68 : goal.loop-c-preserved-then-kind-eq68
loop-c-preserved-then-kind-eq68 c = along_deleted c.loop-c.invariant c.requires.most_values_in_bounds.0 (read_one c.read_command.ensures c.in-Some.is).1 c.if-kind-eq68.true c.size_at-symbol.ensures c.delete-stock.ensures

pub start_in-start-requires : goal.start_in-start-requires
start_in-start-requires c = let z = words_then c.loop-c.invariant c.requires.most_values_in_bounds.0 (read_one c.read_command.ensures c.in-Some.is).1 in omega (arith, z)

pub define-requires : goal.define-requires
define-requires c = record { fit = ((read_one c.read_command.ensures c.in-Some.is).1.fit, (along-starts c.loop-c.invariant c.requires.most_values_in_bounds.0 (read_one c.read_command.ensures c.in-Some.is).1 c.if-kind-eq83.true _ c.start_in-start.ensures).0, (along-starts c.loop-c.invariant c.requires.most_values_in_bounds.0 (read_one c.read_command.ensures c.in-Some.is).1 c.if-kind-eq83.true _ c.start_in-start.ensures).1); text_len_bound = (c.loop-c.invariant.passed.short, few-redefined c.loop-c.invariant); begins = along_begins c.loop-c.invariant c.requires.most_values_in_bounds.0 (read_one c.read_command.ensures c.in-Some.is).1 c.if-kind-eq83.true _ c.start_in-start.ensures }

pub enter-requires : goal.enter-requires
enter-requires c =
    let q : c.define.result ≡ Ok c.in_ok-taken.taken = grind arith in
    record { column_len = c.loop-c.invariant.afresh.sized; more = (may_enter c.loop-c.invariant c.requires.most_values_in_bounds.0 (read_one c.read_command.ensures c.in-Some.is).1 c.if-kind-eq83.true _ c.start_in-start.ensures c.define.ensures q).0; stocked = ((may_enter c.loop-c.invariant c.requires.most_values_in_bounds.0 (read_one c.read_command.ensures c.in-Some.is).1 c.if-kind-eq83.true _ c.start_in-start.ensures c.define.ensures q).1.0, (may_enter c.loop-c.invariant c.requires.most_values_in_bounds.0 (read_one c.read_command.ensures c.in-Some.is).1 c.if-kind-eq83.true _ c.start_in-start.ensures c.define.ensures q).1.1, c.requires.most_values_in_bounds.1) }

pub loop-c-smaller-then-kind-eq83 : goal.loop-c-smaller-then-kind-eq83
loop-c-smaller-then-kind-eq83 c =
    let q : c.define.result ≡ Ok c.in_ok-taken.taken = grind arith in
    along_on c.loop-c.invariant c.requires.most_values_in_bounds.0 (read_one c.read_command.ensures c.in-Some.is).1 c.if-kind-eq83.true _ c.start_in-start.ensures c.define.ensures q

pub loop-c-preserved-then-kind-eq83 : goal.loop-c-preserved-then-kind-eq83
loop-c-preserved-then-kind-eq83 c =
    let q : c.define.result ≡ Ok c.in_ok-taken.taken = grind arith in
    along_defined c.loop-c.invariant c.requires.most_values_in_bounds.0 (read_one c.read_command.ensures c.in-Some.is).1 c.if-kind-eq83.true _ c.start_in-start.ensures c.define.ensures q c.enter.ensures

pub returns-in_err-taken : goal.returns-in_err-taken
returns-in_err-taken c =
    let q : (rule : Rule) × (c.define.result ≡ Err rule) × (c.from_residual.result ≡ Err (refuse rule c.in-Some.c.place)) = search rules in
    rw q.2 (along_refused c.loop-c.invariant c.requires.most_values_in_bounds.0 (read_one c.read_command.ensures c.in-Some.is).1 c.if-kind-eq83.true _ c.start_in-start.ensures c.define.ensures {rule = q.0} q.1)

pub loop-c-smaller : goal.loop-c-smaller
loop-c-smaller c = omega (arith, (read_one c.read_command.ensures c.in-Some.is).1.ahead, (read_one c.read_command.ensures c.in-Some.is).1.fit.within)

pub loop-c-preserved : goal.loop-c-preserved
loop-c-preserved c = along_other c.loop-c.invariant c.requires.most_values_in_bounds.0 (read_one c.read_command.ensures c.in-Some.is).1 c.if-kind-eq68.false c.if-kind-eq83.false
