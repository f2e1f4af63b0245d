-- `warn_text` meets its contract: `Along` holds before each command, and what is left of the text falls.
use native.Mathlib.Omega.{arith}
use Rattle.passing.proofs.Reading.{read_one}
use Rattle.warning.proofs.Along.{along_begin, reached_far, few-redefined, may_delete, along_out, words_then, along_other, may_search, along_deleted, along-starts, along_begins, along_on, along_defined, along_refused}
use Rattle.warning.proofs.warn_text.Goals as goal

pub loop-c-init : goal.loop-c-init
loop-c-init c = along_begin _ _ _ _ _ c.requires.passed.0 c.requires.passed.1 c.requires.passed.2 c.no_counts-counts.ensures

pub read_command-requires : goal.read_command-requires
read_command-requires c = record { fit = (c.loop-c.invariant.fit, omega arith, omega arith) }

pub returns : goal.returns
returns c = along_out c.loop-c.invariant c.read_command.result _ c.read_command.ensures c.in_default.is

pub size_at-symbol-requires : goal.size_at-symbol-requires
size_at-symbol-requires c = let z = words_then c.loop-c.invariant c.requires.most_values_in_bounds.0 (read_one c.read_command.ensures c.in-Some.is).1 in omega (arith, z)

pub delete-left-requires : goal.delete-left-requires
delete-left-requires c = may_delete c.loop-c.invariant

pub find_dangling-found-requires : goal.find_dangling-found-requires
find_dangling-found-requires c = record { sorted = may_search c.loop-c.invariant c.requires.most_values_in_bounds.0 (read_one c.read_command.ensures c.in-Some.is).1 c.if-kind-eq68.true c.size_at-symbol.ensures c.delete-left.ensures; searched = c.loop-c.invariant.last }

pub put_dangling-at-requires : goal.put_dangling-at-requires
put_dangling-at-requires c = reached_far c.loop-c.invariant c.requires.most_values_in_bounds.1

pub loop-c-smaller-then-kind-eq68 : goal.loop-c-smaller-then-kind-eq68
loop-c-smaller-then-kind-eq68 c = omega (arith, (read_one c.read_command.ensures c.in-Some.is).1.ahead, (read_one c.read_command.ensures c.in-Some.is).1.fit.within)

pub loop-c-preserved-then-kind-eq68 : goal.loop-c-preserved-then-kind-eq68
loop-c-preserved-then-kind-eq68 c = along_deleted c.loop-c.invariant c.requires.most_values_in_bounds.0 (read_one c.read_command.ensures c.in-Some.is).1 c.if-kind-eq68.true c.size_at-symbol.ensures c.delete-left.ensures c.find_dangling-found.ensures c.put_dangling-at.ensures

pub start_in-start-requires : goal.start_in-start-requires
start_in-start-requires c = let z = words_then c.loop-c.invariant c.requires.most_values_in_bounds.0 (read_one c.read_command.ensures c.in-Some.is).1 in omega (arith, z)

pub define-requires : goal.define-requires
define-requires c = record { fit = ((read_one c.read_command.ensures c.in-Some.is).1.fit, (along-starts c.loop-c.invariant c.requires.most_values_in_bounds.0 (read_one c.read_command.ensures c.in-Some.is).1 c.if-kind-eq83.true _ c.start_in-start.ensures).0, (along-starts c.loop-c.invariant c.requires.most_values_in_bounds.0 (read_one c.read_command.ensures c.in-Some.is).1 c.if-kind-eq83.true _ c.start_in-start.ensures).1); text_len_bound = (c.loop-c.invariant.passed.short, few-redefined c.loop-c.invariant); begins = along_begins c.loop-c.invariant c.requires.most_values_in_bounds.0 (read_one c.read_command.ensures c.in-Some.is).1 c.if-kind-eq83.true _ c.start_in-start.ensures }

pub put_redefined-at-requires : goal.put_redefined-at-requires
put_redefined-at-requires c = reached_far c.loop-c.invariant c.requires.most_values_in_bounds.1

pub loop-c-smaller-in-Ok : goal.loop-c-smaller-in-Ok
loop-c-smaller-in-Ok c = along_on c.loop-c.invariant c.requires.most_values_in_bounds.0 (read_one c.read_command.ensures c.in-Some.is).1 c.if-kind-eq83.true _ c.start_in-start.ensures c.define.ensures c.in-Ok.is

pub loop-c-preserved-in-Ok : goal.loop-c-preserved-in-Ok
loop-c-preserved-in-Ok c = along_defined c.loop-c.invariant c.requires.most_values_in_bounds.0 (read_one c.read_command.ensures c.in-Some.is).1 c.if-kind-eq83.true _ c.start_in-start.ensures c.define.ensures c.in-Ok.is c.put_redefined-at.ensures

pub returns-in-Err : goal.returns-in-Err
returns-in-Err c = along_refused c.loop-c.invariant c.requires.most_values_in_bounds.0 (read_one c.read_command.ensures c.in-Some.is).1 c.if-kind-eq83.true _ c.start_in-start.ensures c.define.ensures c.in-Err.is

pub loop-c-smaller : goal.loop-c-smaller
loop-c-smaller c = omega (arith, (read_one c.read_command.ensures c.in-Some.is).1.ahead, (read_one c.read_command.ensures c.in-Some.is).1.fit.within)

pub loop-c-preserved : goal.loop-c-preserved
loop-c-preserved c = along_other c.loop-c.invariant c.requires.most_values_in_bounds.0 (read_one c.read_command.ensures c.in-Some.is).1 c.if-kind-eq68.false c.if-kind-eq83.false
