-- `draw_commands` meets its contract: the text stands in the same drawing after each command (proofs/Onward.antt, proofs/Along.antt).
use Rattle.std.specs.Prelude.{None, Ok, Err}
use Rattle.std.proofs.lemmas.Result.{err_from_is_err_and}
use mathlib.Core.Path.{◌≡◌, sym, ap, ◌∙◌}
use native.Mathlib.Omega.{arith}
use borrow.Author.Rules.{rules}
use Rattle.definition.specs.Rules.{refuse}
use Rattle.definition.specs.declared.Rule.{Rule}
use Rattle.passing.proofs.Reading.{read_one, run_kept}
use Rattle.between.proofs.Onward.{layer_fits, text-layer, text-delete, text-starts, text_begins, text-ahead, text-counts, text_defined, text-barred, text-idle, text_says, text_shown, text-stopped, text-calls}
use Rattle.between.proofs.Along.{begins_along, now-paused, few-redefined, reached-now, may_delete, big_now, comes_so, goes-along, all_read, long_now, over-grows, stopped-grows, grows_shown, grows-calls}
use Rattle.between.proofs.draw_commands.Goals as goal

pub loop-command-init : goal.loop-command-init
loop-command-init c = begins_along _ c.requires.pausing

pub read_command-requires : goal.read_command-requires
read_command-requires c = record { fit = ((now-paused c.loop-command.invariant).fit, omega arith, omega arith) }

pub returns : goal.returns
returns c = let none : c.read_command.result ≡ None = search rules in record { text_comes = all_read c.loop-command.invariant c.read_command.result _ c.read_command.ensures none; text_grows = over-grows c.loop-command.invariant }

pub slice_copy_out-layer : goal.slice_copy_out-layer
slice_copy_out-layer c = omega (arith, (long_now c.loop-command.invariant c.requires.most_values_in_bounds.0 (read_one c.read_command.ensures c.in-Some.is).1))

pub overflow_cast-layer : goal.overflow_cast-layer
overflow_cast-layer c = layer_fits (now-paused c.loop-command.invariant) (big_now c.loop-command.invariant c.requires.most_values_in_bounds.0) (read_one c.read_command.ensures c.in-Some.is).1 c.if-kind-eq76.true (search rules)

pub loop-command-smaller-then-kind-eq76 : goal.loop-command-smaller-then-kind-eq76
loop-command-smaller-then-kind-eq76 c = let one = (read_one c.read_command.ensures c.in-Some.is).1 in omega (arith, one.ahead, one.fit.within)

pub loop-command-preserved-then-kind-eq76 : goal.loop-command-preserved-then-kind-eq76
loop-command-preserved-then-kind-eq76 c = goes-along c.loop-command.invariant (run_kept (read_one c.read_command.ensures c.in-Some.is).1) (omega arith) (λ w all r₀ p. text-layer p (big_now c.loop-command.invariant c.requires.most_values_in_bounds.0) (read_one c.read_command.ensures c.in-Some.is).1 c.if-kind-eq76.true (search rules))

pub size_at-symbol-requires : goal.size_at-symbol-requires
size_at-symbol-requires c = omega (arith, (long_now c.loop-command.invariant c.requires.most_values_in_bounds.0 (read_one c.read_command.ensures c.in-Some.is).1))

pub delete-stock-requires : goal.delete-stock-requires
delete-stock-requires c = may_delete c.loop-command.invariant

pub loop-command-smaller-then-kind-eq68 : goal.loop-command-smaller-then-kind-eq68
loop-command-smaller-then-kind-eq68 c = let one = (read_one c.read_command.ensures c.in-Some.is).1 in omega (arith, one.ahead, one.fit.within)

pub loop-command-preserved-then-kind-eq68 : goal.loop-command-preserved-then-kind-eq68
loop-command-preserved-then-kind-eq68 c = goes-along c.loop-command.invariant (run_kept (read_one c.read_command.ensures c.in-Some.is).1) (omega arith) (λ w all r₀ p. text-delete p (big_now c.loop-command.invariant c.requires.most_values_in_bounds.0) (read_one c.read_command.ensures c.in-Some.is).1 c.if-kind-eq68.true c.size_at-symbol.ensures c.delete-stock.ensures)

pub start_in-start-requires : goal.start_in-start-requires
start_in-start-requires c = long_now c.loop-command.invariant c.requires.most_values_in_bounds.0 (read_one c.read_command.ensures c.in-Some.is).1

pub define-requires : goal.define-requires
define-requires c = record { fit = ((read_one c.read_command.ensures c.in-Some.is).1.fit, (text-starts (now-paused c.loop-command.invariant) (big_now c.loop-command.invariant c.requires.most_values_in_bounds.0) (read_one c.read_command.ensures c.in-Some.is).1 c.if-kind-eq83.true _ c.start_in-start.ensures).0, (text-starts (now-paused c.loop-command.invariant) (big_now c.loop-command.invariant c.requires.most_values_in_bounds.0) (read_one c.read_command.ensures c.in-Some.is).1 c.if-kind-eq83.true _ c.start_in-start.ensures).1); text_len_bound = ((now-paused c.loop-command.invariant).short, few-redefined c.loop-command.invariant); begins = text_begins (now-paused c.loop-command.invariant) (big_now c.loop-command.invariant c.requires.most_values_in_bounds.0) (read_one c.read_command.ensures c.in-Some.is).1 c.if-kind-eq83.true _ c.start_in-start.ensures }

pub loop-command-smaller-then-kind-eq83 : goal.loop-command-smaller-then-kind-eq83
loop-command-smaller-then-kind-eq83 c = let taken : c.define.result ≡ Ok c.in_ok-taken.taken = search rules in text-ahead (now-paused c.loop-command.invariant) (big_now c.loop-command.invariant c.requires.most_values_in_bounds.0) (read_one c.read_command.ensures c.in-Some.is).1 c.if-kind-eq83.true _ c.start_in-start.ensures c.define.ensures taken

pub loop-command-preserved-then-kind-eq83 : goal.loop-command-preserved-then-kind-eq83
loop-command-preserved-then-kind-eq83 c = let taken : c.define.result ≡ Ok c.in_ok-taken.taken = search rules in goes-along c.loop-command.invariant (run_kept (read_one c.read_command.ensures c.in-Some.is).1) (text-counts (now-paused c.loop-command.invariant) (big_now c.loop-command.invariant c.requires.most_values_in_bounds.0) (read_one c.read_command.ensures c.in-Some.is).1 c.if-kind-eq83.true _ c.start_in-start.ensures c.define.ensures taken) (λ w all r₀ p. text_defined p (big_now c.loop-command.invariant c.requires.most_values_in_bounds.0) (read_one c.read_command.ensures c.in-Some.is).1 c.if-kind-eq83.true _ c.start_in-start.ensures c.define.ensures taken)

pub returns-in_err-taken : goal.returns-in_err-taken
returns-in_err-taken c =
    let q : (rule : Rule) × (c.define.result ≡ Err rule) × (c.from_residual.result ≡ Err (refuse rule c.in-Some.command.place)) = search rules in
    record { text_comes = comes_so c.loop-command.invariant (λ w all r₀ p. text-barred p (big_now c.loop-command.invariant c.requires.most_values_in_bounds.0) (read_one c.read_command.ensures c.in-Some.is).1 c.if-kind-eq83.true _ c.start_in-start.ensures c.define.ensures {rule = q.0} q.1 q.2); text_grows = stopped-grows _ {why = refuse q.0 c.in-Some.command.place} q.2 }

pub draw_outer-requires : goal.draw_outer-requires
draw_outer-requires c = record { sorted = ((now-paused c.loop-command.invariant).stands.kept.sorted, c.requires.most_values_in_bounds.1, reached-now c.loop-command.invariant); says = (_, text_says (now-paused c.loop-command.invariant) (big_now c.loop-command.invariant c.requires.most_values_in_bounds.0) (read_one c.read_command.ensures c.in-Some.is).1 c.if-kind-eq76.false c.if-kind-eq68.false c.if-kind-eq83.false (sym c.draws.ensures ∙ c.if-draws.true) (long_now c.loop-command.invariant c.requires.most_values_in_bounds.0 (read_one c.read_command.ensures c.in-Some.is).1)) }

pub loop-command-smaller-in-Shown : goal.loop-command-smaller-in-Shown
loop-command-smaller-in-Shown c = let one = (read_one c.read_command.ensures c.in-Some.is).1 in omega (arith, one.ahead, one.fit.within)

pub loop-command-preserved-in-Shown : goal.loop-command-preserved-in-Shown
loop-command-preserved-in-Shown c = goes-along c.loop-command.invariant (run_kept (read_one c.read_command.ensures c.in-Some.is).1) (grows_shown c.loop-command.invariant c.draw_outer.ensures.outer_grows (c.in_ok-shown.was ∙ ap Ok c.in-Shown.is)) (λ w all r₀ p. text_shown p (big_now c.loop-command.invariant c.requires.most_values_in_bounds.0) (read_one c.read_command.ensures c.in-Some.is).1 c.if-kind-eq76.false c.if-kind-eq68.false c.if-kind-eq83.false (sym c.draws.ensures ∙ c.if-draws.true) (long_now c.loop-command.invariant c.requires.most_values_in_bounds.0 (read_one c.read_command.ensures c.in-Some.is).1) c.draw_outer.ensures.outer_comes (c.in_ok-shown.was ∙ ap Ok c.in-Shown.is))

pub returns-in-Opens : goal.returns-in-Opens
returns-in-Opens c = record { text_comes = comes_so c.loop-command.invariant (λ w all r₀ p. text-calls p (big_now c.loop-command.invariant c.requires.most_values_in_bounds.0) (read_one c.read_command.ensures c.in-Some.is).1 c.if-kind-eq76.false c.if-kind-eq68.false c.if-kind-eq83.false (sym c.draws.ensures ∙ c.if-draws.true) (long_now c.loop-command.invariant c.requires.most_values_in_bounds.0 (read_one c.read_command.ensures c.in-Some.is).1) c.draw_outer.ensures.outer_comes (c.in_ok-shown.was ∙ ap Ok c.in-Opens.is)); text_grows = grows-calls c.loop-command.invariant c.draw_outer.ensures.outer_grows _ (c.in_ok-shown.was ∙ ap Ok c.in-Opens.is) }

pub returns-in_err-shown : goal.returns-in_err-shown
returns-in_err-shown c = let p = err_from_is_err_and _ c.from_residual-in_err-shown.ensures.1 in let is = p.1 ∙ ap Err p.2 in record { text_comes = comes_so c.loop-command.invariant (λ w all r₀ p. text-stopped p (big_now c.loop-command.invariant c.requires.most_values_in_bounds.0) (read_one c.read_command.ensures c.in-Some.is).1 c.if-kind-eq76.false c.if-kind-eq68.false c.if-kind-eq83.false (sym c.draws.ensures ∙ c.if-draws.true) (long_now c.loop-command.invariant c.requires.most_values_in_bounds.0 (read_one c.read_command.ensures c.in-Some.is).1) c.draw_outer.ensures.outer_comes c.in_err-shown.was is); text_grows = stopped-grows _ is }

pub loop-command-smaller : goal.loop-command-smaller
loop-command-smaller c = let one = (read_one c.read_command.ensures c.in-Some.is).1 in omega (arith, one.ahead, one.fit.within)

pub loop-command-preserved : goal.loop-command-preserved
loop-command-preserved c = goes-along c.loop-command.invariant (run_kept (read_one c.read_command.ensures c.in-Some.is).1) (omega arith) (λ w all r₀ p. text-idle p (big_now c.loop-command.invariant c.requires.most_values_in_bounds.0) (read_one c.read_command.ensures c.in-Some.is).1 c.if-kind-eq76.false c.if-kind-eq68.false c.if-kind-eq83.false (sym c.draws.ensures ∙ c.if-draws.false))
