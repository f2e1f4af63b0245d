-- `recognised` meets its contract: where the loop stands, what is left of the text decides as the whole text does.
use mathlib.Core.Path.{sym, ap, ◌∙◌, subst}
use mathlib.Core.List.{List}
use Prim.Native.Nat.{ℕ, ◌≤◌}
use lib.ListN.{get_or, length}
use Rattle.grammar.specs.Viable.{Judged}
use Rattle.grammar.specs.Steps.{mode}
use Rattle.grammar.specs.declared.Mode.{Mode}
use Rattle.grammar.proofs.Ahead.{plain_is}
use Rattle.grammar.proofs.Steps.{stops, ends_in, ends-deep, ends_out, going_on}
use Rattle.grammar.proofs.Verdicts.{settled}
use borrow.Author.Rules.{rules}
use mathlib.Core.Path.{refl}
use native.Mathlib.Omega.{arith}
use Rattle.grammar.proofs.recognised.Goals as goal
use Rattle.std.specs.Prelude.{Err, Ok}

pub loop-i-init : goal.loop-i-init
loop-i-init c = record { reached = search rules; state = search rules; depth = search rules; ahead = refl }

pub plain_next-ahead-requires : goal.plain_next-ahead-requires
plain_next-ahead-requires c = record { q_lt_state_count = c.loop-i.invariant.state }

pub loop-i-preserved-then-ahead-lt-DEEP : goal.loop-i-preserved-then-ahead-lt-DEEP
loop-i-preserved-then-ahead-lt-DEEP c = going_on c.args.text.now c.loop-i.q c.loop-i.d c.loop-i.i (λ i. (c.type_inv.text i).fits) c.loop-i.invariant c.loop-i-test.true (mode c.plain_next-ahead.result c.loop-i.d) (plain_is c.loop-i.q c.loop-i.d (get_or c.args.text.now c.loop-i.i 0) c.plain_next-ahead.result c.if-d-eq0.true c.plain_next-ahead.ensures c.if-ahead-lt-DEEP.true) (λ e. let h = c.if-ahead-lt-DEEP.true in omega arith)

pub step-to-requires : goal.step-to-requires
step-to-requires c = record { q_lt_state_count = (c.loop-i.invariant.state, let h = c.loop-i.invariant.depth in omega arith) }

pub returns-then-s-eq-STUCK : goal.returns-then-s-eq-STUCK
returns-then-s-eq-STUCK c = settled c.args.text.now (λ i. (c.type_inv.text i).fits) (Err c.loop-i.i) _ (stops c.args.text.now c.loop-i.q c.loop-i.d c.loop-i.i c.loop-i-test.true (ap (λ (p : Mode). p.state) (sym c.step-to.ensures.goes) ∙ c.if-s-eq-STUCK.true)) c.loop-i.invariant.ahead

pub loop-i-preserved : goal.loop-i-preserved
loop-i-preserved c = going_on c.args.text.now c.loop-i.q c.loop-i.d c.loop-i.i (λ i. (c.type_inv.text i).fits) c.loop-i.invariant c.loop-i-test.true (mode c.step-to.result.state c.step-to.result.depth) c.step-to.ensures.goes c.if-s-eq-STUCK.false

pub returns-then-d-eq0-2 : goal.returns-then-d-eq0-2
returns-then-d-eq0-2 c = settled c.args.text.now (λ i. (c.type_inv.text i).fits) (Ok tt) _ (ends_in c.args.text.now c.loop-i.q c.loop-i.d c.loop-i.i c.loop-i-test.false c.if-q-eq-ACCEPTING.true c.if-d-eq0-2.true) c.loop-i.invariant.ahead

-- the loop has gone through the whole text
at_the_end : (t : List ℕ) (i : ℕ) → length t ≤ i → i ≤ length t → Judged t (Err i) → Judged t (Err (length t))
at_the_end t i h k j = subst (λ (n : ℕ). Judged t (Err n)) (omega (arith, h, k)) j

pub returns-else-d-eq0-2 : goal.returns-else-d-eq0-2
returns-else-d-eq0-2 c = at_the_end _ _ c.loop-i-test.false c.loop-i.auto.i-end (settled c.args.text.now (λ i. (c.type_inv.text i).fits) (Err c.loop-i.i) _ (ends-deep c.args.text.now c.loop-i.q c.loop-i.d c.loop-i.i c.loop-i-test.false c.if-q-eq-ACCEPTING.true c.if-d-eq0-2.false) c.loop-i.invariant.ahead)

pub returns-else-q-eq-ACCEPTING : goal.returns-else-q-eq-ACCEPTING
returns-else-q-eq-ACCEPTING c = at_the_end _ _ c.loop-i-test.false c.loop-i.auto.i-end (settled c.args.text.now (λ i. (c.type_inv.text i).fits) (Err c.loop-i.i) _ (ends_out c.args.text.now c.loop-i.q c.loop-i.d c.loop-i.i c.loop-i-test.false c.if-q-eq-ACCEPTING.false) c.loop-i.invariant.ahead)
