-- `is_open` meets its contract. The invariant: none of the calls looked at is one of this symbol.
use Rattle.std.proofs.Common.{sym}
use Rattle.chain.proofs.Runs.{among_none, not_here, is_here, among_all}
use Rattle.chain.proofs.is_open.Goals as goal

pub loop-i-init : goal.loop-i-init
loop-i-init c = among_none _ _

pub returns-then-run-i : goal.returns-then-run-i
returns-then-run-i c = sym (is_here c.args.run.now c.args.symbol c.loop-i.i c.args.level c.loop-i-test.true c.if-run-i.true)

pub loop-i-preserved : goal.loop-i-preserved
loop-i-preserved c = not_here c.args.run.now c.args.symbol c.loop-i.i c.loop-i.invariant c.if-run-i.false

pub returns : goal.returns
returns c = sym (among_all c.args.run.now c.args.symbol c.loop-i.i c.args.level c.loop-i.auto.i-end c.loop-i-test.false c.loop-i.invariant)
