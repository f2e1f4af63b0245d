-- `begin` meets its contract: 1; then 2; then 3 to 9 and 19.
use mathlib.Core.Path.{◌≡◌, sym}
use Prim.Native.Nat.{ℕ}
use borrow.Author.Rules.{rules}
use Rattle.std.specs.Prelude.{Err}
use Rattle.definition.specs.declared.Rule.TheVariants.{TooManyLayers}
use Rattle.definition.specs.Rules.{refuse}
use borrow.Author.Tests.{ltb-true, ltb-false}
use Rattle.summary.proofs.Starting.{by_number, before-commands, by_commands, passed}
use Rattle.reader.proofs.Promises.{passes}
use Rattle.summary.proofs.begin.Goals as goal

pub returns-then-precedes_commands : goal.returns-then-precedes_commands
returns-then-precedes_commands c = before-commands c.first_fault.ensures c.in-Err.is (ltb-true _ _ (sym c.if-precedes_commands.ensures))

pub foremost-requires : goal.foremost-requires
foremost-requires c = (by_number c.first_fault.ensures c.in-Err.is (ltb-false _ _ (sym c.if-precedes_commands.ensures))).grammatical

pub returns-else-precedes_commands : goal.returns-else-precedes_commands
returns-else-precedes_commands c = by_commands (by_number c.first_fault.ensures c.in-Err.is (ltb-false _ _ (sym c.if-precedes_commands.ensures))) c.foremost.ensures

pub gather-requires : goal.gather-requires
gather-requires c = let p = (passes c.first_fault.ensures c.in-Ok.is).passed in (p.letters, p.marked)

pub returns-in-Ok : goal.returns-in-Ok
returns-in-Ok c =
    let over : (q : ℕ) → c.gather.result ≡ Err q → c.map_err.result ≡ Err (refuse TooManyLayers q) = λ q e. search rules in
    passed (passes c.first_fault.ensures c.in-Ok.is).passed c.gather.result c.gather.ensures (λ n e. rw e at c.map_err.ensures.cases) over
