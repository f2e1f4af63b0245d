-- `position_of` meets its contract: the pass keeps line and column of the next byte (Passes).
use native.Mathlib.Omega.{arith}
use Prim.Native.Nat.{ℕ}
use lib.ListN.{take}
use Rattle.std.proofs.lemmas.List.{take_more, length-take}
use Rattle.position.proofs.Passes.{begin, at_line_end, at_other, found}
use Rattle.position.proofs.position_of.Goals.{then-b-eq-LINE_END, else-b-eq-LINE_END}
use Rattle.position.proofs.position_of.Goals as goal

pub loop-b-init : goal.loop-b-init
loop-b-init c = begin

pub overflow_add-line : goal.overflow_add-line
overflow_add-line c = omega (arith, c.loop-b.invariant.short-line, length-take {A = ℕ})

pub overflow_add-column : goal.overflow_add-column
overflow_add-column c = omega (arith, c.loop-b.invariant.short_column, length-take {A = ℕ})

pub loop-b-preserved : goal.loop-b-preserved
loop-b-preserved c =
    rw (take_more (take c.min.result c.args.text.now) c.loop-b.b-index 0 c.loop-b-test.true)
    (elim c.if-b-eq-LINE_END.branch [
      | then-b-eq-LINE_END w ↦ rw (w.line-is, w.column-is) (at_line_end c.loop-b.invariant w.if-b-eq-LINE_END.true)
      | else-b-eq-LINE_END w ↦ rw (w.line-is, w.column-is) (at_other c.loop-b.invariant w.if-b-eq-LINE_END.false)
    ])

pub returns : goal.returns
returns c = found c.loop-b.invariant c.loop-b-test.false (omega arith)
