-- `needed_between` meets its contract.
use Rattle.std.proofs.Common.{◌+◌, arith}
use Rattle.library.specs.Memory.{needed_at}
use Rattle.library.proofs.Sums.{sum_next, sum_rises}
use Rattle.library.proofs.needed_between.Goals as goal

pub overflow_add-sum : goal.overflow_add-sum
overflow_add-sum c =
    let a = sum_next (needed_at c.args.rows.now) c.loop-i.i in
    let b = sum_rises (needed_at c.args.rows.now) (c.loop-i.i + 1) c.args.live (omega arith) in
    omega arith

pub loop-i-preserved : goal.loop-i-preserved
loop-i-preserved c = let a = sum_next (needed_at c.args.rows.now) c.loop-i.i in omega arith
