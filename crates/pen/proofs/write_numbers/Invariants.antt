-- `pen::write_numbers` meets its contract: the loop's invariant says how many numbers are written.
use Rattle.pen.proofs.Numbers.{Along}
use Rattle.pen.proofs.write_numbers.Given as goal

abbrev pub invariant-loop-i : goal.invariant-loop-i
invariant-loop-i g l = Along l.initial.room l.room l.start l.at l.numbers l.i
