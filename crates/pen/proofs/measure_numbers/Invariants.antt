-- `pen::measure_numbers` meets its contract, by the invariant of `write_numbers` in a room of no bytes.
use mathlib.Core.List.{[]}
use Rattle.pen.proofs.Numbers.{Along}
use Rattle.pen.proofs.measure_numbers.Given as goal

abbrev pub invariant-loop-i : goal.invariant-loop-i
invariant-loop-i l = Along [] [] l.start l.at l.numbers l.i
