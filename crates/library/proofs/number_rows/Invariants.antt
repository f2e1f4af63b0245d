-- `number_rows` meets its contract, row by row (proofs/Walking.antt).
use Rattle.library.specs.Moving.{Tagged}
use Rattle.library.proofs.number_rows.Given as goal

abbrev pub invariant-loop-i : goal.invariant-loop-i
invariant-loop-i l = Tagged l.rows l.initial.bodies l.i 0 l.bodies l.firsts
