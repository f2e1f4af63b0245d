-- `clear` meets its contract: the next record is put to zero, or all are (proofs/Starting.antt).
use native.Mathlib.Omega.{arith}
use Rattle.machine.proofs.Starting.{sooner, clear_next, all_blank}
use Rattle.machine.proofs.clear.Goals as goal

pub returns-then-next-records : goal.returns-then-next-records
returns-then-next-records c = λ h fs x done le. clear_next x done c.if-next-records.true (rw (c.zero_to.ensures, c.fresh.ensures, c.accepted-none.ensures, c.no_counts.ensures))

pub start-requires : goal.start-requires
start-requires c = (_, (_, (c.requires.1.1.0, all_blank c.requires.1.1.0 c.requires.1.1.1 (omega (arith, c.if-next-records.false)))))

pub returns : goal.returns
returns c = λ h fs x done le. sooner (c.start.ensures h fs x (all_blank x done (omega (arith, c.if-next-records.false)))) (omega arith)
