-- `pen::put_line` meets its contract: a line is measured, or stored without tests, or byte by byte.
use mathlib.Core.List.{[], ◌∷◌}
use native.Mathlib.Omega.{arith}
use lib.ListN.{length-append}
use Rattle.definition.specs.Flat.{spaced}
use Rattle.digits.proofs.Writing.{only_counted}
use Rattle.pen.proofs.put_line.Goals as goal

pub returns-then-room-at-clause-writes : goal.returns-then-room-at-clause-writes
returns-then-room-at-clause-writes c = only_counted c.if-room-at.true (omega (arith, c.measure_numbers.ensures.0, length-append (spaced c.args.numbers.now) (59 ∷ 10 ∷ [])))
