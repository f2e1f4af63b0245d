-- `pen::write_line` meets its contract: the letter, the numbers and the line's end, one write after the other.
use Rattle.digits.proofs.Writing.{both}
use Rattle.pen.proofs.write_line.Goals as goal

pub returns-clause-writes : goal.returns-clause-writes
returns-clause-writes g c = both c.write_byte-first.ensures (both c.write_numbers-next.ensures.writes (both c.write_byte-last.ensures c.write_byte.ensures))
