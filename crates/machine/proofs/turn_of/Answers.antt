-- `turn_of` meets its contract: three bits.
use native.Mathlib.Omega.{arith}
use Rattle.machine.proofs.Making.{bit_most}
use Rattle.machine.proofs.turn_of.Goals as goal

pub overflow_add-result : goal.overflow_add-result
overflow_add-result c = let x = bit_most c.args.net.swap 1 in let y = bit_most c.args.net.negx 2 in omega (arith, x, y, c.bit.ensures, c.bit-2.ensures)

pub overflow_add-result-2 : goal.overflow_add-result-2
overflow_add-result-2 c = let x = bit_most c.args.net.swap 1 in let y = bit_most c.args.net.negx 2 in let z = bit_most c.args.net.negy 4 in omega (arith, x, y, z, c.bit.ensures, c.bit-2.ensures, c.bit-3.ensures)

pub returns : goal.returns
returns c = rw (c.bit.ensures, c.bit-2.ensures, c.bit-3.ensures)
