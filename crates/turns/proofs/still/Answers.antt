-- `still` meets its contract: the net transformation of the empty list.
use native.Mathlib.Omega.{arith}
use Rattle.turns.proofs.Nets.{nothing_carried}
use Rattle.turns.proofs.still.Goals as goal

pub returns : goal.returns
returns c = rw c.oriented.ensures (nothing_carried, record { across = omega arith; up = omega arith })
