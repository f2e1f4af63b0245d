-- `pen::put_name` meets its contract: what is left to write is the name of what is left of the number, whose length is the measure.
use Prim.Native.Nat.{◌<◌}
use lib.ListN.{length}
use Rattle.pen.specs.Names.{name_of}
use Rattle.digits.proofs.Writing.{WrittenSoFar}
use Rattle.pen.proofs.put_name.Given as goal

abbrev pub invariant-loop-rest : goal.invariant-loop-rest
invariant-loop-rest l = WrittenSoFar l.initial.room l.room l.start l.at (name_of l.name) (name_of l.rest) × (l.rest < 4294967296)

abbrev pub decreases-loop-rest : goal.decreases-loop-rest
decreases-loop-rest l = length (name_of l.rest)
