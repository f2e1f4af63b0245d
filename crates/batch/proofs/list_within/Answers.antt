-- `list_within` is safe: the longest listing lies within the room.
use Rattle.std.proofs.Common.{arith, sym}
use Rattle.std.proofs.Math.Seq.{length-take-le}
use Rattle.batch.proofs.list_within.Goals as goal

pub slice_bounds-list-end-2 : goal.slice_bounds-list-end-2
slice_bounds-list-end-2 g c = sym (length-take-le 623616 c.args.room.now (omega arith))

pub list-requires : goal.list-requires
list-requires g c = length-take-le 623616 c.args.room.now (omega arith)
