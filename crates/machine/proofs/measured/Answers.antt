-- `measured` meets its contract: 18, or once more onto the room (proofs/Starting.antt).
use Prim.Native.Nat.{◌+◌}
use native.Mathlib.Omega.{arith}
use lib.ListN.{length}
use mathlib.Core.Logic.{inl, inr}
use Rattle.laws.proofs.Rules.Outcomes.{TooLong}
use Rattle.machine.proofs.Starting.{sooner, measured_end, measured_long, again_at, again-writes, again_bound}
use Rattle.machine.proofs.measured.Goals.{then-room-length-via-then-room-length, then-room-length-via-else-room-length+then-length-gt-MOST_BYTES}
use Rattle.machine.proofs.measured.Goals as goal

pub overflow_add-length : goal.overflow_add-length
overflow_add-length c = omega (arith, measured_end c.requires.1.1)

pub returns-then-room-length : goal.returns-then-room-length
returns-then-room-length c =
    let long : TooLong (c.args.ink.pen.at + 2) (length c.args.room.now) =
    elim c.then-room-length.branch [
      | then-room-length-via-then-room-length w ↦ inl w.if-room-length.true
      | then-room-length-via-else-room-length+then-length-gt-MOST_BYTES w ↦ inr w.if-length-gt-MOST_BYTES.true
    ] in
    λ h fs m. measured_long m long c.refused_outside_by-answer.ensures c.over.ensures.0 c.over.ensures.1

pub write-requires : goal.write-requires
write-requires c = (again-writes c.requires.1.1 c.fresh-again.ensures, (_, (_, again_at c.requires.1.1 c.fresh-again.ensures (omega (arith, c.if-room-length.false)) (omega (arith, c.if-length-gt-MOST_BYTES.false)))))

pub returns : goal.returns
returns c = λ h fs m. sooner (c.write.ensures h fs (again_at m c.fresh-again.ensures (omega (arith, c.if-room-length.false)) (omega (arith, c.if-length-gt-MOST_BYTES.false)))) (again_bound m c.fresh-again.ensures)
