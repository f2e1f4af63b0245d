-- The measure of `reply_of_body` and `reply_to`: the allowance. A body keeps what is left of its calls (proofs/Kept.antt).
use Prim.Native.Nat.{◌+◌, ◌-◌, ◌*◌}
use Rattle.heights.proofs.Kept.{WalkedSoFar}
use Rattle.heights.proofs.+reply_of_body_reply_to.Given as goal

abbrev pub decreases-reply_of_body : goal.decreases-reply_of_body
decreases-reply_of_body l = 2 * l.left + 1

abbrev pub decreases-reply_to : goal.decreases-reply_to
decreases-reply_to l = 2 * l.left

abbrev pub invariant-reply_of_body-loop-next : goal.invariant-reply_of_body-loop-next
invariant-reply_of_body-loop-next l =
    WalkedSoFar l.rows l.bodies l.live l.own l.row l.left l.initial.seen l.end l.seen l.at l.tallest l.set

abbrev pub decreases-reply_of_body-loop-next : goal.decreases-reply_of_body-loop-next
decreases-reply_of_body-loop-next l =
    l.end - l.at
