-- `walk` meets its contract: it meets the bodies in order, and each is moved down (proofs/Walking.antt).
use Rattle.std.proofs.Common.{arith}
use mir.Facts.{to_z-of_z}
use Rattle.library.proofs.Walking.{walk_start, walk_past, walk_on, walked, at_a_body}
use Rattle.library.proofs.walk.Goals as goal

pub loop-at-init : goal.loop-at-init
loop-at-init c = λ b l t. walk_start l t

pub offset_bounds-firsts-i : goal.offset_bounds-firsts-i
offset_bounds-firsts-i c = let w = c.loop-at.invariant c.requires.0 c.requires.1 c.requires.2 in let r = at_a_body w c.owner.ensures c.in-Some.is in omega (arith, r.0)

pub bounds-firsts-i : goal.bounds-firsts-i
bounds-firsts-i c = let w = c.loop-at.invariant c.requires.0 c.requires.1 c.requires.2 in let r = at_a_body w c.owner.ensures c.in-Some.is in omega (arith, r.0, w.tagged.many)

pub settle-n-requires : goal.settle-n-requires
settle-n-requires c = let w = c.loop-at.invariant c.requires.0 c.requires.1 c.requires.2 in let r = at_a_body w c.owner.ensures c.in-Some.is in (r.0, w.packing.laid.sized, r.1, r.2, r.3)

pub overflow_add-to : goal.overflow_add-to
overflow_add-to c = let w = c.loop-at.invariant c.requires.0 c.requires.1 c.requires.2 in let r = at_a_body w c.owner.ensures c.in-Some.is in omega (arith, r.1, r.3, c.settle-n.ensures.words)

pub overflow_add-at : goal.overflow_add-at
overflow_add-at c = let w = c.loop-at.invariant c.requires.0 c.requires.1 c.requires.2 in let r = at_a_body w c.owner.ensures c.in-Some.is in omega (arith, r.3, c.settle-n.ensures.words)

pub loop-at-preserved-in-Some : goal.loop-at-preserved-in-Some
loop-at-preserved-in-Some c = λ b l t. walk_on (c.loop-at.invariant b l t) c.owner.ensures c.in-Some.is (grind (arith, to_z-of_z)) c.settle-n.ensures

pub loop-at-preserved : goal.loop-at-preserved
loop-at-preserved c = λ b l t. walk_past (c.loop-at.invariant b l t) c.owner.ensures c.in-None.is c.loop-at-test.true

pub returns : goal.returns
returns c = λ b l t. walked (c.loop-at.invariant b l t) c.loop-at-test.false
