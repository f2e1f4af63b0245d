-- `keep_body` meets its contract: `KeptSoFar` holds before each command, and what is left of the text falls, or a command is tried once more.
use mathlib.Core.Path.{refl}
use mathlib.Core.Bool.{false}
use native.Mathlib.Omega.{arith}
use Rattle.keeping.proofs.Bodies.{once, never_again, going_start, as_more, going_on, laid_anywhere, going-moved, body_lacking, body-whole}
use Rattle.keeping.proofs.keep_body.Goals as goal

pub loop-to-init : goal.loop-to-init
loop-to-init c = going_start c.requires.ready c.requires.fit.0

pub keep_command-requires : goal.keep_command-requires
keep_command-requires c = record { fit = (c.loop-to.invariant.fit, c.requires.fit.1, c.requires.fit.2); by_index = (_, c.loop-to.invariant.ready) }

pub returns-in-Last : goal.returns-in-Last
returns-in-Last c = body-whole c.loop-to.invariant (c.keep_command.ensures _ c.loop-to.invariant.ready) c.in-Last.is

pub loop-to-smaller-in-More : goal.loop-to-smaller-in-More
loop-to-smaller-in-More c = let m = as_more (c.keep_command.ensures _ c.loop-to.invariant.ready) c.in-More.is in omega (arith, once false refl, m.ahead, m.fit.within)

pub loop-to-preserved-in-More : goal.loop-to-preserved-in-More
loop-to-preserved-in-More c = going_on c.loop-to.invariant (c.keep_command.ensures _ c.loop-to.invariant.ready) c.in-More.is

pub returns-then-moved : goal.returns-then-moved
returns-then-moved c = body_lacking c.loop-to.invariant (c.keep_command.ensures _ c.loop-to.invariant.ready) c.in-Tight.is c.if-moved.true

pub compact-used-requires : goal.compact-used-requires
compact-used-requires c = laid_anywhere c.loop-to.invariant (c.keep_command.ensures _ c.loop-to.invariant.ready) c.in-Tight.is

pub loop-to-smaller : goal.loop-to-smaller
loop-to-smaller c = omega (arith, never_again, once c.loop-to.moved c.if-moved.false)

pub loop-to-preserved : goal.loop-to-preserved
loop-to-preserved c = going-moved c.loop-to.invariant (c.keep_command.ensures _ c.loop-to.invariant.ready) c.in-Tight.is c.compact-used.ensures
