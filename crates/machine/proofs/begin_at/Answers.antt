-- `begin_at` meets its contract: no record is known to be zero (proofs/Starting.antt).
use native.Mathlib.Omega.{arith}
use mathlib.Core.List.{List}
use lib.ListN.{replicate, length-replicate}
use Rattle.machine.specs.declared.Frame.{Frame}
use Rattle.machine.specs.States.{no_frame}
use Rattle.machine.proofs.Starting.{at_begin, none_cleared}
use Rattle.machine.proofs.begin_at.Goals as goal

pub clear-requires : goal.clear-requires
clear-requires c = let zeroes : List Frame = replicate c.args.records no_frame in (_, (zeroes, (at_begin c.requires.1 _ _ (length-replicate {0} {A = Frame} _ no_frame) c.requires.0, none_cleared zeroes, omega arith)))

pub returns : goal.returns
returns c = λ few fs q. (c.clear.ensures _ fs (at_begin few _ _ q c.requires.0) (none_cleared fs) (omega arith)).underway
