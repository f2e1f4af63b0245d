-- `rotation` meets its contract: each way out has the heading that its tests tell (`rotates`).
use mathlib.Core.Bool.{true, false}
use mathlib.Core.Option.{none, some}
use Rattle.definition.specs.Turns.{+x, +y, -x, -y, heading}
use Rattle.turns.proofs.Nets.{rotates}
use Rattle.turns.proofs.Signed.{is_zero, not_zero, is_negative}
use Rattle.turns.proofs.rotation.Goals as goal

pub returns-then-x-lt0 : goal.returns-then-x-lt0
unfolding heading
returns-then-x-lt0 c = rotates c.args.x c.args.y (some -x) _ (rw (is_zero c.args.y c.ranges.y c.if-y-eq0.true, is_negative c.args.x true c.ranges.x c.if-x-lt0.true)) c.oriented.ensures

pub returns-then-y-eq0 : goal.returns-then-y-eq0
unfolding heading
returns-then-y-eq0 c = rotates c.args.x c.args.y (some +x) _ (rw (is_zero c.args.y c.ranges.y c.if-y-eq0.true, is_negative c.args.x false c.ranges.x c.if-x-lt0.false)) c.oriented-then-y-eq0.ensures

pub returns-then-y-lt0 : goal.returns-then-y-lt0
unfolding heading
returns-then-y-lt0 c = rotates c.args.x c.args.y (some -y) _ (rw (not_zero c.args.y c.if-y-eq0.false, is_zero c.args.x c.ranges.x c.if-x-eq0.true, is_negative c.args.y true c.ranges.y c.if-y-lt0.true)) c.oriented-then-y-lt0.ensures

pub returns-then-x-eq0 : goal.returns-then-x-eq0
unfolding heading
returns-then-x-eq0 c = rotates c.args.x c.args.y (some +y) _ (rw (not_zero c.args.y c.if-y-eq0.false, is_zero c.args.x c.ranges.x c.if-x-eq0.true, is_negative c.args.y false c.ranges.y c.if-y-lt0.false)) c.oriented-then-x-eq0.ensures

pub returns : goal.returns
unfolding heading
returns c = rotates c.args.x c.args.y none _ (rw (not_zero c.args.y c.if-y-eq0.false, not_zero c.args.x c.if-x-eq0.false)) c.oriented-2.ensures
