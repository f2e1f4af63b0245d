-- `draw_shape` meets its contract: what is beyond the range or one too many is refused, and else its lines are written (proofs/Shapes.antt).
use Rattle.std.specs.Prelude.{Ok, Err}
use mathlib.Core.Path.{◌≡◌}
use borrow.Author.Rules.{rules}
use native.Mathlib.Omega.{arith}
use Rattle.definition.specs.Rules.{refuse}
use Rattle.definition.specs.declared.Rule.{Rule}
use Rattle.pen.proofs.Lines.{layer-line-length}
use Rattle.moves.proofs.Shapes.{part-few}
use Rattle.shapes.proofs.Shapes.{shape_far_x, shape_far_y, shape-many, shape-near, part_is}
use Rattle.shapes.proofs.draw_shape.Goals as goal

pub returns-then-far : goal.returns-then-far
returns-then-far c = λ h chain ts carries. shape_far_x h chain ts c.args.net carries c.args.place c.args.layer (c.move_shape-far.ensures h) c.args.ink _ c.if-far.true

pub returns-then-far-2 : goal.returns-then-far-2
returns-then-far-2 c = λ h chain ts carries. shape_far_y h chain ts c.args.net carries c.args.place c.args.layer (c.move_shape-far.ensures h) c.args.ink _ c.if-far.false c.if-far-2.true

pub returns-in_err-drawn : goal.returns-in_err-drawn
returns-in_err-drawn c =
    let q : (rule : Rule) × (c.count_shape.result ≡ Err rule) × (c.from_residual.result ≡ Err (refuse rule c.args.place)) = search rules in
    λ h chain ts carries.
    rw q.2
    (shape-many h chain ts c.args.net carries c.args.place c.args.layer (c.move_shape-far.ensures h) c.args.ink _ c.if-far.false c.if-far-2.false c.count_shape.ensures q.0 q.1)

pub put_line-last-requires : goal.put_line-last-requires
put_line-last-requires c = (omega (arith, c.put_layer_line-next.ensures.ends, layer-line-length c.args.ink.pen.layer c.args.layer, c.requires.near.1.place_most, c.requires.near.1.shapes_most), omega (arith, part-few c.requires.shaped_at.0 c.move_shape-far.new.numbers))

pub returns : goal.returns
returns c = let q : c.count_shape.result ≡ Ok c.in_ok-drawn.drawn = grind arith in λ h chain ts carries. shape-near h chain ts c.args.net carries c.args.place c.args.layer (c.move_shape-far.ensures h) c.args.ink c.if-far.false c.if-far-2.false c.count_shape.ensures _ q c.requires.near.1 (part_is h chain ts c.args.net carries c.args.place c.args.layer (c.move_shape-far.ensures h) c.requires.shaped_at.1) c.put_layer_line-next.ensures c.put_line-last.ensures.writes c.put_line-last.ensures.upper_bound (part-few h c.move_shape-far.new.numbers)
