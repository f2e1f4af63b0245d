-- `pen::put_layer_line` meets its contract: two packed names are one number exactly where they are one name.
use mathlib.Core.Path.{sym}
use native.Mathlib.Omega.{arith}
use Rattle.digits.proofs.Writing.{both, same_bytes, nothing}
use Rattle.pen.proofs.Names.{name-length, no_line, a_line}
use Rattle.pen.proofs.put_layer_line.Goals as goal

pub returns-then-before-layer : goal.returns-then-before-layer
returns-then-before-layer c = same_bytes (sym (no_line c.args.before c.args.layer c.if-before-layer.true)) (nothing _ _)

pub put_end_of_line-requires : goal.put_end_of_line-requires
put_end_of_line-requires c = omega (arith, name-length c.args.layer)

pub returns : goal.returns
returns c = same_bytes (sym (a_line c.args.before c.args.layer c.if-before-layer.false)) (both c.put-first.ensures (both c.put_name-last.ensures c.put_end_of_line.ensures))
