-- `write_file` meets its contract: the drawing lays the lines, and `put_end` the last one, wherever the drawing ended.
use mathlib.Core.Path.{ap, ◌∙◌}
use mathlib.Core.List.{List, [], ◌∷◌}
use Prim.Native.Nat.{ℕ}
use lib.Seq.{sets}
use Rattle.reader.proofs.write_file.Goals as goal

pub returns : goal.returns
returns c = λ p. c.put_end.ensures.laid ∙ ap (λ (l : List ℕ). sets l c.args.end (69 ∷ 10 ∷ [])) (c.draw.ensures p).laid
