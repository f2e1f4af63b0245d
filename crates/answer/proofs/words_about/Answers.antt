-- `words_about` meets its contract: one of the words that are else 0 tells which text it is.
use mathlib.Core.Path.{ap}
use mathlib.Core.List.{List}
use Prim.Native.Nat.{ℕ}
use lib.ListN.{set}
use Rattle.answer.proofs.words_about.Goals as goal

pub returns : goal.returns
returns c = ap (λ (w : List ℕ). set w 10 c.args.text) c.words-told.ensures
