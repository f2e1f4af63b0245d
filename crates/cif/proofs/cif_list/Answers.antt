-- `cif_list` meets its contract: what `list` lists, and then all words are cleared.
use mathlib.Core.Path.{ap, ◌∙◌}
use Prim.Native.Nat.{ℕ}
use lib.IntN.{pos}
use lib.ListN.{replicate}
use Rattle.cif.proofs.cif_list.Goals as goal

pub returns : goal.returns
returns c = record {
  given = c.by_words.result;
  read = c.by_words.ensures;
  listed = c.list-length.ensures;
  cleared = c.clear.ensures ∙ ap (λ (n : ℕ). replicate n (pos 0)) c.list-length.auto.words;
}
