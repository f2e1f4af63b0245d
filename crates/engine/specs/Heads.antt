-- The two words in front of a command in the run. A running account, not to be believed.
-- Assumes nothing.
use Rattle.std.specs.Prelude.{List, ℕ, ◌+◌, ◌/◌, ◌%◌, ℤ, pos, nat_abs, get_or}
use Rattle.engine.specs.declared.Head.{Head}

abbrev pub head_in : List ℤ → ℕ → Head
head_in b at = record {
  kind = nat_abs (get_or b at (pos 0)) % 256;
  place = nat_abs (get_or b (at + 1) (pos 0));
  next = at + 2 + nat_abs (get_or b at (pos 0)) / 256;
}
