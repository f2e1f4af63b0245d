-- `entry` meets its contract: it reads the lent table of entries.
use mathlib.Core.Path.{◌≡◌, ap}
use mathlib.Core.List.{List}
use Prim.Native.Nat.{ℕ, ◌+◌, ◌*◌}
use native.Mathlib.Omega.{arith}
use lib.ListN.{get_or}
use Rattle.grammar.specs.Tables.{kind_count}
use Rattle.grammar.specs.Steps.{entry_of, NextLent}
use Rattle.grammar.proofs.Automaton.{entry_below}
use Rattle.grammar.proofs.entry.Goals as goal

lent_entry : (n : List ℕ) (q k : ℕ) → NextLent n → get_or n (q * kind_count + k) 0 ≡ entry_of q k
unfolding entry_of
lent_entry n q k l = ap (λ (t : List ℕ). get_or t (q * kind_count + k) 0) l.is

pub overflow_cast-result : goal.overflow_cast-result
overflow_cast-result c = let e = lent_entry c.args.recogniser.now.next c.args.q c.args.k c.args.recogniser.now.next_lent in let h = entry_below c.args.q c.args.k c.requires.0 c.requires.1 in omega arith

pub returns : goal.returns
returns c = lent_entry c.args.recogniser.now.next c.args.q c.args.k c.args.recogniser.now.next_lent
