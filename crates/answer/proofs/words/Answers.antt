-- `words` meets its contract: the first words by `first_words`, and the places of the open calls one after the other.
use native.Mathlib.Omega.{arith}
use mathlib.Core.Path.{◌≡◌}
use lib.ListN.{length}
use Rattle.answer.proofs.Places.{none_copied, one_copied, all_told}
use Rattle.answer.proofs.words.Goals as goal

pub loop-i-init : goal.loop-i-init
loop-i-init c = let many : length c.args.answer.chain ≡ 32 = omega arith in none_copied _ 16 _ (rw c.first_words-told.ensures (omega arith)) (omega (arith, many))

pub loop-i-preserved : goal.loop-i-preserved
loop-i-preserved c = one_copied c.loop-i.invariant c.loop-i-test.true

pub returns : goal.returns
returns c = all_told c.first_words-told.ensures c.loop-i.invariant c.loop-i-test.false (omega arith)
