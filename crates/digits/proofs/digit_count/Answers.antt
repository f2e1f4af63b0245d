-- `digits::digit_count` meets its contract: each comparison tells one digit more; from nine digits on, what is counted and what is left have one digit more than the
-- number. The measure is what is left.
use mathlib.Core.Path.{sym}
use native.Mathlib.Omega.{arith}
use Rattle.digits.specs.Tens.{tens}
use Rattle.digits.proofs.Digits.{counts_one, counts_between, counts_power}
use Rattle.digits.proofs.digit_count.Goals as goal

pub returns-then-n-le9 : goal.returns-then-n-le9
returns-then-n-le9 c = sym (counts_one _ (omega arith))

pub returns-then-n-le99 : goal.returns-then-n-le99
unfolding tens
returns-then-n-le99 c = sym (counts_between 1 _ (omega arith) (omega arith))

pub returns-then-n-le999 : goal.returns-then-n-le999
unfolding tens
returns-then-n-le999 c = sym (counts_between 2 _ (omega arith) (omega arith))

pub returns-then-n-le9999 : goal.returns-then-n-le9999
unfolding tens
returns-then-n-le9999 c = sym (counts_between 3 _ (omega arith) (omega arith))

pub returns-then-n-le99999 : goal.returns-then-n-le99999
unfolding tens
returns-then-n-le99999 c = sym (counts_between 4 _ (omega arith) (omega arith))

pub returns-then-n-le999999 : goal.returns-then-n-le999999
unfolding tens
returns-then-n-le999999 c = sym (counts_between 5 _ (omega arith) (omega arith))

pub returns-then-n-le9999999 : goal.returns-then-n-le9999999
unfolding tens
returns-then-n-le9999999 c = sym (counts_between 6 _ (omega arith) (omega arith))

pub returns-then-n-le99999999 : goal.returns-then-n-le99999999
unfolding tens
returns-then-n-le99999999 c = sym (counts_between 7 _ (omega arith) (omega arith))

pub returns : goal.returns
returns c = sym (counts_power c.ilog10.result c.args.n c.ilog10.ensures.power_le c.ilog10.ensures.next_power_gt)
