-- `digits::width_of` meets its contract: each comparison tells one digit more, and each unit is tested against its power of ten.
use native.Mathlib.Omega.{arith}
use Rattle.digits.specs.Tens.{tens}
use Rattle.digits.proofs.Digits.{wide_one, wide}
use Rattle.digits.proofs.width_of.Goals as goal

pub returns-then-n-lt10 : goal.returns-then-n-lt10
returns-then-n-lt10 c = wide_one _ (omega arith)

pub returns-then-n-lt100 : goal.returns-then-n-lt100
unfolding tens
returns-then-n-lt100 c = wide 1 _ _ (omega arith) (omega arith) (omega arith) (omega arith) (omega arith)

pub returns-then-n-lt1000 : goal.returns-then-n-lt1000
unfolding tens
returns-then-n-lt1000 c = wide 2 _ _ (omega arith) (omega arith) (omega arith) (omega arith) (omega arith)

pub returns-then-n-lt10000 : goal.returns-then-n-lt10000
unfolding tens
returns-then-n-lt10000 c = wide 3 _ _ (omega arith) (omega arith) (omega arith) (omega arith) (omega arith)

pub returns-then-n-lt100000 : goal.returns-then-n-lt100000
unfolding tens
returns-then-n-lt100000 c = wide 4 _ _ (omega arith) (omega arith) (omega arith) (omega arith) (omega arith)

pub returns-then-n-lt1000000 : goal.returns-then-n-lt1000000
unfolding tens
returns-then-n-lt1000000 c = wide 5 _ _ (omega arith) (omega arith) (omega arith) (omega arith) (omega arith)

pub returns-then-n-lt10000000 : goal.returns-then-n-lt10000000
unfolding tens
returns-then-n-lt10000000 c = wide 6 _ _ (omega arith) (omega arith) (omega arith) (omega arith) (omega arith)

pub returns-then-n-lt100000000 : goal.returns-then-n-lt100000000
unfolding tens
returns-then-n-lt100000000 c = wide 7 _ _ (omega arith) (omega arith) (omega arith) (omega arith) (omega arith)

pub returns : goal.returns
unfolding tens
returns c = wide 8 _ _ (omega arith) (omega arith) (omega arith) (omega arith) (omega arith)
