-- `digits::put_long` meets its contract: the first digits, and after them nine at a time.
use Prim.Native.Nat.{◌/◌, ◌%◌}
use native.Mathlib.Omega.{arith}
use Rattle.digits.proofs.Writing.{both, same_bytes}
use Rattle.digits.proofs.Digits.{nine, below_nine, ends_with_nine, digits-64, lasts-length}
use Rattle.digits.proofs.put_long.Goals as goal

pub put_short-requires : goal.put_short-requires
put_short-requires c = (nine, below_nine _, let l = digits-64 (c.args.n / 1000000000) (omega arith) in omega (arith, l, c.put_first-next.ensures.ends))

pub returns-then-high-lt-BILLION : goal.returns-then-high-lt-BILLION
returns-then-high-lt-BILLION c = same_bytes (ends_with_nine c.args.n c.requires.0) (both c.put_first-next.ensures c.put_short.ensures)

pub put_short-last-requires : goal.put_short-last-requires
put_short-last-requires c = (nine, below_nine _, let l = digits-64 (c.args.n / 1000000000 / 1000000000) (omega arith) in omega (arith, l, c.put_first-next-2.ensures.ends))

pub put_short-requires-2 : goal.put_short-requires-2
put_short-requires-2 c = (nine, below_nine _, let l = digits-64 (c.args.n / 1000000000 / 1000000000) (omega arith) in let k = lasts-length 9 (c.args.n / 1000000000 % 1000000000) in omega (arith, l, k, c.put_first-next-2.ensures.ends, c.put_short-last.ensures.ends))

pub returns : goal.returns
returns c = same_bytes (ends_with_nine c.args.n c.requires.0) (both (same_bytes (ends_with_nine (c.args.n / 1000000000) (omega arith)) (both c.put_first-next-2.ensures c.put_short-last.ensures)) c.put_short-2.ensures)
