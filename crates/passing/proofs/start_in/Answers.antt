-- `start_in` meets its contract.
use Rattle.passing.proofs.start_in.Goals as goal

pub returns : goal.returns
returns c = λ k. record { symbol = c.size_at-symbol.ensures k; place = c.args.place; a = c.size_at-a.ensures k; b = c.size_at-b.ensures k }
