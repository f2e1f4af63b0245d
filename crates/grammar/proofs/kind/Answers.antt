-- `kind` meets its contract: it reads the lent table of kinds.
use mathlib.Core.Path.{◌≡◌, sym, ap, subst}
use mathlib.Core.List.{List}
use Prim.Native.Nat.{ℕ, ◌<◌}
use native.Mathlib.Omega.{arith}
use lib.ListN.{get_or}
use Rattle.grammar.specs.Tables.{kind_count}
use Rattle.grammar.specs.Steps.{kind_of, KindsLent}
use Rattle.grammar.proofs.Automaton.{kind-below}
use Rattle.grammar.proofs.kind.Goals as goal

lent-kind : (k : List ℕ) (b : ℕ) → KindsLent k → b < 256 → (get_or k b 0 ≡ kind_of b) × (get_or k b 0 < kind_count)
unfolding kind_of
lent-kind k b l h =
    let e : get_or k b 0 ≡ kind_of b = ap (λ (t : List ℕ). get_or t b 0) l.is in
    (e, subst (λ (x : ℕ). x < kind_count) (sym e) (kind-below b h))

pub overflow_cast-result-2 : goal.overflow_cast-result-2
overflow_cast-result-2 c = let r = lent-kind c.args.recogniser.now.kinds c.args.b c.args.recogniser.now.kinds_lent c.ranges.b.fits in omega arith

pub returns : goal.returns
returns c = lent-kind c.args.recogniser.now.kinds c.args.b c.args.recogniser.now.kinds_lent c.ranges.b.fits
