-- `listing::put_places` meets its contract: some places are written, and the others are left.
use mathlib.Core.Path.{ap, ◌∙◌}
use native.Mathlib.Omega.{arith}
use lib.ListN.{take}
use Rattle.std.proofs.lemmas.List.{take_min}
use Rattle.digits.proofs.Writing.{goes_on, over, same_bytes}
use Rattle.listing.specs.Account.{tabbed}
use Rattle.listing.proofs.Places.{next-place, no_place}
use Rattle.listing.proofs.put_places.Goals as goal

pub loop-place-preserved : goal.loop-place-preserved
loop-place-preserved c = record {
  going = goes_on _ c.loop-place.invariant.going (next-place _ c.loop-place.place-index c.loop-place-test.true) c.put_field-at.ensures.writes;
  near = omega (arith, c.loop-place.invariant.near, c.put_field-at.ensures.upper_bound);
}

pub returns-clause-writes : goal.returns-clause-writes
returns-clause-writes c =
    same_bytes (ap (λ n. tabbed (take n c.args.chain.now)) c.min.ensures ∙ ap tabbed (take_min c.args.opened c.args.chain.now)) (over c.loop-place.invariant.going (no_place _ _ c.loop-place-test.false))
