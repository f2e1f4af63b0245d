-- `listing::put_places` meets its contract: some places are written, and the others are left.
use Prim.Native.Nat.{◌+◌, ◌*◌, ◌≤◌}
use lib.ListN.{drop}
use Rattle.digits.proofs.Writing.{WrittenSoFar}
use Rattle.listing.specs.Account.{tabbed}
use Rattle.listing.proofs.put_places.Given as goal

abbrev pub invariant-loop-place : goal.invariant-loop-place
invariant-loop-place l = record { going : WrittenSoFar l.initial.out l.out l.start l.at (tabbed l.told) (tabbed (drop l.place-index l.told)); near : l.at ≤ l.start + 21 * l.place-index }
