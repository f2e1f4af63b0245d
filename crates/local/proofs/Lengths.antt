-- The length that an engine tells lies within the room that is left: of any outcome, and of what `flatten` promises.
-- Assumes nothing.
use mathlib.Core.Path.{◌≡◌, ap, ◌∙◌}
use mathlib.Core.List.{List, ◌++◌}
use Prim.Native.Nat.{ℕ, ◌≤◌}
use native.Mathlib.Omega.{arith}
use lib.IntN.{ℤ}
use lib.ListN.{length, drop, length-append}
use Rattle.definition.specs.declared.Answer.{Answer}
use Rattle.definition.specs.Counts.{shapes_of}
use Rattle.definition.specs.Flat.{flat}
use Rattle.definition.specs.Answer.{Outcome, accepted, rejected, flat_file, success, failure, given_back, room_after}
use Rattle.local.specs.Within.{Within}

pub told-within : (t room : List ℕ) {left : List ℕ} {r : Answer} (o : Outcome) → r ≡ given_back t o → left ≡ room_after o room → r.length ≤ length left
unfolding flat_file success failure given_back
told-within t room (rejected by chain) given kept = omega (arith, ap (λ (a : Answer). a.length) given)
told-within t room (accepted cs c es) given kept =
    omega (arith, ap (λ (a : Answer). a.length) given, ap length kept, length-append (flat (shapes_of es)) (drop (length (flat (shapes_of es))) room))

pub length-within : {t room room' : List ℕ} {words words' : List ℤ} {records : ℕ} {r : Answer} → Within t words room records r words' room' → r.length ≤ length room'
length-within {t} {room} w = told-within t room w.promised.outcome w.promised.given w.promised.kept
