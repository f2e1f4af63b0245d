-- `listing::put_window` meets its contract: one write after the other.
use mathlib.Core.Path.{sym}
use mathlib.Core.List.{List, ◌∷◌}
use Prim.Native.Nat.{ℕ}
use lib.IntN.{ℤ}
use mir.Facts.{to_z-of_z}
use mir.Syntax.{w64}
use mir.Val.{SFits, to_z, of_z}
use Rattle.std.proofs.Common.{rules}
use Rattle.definition.specs.Words.{bytes_of}
use Rattle.definition.specs.Flat.{decimal}
use Rattle.definition.specs.Listing.{fields}
use Rattle.digits.specs.Writes.{Writes}
use Rattle.digits.proofs.Writing.{both}
use Rattle.listing.specs.Account.{window_of}
use Rattle.listing.proofs.put_window.Goals as goal

-- a number comes as its bits read again
signed : {old new : List ℕ} {at next : ℕ} (z : ℤ) → SFits w64 z → Writes old new at next (9 ∷ decimal (to_z w64 (of_z w64 z))) → Writes old new at next (9 ∷ decimal z)
signed z h w = rw (to_z-of_z h) at w

pub returns-in-None-clause-writes : goal.returns-in-None-clause-writes
unfolding bytes_of window_of fields
returns-in-None-clause-writes c = rw c.in-None.is (both c.put_word-first.ensures c.put_word.ensures)

pub returns-in-Some-clause-writes : goal.returns-in-Some-clause-writes
unfolding bytes_of window_of fields
returns-in-Some-clause-writes c =
    let xs = c.in-Some.xs in
    let ys = c.unwrap_or-ys.result in
    rw (c.in-Some.is, sym c.unwrap_or-ys.ensures)
    (both c.put_word-first.ensures
    (both (signed xs.low (search rules) c.put_signed_field-second.ensures.writes)
    (both (signed ys.low (search rules) c.put_signed_field-third.ensures.writes)
    (both (signed xs.high (search rules) c.put_signed_field-fourth.ensures.writes)
    (both (signed ys.high (search rules) c.put_signed_field-last.ensures.writes) c.put.ensures)))))
