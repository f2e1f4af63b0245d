-- Where a reader can start: at a text's beginning, where the pieces are those of the text's marking, and behind any semicolon of a command.
-- Assumes nothing.
use mathlib.Core.Path.{◌≡◌, sym, ap}
use mathlib.Core.Bool.{Bool, true, false}
use mathlib.Core.List.{List}
use Prim.Native.Nat.{ℕ, ◌≤◌}
use native.Mathlib.Omega.{arith}
use lib.ListN.{length}
use Rattle.grammar.specs.Notation.{Letter}
use Rattle.grammar.specs.Viable.{Marked}
use Rattle.grammar.proofs.Markings.{marking_is}
use Rattle.pieces.specs.Pieces.{pieces, stream, start, behind, Fit}

pub start_fits : (t : List ℕ) → Fit t start
start_fits t = record { within = omega arith; state = omega arith }

pub behind-fits : (t : List ℕ) (i : Bool) (n : ℕ) → n ≤ length t → Fit t (behind i n)
behind-fits t true n h = record { within = h; state = omega arith }
behind-fits t false n h = record { within = h; state = omega arith }

pub start-pieces : {t : List ℕ} {m : List Letter} → Marked t m → stream t start ≡ pieces 0 0 m
start-pieces {t} {m} k = ap (λ (l : List Letter). pieces 0 0 l) (sym (marking_is k))
