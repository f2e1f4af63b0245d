-- RULES 13, request 1: the two warnings of 7.1.2.4, each read off the one event that it is due at, so that they come in the order of their commands, and the line that
-- each is printed as.
use Rattle.std.specs.Prelude.{Bool, false, ℕ, pos, if◌then◌else◌}
use mathlib.Core.List.{List, [], ◌∷◌, ◌++◌, flat_map}
use Rattle.std.proofs.Math.Option.{Option, none, some}
use Rattle.definition.specs.Words.{Placed, those, first, none?, bytes_of}
use Rattle.definition.specs.Table.{Step, shape, instance, setting, Table, find, forget}
use Rattle.definition.specs.Drawing.{Event, called, drew, entered, removed, refused}
use Rattle.definition.specs.Flat.{decimal}

unfoldable pub dangles : Table → Step → Bool  -- a call of a number that is not live: only that matters, whatever else would refuse the call
dangles t (instance n ts) = none? (find n t)
dangles t (shape l k) = false
dangles t (setting l) = false

unfoldable pub dangling_calls : Table → List (Placed Step)  -- definitions taken by number, as a table is sorted, and in each its calls in written order
dangling_calls t = flat_map (λ d. those (λ s. dangles t s.what) d.body) t

pub data Warning : Type 0 where
  redefined : (symbol : ℕ) → Warning
  dangling : (place : ℕ) → Warning

unfoldable pub dangling_at : Option (Placed Step) → List Warning  -- at this call, if there is one
dangling_at none = []
dangling_at (some s) = dangling s.place ∷ []

-- a definition replaces an entry of its number; after a DD, whether or not it removed anything, some live definition calls a number that is not live
unfoldable pub warnings_at : Event → List Warning
warnings_at (entered d before) = if none? (find d.symbol before) then [] else redefined d.symbol ∷ []
warnings_at (removed n before) = dangling_at (first (dangling_calls (forget n.what before)))
warnings_at (called p chain d) = []
warnings_at (drew d) = []
warnings_at (refused r chain) = []

unfoldable pub warning_line : Warning → List ℕ
warning_line (redefined n) = bytes_of "Warning: symbol " ++ (decimal (pos n) ++ bytes_of " redefined.\n")
warning_line (dangling p) = bytes_of "Warning: dangling references after DD.\t" ++ (decimal (pos p) ++ bytes_of "\n")

unfoldable pub warning_lines : List Event → List ℕ  -- of all that happened
warning_lines es = flat_map warning_line (flat_map warnings_at es)
