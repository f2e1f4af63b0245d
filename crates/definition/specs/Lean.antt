-- Not to be believed: no contract of a host cites it. A body as it is kept in the words lent: an L command directly after an L command takes its
-- place, so that idle layers take no room. What is drawn stays the same (crate laws, proofs/Story/Lean.antt).
use Rattle.std.specs.Prelude.{List, [], ◌∷◌, map}
use Rattle.definition.specs.Words.{Placed}
use Rattle.definition.specs.Table.{Step, shape, instance, setting, Definition, Table}

unfoldable pub last_then : Placed Step → Step → Placed Step → Step → List (Placed Step)  -- the last step of a body, and one that is added
last_then a (setting l) s (setting k) = s ∷ []
last_then a (setting l) s (shape k x) = a ∷ s ∷ []
last_then a (setting l) s (instance n ts) = a ∷ s ∷ []
last_then a (shape l x) s k = a ∷ s ∷ []
last_then a (instance n ts) s k = a ∷ s ∷ []

unfoldable pub add : List (Placed Step) → Placed Step → List (Placed Step)
add [] s = s ∷ []
add (a ∷ []) s = last_then a a.what s s.what
add (a ∷ b ∷ ss) s = a ∷ add (b ∷ ss) s

unfoldable pub add_all : List (Placed Step) → List (Placed Step) → List (Placed Step)  -- one by one
add_all kept [] = kept
add_all kept (s ∷ ss) = add_all (add kept s) ss

unfoldable pub lean : List (Placed Step) → List (Placed Step)
lean ss = add_all [] ss

abbrev pub lean_definition : Definition → Definition
lean_definition d = record { symbol = d.symbol; place = d.place; body = lean d.body }

abbrev pub lean_table : Table → Table
lean_table t = map lean_definition t
