-- Layer names packed into numbers of 32 bits, first letter highest, zero bytes after the last; 0 is no name. A running account, not to be believed:
-- proofs/Names.antt of pen proves that names come back, and that the order of the numbers is the byte order of the names.
-- Assumes nothing.
use Rattle.std.specs.Prelude.{Bool, true, false, List, [], ◌∷◌, ℕ, zero, suc, ◌+◌, ◌*◌, ◌/◌, ◌%◌, eqb, ltb, if◌then◌else◌}

-- a letter counts 256 times the next, and the last of four counts 1
abbrev pub byte_unit : ℕ
byte_unit = 256

abbrev pub first_unit : ℕ
first_unit = 16777216

-- a name with one more letter, which counts u
abbrev pub longer : ℕ → ℕ → ℕ → ℕ
longer n u b = n + b * u

-- letters of which the first counts u
unfoldable pub packed_by : ℕ → List ℕ → ℕ
packed_by u [] = 0
packed_by u (b ∷ bs) = b * u + packed_by (u / byte_unit) bs

unfoldable pub packed : List ℕ → ℕ
packed l = packed_by first_unit l

-- what is left of a packed name after its first letter, moved up
abbrev pub behind : ℕ → ℕ
behind n = n % first_unit * byte_unit

-- at most as many bytes as said, without the zeros behind
unfoldable pub unpacked : ℕ → ℕ → List ℕ
unpacked zero n = []
unpacked (suc k) n = let rest = unpacked k (behind n) in if eqb n 0 then [] else (n / first_unit) ∷ rest

abbrev pub name_of : ℕ → List ℕ
name_of n = unpacked 4 n

-- byte order: the first byte that differs decides, and a name stands before one that it begins
unfoldable pub earlier : List ℕ → List ℕ → Bool
earlier l [] = false
earlier [] (b ∷ m) = true
earlier (a ∷ l) (b ∷ m) = let rest = earlier l m in if eqb a b then rest else ltb a b
