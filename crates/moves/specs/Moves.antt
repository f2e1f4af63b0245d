-- A shape's numbers from its words under a net transformation: each stands in the run of numbers where its word stands in the run of words, and the
-- shape's line has them in this order. A running account, not to be believed: proofs/Moves.antt proves that they are those of the definition's `moved`.
-- Assumes nothing.
use Rattle.std.specs.Prelude.{◌≡◌, List, ◌++◌, map, ℕ, ◌+◌, ◌-◌, ◌*◌, ◌≤◌, ℤ, length, take, drop}
use Rattle.std.proofs.lemmas.List.Edits.{sets}
use Rattle.definition.specs.Words.{Point, any}
use Rattle.definition.specs.Commands.{Shape, shape_of, Kind, box, flash, wire, polygon}
use Rattle.definition.specs.Faults.{beyond, both}
use Rattle.definition.specs.Flat.{letter_of, numbers_of_shape}
use Rattle.turns.specs.Nets.{apply, turned}
use Rattle.turns.specs.declared.Net.{Net}
use Rattle.turns.specs.declared.Beyond.{Beyond}

-- ---- the words

-- how many sizes and directions a shape of each kind has
unfoldable pub size_count : Kind → ℕ
size_count box = 2
size_count flash = 1
size_count wire = 1
size_count polygon = 0

unfoldable pub direction_count : Kind → ℕ
direction_count box = 1
direction_count flash = 0
direction_count wire = 0
direction_count polygon = 0

-- where the points of a shape with this letter begin among its words, and where they end
pub record BeginAt (letter from : ℕ) : Type 0 where
  pub behind_sizes : (k : Kind) → letter ≡ letter_of k → from ≡ 2 + size_count k

pub record EndAt (letter end last : ℕ) : Type 0 where
  pub before_directions : (k : Kind) → letter ≡ letter_of k → last + 2 * direction_count k ≡ end

-- the most numbers of a command
abbrev pub most_values : ℕ
most_values = 2049

-- a letter and numbers that are a shape's
pub record Shaped (letter : ℕ) (values : List ℤ) (k : Shape ℤ) : Type 0 where
  pub letter_is : letter ≡ letter_of k.kind
  pub values_are : values ≡ numbers_of_shape k
  pub sizes : length k.sizes ≡ size_count k.kind
  pub directions : length k.directions ≡ direction_count k.kind

-- the words behind the first two, up to this place, are a shape's
pub record ShapedAt (words : List ℤ) (letter end : ℕ) : Type 0 where
  pub shape : Shape ℤ
  pub values : List ℤ
  pub rest : List ℤ
  pub are : drop 2 words ≡ values ++ rest
  pub ends : end ≡ 2 + length values
  pub few : length values ≤ most_values
  pub shaped : Shaped letter values shape
  pub within : end ≤ length words

-- the words from this place up to that one are points
pub record Pointed (words : List ℤ) (from end : ℕ) : Type 0 where
  pub points : List (Point ℤ)
  pub rest : List ℤ
  pub are : drop from words ≡ both points ++ rest
  pub ends : from + length (both points) ≡ end
  pub within : end ≤ length words

-- ---- what is made of them

-- the words from place 2 up to this one stand in their places
pub record Copied (words numbers : List ℤ) (from : ℕ) (numbers' : List ℤ) : Type 0 where
  pub laid : numbers' ≡ sets numbers 2 (take (from - 2) (drop 2 words))

-- whether some x of these points is beyond the range, and whether some y is
pub record Judges (points : List (Point ℤ)) (far : Beyond) : Type 0 where
  pub xs : far.x ≡ any (λ q. beyond q.x) points
  pub ys : far.y ≡ any (λ q. beyond q.y) points

-- all points stand in their places, and are judged
pub record Moves (net : Net) (points : List (Point ℤ)) (numbers : List ℤ) (from : ℕ) (far : Beyond) (numbers' : List ℤ) : Type 0 where
  pub test : Judges (map (apply net) points) far
  pub laid : numbers' ≡ sets numbers from (both (map (apply net) points))

-- a shape in its final place
abbrev pub placed : Net → Shape ℤ → Shape ℤ
placed net k = shape_of k.kind k.sizes (map (apply net) k.points) (map (turned net) k.directions)

abbrev pub placed_numbers : Net → Shape ℤ → List ℤ
placed_numbers net k = numbers_of_shape (placed net k)

pub record MovesShape (net : Net) (k : Shape ℤ) (numbers : List ℤ) (far : Beyond) (numbers' : List ℤ) : Type 0 where
  pub test : Judges (placed net k).points far
  pub laid : numbers' ≡ sets numbers 2 (placed_numbers net k)
