-- What the account's commands say: each is one of the definition's, with the same numbers in the same order, told apart up to the cap. AllSay.antt
-- proves it of every text of the grammar, so that the rules above need no grammar.
-- Assumes nothing.
use mathlib.Core.Path.{◌≡◌}
use mathlib.Core.Bool.{Bool, true, false}
use mathlib.Core.List.{List, [], ◌∷◌, map}
use Prim.Native.Nat.{ℕ, ◌<◌}
use lib.Dec.{eqb}
use lib.IntN.{pos}
use lib.ListN.{length}
use Rattle.definition.specs.Words.{Placed, at, Point, point}
use Rattle.definition.specs.Commands.{Number, box, flash, wire, polygon, shape_of, Turn, translate, mirror_x, mirror_y, rotate, Command, draw, layer, call, start, finish, delete, nothing}
use Rattle.laws.proofs.Commands.Made.{Name}
use Rattle.pieces.specs.Pieces.{letter_s, letter_f, capped}
use Rattle.pieces.specs.declared.Piece.{Piece}
use Rattle.pieces.specs.declared.Piece.TheVariants.{Second, Word}
use Rattle.pieces.specs.declared.Piece.TheVariants.{Number as Numeral}
use Rattle.rules.specs.Letters.{letter_b, letter_c, letter_d, letter_l, letter_m, letter_p, letter_r, letter_t, letter_w}
use Rattle.rules.specs.Written.{Written}
use Rattle.commands.specs.Words.{signed}

-- a piece tells a number: its place, its sign, and its size up to the cap
pub data Tells : Piece → Number → Type 0 where
  tells : (p : ℕ) (σ : Bool) (v : ℕ) → Tells (Numeral p σ (capped v)) (at p (signed σ v))

-- two numbers make a point
pub data Points : List Piece → List (Point Number) → Type 0 where
  no_points : Points [] []
  a_point : {x y : Piece} {a b : Number} {xs : List Piece} {ps : List (Point Number)} → Tells x a → Tells y b → Points xs ps → Points (x ∷ y ∷ xs) (point a b ∷ ps)

abbrev pub letter_x : ℕ
letter_x = 88

abbrev pub letter_y : ℕ
letter_y = 89

pub data Turns : List Piece → List (Turn Number) → Type 0 where
  no_turns : Turns [] []
  a_shift : {x y : Piece} {a b : Number} {xs : List Piece} {ts : List (Turn Number)} → Tells x a → Tells y b → Turns xs ts → Turns (Word letter_t ∷ x ∷ y ∷ xs) (translate (point a b) ∷ ts)
  a_mirror_x : {xs : List Piece} {ts : List (Turn Number)} → Turns xs ts → Turns (Word letter_m ∷ Word letter_x ∷ xs) (mirror_x ∷ ts)
  a_mirror_y : {xs : List Piece} {ts : List (Turn Number)} → Turns xs ts → Turns (Word letter_m ∷ Word letter_y ∷ xs) (mirror_y ∷ ts)
  a_rotation : {x y : Piece} {a b : Number} {xs : List Piece} {ts : List (Turn Number)} → Tells x a → Tells y b → Turns xs ts → Turns (Word letter_r ∷ x ∷ y ∷ xs) (rotate (point a b) ∷ ts)

-- the first letter of a command that does nothing: a comment's, a user extension's, and E. It is neither a command's first letter nor the second of a D command
pub record Idle (b : ℕ) : Type 0 where
  pub not_P : eqb b letter_p ≡ false
  pub not_B : eqb b letter_b ≡ false
  pub not_R : eqb b letter_r ≡ false
  pub not_W : eqb b letter_w ≡ false
  pub not_L : eqb b letter_l ≡ false
  pub not_C : eqb b letter_c ≡ false
  pub not_D : eqb b letter_d ≡ false
  pub not_S : eqb b letter_s ≡ false
  pub not_F : eqb b letter_f ≡ false
  pub small : b < 256

abbrev pub wrote : ℕ → ℕ → List Piece → Bool → Written
wrote p b xs e = record { place = p; letter = b; items = xs; stopped = e }

pub data Says : Written → Placed Command → Type 0 where
  a_polygon : {p : ℕ} {xs : List Piece} {ps : List (Point Number)} → Points xs ps → 0 < length ps
      → Says (wrote p letter_p xs true) (at p (draw (shape_of polygon [] ps [])))
  a_box : {p : ℕ} {x y z w : Piece} {a b c d : Number} → Tells x a → Tells y b → Tells z c → Tells w d
      → Says (wrote p letter_b (x ∷ y ∷ z ∷ w ∷ []) true) (at p (draw (shape_of box (a ∷ b ∷ []) (point c d ∷ []) (point (at p (pos 1)) (at p (pos 0)) ∷ []))))
  a_turned_box : {p : ℕ} {x y z w u v : Piece} {a b c d e f : Number} → Tells x a → Tells y b → Tells z c → Tells w d → Tells u e → Tells v f
      → Says (wrote p letter_b (x ∷ y ∷ z ∷ w ∷ u ∷ v ∷ []) true) (at p (draw (shape_of box (a ∷ b ∷ []) (point c d ∷ []) (point e f ∷ []))))
  a_flash : {p : ℕ} {x y z : Piece} {a b c : Number} → Tells x a → Tells y b → Tells z c
      → Says (wrote p letter_r (x ∷ y ∷ z ∷ []) true) (at p (draw (shape_of flash (a ∷ []) (point b c ∷ []) [])))
  a_wire : {p : ℕ} {x : Piece} {a : Number} {xs : List Piece} {ps : List (Point Number)} → Tells x a → Points xs ps → 0 < length ps
      → Says (wrote p letter_w (x ∷ xs) true) (at p (draw (shape_of wire (a ∷ []) ps [])))
  a_layer : {p : ℕ} {l : List ℕ} → 0 < length l → Name l → Says (wrote p letter_l (map Word l) true) (at p (layer l))
  a_call : {p : ℕ} {x : Piece} {a : Number} {xs : List Piece} {ts : List (Turn Number)} → Tells x a → Turns xs ts
      → Says (wrote p letter_c (x ∷ xs) true) (at p (call a ts))
  a_start : {p : ℕ} {x : Piece} {a : Number} → Tells x a
      → Says (wrote p letter_d (Second letter_s ∷ x ∷ []) true) (at p (start a (at p (pos 1)) (at p (pos 1))))
  a_scaled-start : {p : ℕ} {x y z : Piece} {a b c : Number} → Tells x a → Tells y b → Tells z c
      → Says (wrote p letter_d (Second letter_s ∷ x ∷ y ∷ z ∷ []) true) (at p (start a b c))
  a_finish : {p : ℕ} → Says (wrote p letter_d (Second letter_f ∷ []) true) (at p finish)
  a_deletion : {p : ℕ} {x : Piece} {a : Number} → Tells x a → Says (wrote p letter_d (Second letter_d ∷ x ∷ []) true) (at p (delete a))
  a_nothing : {p b : ℕ} {e : Bool} → Idle b → Says (wrote p b [] e) (at p nothing)

-- commands of the account, one by one
pub data AllSay : List Written → List (Placed Command) → Type 0 where
  none_said : AllSay [] []
  one_said : {c : Written} {d : Placed Command} {cs : List Written} {ds : List (Placed Command)} → Says c d → AllSay cs ds → AllSay (c ∷ cs) (d ∷ ds)
