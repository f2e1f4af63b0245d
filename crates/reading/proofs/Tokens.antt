-- The letters of a command up to its semicolon, with their roles and with numbers of any size: what both the account's pieces and the definition's
-- command are read off, so that either is a function of the other's source. No production comes in here: only roles do.
-- Assumes nothing.
use Rattle.std.specs.Prelude.{if◌then◌else◌}
use mathlib.Core.Path.{◌≡◌, refl, ap, ap₂, ◌∙◌}
use mathlib.Core.Bool.{Bool, true, false, ◌||◌}
use mathlib.Core.List.{List, [], ◌∷◌}
use Prim.Native.Nat.{ℕ, ◌+◌, ◌-◌}
use native.Mathlib.Omega.{arith}
use borrow.Author.Tests.{lt-ltb, le-ltb}
use lib.Dec.{ltb}
use lib.IntN.{pos, neg_ℤ}
use lib.ListN.{drop}
use Rattle.grammar.specs.Notation.{Role, Role-discrete, Letter, dec, has, 'B', 'C', 'D', 'L', 'P', 'R', 'S', 'T', 'W', 'X'}
use Rattle.grammar.specs.Notation.{skip, head, second, turn, axis, sign, lead, later, name, stop}
use Rattle.definition.specs.Words.{at, point}
use Rattle.definition.specs.Commands.{Number, box, flash, wire, polygon, shape_of, Turn, translate, mirror_x, mirror_y, rotate, Command, draw, layer, call, start, finish, delete, nothing}
use Rattle.definition.specs.Commands.{worth, numbers, nth, paired, next, named, turn_at, turns, command_at}
use Rattle.pieces.specs.Pieces.{capped, digit_of, place_after, with_piece, pieces}
use Rattle.pieces.specs.declared.Piece.{Piece}
use Rattle.pieces.specs.declared.Piece.TheVariants.{Second, Word}
use Rattle.pieces.specs.declared.Piece.TheVariants.{Number as Numeral}
use Rattle.rules.specs.Written.{items_of, stops}
use Rattle.commands.specs.Words.{signed}

-- ---- the letters of a command

pub data Token : Type 0 where
  figure : (p : ℕ) (σ : Bool) (v : ℕ) → Token
  seconded : (b : ℕ) → Token
  turned : (n b : ℕ) → Token
  axled : (b : ℕ) → Token
  lettered : (b : ℕ) → Token

abbrev pub with_token : Role → ℕ → ℕ → ℕ → ℕ → List Token → List Token
with_token lead n p b v ts = figure p (ltb p n) v ∷ ts
with_token second n p b v ts = seconded b ∷ ts
with_token turn n p b v ts = turned n b ∷ ts
with_token axis n p b v ts = axled b ∷ ts
with_token name n p b v ts = lettered b ∷ ts
with_token skip n p b v ts = ts
with_token sign n p b v ts = ts
with_token later n p b v ts = ts
with_token head n p b v ts = []
with_token stop n p b v ts = []

unfoldable pub tokens : ℕ → ℕ → List Letter → List Token
tokens n p [] = []
tokens n p (l ∷ m) = with_token l.role n p l.byte (worth (digit_of l.byte) m) (tokens (n + 1) (place_after l.role n) m)

-- what is asked of a letter by its role: A of a command's first letter, B of its semicolon, and X of any other
abbrev pub ByRole : Role → Type 0 → Type 0 → Type 0 → Type 0
ByRole head A B X = A
ByRole stop A B X = B
ByRole skip A B X = X
ByRole second A B X = X
ByRole turn A B X = X
ByRole axis A B X = X
ByRole sign A B X = X
ByRole lead A B X = X
ByRole later A B X = X
ByRole name A B X = X

-- a command's letters end with its semicolon, before another command's first letter
abbrev pub ClosedBy : Role → ℕ → Type 0 → Type 0
ClosedBy ρ b X = ByRole ρ ⊥ (b ≡ 59) X

unfoldable pub Closed : List Letter → Type 0
Closed [] = ⊥
Closed (l ∷ m) = ClosedBy l.role l.byte (Closed m)

-- ---- the account's pieces

abbrev pub piece_of : Token → Piece
piece_of (figure p σ v) = Numeral p σ (capped v)
piece_of (seconded b) = Second b
piece_of (turned n b) = Word b
piece_of (axled b) = Word b
piece_of (lettered b) = Word b

abbrev pub pieces_of : List Token → List Piece
pieces_of [] = []
pieces_of (t ∷ ts) = piece_of t ∷ pieces_of ts

pub items_are : (m : List Letter) (n p : ℕ) → items_of (pieces n p m) ≡ pieces_of (tokens n p m)
unfolding items_of pieces tokens
items_are [] n p = refl
items_are (l ∷ m) n p = go l.role (items_are m (n + 1) (place_after l.role n))
  where
    v : ℕ
    v = worth (digit_of l.byte) m

    xs : List Piece
    xs = pieces (n + 1) (place_after l.role n) m

    ts : List Token
    ts = tokens (n + 1) (place_after l.role n) m

    go : (ρ : Role) → items_of xs ≡ pieces_of ts → items_of (with_piece ρ n p l.byte v xs) ≡ pieces_of (with_token ρ n p l.byte v ts)
    go skip h = h
    go head h = refl
    go second h = ap (λ (x : List Piece). Second l.byte ∷ x) h
    go turn h = ap (λ (x : List Piece). Word l.byte ∷ x) h
    go axis h = ap (λ (x : List Piece). Word l.byte ∷ x) h
    go sign h = h
    go lead h = ap (λ (x : List Piece). Numeral p (ltb p n) (capped v) ∷ x) h
    go later h = h
    go name h = ap (λ (x : List Piece). Word l.byte ∷ x) h
    go stop h = refl

pub stops_are : (m : List Letter) → Closed m → (n p : ℕ) → stops (pieces n p m) ≡ true
unfolding stops pieces Closed
stops_are [] c n p = absurd c
stops_are (l ∷ m) c n p = go l.role c (λ d. stops_are m d (n + 1) (place_after l.role n))
  where
    v : ℕ
    v = worth (digit_of l.byte) m

    xs : List Piece
    xs = pieces (n + 1) (place_after l.role n) m

    go : (ρ : Role) → ClosedBy ρ l.byte (Closed m) → (Closed m → stops xs ≡ true) → stops (with_piece ρ n p l.byte v xs) ≡ true
    go skip c f = f c
    go head c f = absurd c
    go second c f = f c
    go turn c f = f c
    go axis c f = f c
    go sign c f = f c
    go lead c f = f c
    go later c f = f c
    go name c f = f c
    go stop c f = refl

-- ---- the definition's numbers, names and letters

unfoldable pub figures_of : List Token → List Number
figures_of [] = []
figures_of (figure p σ v ∷ ts) = at p (signed σ v) ∷ figures_of ts
figures_of (seconded b ∷ ts) = figures_of ts
figures_of (turned n b ∷ ts) = []
figures_of (axled b ∷ ts) = figures_of ts
figures_of (lettered b ∷ ts) = figures_of ts

unfoldable pub names_of : List Token → List ℕ
names_of [] = []
names_of (figure p σ v ∷ ts) = names_of ts
names_of (seconded b ∷ ts) = names_of ts
names_of (turned n b ∷ ts) = names_of ts
names_of (axled b ∷ ts) = names_of ts
names_of (lettered b ∷ ts) = b ∷ names_of ts

abbrev role_of : Token → Role
role_of (figure p σ v) = lead
role_of (seconded b) = second
role_of (turned n b) = turn
role_of (axled b) = axis
role_of (lettered b) = name

abbrev byte_of : Token → ℕ → ℕ
byte_of (figure p σ v) d = d
byte_of (seconded b) d = b
byte_of (turned n b) d = b
byte_of (axled b) d = b
byte_of (lettered b) d = b

-- the first letter of this role, or else the semicolon
unfoldable pub seek : Role → List Token → ℕ
seek ρ [] = 59
seek ρ (t ∷ ts) = let rest = seek ρ ts in if dec (Role-discrete (role_of t) ρ) then byte_of t 59 else rest

-- a number that begins at place n behind a minus sign or not has the place p
pub record Before (minus : Bool) (n p : ℕ) : Type 0 where
  pub place : (if minus then n - 1 else n) ≡ p
  pub told : ltb p n ≡ minus

pub before_here : (n : ℕ) → Before false n n
before_here n = record { place = refl; told = le-ltb n n (omega arith) }

before-next : (ρ : Role) (n : ℕ) → Before (dec (Role-discrete ρ sign)) (n + 1) (place_after ρ n)
unfolding dec
before-next sign n = record { place = omega arith; told = lt-ltb n (n + 1) (omega arith) }
before-next skip n = before_here (n + 1)
before-next head n = before_here (n + 1)
before-next second n = before_here (n + 1)
before-next turn n = before_here (n + 1)
before-next axis n = before_here (n + 1)
before-next lead n = before_here (n + 1)
before-next later n = before_here (n + 1)
before-next name n = before_here (n + 1)
before-next stop n = before_here (n + 1)

number_is : (minus : Bool) (n p v : ℕ) → Before minus n p → (if minus then at (n - 1) (neg_ℤ (pos v)) else at n (pos v)) ≡ at p (signed (ltb p n) v)
number_is true n p v b = rw b.told (ap (λ (x : ℕ). at x (neg_ℤ (pos v))) b.place)
number_is false n p v b = rw b.told (ap (λ (x : ℕ). at x (pos v)) b.place)

pub numbers_are : (m : List Letter) → Closed m → (n p : ℕ) (minus : Bool) → Before minus n p → numbers n minus m ≡ figures_of (tokens n p m)
unfolding numbers tokens figures_of Closed dec
numbers_are [] c n p minus b = refl
numbers_are (l ∷ m) c n p minus b =
    go l.role c (λ d. numbers_are m d (n + 1) (place_after l.role n) (dec (Role-discrete l.role sign)) (before-next l.role n))
  where
    v : ℕ
    v = worth (digit_of l.byte) m

    z : Number
    z = if minus then at (n - 1) (neg_ℤ (pos v)) else at n (pos v)

    ns : List Number
    ns = numbers (n + 1) (dec (Role-discrete l.role sign)) m

    ts : List Token
    ts = tokens (n + 1) (place_after l.role n) m

    go : (ρ : Role) → ClosedBy ρ l.byte (Closed m) → (Closed m → ns ≡ figures_of ts)
        → (if dec (Role-discrete ρ turn) || dec (Role-discrete ρ stop) then [] else if dec (Role-discrete ρ lead) then z ∷ ns else ns) ≡ figures_of (with_token ρ n p l.byte v ts)
    go skip c f = f c
    go head c f = absurd c
    go second c f = f c
    go turn c f = refl
    go axis c f = f c
    go sign c f = f c
    go lead c f = ap₂ {C = List Number} (λ (x : Number) (y : List Number). x ∷ y) (number_is minus n p v b) (f c)
    go later c f = f c
    go name c f = f c
    go stop c f = refl

pub named_are : (m : List Letter) → Closed m → (n p : ℕ) → named m ≡ names_of (tokens n p m)
unfolding named tokens names_of Closed dec
named_are [] c n p = refl
named_are (l ∷ m) c n p = go l.role c (λ d. named_are m d (n + 1) (place_after l.role n))
  where
    v : ℕ
    v = worth (digit_of l.byte) m

    ts : List Token
    ts = tokens (n + 1) (place_after l.role n) m

    go : (ρ : Role) → ClosedBy ρ l.byte (Closed m) → (Closed m → named m ≡ names_of ts)
        → (if dec (Role-discrete ρ stop) then [] else if dec (Role-discrete ρ name) then l.byte ∷ named m else named m) ≡ names_of (with_token ρ n p l.byte v ts)
    go skip c f = f c
    go head c f = absurd c
    go second c f = f c
    go turn c f = f c
    go axis c f = f c
    go sign c f = f c
    go lead c f = f c
    go later c f = f c
    go name c f = ap (λ (x : List ℕ). l.byte ∷ x) (f c)
    go stop c f = refl

-- a role of which every letter is a token
pub record Sought (σ : Role) : Type 0 where
  pub not_skip : dec (Role-discrete skip σ) ≡ false
  pub not_sign : dec (Role-discrete sign σ) ≡ false
  pub not_lead : dec (Role-discrete lead σ) ≡ false
  pub not_later : dec (Role-discrete later σ) ≡ false

module _ (σ : Role) (s : Sought σ) where
  pub next_is : (m : List Letter) → Closed m → (n p : ℕ) → (next σ m).byte ≡ seek σ (tokens n p m)
  unfolding next tokens seek Closed dec
  next_is [] c n p = refl
  next_is (l ∷ m) c n p = go l.role c (λ d. next_is m d (n + 1) (place_after l.role n))
    where
      v : ℕ
      v = worth (digit_of l.byte) m

      k : Letter
      k = next σ m

      ts : List Token
      ts = tokens (n + 1) (place_after l.role n) m

      by : (t : Bool) → k.byte ≡ seek σ ts → (if t || false then l else k).byte ≡ (if t then l.byte else seek σ ts)
      by true e = refl
      by false e = e

      pass : (t : Bool) → t ≡ false → k.byte ≡ seek σ ts → (if t || false then l else k).byte ≡ seek σ ts
      pass t d e = rw d e

      last : (t : Bool) → l.byte ≡ 59 → (if t || true then l else k).byte ≡ 59
      last true e = e
      last false e = e

      go : (ρ : Role) → ClosedBy ρ l.byte (Closed m) → (Closed m → k.byte ≡ seek σ ts)
          → (if dec (Role-discrete ρ σ) || dec (Role-discrete ρ stop) then l else k).byte ≡ seek σ (with_token ρ n p l.byte v ts)
      go skip c f = pass _ s.not_skip (f c)
      go head c f = absurd c
      go second c f = by (dec (Role-discrete second σ)) (f c)
      go turn c f = by (dec (Role-discrete turn σ)) (f c)
      go axis c f = by (dec (Role-discrete axis σ)) (f c)
      go sign c f = pass _ s.not_sign (f c)
      go lead c f = rw s.not_lead (f c)
      go later c f = pass _ s.not_later (f c)
      go name c f = by (dec (Role-discrete name σ)) (f c)
      go stop c f = last (dec (Role-discrete stop σ)) c

seek_axis : Sought axis
unfolding dec
seek_axis = record { not_skip = refl; not_sign = refl; not_lead = refl; not_later = refl }

seek_second : Sought second
unfolding dec
seek_second = record { not_skip = refl; not_sign = refl; not_lead = refl; not_later = refl }

-- ---- the definition's transformations and commands

-- a transformation and a command, by what they are read off
unfoldable pub turn_by : ℕ → ℕ → List Number → ℕ → Turn Number
turn_by n b ns x =
    let nr : ℕ → Number = nth n ns (pos 0) in
    if has 'T' b then translate (point (nr 0) (nr 1)) else if has 'R' b then rotate (point (nr 0) (nr 1)) else if has 'X' x then mirror_x else mirror_y

unfoldable pub turns_of : List Token → List (Turn Number)
turns_of [] = []
turns_of (figure p σ v ∷ ts) = turns_of ts
turns_of (seconded b ∷ ts) = turns_of ts
turns_of (turned n b ∷ ts) = turn_by n b (figures_of ts) (seek axis ts) ∷ turns_of ts
turns_of (axled b ∷ ts) = turns_of ts
turns_of (lettered b ∷ ts) = turns_of ts

turn_is : (n : ℕ) (l : Letter) (m : List Letter) → Closed m → turn_at n l m ≡ turn_by n l.byte (figures_of (tokens (n + 1) (n + 1) m)) (seek axis (tokens (n + 1) (n + 1) m))
unfolding turn_at turn_by
turn_is n l m c =
    let by : List Number → ℕ → Turn Number = turn_by n l.byte in
    ap₂ {C = Turn Number} by (numbers_are m c (n + 1) (n + 1) false (before_here (n + 1))) (next_is axis seek_axis m c (n + 1) (n + 1))

pub turns_are : (m : List Letter) → Closed m → (n p : ℕ) → turns n m ≡ turns_of (tokens n p m)
unfolding turns tokens turns_of Closed dec
turns_are [] c n p = refl
turns_are (l ∷ m) c n p = go l.role c (λ d. turns_are m d (n + 1) (place_after l.role n))
  where
    v : ℕ
    v = worth (digit_of l.byte) m

    us : List (Turn Number)
    us = turns (n + 1) m

    go : (ρ : Role) → ClosedBy ρ l.byte (Closed m) → (Closed m → us ≡ turns_of (tokens (n + 1) (place_after ρ n) m))
        → (if dec (Role-discrete ρ stop) then [] else if dec (Role-discrete ρ turn) then turn_at n l m ∷ us else us)
        ≡ turns_of (with_token ρ n p l.byte v (tokens (n + 1) (place_after ρ n) m))
    go skip c f = f c
    go head c f = absurd c
    go second c f = f c
    go turn c f = ap₂ {C = List (Turn Number)} (λ (x : Turn Number) (y : List (Turn Number)). x ∷ y) (turn_is n l m c) (f c)
    go axis c f = f c
    go sign c f = f c
    go lead c f = f c
    go later c f = f c
    go name c f = f c
    go stop c f = refl

unfoldable pub command_by : ℕ → ℕ → List Number → List ℕ → List (Turn Number) → ℕ → Command
command_by n b ns l ts x =
    let nr : ℕ → Number = nth n ns (pos 0) in
    let nr₁ : ℕ → Number = nth n ns (pos 1) in
    if has 'P' b then draw (shape_of polygon [] (paired ns) [])
    else if has 'B' b then draw (shape_of box (nr 0 ∷ nr 1 ∷ []) (point (nr 2) (nr 3) ∷ []) (point (nr₁ 4) (nr 5) ∷ []))
    else if has 'R' b then draw (shape_of flash (nr 0 ∷ []) (point (nr 1) (nr 2) ∷ []) [])
    else if has 'W' b then draw (shape_of wire (nr 0 ∷ []) (paired (drop 1 ns)) [])
    else if has 'L' b then layer l
    else if has 'C' b then call (nr 0) ts
    else if has 'D' b then (if has 'S' x then start (nr 0) (nr₁ 1) (nr₁ 2) else if has 'D' x then delete (nr 0) else finish)
    else nothing

abbrev pub command_of : ℕ → ℕ → List Token → Command
command_of n b ts = command_by n b (figures_of ts) (names_of ts) (turns_of ts) (seek second ts)

pub command_is : (n : ℕ) (l : Letter) (m : List Letter) → Closed m → command_at n l m ≡ command_of n l.byte (tokens (n + 1) (n + 1) m)
command_is n l m c =
    by ∙ rw (numbers_are m c (n + 1) (n + 1) false (before_here (n + 1)), named_are m c (n + 1) (n + 1), turns_are m c (n + 1) (n + 1), next_is second seek_second m c (n + 1) (n + 1))
  where
    by : command_at n l m ≡ command_by n l.byte (numbers (n + 1) false m) (named m) (turns (n + 1) m) (next second m).byte
    by = unfold command_at command_by in refl
