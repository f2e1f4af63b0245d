-- The productions as tokens: which tokens the letters of a command are, one production after another. Q says what follows, so that a production's law
-- is that its letters lead from Q to one token more.
-- Assumes nothing.
use mathlib.Core.Path.{◌≡◌, refl, sym, ap, ◌∙◌, subst}
use mathlib.Core.Bool.{Bool, true, false}
use mathlib.Core.List.{List, [], ◌∷◌, ◌++◌, append_assoc}
use mathlib.Core.Logic.{inl, inr}
use Prim.Native.Nat.{ℕ, suc, ◌+◌}
use lib.Dec.{T, eqb, ltb, eqb→eq}
use Rattle.grammar.specs.Notation.{Class, Role, Letter, Expression, Match, has, 'M', 'R', 'T', 'X', 'Y', '-'}
use Rattle.grammar.specs.Notation.{is as matches}
use Rattle.grammar.specs.Notation.{skip, head, second, turn, axis, sign, lead, later, name, stop}
use Rattle.grammar.specs.Notation.{one, ◌▹◌, ◌∣◌, many, option, char, both, left, right, none, more, absent, present}
use Rattle.grammar.specs.Productions.{blank, sep, c, shortname, integer_d, integer, sinteger, path, transformation}
use Rattle.grammar.specs.Productions.{point as point_rule}
use Rattle.definition.specs.Commands.{worth}
use Rattle.laws.proofs.Lists.Range.{All}
use Rattle.laws.proofs.FlatFile.Spelling.{NameChar}
use Rattle.laws.proofs.Commands.Ordered.{everywhere, match_all, role_of, byte_of}
use Rattle.pieces.specs.Pieces.{digit_of, place_after}
use Rattle.reading.proofs.Tokens.{Token, figure, seconded, turned, axled, lettered, with_token, tokens}

-- ---- tokens in order

-- a number, and then what Q says
pub data Then (Q : List Token → Type 0) : List Token → Type 0 where
  then_number : (p : ℕ) (σ : Bool) (v : ℕ) {ts : List Token} → Q ts → Then Q (figure p σ v ∷ ts)

abbrev pub End : List Token → Type 0
End ts = ts ≡ []

pub data Pairs : List Token → Type 0 where
  no_pairs : Pairs []
  a_pair : (p : ℕ) (σ : Bool) (v q : ℕ) (τ : Bool) (w : ℕ) {ts : List Token} → Pairs ts → Pairs (figure p σ v ∷ figure q τ w ∷ ts)

pub data Transformed : List Token → Type 0 where
  unturned : Transformed []
  shifted : (n p : ℕ) (σ : Bool) (v q : ℕ) (τ : Bool) (w : ℕ) {ts : List Token} → Transformed ts → Transformed (turned n 84 ∷ figure p σ v ∷ figure q τ w ∷ ts)
  flipped_x : (n : ℕ) {ts : List Token} → Transformed ts → Transformed (turned n 77 ∷ axled 88 ∷ ts)
  flipped_y : (n : ℕ) {ts : List Token} → Transformed ts → Transformed (turned n 77 ∷ axled 89 ∷ ts)
  rotated : (n p : ℕ) (σ : Bool) (v q : ℕ) (τ : Bool) (w : ℕ) {ts : List Token} → Transformed ts → Transformed (turned n 82 ∷ figure p σ v ∷ figure q τ w ∷ ts)

pub data Spelt : ℕ → List Token → Type 0 where
  no_name : {k : ℕ} → Spelt k []
  a_name : {k b : ℕ} {ts : List Token} → NameChar b → Spelt k ts → Spelt (suc k) (lettered b ∷ ts)

pub data Layered : List Token → Type 0 where
  layered : {b : ℕ} {ts : List Token} → NameChar b → Spelt 3 ts → Layered (lettered b ∷ ts)

pub data Boxed : List Token → Type 0 where
  straight : {ts : List Token} → End ts → Boxed ts
  aimed : {ts : List Token} → Then (Then End) ts → Boxed ts

-- a second letter, and then what Q says
pub data Seconds (b : ℕ) (Q : List Token → Type 0) : List Token → Type 0 where
  seconds : {ts : List Token} → Q ts → Seconds b Q (seconded b ∷ ts)

pub pairs_of : {ts : List Token} → Then (Then Pairs) ts → Pairs ts
pairs_of (then_number p σ v (then_number q τ w r)) = a_pair p σ v q τ w r

-- ---- the letters of a production lead there

abbrev pub Reaches : (List Token → Type 0) → List Letter → Type 0
Reaches Q m = (n : ℕ) → Q (tokens n n m)

-- letters in two parts
pub in_turn : (P : List Letter → Type 0) (u v m : List Letter) {w : List Letter} → w ≡ u ++ v → P (u ++ (v ++ m)) → P (w ++ m)
in_turn P u v m e h = subst P (sym (ap (λ (x : List Letter). x ++ m) e ∙ append_assoc u v m)) h

-- a letter of a production, by its role
pub a_letter : (ρ : Role) (k : Class) (a : Letter) → T (matches ρ k a) → (m : List Letter) (n p : ℕ)
    → tokens n p (a ∷ m) ≡ with_token ρ n p a.byte (worth (digit_of a.byte) m) (tokens (n + 1) (place_after ρ n) m)
unfolding tokens
a_letter ρ k a h m n p = rw (role_of ρ k a h)

-- letters that are no token
unfoldable pub silent : Role → Bool
silent skip = true
silent later = true
silent head = false
silent second = false
silent turn = false
silent axis = false
silent sign = false
silent lead = false
silent name = false
silent stop = false

silently : (ρ : Role) → T (silent ρ) → (n b v : ℕ) (f : ℕ → List Token) → with_token ρ n n b v (f (place_after ρ n)) ≡ f (n + 1)
unfolding silent
silently skip h n b v f = refl
silently later h n b v f = refl
silently head h n b v f = absurd h
silently second h n b v f = absurd h
silently turn h n b v f = absurd h
silently axis h n b v f = absurd h
silently sign h n b v f = absurd h
silently lead h n b v f = absurd h
silently name h n b v f = absurd h
silently stop h n b v f = absurd h

pub by_role : (f : Role → Bool) {r : Expression} {w : List Letter} → Match r w → T (everywhere (λ ρ c. f ρ) r) → All (λ (l : Letter). T (f l.role)) w
by_role f k t = match_all (λ ρ c. f ρ) (λ (l : Letter). T (f l.role)) (λ ρ c a h m. subst (λ (σ : Role). T (f σ)) (sym (role_of ρ c a m)) h) k t

module _ (Q : List Token → Type 0) (m : List Letter) (f : Reaches Q m) where
  pass : (w : List Letter) → All (λ (l : Letter). T (silent l.role)) w → Reaches Q (w ++ m)
  unfolding All tokens
  pass [] h n = f n
  pass (l ∷ w) h n = rw (silently l.role h.0 n l.byte (worth (digit_of l.byte) (w ++ m)) (λ p. tokens (n + 1) p (w ++ m))) (pass w h.1 (n + 1))

  pub passing : {r : Expression} {w : List Letter} → T (everywhere (λ ρ c. silent ρ) r) → Match r w → Reaches Q (w ++ m)
  passing {w = w} t k = pass w (by_role silent k t)

  pub blanks : {w : List Letter} → Match (many blank) w → Reaches Q (w ++ m)
  unfolding everywhere silent
  blanks k = passing tt k

  digits_on : {w : List Letter} → Match integer_d w → (n p : ℕ) → Then Q (tokens n p (w ++ m))
  unfolding everywhere silent
  digits_on (both u v (char {a = a} h) k e) n p =
      in_turn (λ x. Then Q (tokens n p x)) u v m e (rw (a_letter lead _ a h (v ++ m) n p) (then_number p (ltb p n) _ (passing tt k (n + 1))))

  signed_on : {v w : List Letter} → Match (option (one sign '-')) v → Match integer_d w → Reaches (Then Q) (v ++ (w ++ m))
  signed_on absent k n = digits_on k n n
  signed_on {w = w} (present (char {a = a} h)) k n = rw (a_letter sign _ a h (w ++ m) n n) (digits_on k (n + 1) n)

module _ (Q : List Token → Type 0) (m : List Letter) (f : Reaches Q m) where
  pub integer_on : {w : List Letter} → Match integer w → Reaches (Then Q) (w ++ m)
  unfolding everywhere silent
  integer_on (both u v k d e) = in_turn (Reaches (Then Q)) u v m e (passing (Then Q) (v ++ m) (λ n. digits_on Q m f d n n) tt k)

  sinteger_on : {w : List Letter} → Match sinteger w → Reaches (Then Q) (w ++ m)
  unfolding everywhere silent
  sinteger_on (both u v k (both x y s d i) e) =
      in_turn (Reaches (Then Q)) u v m e (passing (Then Q) (v ++ m) (in_turn (Reaches (Then Q)) x y m i (signed_on Q m f s d)) tt k)

  pub sep_on : {w : List Letter} → Match sep w → Reaches Q (w ++ m)
  unfolding everywhere silent
  sep_on k = passing Q m f tt k

module _ (Q : List Token → Type 0) (m : List Letter) (f : Reaches Q m) where
  pub sep-integer : {w : List Letter} → Match (sep ▹ integer) w → Reaches (Then Q) (w ++ m)
  sep-integer (both u v s k e) = in_turn (Reaches (Then Q)) u v m e (sep_on (Then Q) (v ++ m) (integer_on Q m f k) s)

  pub point_on : {w : List Letter} → Match point_rule w → Reaches (Then (Then Q)) (w ++ m)
  point_on (both u v k (both x y s l i) e) =
      in_turn (Reaches (Then (Then Q))) u v m e
      (sinteger_on (Then Q) (v ++ m) (in_turn (Reaches (Then Q)) x y m i (sep_on (Then Q) (y ++ m) (sinteger_on Q m f l) s)) k)

  pub sep-point : {w : List Letter} → Match (sep ▹ point_rule) w → Reaches (Then (Then Q)) (w ++ m)
  sep-point (both u v s k e) = in_turn (Reaches (Then (Then Q))) u v m e (sep_on (Then (Then Q)) (v ++ m) (point_on k) s)

module _ (m : List Letter) (f : Reaches Pairs m) where
  points_on : {w : List Letter} → Match (many (sep ▹ point_rule)) w → Reaches Pairs (w ++ m)
  points_on none = f
  points_on (more u v k l e) = in_turn (Reaches Pairs) u v m e (λ n. pairs_of (sep-point Pairs (v ++ m) (points_on l) k n))

  pub path_on : {w : List Letter} → Match path w → Reaches (Then (Then Pairs)) (w ++ m)
  path_on (both u v k l e) = in_turn (Reaches (Then (Then Pairs))) u v m e (point_on Pairs (v ++ m) (points_on l) k)

-- transformations
pub byte_is : (ρ : Role) (k : Class) (b : ℕ) (a : Letter) → ((x : ℕ) → T (has k x) → T (eqb x b)) → T (matches ρ k a) → a.byte ≡ b
byte_is ρ k b a f h = eqb→eq a.byte b (f a.byte (byte_of ρ k a h))

is_shift : (n : ℕ) {ts : List Token} → Then (Then Transformed) ts → Transformed (turned n 84 ∷ ts)
is_shift n (then_number p σ v (then_number q τ w r)) = shifted n p σ v q τ w r

is_rotation : (n : ℕ) {ts : List Token} → Then (Then Transformed) ts → Transformed (turned n 82 ∷ ts)
is_rotation n (then_number p σ v (then_number q τ w r)) = rotated n p σ v q τ w r

abbrev one_turn : Expression
one_turn = one turn 'T' ▹ point_rule ∣ one turn 'M' ▹ many blank ▹ one axis 'X' ∣ one turn 'M' ▹ many blank ▹ one axis 'Y' ∣ one turn 'R' ▹ point_rule

module _ (m : List Letter) (f : Reaches Transformed m) where
  mirror_on : (x : Class) (b : ℕ) → ((y : ℕ) → T (has x y) → T (eqb y b)) → ((n : ℕ) (ts : List Token) → Transformed ts → Transformed (turned n 77 ∷ axled b ∷ ts))
      → {w : List Letter} → Match (one turn 'M' ▹ many blank ▹ one axis x) w → Reaches Transformed (w ++ m)
  unfolding has
  mirror_on x b g t (both u v (char {a = a} h) (both p q k (char {a = o} l) i) e) =
      in_turn (Reaches Transformed) u v m e
      (λ n. rw (a_letter turn _ a h (v ++ m) n n, byte_is turn 'M' 77 a (λ y z. z) h)
      (in_turn (Reaches (λ ts. Transformed (turned n 77 ∷ ts))) p q m i
      (blanks (λ ts. Transformed (turned n 77 ∷ ts)) (q ++ m) (λ j. rw (a_letter axis _ o l m j j, byte_is axis x b o g l) (t n _ (f (j + 1)))) k) (n + 1)))

  turn_on : {w : List Letter} → Match one_turn w → Reaches Transformed (w ++ m)
  unfolding has
  turn_on (left (both u v (char {a = a} h) k e)) =
      in_turn (Reaches Transformed) u v m e
      (λ n. rw (a_letter turn _ a h (v ++ m) n n, byte_is turn 'T' 84 a (λ x t. t) h) (is_shift n (point_on Transformed m f k (n + 1))))
  turn_on (right (left k)) = mirror_on 'X' 88 (λ x t. t) (λ n ts r. flipped_x n r) k
  turn_on (right (right (left k))) = mirror_on 'Y' 89 (λ x t. t) (λ n ts r. flipped_y n r) k
  turn_on (right (right (right (both u v (char {a = a} h) k e)))) =
      in_turn (Reaches Transformed) u v m e
      (λ n. rw (a_letter turn _ a h (v ++ m) n n, byte_is turn 'R' 82 a (λ x t. t) h) (is_rotation n (point_on Transformed m f k (n + 1))))

pub transformation_on : (m : List Letter) → Reaches Transformed m → {w : List Letter} → Match transformation w → Reaches Transformed (w ++ m)
transformation_on m f none = f
transformation_on m f (more u v (both x y k t i) l e) =
    in_turn (Reaches Transformed) u v m e
    (in_turn (Reaches Transformed) x y (v ++ m) i (blanks Transformed (y ++ (v ++ m)) (turn_on (v ++ m) (transformation_on m f l) t) k))

-- names
module _ (Q R : List Token → Type 0) (g : (b : ℕ) (ts : List Token) → NameChar b → Q ts → R (lettered b ∷ ts)) (m : List Letter) (f : Reaches Q m) where
  name_on : {w : List Letter} → Match c w → Reaches R (w ++ m)
  name_on (left (char {a = a} h)) n = rw (a_letter name _ a h m n n) (g _ _ (inl (byte_of name _ a h)) (f (n + 1)))
  name_on (right (char {a = a} h)) n = rw (a_letter name _ a h m n n) (g _ _ (inr (byte_of name _ a h)) (f (n + 1)))

widen : {k : ℕ} {ts : List Token} → Spelt k ts → Spelt (suc k) ts
widen no_name = no_name
widen (a_name h s) = a_name h (widen s)

option_name : (k : ℕ) (m : List Letter) → Reaches (Spelt k) m → {w : List Letter} → Match (option c) w → Reaches (Spelt (suc k)) (w ++ m)
option_name k m f absent n = widen (f n)
option_name k m f (present h) n = name_on (Spelt k) (Spelt (suc k)) (λ b ts i s. a_name i s) m f h n

pub shortname_on : (m : List Letter) → Reaches (Spelt 0) m → {w : List Letter} → Match shortname w → Reaches Layered (w ++ m)
shortname_on m f (both u v k (both x y l (both z w n o d) i) e) =
    in_turn (Reaches Layered) u v m e
    (name_on (Spelt 3) Layered (λ b ts i s. layered i s) (v ++ m)
    (in_turn (Reaches (Spelt 3)) x y m i (option_name 2 (y ++ m) (in_turn (Reaches (Spelt 2)) z w m d (option_name 1 (w ++ m) (option_name 0 m f o) n)) l)) k)
