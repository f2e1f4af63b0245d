-- A text has one marking, the one that the recogniser makes as it goes; and a matched text is ASCII, so nothing is asked of its bytes.
-- Assumes nothing.
use mathlib.Core.Path.{◌≡◌, refl, sym, ap, ap₂, ◌∙◌, subst}
use mathlib.Core.Bool.{Bool, true, false, not, ◌&&◌}
use mathlib.Core.List.{List, [], ◌∷◌, ◌++◌}
use Prim.Native.Nat.{ℕ, zero, suc, ◌≤◌, ◌<◌}
use native.Mathlib.Omega.{arith}
use borrow.Author.Tests.{ne_eqb}
use lib.Dec.{T, leb, eqb, leb→le, eqb→eq}
use lib.ListN.{get_or}
use Rattle.grammar.specs.Notation.{Class, Role, Role-discrete, Letter, Expression, Match, ascii, digit, upper, has, is, dec}
use Rattle.grammar.specs.Notation.{Digit, Upper, Blank, User, Comment, '-', lpar, rpar, semicolon}
use Rattle.grammar.specs.Notation.{'B', 'C', 'D', 'E', 'F', 'L', 'M', 'P', 'R', 'S', 'T', 'W', 'X', 'Y'}
use Rattle.grammar.specs.Notation.{char, both, left, right, none, more, absent, present, text}
use Rattle.grammar.specs.Tables.{state_count, stuck, letter}
use Rattle.grammar.specs.Steps.{mode_after, marked}
use Rattle.grammar.specs.Viable.{bytes, Marked}
use Rattle.grammar.proofs.Tests.{and_left, and_right}
use Rattle.grammar.proofs.Automaton.{Lang, step-role, step_to, start_to}

-- every byte of a class is ASCII
below : (a n : ℕ) → T (leb a n) → n ≤ 127 → a < 128
below a n t h = let k = leb→le a n t in omega arith

exactly : (a n : ℕ) → T (eqb a n) → n ≤ 127 → a < 128
exactly a n t h = let e = eqb→eq a n t in omega arith

peeled : (s a b c d e f : Bool) → T (s && a && b && c && d && e && f) → T s
peeled true a b c d e f h = tt
peeled false a b c d e f h = h

pub class_ascii : (c : Class) (a : ℕ) → T (has c a) → a < 128
unfolding has
class_ascii Digit a t = below a 57 (and_right (leb 48 a) (leb a 57) t) (omega arith)
class_ascii Upper a t = below a 90 (and_right (leb 65 a) (leb a 90) t) (omega arith)
class_ascii Blank a t =
    below a 127 (peeled (ascii a) (not (digit a)) (not (upper a)) (not (eqb a 45)) (not (eqb a 40)) (not (eqb a 41)) (not (eqb a 59)) t) (omega arith)
class_ascii User a t = below a 127 (and_left (ascii a) (not (eqb a 59)) t) (omega arith)
class_ascii Comment a t =
    below a 127 (and_left (ascii a) (not (eqb a 40)) (and_left (ascii a && not (eqb a 40)) (not (eqb a 41)) t)) (omega arith)
class_ascii '-' a t = exactly a 45 t (omega arith)
class_ascii lpar a t = exactly a 40 t (omega arith)
class_ascii rpar a t = exactly a 41 t (omega arith)
class_ascii semicolon a t = exactly a 59 t (omega arith)
class_ascii 'B' a t = exactly a 66 t (omega arith)
class_ascii 'C' a t = exactly a 67 t (omega arith)
class_ascii 'D' a t = exactly a 68 t (omega arith)
class_ascii 'E' a t = exactly a 69 t (omega arith)
class_ascii 'F' a t = exactly a 70 t (omega arith)
class_ascii 'L' a t = exactly a 76 t (omega arith)
class_ascii 'M' a t = exactly a 77 t (omega arith)
class_ascii 'P' a t = exactly a 80 t (omega arith)
class_ascii 'R' a t = exactly a 82 t (omega arith)
class_ascii 'S' a t = exactly a 83 t (omega arith)
class_ascii 'T' a t = exactly a 84 t (omega arith)
class_ascii 'W' a t = exactly a 87 t (omega arith)
class_ascii 'X' a t = exactly a 88 t (omega arith)
class_ascii 'Y' a t = exactly a 89 t (omega arith)

-- every byte of the letters is below n
abbrev pub Below : ℕ → List Letter → Type 0
Below n m = (i : ℕ) → get_or (bytes m) i 0 < n

joined : (u v : List Letter) {w : List Letter} → Below 128 u → Below 128 v → w ≡ u ++ v → Below 128 w
joined u v f g e = subst (Below 128) (sym e) (go u f)
  where
    go : (u : List Letter) → Below 128 u → Below 128 (u ++ v)
    go [] f i = g i
    go (l ∷ u) f zero = f 0
    go (l ∷ u) f (suc j) = go u (λ k. f (suc k)) j

of_letter : (ρ : Role) (c : Class) (l : Letter) → T (is ρ c l) → Below 128 (l ∷ [])
unfolding is
of_letter ρ c l t zero = class_ascii c l.byte (and_right (dec (Role-discrete ρ l.role)) (has c l.byte) t)
of_letter ρ c l t (suc i) = omega arith

pub match_ascii : {r : Expression} {w : List Letter} → Match r w → Below 128 w
match_ascii (char {ρ} {c} {a} h) = of_letter ρ c a h
match_ascii (both u v m n e) = joined u v (match_ascii m) (match_ascii n) e
match_ascii (left m) = match_ascii m
match_ascii (right m) = match_ascii m
match_ascii none = λ i. omega arith
match_ascii (more u v m n e) = joined u v (match_ascii m) (match_ascii n) e
match_ascii absent = λ i. omega arith
match_ascii (present m) = match_ascii m
match_ascii (text m) = match_ascii m

-- the letters of a state and a depth are those that the recogniser makes there
pub marking : (m : List Letter) (q d : ℕ) → q < state_count → Below 256 m → Lang q d m → m ≡ marked q d (bytes m)
unfolding marked
marking [] q d h b k = refl
marking (l ∷ m) q d h b k =
    let a = l.byte in
    let p = step_to q a h (b 0) d l.role k in
    let n : (mode_after q d a).state ≡ stuck → ⊥ = λ e. let z = p.state in omega arith in
    rw (ne_eqb (mode_after q d a).state stuck n)
    (ap₂ {C = List Letter} (λ (x : Role) (y : List Letter). letter a x ∷ y) (step-role q a h (b 0) d l.role k)
    (marking m (mode_after q d a).state (mode_after q d a).depth p.state (λ i. b (suc i)) p.texts))

-- the marking of a text, and that there is only one
pub marking_is : {t : List ℕ} {m : List Letter} → Marked t m → m ≡ marked 0 0 t
marking_is {t} {m} k =
    let b : Below 256 m = λ i. let h = match_ascii k.rule i in omega arith in
    marking m 0 0 (omega arith) b (start_to k.rule) ∙ ap (λ (x : List ℕ). marked 0 0 x) k.reads

pub one_marking : {t : List ℕ} {m n : List Letter} → Marked t m → Marked t n → m ≡ n
one_marking k l = marking_is k ∙ sym (marking_is l)
