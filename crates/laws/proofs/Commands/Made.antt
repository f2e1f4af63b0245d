-- Commands of a grammatical text are well made: shapes have the numbers of their kind, sizes, symbol numbers, a and b have no sign, and layer names
-- are of one to four of the characters that they may have.
-- Assumes nothing.
use Rattle.std.specs.Prelude.{if◌then◌else◌}
use mathlib.Core.Path.{◌≡◌, refl, sym, ap, ◌∙◌, subst}
use mathlib.Core.Bool.{Bool, true, false, ◌&&◌}
use mathlib.Core.List.{List, [], ◌∷◌}
use mathlib.Core.Logic.{inl, inr}
use Prim.Native.Nat.{ℕ, ◌+◌, ◌≤◌, ◌<◌}
use native.Mathlib.Omega.{arith}
use lib.Dec.{T}
use lib.ListN.{length}
use Rattle.grammar.specs.Notation.{Expression, one, ◌▹◌, ◌∣◌, many, option, comment_text, Class, Role, Letter, Match, char, both, left, right, none, more, absent, present, text, dec, has}
use Rattle.grammar.specs.Notation.{Role-discrete, Digit, Upper, Blank, User, Comment, '-', lpar, rpar, semicolon, 'B', 'C', 'D', 'E', 'F', 'L', 'M', 'P', 'R', 'S', 'T', 'W', 'X', 'Y'}
use Rattle.grammar.specs.Notation.{skip, head, second, name, stop}
use Rattle.grammar.specs.Productions.{cif_file}
use Rattle.grammar.proofs.Tests.{and_left, and_right}
use Rattle.definition.specs.Words.{Placed, at, Point}
use Rattle.definition.specs.Commands.{box, flash, wire, polygon, Shape, Number, Command, draw, layer, call, start, finish, delete, nothing}
use Rattle.definition.specs.Commands.{numbers, paired, next, named, command_at, commands, ◌plays◌, ◌is◌}
use Rattle.laws.proofs.Lists.Range.{All, all-++}
use Rattle.laws.proofs.FlatFile.Spelling.{NameChar}
use Rattle.laws.proofs.Commands.Course.{Natural, Begun, Heads, matched_heads, box_brings, flash_brings, wire_brings, call_brings, start_brings, delete_brings}

-- ---- the characters of names

name_class : Class → Bool
name_class Digit = true
name_class Upper = true
name_class Blank = false
name_class User = false
name_class Comment = false
name_class '-' = false
name_class lpar = false
name_class rpar = false
name_class semicolon = false
name_class 'B' = false
name_class 'C' = false
name_class 'D' = false
name_class 'E' = false
name_class 'F' = false
name_class 'L' = false
name_class 'M' = false
name_class 'P' = false
name_class 'R' = false
name_class 'S' = false
name_class 'T' = false
name_class 'W' = false
name_class 'X' = false
name_class 'Y' = false

-- each character of role name in the expression is of such a class
tidy : Expression → Bool
tidy (one ρ c) = if dec (Role-discrete ρ name) then name_class c else true
tidy (r ▹ s) = tidy r && tidy s
tidy (r ∣ s) = tidy r && tidy s
tidy (many r) = tidy r
tidy (option r) = tidy r
tidy comment_text = true

abbrev pub Named : Letter → Type 0
Named l = (l plays name) ≡ true → NameChar l.byte

class_chars : (k : Class) (a : ℕ) → T (name_class k) → T (has k a) → NameChar a
unfolding name_class
class_chars Digit a t h = inl h
class_chars Upper a t h = inr h
class_chars Blank a t h = absurd t
class_chars User a t h = absurd t
class_chars Comment a t h = absurd t
class_chars '-' a t h = absurd t
class_chars lpar a t h = absurd t
class_chars rpar a t h = absurd t
class_chars semicolon a t h = absurd t
class_chars 'B' a t h = absurd t
class_chars 'C' a t h = absurd t
class_chars 'D' a t h = absurd t
class_chars 'E' a t h = absurd t
class_chars 'F' a t h = absurd t
class_chars 'L' a t h = absurd t
class_chars 'M' a t h = absurd t
class_chars 'P' a t h = absurd t
class_chars 'R' a t h = absurd t
class_chars 'S' a t h = absurd t
class_chars 'T' a t h = absurd t
class_chars 'W' a t h = absurd t
class_chars 'X' a t h = absurd t
class_chars 'Y' a t h = absurd t

dec-path : {A : Type 0} (d : Dec A) → T (dec d) → A
unfolding dec
dec-path (yes p) t = p
dec-path (no p) t = absurd t

one_tidy : (ρ : Role) (k : Class) (l : Letter) → T (Rattle.grammar.specs.Notation.is ρ k l) → T (if dec (Role-discrete ρ name) then name_class k else true) → Named l
unfolding Rattle.grammar.specs.Notation.is
one_tidy ρ k l h t e =
    let same-role : ρ ≡ l.role = dec-path (Role-discrete ρ l.role) (and_left (dec (Role-discrete ρ l.role)) (has k l.byte) h) in
    let e' : dec (Role-discrete ρ name) ≡ true = ap (λ (σ : Role). dec (Role-discrete σ name)) same-role ∙ e in
    class_chars k l.byte (subst (λ (b : Bool). T (if b then name_class k else true)) e' t) (and_right (dec (Role-discrete ρ l.role)) (has k l.byte) h)

comment_tidy : T (tidy (many (one skip Comment) ∣ comment_text ▹ one skip lpar ▹ comment_text ▹ one skip rpar ▹ comment_text))
unfolding tidy dec name_class
comment_tidy = tt

names_tidy : {r : Expression} {w : List Letter} → T (tidy r) → Match r w → All Named w
unfolding All tidy
names_tidy t (char {ρ} {c} {a} h) = (one_tidy ρ c a h t, tt)
names_tidy t (both {r} {s} u v m k e) = subst (All Named) (sym e) (all-++ Named u v (names_tidy (and_left (tidy r) (tidy s) t) m) (names_tidy (and_right (tidy r) (tidy s) t) k))
names_tidy t (left {r} {s} m) = names_tidy (and_left (tidy r) (tidy s) t) m
names_tidy t (right {r} {s} m) = names_tidy (and_right (tidy r) (tidy s) t) m
names_tidy t none = tt
names_tidy t (more u v m k e) = subst (All Named) (sym e) (all-++ Named u v (names_tidy t m) (names_tidy t k))
names_tidy t absent = tt
names_tidy t (present m) = names_tidy t m
names_tidy t (text m) = names_tidy comment_tidy m

cif_tidy : T (tidy cif_file)
unfolding tidy dec name_class
cif_tidy = tt

pub all_named : (m : List Letter) → Match cif_file m → All Named m
all_named m k = names_tidy cif_tidy k

named_chars : (m : List Letter) → All Named m → All NameChar (named m)
unfolding named All
named_chars [] h = tt
named_chars (l ∷ m) h = go (l plays stop) (l plays name) h.0 (named_chars m h.1)
  where
    go : (s b : Bool) → (b ≡ true → NameChar l.byte) → All NameChar (named m) → All NameChar (if s then [] else if b then l.byte ∷ named m else named m)
    go true b f x = tt
    go false true f x = (f refl, x)
    go false false f x = x

-- ---- shapes

pub data Drafted : Shape Number → Type 0 where
  a_box : {a b : Number} (c d : Point Number) → Natural a → Natural b → Drafted (record { kind = box; sizes = a ∷ b ∷ []; points = c ∷ []; directions = d ∷ [] })
  a_flash : {a : Number} (c : Point Number) → Natural a → Drafted (record { kind = flash; sizes = a ∷ []; points = c ∷ []; directions = [] })
  a_wire : {a : Number} (ps : List (Point Number)) → Natural a → Drafted (record { kind = wire; sizes = a ∷ []; points = ps; directions = [] })
  a_polygon : (ps : List (Point Number)) → Drafted (record { kind = polygon; sizes = []; points = ps; directions = [] })

pub sizes_natural : {w : Shape Number} → Drafted w → All Natural w.sizes
unfolding All
sizes_natural (a_box c d x y) = (x, (y, tt))
sizes_natural (a_flash c x) = (x, tt)
sizes_natural (a_wire ps x) = (x, tt)
sizes_natural (a_polygon ps) = tt

pub record Name (l : List ℕ) : Type 0 where
  pub short : length l ≤ 4
  pub chars : All NameChar l

unfoldable pub Made : Command → Type 0
Made (draw w) = Drafted w
Made (layer l) = (0 < length l) × Name l
Made (call n ts) = Natural n
Made (start n a b) = Natural n × (Natural a × Natural b)
Made finish = Unit {0}
Made (delete n) = Natural n
Made nothing = Unit {0}

either : (b : Bool) (c d : Command) → (b ≡ true → Made c) → Made d → Made (if b then c else d)
either true c d x y = x refl
either false c d x y = y

made : (n : ℕ) (l : Letter) (m : List Letter) → All Named m → Begun l m → Made (command_at n l m)
unfolding command_at Made
made n l m h g =
    let ns = numbers (n + 1) false m in
    either (l is 'P') _ _ (λ e. a_polygon (paired ns))
    (either (l is 'B') _ _ (λ e. let f = g.sized box_brings e (n + 1) in a_box _ _ (f.plain 0 n 0 (omega arith)) (f.plain 1 n 0 (omega arith)))
    (either (l is 'R') _ _ (λ e. a_flash _ ((g.sized flash_brings e (n + 1)).plain 0 n 0 (omega arith)))
    (either (l is 'W') _ _ (λ e. a_wire _ ((g.sized wire_brings e (n + 1)).plain 0 n 0 (omega arith)))
    (either (l is 'L') _ _ (λ e. (g.some_name e, record { short = g.short-name e; chars = named_chars m h }))
    (either (l is 'C') _ _ (λ e. (g.sized call_brings e (n + 1)).plain 0 n 0 (omega arith))
    (either (l is 'D') _ _
    (λ e. either (next second m is 'S') _ _
    (λ s. let f = g.defined start_brings e s (n + 1) in (f.plain 0 n 0 (omega arith), (f.plain 1 n 1 (omega arith), f.plain 2 n 1 (omega arith))))
    (either (next second m is 'D') _ _ (λ s. (g.defined delete_brings e s (n + 1)).plain 0 n 0 (omega arith)) tt))
    tt))))))

made_from : (n : ℕ) (m : List Letter) → All Named m → Heads m → All (λ (c : Placed Command). Made c.what) (commands n m)
unfolding commands All Heads
made_from n [] h g = tt
made_from n (l ∷ m) h g = go (l plays head) g.0 (made_from (n + 1) m h.1 g.1)
  where
    go : (b : Bool) → (b ≡ true → Begun l m) → All (λ (c : Placed Command). Made c.what) (commands (n + 1) m)
        → All (λ (c : Placed Command). Made c.what) (if b then at n (command_at n l m) ∷ commands (n + 1) m else commands (n + 1) m)
    go true f x = (made n l m h.1 (f refl), x)
    go false f x = x

pub all_made : {m : List Letter} → Match cif_file m → All (λ (c : Placed Command). Made c.what) (commands 0 m)
all_made {m} k = made_from 0 m (all_named m k) (matched_heads k)
