-- A shape of a grammatical text has a point, unless it is a polygon: a wire has a path behind its width. So refusal 7 falls on no shape for want of
-- points but on a polygon, as the table of RULES 12 says.
-- Assumes nothing.
use Rattle.std.specs.Prelude.{if◌then◌else◌}
use mathlib.Core.Path.{◌≡◌, refl, sym, ap, ◌∙◌, subst}
use mathlib.Core.Bool.{Bool, true, false, not, ◌&&◌, ◌||◌}
use mathlib.Core.List.{List, [], ◌∷◌, ◌++◌, append_assoc, append-nil}
use mathlib.Core.Logic.{◌⊎◌, inl, inr}
use Prim.Native.Nat.{ℕ, suc, ◌+◌, ◌-◌, ◌≤◌, ◌<◌}
use native.Mathlib.Omega.{arith}
use borrow.Author.Tests.{leb-false}
use lib.Dec.{T, leb, leb→le, eqb→eq}
use lib.IntN.{pos, neg_ℤ}
use lib.ListN.{length, drop}
use Rattle.grammar.specs.Notation.{Expression, one, ◌▹◌, ◌∣◌, many, option, comment_text, comment_rule, Class, Role, Letter, Match, char, both, left, right, none, more, absent, present, text, dec, has}
use Rattle.grammar.specs.Notation.{Role-discrete, Class-discrete, Expression-discrete, 'B', 'C', 'D', 'L', 'P', 'R', 'S', 'W'}
use Rattle.grammar.specs.Notation.{head, second, turn, sign, lead, stop}
use Rattle.grammar.specs.Productions.{cif_file}
use Rattle.grammar.proofs.Tests.{and_left, and_right, or_cases}
use Rattle.grammar.proofs.Items.{dec-sound}
use Rattle.definition.specs.Words.{Placed, at}
use Rattle.definition.specs.Commands.{Number, polygon, Command, draw, layer, call, start, finish, delete, nothing}
use Rattle.definition.specs.Commands.{◌plays◌, ◌is◌, worth, numbers, paired, next, command_at, commands}
use Rattle.laws.proofs.Lists.Range.{All}
use Rattle.laws.proofs.Commands.NumberPlaces.{either_by}

-- ---- numbers that an expression has at least

-- a transformation's letter or a semicolon, where the numbers of a command end
abbrev ends : Role → Bool
ends ρ = dec (Role-discrete ρ turn) || dec (Role-discrete ρ stop)

unfoldable calm : Expression → Bool
calm (one ρ c) = not (ends ρ)
calm (r ▹ s) = calm r && calm s
calm (r ∣ s) = calm r && calm s
calm (many r) = calm r
calm (option r) = calm r
calm comment_text = false

unfoldable leads : Expression → ℕ
leads (one ρ c) = if dec (Role-discrete ρ lead) then 1 else 0
leads (r ▹ s) = leads r + leads s
leads (r ∣ s) = if leb (leads r) (leads s) then leads r else leads s
leads (many r) = 0
leads (option r) = 0
leads comment_text = 0

-- at least k numbers begin before the next transformation or semicolon
abbrev AtLeast : ℕ → List Letter → Type 0
AtLeast k m = (n : ℕ) (minus : Bool) → k ≤ length (numbers n minus m)

least_one : (ρ : Role) (a : Letter) (v : List Letter) (k : ℕ) → a.role ≡ ρ → T (not (ends ρ)) → AtLeast k v → AtLeast ((if dec (Role-discrete ρ lead) then 1 else 0) + k) (a ∷ v)
unfolding numbers
least_one ρ a v k e t f n minus = go (ends a.role) (a plays lead) refl (ap (λ (σ : Role). dec (Role-discrete σ lead)) e) (f (n + 1) (a plays sign))
  where
    number : Number
    number = let z = pos (worth (a.byte - 48) v) in if minus then at (n - 1) (neg_ℤ z) else at n z

    go : (b c : Bool) → ends a.role ≡ b → c ≡ dec (Role-discrete ρ lead) → k ≤ length (numbers (n + 1) (a plays sign) v)
        → (if dec (Role-discrete ρ lead) then 1 else 0) + k ≤ length (if b then [] else if c then number ∷ numbers (n + 1) (a plays sign) v else numbers (n + 1) (a plays sign) v)
    go true c g h i = absurd (subst (λ (x : Bool). T (not x)) (ap (λ (σ : Role). ends σ) (sym e) ∙ g) t)
    go false true g h i = subst (λ (x : Bool). (if x then 1 else 0) + k ≤ suc (length (numbers (n + 1) (a plays sign) v))) h (omega arith)
    go false false g h i = subst (λ (x : Bool). (if x then 1 else 0) + k ≤ length (numbers (n + 1) (a plays sign) v)) h (omega arith)

least_either : (a b k n : ℕ) → (a + k ≤ n) ⊎ (b + k ≤ n) → (if leb a b then a else b) + k ≤ n
least_either a b k n h = go (leb a b) refl h
  where
    go : (t : Bool) → leb a b ≡ t → (a + k ≤ n) ⊎ (b + k ≤ n) → (if t then a else b) + k ≤ n
    go true e (inl x) = x
    go true e (inr x) = omega (arith, leb→le a b (subst T (sym e) tt))
    go false e (inl x) = omega (arith, leb-false a b e)
    go false e (inr x) = x

role_of : (ρ : Role) (c : Class) (a : Letter) → T (Rattle.grammar.specs.Notation.is ρ c a) → a.role ≡ ρ
unfolding Rattle.grammar.specs.Notation.is
role_of ρ c a h = sym (dec-sound (Role-discrete ρ a.role) (and_left (dec (Role-discrete ρ a.role)) (has c a.byte) h))

class_of : (ρ : Role) (c : Class) (a : Letter) → T (Rattle.grammar.specs.Notation.is ρ c a) → T (has c a.byte)
unfolding Rattle.grammar.specs.Notation.is
class_of ρ c a h = and_right (dec (Role-discrete ρ a.role)) (has c a.byte) h

at_least : {r : Expression} {w : List Letter} → Match r w → T (calm r) → (v : List Letter) (k : ℕ) → AtLeast k v → AtLeast (leads r + k) (w ++ v)
unfolding calm leads
at_least (char {ρ} {c} {a} h) t v k f = least_one ρ a v k (role_of ρ c a h) t f
at_least (both {r} {s} u u' m m' e) t v k f =
    let inner = at_least m' (and_right (calm r) (calm s) t) v k f in
    let outer = at_least m (and_left (calm r) (calm s) t) (u' ++ v) (leads s + k) inner in
    subst (AtLeast (leads r + leads s + k)) (sym (ap (λ (x : List Letter). x ++ v) e ∙ append_assoc u u' v)) (λ n minus. omega (arith, outer n minus))
at_least (left {r} {s} m) t v k f = λ n minus. least_either (leads r) (leads s) k _ (inl (at_least m (and_left (calm r) (calm s) t) v k f n minus))
at_least (right {r} {s} m) t v k f = λ n minus. least_either (leads r) (leads s) k _ (inr (at_least m (and_right (calm r) (calm s) t) v k f n minus))
at_least none t v k f = λ n minus. omega (arith, f n minus)
at_least (more {r} u u' m m' e) t v k f =
    let inner = at_least m' t v k f in
    let outer = at_least m t (u' ++ v) (0 + k) inner in
    subst (AtLeast (0 + k)) (sym (ap (λ (x : List Letter). x ++ v) e ∙ append_assoc u u' v)) (λ n minus. omega (arith, outer n minus))
at_least absent t v k f = λ n minus. omega (arith, f n minus)
at_least (present m) t v k f = λ n minus. omega (arith, at_least m t v k f n minus)
at_least (text m) t v k f = absurd t

-- ---- wires

-- behind each W that begins a command stand three numbers: a width and a point
unfoldable pub Wired : List Letter → Type 0
Wired [] = Unit {0}
Wired (l ∷ m) = ((l plays head) ≡ true → (l is 'W') ≡ true → AtLeast 3 m) × Wired m

-- the expression is the W of a wire, and so much follows
unfoldable wiry : Expression → Expression → Bool
wiry r s = dec (Expression-discrete Role-discrete Class-discrete r (one head 'W')) && (calm s && leb 3 (leads s))

-- so it is in all texts of the expression, whatever follows them
unfoldable wired : Expression → Bool
wired (one ρ c) = not (dec (Role-discrete ρ head)) || not (has c 87)
wired (r ▹ s) = (wired r || wiry r s) && wired s
wired (r ∣ s) = wired r && wired s
wired (many r) = wired r
wired (option r) = wired r
wired comment_text = true

wired-letter : (ρ : Role) (c : Class) (a : Letter) (v : List Letter) → a.role ≡ ρ → T (has c a.byte) → T (not (dec (Role-discrete ρ head)) || not (has c 87))
    → (a plays head) ≡ true → (a is 'W') ≡ true → AtLeast 3 v
unfolding has
wired-letter ρ c a v e h t p q = absurd (go (dec (Role-discrete ρ head)) (has c 87) (ap (λ (σ : Role). dec (Role-discrete σ head)) (sym e) ∙ p) (subst (λ (b : ℕ). T (has c b)) (eqb→eq a.byte 87 (subst T (sym q) tt)) h) t)
  where
    go : (x y : Bool) → x ≡ true → T y → T (not x || not y) → ⊥
    go true true z k s = s
    go true false z k s = k
    go false y z k s = subst T (sym z) tt

-- an expression of another form is no single character
single? : Expression → Type 0
single? (one ρ c) = Unit {0}
single? (r ▹ s) = ⊥
single? (r ∣ s) = ⊥
single? (many r) = ⊥
single? (option r) = ⊥
single? comment_text = ⊥

one_letter : {r : Expression} {u : List Letter} → Match r u → (ρ : Role) (c : Class) → r ≡ one ρ c → (a : Letter) × (u ≡ a ∷ [])
unfolding single?
one_letter (char {a = a} h) ρ c e = (a, refl)
one_letter (both u v m n d) ρ c e = absurd (subst single? (sym e) tt)
one_letter (left m) ρ c e = absurd (subst single? (sym e) tt)
one_letter (right m) ρ c e = absurd (subst single? (sym e) tt)
one_letter none ρ c e = absurd (subst single? (sym e) tt)
one_letter (more u v m n d) ρ c e = absurd (subst single? (sym e) tt)
one_letter absent ρ c e = absurd (subst single? (sym e) tt)
one_letter (present m) ρ c e = absurd (subst single? (sym e) tt)
one_letter (text m) ρ c e = absurd (subst single? (sym e) tt)

behind : {r s : Expression} {u u' : List Letter} → Match r u → Match s u' → T (wiry r s) → (v : List Letter) → Wired (u' ++ v) → Wired (u ++ (u' ++ v))
unfolding wiry Wired
behind {r} {s} {u} {u'} m m' t v x =
    let is_one = dec (Expression-discrete Role-discrete Class-discrete r (one head 'W')) in
    let follows = and_right is_one (calm s && leb 3 (leads s)) t in
    let many-numbers = leb→le 3 (leads s) (and_right (calm s) (leb 3 (leads s)) follows) in
    let enough = at_least m' (and_left (calm s) (leb 3 (leads s)) follows) v 0 (λ n minus. omega arith) in
    let first = one_letter m head 'W' (dec-sound (Expression-discrete Role-discrete Class-discrete r (one head 'W')) (and_left is_one (calm s && leb 3 (leads s)) t)) in
    subst (λ (y : List Letter). Wired (y ++ (u' ++ v))) (sym first.1) ((λ p q n minus. omega (arith, enough n minus)), x)

comment_wired : T (wired comment_rule)
unfolding wired wiry dec has
comment_wired = tt

match_wired : {r : Expression} {w : List Letter} → Match r w → T (wired r) → (v : List Letter) → Wired v → Wired (w ++ v)
unfolding wired Wired
match_wired (char {ρ} {c} {a} h) t v x = (wired-letter ρ c a v (role_of ρ c a h) (class_of ρ c a h) t, x)
match_wired (both {r} {s} u u' m m' e) t v x =
    let inner : Wired (u' ++ v) = match_wired m' (and_right (wired r || wiry r s) (wired s) t) v x in
    subst Wired (sym (ap (λ (y : List Letter). y ++ v) e ∙ append_assoc u u' v))
    (go (or_cases (wired r) (wiry r s) (and_left (wired r || wiry r s) (wired s) t)) inner (λ t'. match_wired m t' (u' ++ v) inner))
  where
    go : T (wired r) ⊎ T (wiry r s) → Wired (u' ++ v) → (T (wired r) → Wired (u ++ (u' ++ v))) → Wired (u ++ (u' ++ v))
    go (inl t') y f = f t'
    go (inr t') y f = behind m m' t' v y
match_wired (left {r} {s} m) t v x = match_wired m (and_left (wired r) (wired s) t) v x
match_wired (right {r} {s} m) t v x = match_wired m (and_right (wired r) (wired s) t) v x
match_wired none t v x = x
match_wired (more {r} u u' m m' e) t v x =
    subst Wired (sym (ap (λ (y : List Letter). y ++ v) e ∙ append_assoc u u' v)) (match_wired m t (u' ++ v) (match_wired m' t v x))
match_wired absent t v x = x
match_wired (present m) t v x = match_wired m t v x
match_wired (text m) t v x = match_wired m comment_wired v x

cif_wired : T (wired cif_file)
unfolding wired wiry calm leads dec has
cif_wired = tt

-- ---- shapes

-- RULES 12 has only polygons refused for want of points
unfoldable pub Pathed : Command → Type 0
Pathed (draw k) = (k.kind ≡ polygon) ⊎ (0 < length k.points)
Pathed (layer l) = Unit {0}
Pathed (call n ts) = Unit {0}
Pathed (start n a b) = Unit {0}
Pathed finish = Unit {0}
Pathed (delete n) = Unit {0}
Pathed nothing = Unit {0}

a_point : (ns : List Number) → 3 ≤ length ns → 0 < length (paired (drop 1 ns))
unfolding paired
a_point [] h = absurd (omega arith)
a_point (a ∷ []) h = absurd (omega arith)
a_point (a ∷ b ∷ []) h = absurd (omega arith)
a_point (a ∷ b ∷ c ∷ ns) h = omega arith

pathed : (n : ℕ) (l : Letter) (m : List Letter) → ((l is 'W') ≡ true → AtLeast 3 m) → Pathed (command_at n l m)
unfolding command_at Pathed
pathed n l m f =
    either_by Pathed (l is 'P') _ _ (λ e. inl refl)
    (either_by Pathed (l is 'B') _ _ (λ e. inr (omega arith))
    (either_by Pathed (l is 'R') _ _ (λ e. inr (omega arith))
    (either_by Pathed (l is 'W') _ _ (λ e. inr (a_point (numbers (n + 1) false m) (f e (n + 1) false)))
    (either_by Pathed (l is 'L') _ _ (λ e. tt)
    (either_by Pathed (l is 'C') _ _ (λ e. tt)
    (either_by Pathed (l is 'D') _ _ (λ e. either_by Pathed (next second m is 'S') _ _ (λ e. tt) (either_by Pathed (next second m is 'D') _ _ (λ e. tt) tt)) tt))))))

all_pathed : (n : ℕ) (m : List Letter) → Wired m → All (λ (c : Placed Command). Pathed c.what) (commands n m)
unfolding commands All Wired
all_pathed n [] h = tt
all_pathed n (l ∷ m) h = go (l plays head) refl (all_pathed (n + 1) m h.1)
  where
    go : (b : Bool) → (l plays head) ≡ b → All (λ (c : Placed Command). Pathed c.what) (commands (n + 1) m)
        → All (λ (c : Placed Command). Pathed c.what) (if b then at n (command_at n l m) ∷ commands (n + 1) m else commands (n + 1) m)
    go true e x = (pathed n l m (h.0 e), x)
    go false e x = x

pub commands_pathed : {m : List Letter} → Match cif_file m → All (λ (c : Placed Command). Pathed c.what) (commands 0 m)
unfolding Wired
commands_pathed {m} k = all_pathed 0 m (subst Wired (append-nil m) (match_wired k cif_wired [] tt))
