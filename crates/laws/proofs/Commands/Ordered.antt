-- The order of commands in a text: a DS and a DD stand outside definitions, a DF ends one, and E comes last. It is read off the productions letter by
-- letter, so that what holds at a semicolon holds wherever a text is cut.
-- Assumes nothing.
use Rattle.std.specs.Prelude.{if◌then◌else◌}
use mathlib.Core.Path.{◌≡◌, refl, sym, ap, ◌∙◌, subst}
use mathlib.Core.Bool.{Bool, true, false, not, ◌&&◌}
use mathlib.Core.List.{List, [], ◌∷◌, ◌++◌, append_assoc}
use Prim.Native.Nat.{ℕ, ◌+◌}
use native.Mathlib.Omega.{arith}
use borrow.Author.Tests.{ne_eqb, eqb-true, eqb-false}
use lib.Dec.{T, eqb}
use lib.IntN.{pos}
use lib.ListN.{length}
use Rattle.grammar.specs.Notation.{Class, Role, Role-discrete, Letter, Expression, Match, dec, has}
use Rattle.grammar.specs.Notation.{is as matches}
use Rattle.grammar.specs.Notation.{Comment, lpar, rpar}
use Rattle.grammar.specs.Notation.{'B', 'C', 'D', 'E', 'F', 'L', 'P', 'R', 'S', 'W'}
use Rattle.grammar.specs.Notation.{skip, head, second, turn, axis, sign, lead, later, name, stop}
use Rattle.grammar.specs.Notation.{one, ◌▹◌, ◌∣◌, many, option, comment_text, char, both, left, right, none, more, absent, present, text}
use Rattle.grammar.specs.Productions.{blank, semi, integer, sep, prim_command, def_delete_command, def_finish_command, def_start_command, command, cif_file}
use Rattle.grammar.specs.Viable.{Marked}
use Rattle.grammar.specs.Steps.{number}
use Rattle.grammar.specs.Tables.{letter}
use Rattle.grammar.proofs.Items.{dec-sound}
use Rattle.grammar.proofs.Tests.{and_left, and_right}
use Rattle.grammar.proofs.Boundaries.{inside_by, inside_after}
use Rattle.definition.specs.Words.{Placed, at}
use Rattle.definition.specs.Commands.{Number, nth, numbers, Command, draw, layer, call, start, finish, delete, nothing, ◌is◌, next, command_at, commands}
use Rattle.definition.specs.Standing.{Standing, after}
use Rattle.laws.proofs.Lists.Range.{All, all-++}
use Rattle.laws.proofs.Lists.Joined.{standing, commands-++}

-- ---- the commands in order

-- a command that neither begins nor ends a definition nor removes any: the only ones that definitions hold
unfoldable pub Plain : Command → Type 0
Plain (draw k) = Unit {0}
Plain (layer l) = Unit {0}
Plain (call n ts) = Unit {0}
Plain nothing = Unit {0}
Plain (start n a b) = ⊥
Plain finish = ⊥
Plain (delete n) = ⊥

-- whether a definition is open behind a command, and behind commands
unfoldable pub opens : Command → Bool → Bool
opens (start n a b) i = true
opens finish i = false
opens (draw k) i = i
opens (layer l) i = i
opens (call n ts) i = i
opens (delete n) i = i
opens nothing i = i

unfoldable pub inside_then : Bool → List (Placed Command) → Bool
inside_then i [] = i
inside_then i (c ∷ cs) = inside_then (opens c.what i) cs

-- a command that may stand where a definition is open or not
unfoldable pub Allowed : Bool → Command → Type 0
Allowed i (start n a b) = i ≡ false
Allowed i (delete n) = i ≡ false
Allowed i finish = i ≡ true
Allowed i (draw k) = Unit {0}
Allowed i (layer l) = Unit {0}
Allowed i (call n ts) = Unit {0}
Allowed i nothing = Unit {0}

-- commands in order, with no definition open at their end
unfoldable pub Ordered : Bool → List (Placed Command) → Type 0
Ordered i [] = i ≡ false
Ordered i (c ∷ cs) = Allowed i c.what × Ordered (opens c.what i) cs

plain_allowed : (i : Bool) (c : Command) → Plain c → Allowed i c
unfolding Plain Allowed
plain_allowed i (draw k) h = tt
plain_allowed i (layer l) h = tt
plain_allowed i (call n ts) h = tt
plain_allowed i nothing h = tt
plain_allowed i (start n a b) h = absurd h
plain_allowed i finish h = absurd h
plain_allowed i (delete n) h = absurd h

pub plain-opens : (i : Bool) (c : Command) → Plain c → opens c i ≡ i
unfolding Plain opens
plain-opens i (draw k) h = refl
plain-opens i (layer l) h = refl
plain-opens i (call n ts) h = refl
plain-opens i nothing h = refl
plain-opens i (start n a b) h = absurd h
plain-opens i finish h = absurd h
plain-opens i (delete n) h = absurd h

-- it is what the standing says
pub after-inside : (c : Command) (s : Standing) → (after c s).inside ≡ opens c s.inside
unfolding after opens
after-inside (draw k) s = refl
after-inside (layer l) s = refl
after-inside (call n ts) s = refl
after-inside nothing s = refl
after-inside (start n a b) s = refl
after-inside finish s = refl
after-inside (delete n) s = refl

pub standing-inside : (s : Standing) (cs : List (Placed Command)) → (standing s cs).inside ≡ inside_then s.inside cs
unfolding standing inside_then
standing-inside s [] = refl
standing-inside s (c ∷ cs) = standing-inside (after c.what s) cs ∙ ap (λ (i : Bool). inside_then i cs) (after-inside c.what s)

-- ---- the letters in order

-- neither the first nor the second letter of a command, nor its semicolon
unfoldable pub quiet : Role → Bool
quiet skip = true
quiet turn = true
quiet axis = true
quiet sign = true
quiet lead = true
quiet later = true
quiet name = true
quiet head = false
quiet second = false
quiet stop = false

abbrev pub Quiet : Letter → Type 0
Quiet l = T (quiet l.role)

-- where a letter stands: between commands, behind a D whose second letter is still to come, further on in a command, behind E
pub data Stage : Type 0 where
  between halfway further over : Stage

-- the letters from here on; i says whether a definition is open
pub data Orderly : Stage → Bool → List Letter → Type 0 where
  done : Orderly over false []
  passes : {g : Stage} {i : Bool} {l : Letter} {m : List Letter} → Quiet l → Orderly g i m → Orderly g i (l ∷ m)
  parts : {i : Bool} {l : Letter} {m : List Letter} → l.role ≡ stop → Orderly between i m → Orderly between i (l ∷ m)
  ends : {i : Bool} {l : Letter} {m : List Letter} → l.role ≡ stop → Orderly between i m → Orderly further i (l ∷ m)
  begins : {i : Bool} {l : Letter} {m : List Letter} → l.role ≡ head → (l is 'D') ≡ false → (l is 'E') ≡ false → Orderly further i m → Orderly between i (l ∷ m)
  begins_D : {i : Bool} {l : Letter} {m : List Letter} → l.role ≡ head → (l is 'D') ≡ true → Orderly halfway i m → Orderly between i (l ∷ m)
  begins_E : {l : Letter} {m : List Letter} → l.role ≡ head → (l is 'E') ≡ true → Orderly over false m → Orderly between false (l ∷ m)
  starts : {l : Letter} {m : List Letter} → l.role ≡ second → (l is 'S') ≡ true → Orderly further true m → Orderly halfway false (l ∷ m)
  finishes : {l : Letter} {m : List Letter} → l.role ≡ second → (l is 'F') ≡ true → Orderly further false m → Orderly halfway true (l ∷ m)
  deletes : {l : Letter} {m : List Letter} → l.role ≡ second → (l is 'D') ≡ true → Orderly further false m → Orderly halfway false (l ∷ m)

-- ---- from the productions

-- what a test of all characters of an expression says of all letters of its texts
unfoldable pub everywhere : (Role → Class → Bool) → Expression → Bool
everywhere f (one ρ c) = f ρ c
everywhere f (r ▹ s) = everywhere f r && everywhere f s
everywhere f (r ∣ s) = everywhere f r && everywhere f s
everywhere f (many r) = everywhere f r
everywhere f (option r) = everywhere f r
everywhere f comment_text = f skip Comment && (f skip lpar && f skip rpar)

comment_test : (a b c : Bool) → T (a && (b && c)) → T (a && ((a && (b && c)) && (b && ((a && (b && c)) && (c && (a && (b && c)))))))
comment_test true true true h = tt
comment_test true true false h = h
comment_test true false c h = h
comment_test false b c h = h

module _ (f : Role → Class → Bool) (P : Letter → Type 0) (sound : (ρ : Role) (c : Class) (a : Letter) → T (f ρ c) → T (matches ρ c a) → P a) where
  pub match_all : {r : Expression} {w : List Letter} → Match r w → T (everywhere f r) → All P w
  unfolding everywhere All
  match_all (char {ρ} {c} {a} h) t = (sound ρ c a t h, tt)
  match_all (both {r} {s} u v m n e) t =
      subst (All P) (sym e) (all-++ P u v (match_all m (and_left (everywhere f r) (everywhere f s) t)) (match_all n (and_right (everywhere f r) (everywhere f s) t)))
  match_all (left {r} {s} m) t = match_all m (and_left (everywhere f r) (everywhere f s) t)
  match_all (right {r} {s} m) t = match_all m (and_right (everywhere f r) (everywhere f s) t)
  match_all none t = tt
  match_all (more u v m n e) t = subst (All P) (sym e) (all-++ P u v (match_all m t) (match_all n t))
  match_all absent t = tt
  match_all (present m) t = match_all m t
  match_all (text m) t = match_all m (comment_test (f skip Comment) (f skip lpar) (f skip rpar) t)

pub role_of : (ρ : Role) (c : Class) (a : Letter) → T (matches ρ c a) → a.role ≡ ρ
unfolding matches
role_of ρ c a t = sym (dec-sound (Role-discrete ρ a.role) (and_left (dec (Role-discrete ρ a.role)) (has c a.byte) t))

pub byte_of : (ρ : Role) (c : Class) (a : Letter) → T (matches ρ c a) → T (has c a.byte)
unfolding matches
byte_of ρ c a t = and_right (dec (Role-discrete ρ a.role)) (has c a.byte) t

pub true_of : (b : Bool) → T b → b ≡ true
true_of true h = refl
true_of false h = absurd h

pub all_quiet : {r : Expression} {w : List Letter} → Match r w → T (everywhere (λ ρ c. quiet ρ) r) → All Quiet w
all_quiet k t = match_all (λ ρ c. quiet ρ) Quiet (λ ρ c a h m. subst (λ (σ : Role). T (quiet σ)) (sym (role_of ρ c a m)) h) k t

not_both : (b : Bool) → T b → T (not b) → ⊥
not_both true h k = k
not_both false h k = h

-- a class without the character n has only other ones
pub other : (c : Class) (a n : ℕ) → T (not (has c n)) → T (has c a) → eqb a n ≡ false
other c a n t h = ne_eqb a n (λ e. not_both (has c n) (subst (λ (b : ℕ). T (has c b)) e h) t)

-- the letters w lead from one stage to another
pub record Leads (g : Stage) (i : Bool) (h : Stage) (j : Bool) (w : List Letter) : Type 0 where
  pub on : (m : List Letter) → Orderly h j m → Orderly g i (w ++ m)

in_turn : {g h k : Stage} {i j l : Bool} {u v w : List Letter} → Leads g i h j u → Leads h j k l v → w ≡ u ++ v → Leads g i k l w
in_turn {g} {i = i} {u = u} {v = v} f q e =
    record { on = λ m o. subst (Orderly g i) (sym (ap (λ (x : List Letter). x ++ m) e ∙ append_assoc u v m)) (f.on (v ++ m) (q.on m o)) }

by : {g h : Stage} {i j : Bool} (l : Letter) → ((m : List Letter) → Orderly h j m → Orderly g i (l ∷ m)) → Leads g i h j (l ∷ [])
by l f = record { on = f }

stays : {g : Stage} {i : Bool} → Leads g i g i []
stays = record { on = λ m o. o }

pass : {g : Stage} {i : Bool} (w : List Letter) → All Quiet w → Leads g i g i w
unfolding All
pass [] h = stays
pass (l ∷ w) h = record { on = λ m o. passes h.0 ((pass w h.1).on m o) }

passing : {g : Stage} {i : Bool} {r : Expression} {w : List Letter} → T (everywhere (λ ρ c. quiet ρ) r) → Match r w → Leads g i g i w
passing {w = w} t k = pass w (all_quiet k t)

blanks : {g : Stage} {i : Bool} {w : List Letter} → Match (many blank) w → Leads g i g i w
unfolding everywhere quiet
blanks k = passing tt k

-- a semicolon behind a command, or alone
semi-ends : {i : Bool} {w : List Letter} → Match semi w → Leads further i between i w
semi-ends {i} (both u v k (both p q (char {ρ} {c} {a} h) n f) e) = in_turn (blanks k) (in_turn {h = between} {j = i} (by a (λ m o. ends (role_of ρ c a h) o)) (blanks n) f) e

semi-parts : {i : Bool} {w : List Letter} → Match semi w → Leads between i between i w
semi-parts {i} (both u v k (both p q (char {ρ} {c} {a} h) n f) e) = in_turn (blanks k) (in_turn {h = between} {j = i} (by a (λ m o. parts (role_of ρ c a h) o)) (blanks n) f) e

-- a command that is no D command and not E
headed : {c : Class} {r : Expression} {i : Bool} {w : List Letter} → T (not (has c 68)) → T (not (has c 69)) → T (everywhere (λ ρ c. quiet ρ) r)
    → Match (one head c ▹ r) w → Leads between i further i w
unfolding has
headed {c} {i = i} t₁ t₂ t (both u v (char {a = a} h) n e) =
    let b = byte_of head c a h in
    in_turn {h = further} {j = i} (by a (λ m o. begins (role_of head c a h) (other c a.byte 68 t₁ b) (other c a.byte 69 t₂ b) o)) (passing t n) e

prim_leads : {i : Bool} {w : List Letter} → Match prim_command w → Leads between i further i w
unfolding everywhere quiet has
prim_leads (left k) = headed tt tt tt k
prim_leads (right (left k)) = headed tt tt tt k
prim_leads (right (right (left k))) = headed tt tt tt k
prim_leads (right (right (right (left k)))) = headed tt tt tt k
prim_leads (right (right (right (right (left k))))) = headed tt tt tt k
prim_leads (right (right (right (right (right (left k)))))) = headed tt tt tt k
prim_leads (right (right (right (right (right (right (left k))))))) = headed tt tt tt k
prim_leads (right (right (right (right (right (right (right k))))))) = headed tt tt tt k

-- any number of commands with their semicolons
abbrev pub item_of : Expression → Expression
item_of r = many blank ▹ option r ▹ semi

module _ (r : Expression) (i : Bool) (reads : (w : List Letter) → Match r w → Leads between i further i w) where
  item_leads : {w : List Letter} → Match (item_of r) w → Leads between i between i w
  item_leads (both u v k (both p q absent n f) e) = in_turn (blanks k) (in_turn stays (semi-parts n) f) e
  item_leads (both u v k (both p q (present c) n f) e) = in_turn (blanks k) (in_turn (reads p c) (semi-ends n) f) e

  items-lead : {w : List Letter} → Match (many (item_of r)) w → Leads between i between i w
  items-lead none = stays
  items-lead (more u v k n e) = in_turn (item_leads k) (items-lead n) e

-- the D commands
module _ {i j : Bool} {r : Expression} (reads : (v : List Letter) → Match r v → Leads halfway i further j v) where
  d_headed : {w : List Letter} → Match (one head 'D' ▹ many blank ▹ r) w → Leads between i further j w
  unfolding has
  d_headed (both u v (char {a = a} h) (both p q k n f) e) =
      in_turn {h = halfway} {j = i} (by a (λ m o. begins_D (role_of head 'D' a h) (true_of _ (byte_of head 'D' a h)) o)) (in_turn (blanks k) (reads q n) f) e

start-leads : {w : List Letter} → Match def_start_command w → Leads between false further true w
unfolding everywhere quiet
start-leads k = d_headed go k
  where
    go : (v : List Letter) → Match (one second 'S' ▹ integer ▹ option (sep ▹ integer ▹ sep ▹ integer)) v → Leads halfway false further true v
    go v (both p q (char {a = a} h) n e) = in_turn {h = further} {j = true} (by a (λ m o. starts (role_of second 'S' a h) (true_of _ (byte_of second 'S' a h)) o)) (passing tt n) e

delete-leads : {w : List Letter} → Match def_delete_command w → Leads between false further false w
unfolding everywhere quiet
delete-leads k = d_headed go k
  where
    go : (v : List Letter) → Match (one second 'D' ▹ integer) v → Leads halfway false further false v
    go v (both p q (char {a = a} h) n e) = in_turn {h = further} {j = false} (by a (λ m o. deletes (role_of second 'D' a h) (true_of _ (byte_of second 'D' a h)) o)) (passing tt n) e

finish-leads : {w : List Letter} → Match def_finish_command w → Leads between true further false w
finish-leads k = d_headed go k
  where
    go : (v : List Letter) → Match (one second 'F') v → Leads halfway true further false v
    go v (char {a = a} h) = by a (λ m o. finishes (role_of second 'F' a h) (true_of _ (byte_of second 'F' a h)) o)

command-leads : {w : List Letter} → Match command w → Leads between false further false w
command-leads (left k) = prim_leads k
command-leads (right (left k)) = delete-leads k
command-leads (right (right (both u v k (both p q l (both x y n f g) d) e))) =
    in_turn (start-leads k) (in_turn (semi-ends l) (in_turn (items-lead prim_command true (λ w z. prim_leads z) n) (finish-leads f) g) d) e

-- the letters before E lead from between commands to between commands
pub file_leads : {w : List Letter} → Match (many (item_of command)) w → Leads between false between false w
file_leads k = items-lead command false (λ w z. command-leads z) k

last : (w : List Letter) → All Quiet w → Orderly over false w
unfolding All
last [] h = done
last (l ∷ w) h = passes h.0 (last w h.1)

-- the letters of a text are in order
pub orderly : {m : List Letter} → Match cif_file m → Orderly between false m
unfolding everywhere quiet
orderly (both u v k (both p q (char {a = a} h) n f) e) =
    subst (Orderly between false) (sym e)
    ((file_leads k).on v (subst (Orderly between false) (sym f) (begins_E (role_of head 'E' a h) (true_of _ (byte_of head 'E' a h)) (last q (all_quiet n tt)))))

-- ---- from letters to commands

abbrev Second : Role → Bool
Second ρ = eqb (number ρ) (number second)

-- what a letter in order is not
pub quiet_not : (ρ : Role) → T (quiet ρ) → (dec (Role-discrete ρ head) ≡ false) × (dec (Role-discrete ρ second) ≡ false) × (dec (Role-discrete ρ stop) ≡ false) × (Second ρ ≡ false)
unfolding quiet dec number
quiet_not skip h = (refl, refl, refl, refl)
quiet_not turn h = (refl, refl, refl, refl)
quiet_not axis h = (refl, refl, refl, refl)
quiet_not sign h = (refl, refl, refl, refl)
quiet_not lead h = (refl, refl, refl, refl)
quiet_not later h = (refl, refl, refl, refl)
quiet_not name h = (refl, refl, refl, refl)
quiet_not head h = absurd h
quiet_not second h = absurd h
quiet_not stop h = absurd h

module _ (n : ℕ) (l : Letter) (m : List Letter) where
  pub quiet-commands : Quiet l → commands n (l ∷ m) ≡ commands (n + 1) m
  unfolding commands
  quiet-commands h = rw (quiet_not l.role h).0

  quiet_next : Quiet l → next second (l ∷ m) ≡ next second m
  unfolding next
  quiet_next h = rw ((quiet_not l.role h).1, (quiet_not l.role h).2)

  pub stop-commands : l.role ≡ stop → commands n (l ∷ m) ≡ commands (n + 1) m
  unfolding commands dec
  stop-commands e = rw e

  pub second_commands : l.role ≡ second → commands n (l ∷ m) ≡ commands (n + 1) m
  unfolding commands dec
  second_commands e = rw e

  second_next : l.role ≡ second → next second (l ∷ m) ≡ l
  unfolding next dec
  second_next e = rw e

  pub head_commands : l.role ≡ head → commands n (l ∷ m) ≡ at n (command_at n l m) ∷ commands (n + 1) m
  unfolding commands dec
  head_commands e = rw e

-- the command that a D begins, by its second letter
abbrev by_second : Number → Number → Number → Number → Letter → Command
by_second x y z w l = if l is 'S' then start x y z else if l is 'D' then delete w else finish

one_of : (P : Command → Type 0) (b : Bool) {x y : Command} → P x → P y → P (if b then x else y)
one_of P true h k = h
one_of P false h k = k

plain_at : (n : ℕ) (l : Letter) (m : List Letter) → (l is 'D') ≡ false → Plain (command_at n l m)
unfolding command_at Plain
plain_at n l m e =
    one_of Plain (l is 'P') tt
    (one_of Plain (l is 'B') tt
    (one_of Plain (l is 'R') tt
    (one_of Plain (l is 'W') tt
    (one_of Plain (l is 'L') tt
    (one_of Plain (l is 'C') tt (rw e tt))))))

d_at : (n b : ℕ) (ρ : Role) (m : List Letter) → b ≡ 68
    → (x : Number) × (y : Number) × (z : Number) × (w : Number) × (command_at n (letter b ρ) m ≡ by_second x y z w (next second m))
unfolding command_at has
d_at n b ρ m e =
    let ns = numbers (n + 1) false m in
    (nth n ns (pos 0) 0, nth n ns (pos 1) 1, nth n ns (pos 1) 2, nth n ns (pos 0) 0, rw e)

other_byte : (b x y : ℕ) → eqb b x ≡ true → (x ≡ y → ⊥) → eqb b y ≡ false
other_byte b x y t h = ne_eqb b y (λ e. h (sym (eqb-true b x t) ∙ e))

Claim : Stage → Bool → ℕ → List Letter → Type 0
Claim halfway i n m = (p : ℕ) (x y z w : Number) → Ordered i (at p (by_second x y z w (next second m)) ∷ commands n m)
Claim between i n m = Ordered i (commands n m)
Claim further i n m = Ordered i (commands n m)
Claim over i n m = Ordered i (commands n m)

passed : (g : Stage) (i : Bool) (n : ℕ) (l : Letter) (m : List Letter) → Quiet l → Claim g i (n + 1) m → Claim g i n (l ∷ m)
unfolding Claim
passed halfway i n l m q f = λ p x y z w. rw (quiet-commands n l m q, quiet_next n l m q) (f p x y z w)
passed between i n l m q f = rw (quiet-commands n l m q) f
passed further i n l m q f = rw (quiet-commands n l m q) f
passed over i n l m q f = rw (quiet-commands n l m q) f

module _ (i : Bool) (n : ℕ) (l : Letter) (m : List Letter) where
  plain-first : l.role ≡ head → (l is 'D') ≡ false → Ordered i (commands (n + 1) m) → Ordered i (commands n (l ∷ m))
  unfolding Ordered
  plain-first e d f =
      let c = plain_at n l m d in
      rw (head_commands n l m e) (plain_allowed i (command_at n l m) c, rw (plain-opens i (command_at n l m) c) f)

  d_first : l.role ≡ head → (l is 'D') ≡ true → Claim halfway i (n + 1) m → Ordered i (commands n (l ∷ m))
  unfolding Claim has
  d_first e d f =
      let c = d_at n l.byte l.role m (eqb-true l.byte 68 d) in
      rw (head_commands n l m e, c.4) (f n c.0 c.1 c.2 c.3)

  seconded : (j : Bool) → l.role ≡ second → ((x y z w : Number) → Allowed i (by_second x y z w l) × (opens (by_second x y z w l) i ≡ j))
      → Ordered j (commands (n + 1) m) → Claim halfway i n (l ∷ m)
  unfolding Claim Ordered
  seconded j e a f = λ p x y z w. rw (second_commands n l m e, second_next n l m e) ((a x y z w).0, rw (a x y z w).1 f)

claimed : {g : Stage} {i : Bool} {m : List Letter} → Orderly g i m → (n : ℕ) → Claim g i n m
unfolding Claim Ordered Allowed opens has
claimed done n = unfold commands in refl
claimed (passes {g} {i} {l} {m} q o) n = passed g i n l m q (claimed o (n + 1))
claimed (parts {i} {l} {m} e o) n = rw (stop-commands n l m e) (claimed o (n + 1))
claimed (ends {i} {l} {m} e o) n = rw (stop-commands n l m e) (claimed o (n + 1))
claimed (begins {i} {l} {m} e d f o) n = plain-first i n l m e d (claimed o (n + 1))
claimed (begins_D {i} {l} {m} e d o) n = d_first i n l m e d (claimed o (n + 1))
claimed (begins_E {l} {m} e f o) n = plain-first false n l m e (other_byte l.byte 69 68 f (λ h. omega arith)) (claimed o (n + 1))
claimed (starts {l} {m} e s o) n = seconded false n l m true e (λ x y z w. rw s (refl, refl)) (claimed o (n + 1))
claimed (finishes {l} {m} e s o) n =
    let a = other_byte l.byte 70 83 s (λ h. omega arith) in
    let b = other_byte l.byte 70 68 s (λ h. omega arith) in
    seconded true n l m false e (λ x y z w. rw (a, b) (refl, refl)) (claimed o (n + 1))
claimed (deletes {l} {m} e s o) n =
    let a = other_byte l.byte 68 83 s (λ h. omega arith) in
    seconded false n l m false e (λ x y z w. rw (a, s) (refl, refl)) (claimed o (n + 1))

-- so are its commands, and those of any letters between commands
pub letters_ordered : {i : Bool} {m : List Letter} → Orderly between i m → (n : ℕ) → Ordered i (commands n m)
unfolding Claim
letters_ordered o n = claimed o n

pub ordered : {t : List ℕ} {m : List Letter} → Marked t m → (n : ℕ) → Ordered false (commands n m)
ordered k n = letters_ordered (orderly k.rule) n

-- ---- cut at a letter

-- whether a definition is open behind a letter
module _ (l : Letter) (i : Bool) where
  by_other : Second l.role ≡ false → inside_by l i ≡ i
  unfolding inside_by
  by_other e = rw e

  by_quiet : Quiet l → inside_by l i ≡ i
  by_quiet h = by_other (quiet_not l.role h).3

  by_stop : l.role ≡ stop → inside_by l i ≡ i
  by_stop e = by_other (unfold number in rw e)

  by_head : l.role ≡ head → inside_by l i ≡ i
  by_head e = by_other (unfold number in rw e)

  by_S : l.role ≡ second → (l is 'S') ≡ true → inside_by l i ≡ true
  unfolding inside_by number
  by_S e s = rw (e, s)

  by_F : l.role ≡ second → (l is 'F') ≡ true → inside_by l i ≡ false
  unfolding inside_by number has
  by_F e s = rw (e, other_byte l.byte 70 83 s (λ h. omega arith), s)

  by_D : l.role ≡ second → (l is 'D') ≡ true → inside_by l i ≡ i
  unfolding inside_by number has
  by_D e s = rw (e, other_byte l.byte 68 83 s (λ h. omega arith), other_byte l.byte 68 70 s (λ h. omega arith))

-- the letters behind a, and what holds of a cut in them
onward : (P : Bool → Type 0) (a : Letter) (u : List Letter) (i j : Bool) → inside_by a i ≡ j → P (inside_after j u) → P (inside_after i (a ∷ u))
unfolding inside_after
onward P a u i j e h = subst (λ (k : Bool). P (inside_after k u)) (sym e) h

-- what holds at a letter where the stages are cut, holds wherever it stands
module _ (l : Letter) (v : List Letter) (P : Bool → Type 0) (here : (g : Stage) (i : Bool) → Orderly g i (l ∷ v) → P i) where
  at_cut : {g : Stage} {i : Bool} (u : List Letter) → Orderly g i (u ++ l ∷ v) → P (inside_after i u)
  at_cut {g} {i} [] o = unfold inside_after in here g i o
  at_cut (a ∷ u) (passes {i = i} q o) = onward P a u i i (by_quiet a i q) (at_cut u o)
  at_cut (a ∷ u) (parts {i} e o) = onward P a u i i (by_stop a i e) (at_cut u o)
  at_cut (a ∷ u) (ends {i} e o) = onward P a u i i (by_stop a i e) (at_cut u o)
  at_cut (a ∷ u) (begins {i} e d f o) = onward P a u i i (by_head a i e) (at_cut u o)
  at_cut (a ∷ u) (begins_D {i} e d o) = onward P a u i i (by_head a i e) (at_cut u o)
  at_cut (a ∷ u) (begins_E e f o) = onward P a u false false (by_head a false e) (at_cut u o)
  at_cut (a ∷ u) (starts e s o) = onward P a u false true (by_S a false e s) (at_cut u o)
  at_cut (a ∷ u) (finishes e s o) = onward P a u true false (by_F a true e s) (at_cut u o)
  at_cut (a ∷ u) (deletes e s o) = onward P a u false false (by_D a false e s) (at_cut u o)

two_roles : {ρ σ τ : Role} → ρ ≡ σ → ρ ≡ τ → eqb (number σ) (number τ) ≡ false → ⊥
two_roles {σ = σ} {τ = τ} d e h = eqb-false (number σ) (number τ) h (ap number (sym d ∙ e))

pub two_bits : {b : Bool} → b ≡ true → b ≡ false → ⊥
two_bits d e = let z : ◌≡◌ {A = ℕ} 0 1 = cc in omega arith

-- behind a command's semicolon
stopped : (l : Letter) (v : List Letter) → l.role ≡ stop → (g : Stage) (i : Bool) → Orderly g i (l ∷ v) → Orderly between i v
unfolding quiet number
stopped l v e g i (passes q o) = absurd (subst (λ (ρ : Role). T (quiet ρ)) e q)
stopped l v e g i (parts d o) = o
stopped l v e g i (ends d o) = o
stopped l v e g i (begins d f h o) = absurd (two_roles e d refl)
stopped l v e g i (begins_D d f o) = absurd (two_roles e d refl)
stopped l v e g i (begins_E d f o) = absurd (two_roles e d refl)
stopped l v e g i (starts d f o) = absurd (two_roles e d refl)
stopped l v e g i (finishes d f o) = absurd (two_roles e d refl)
stopped l v e g i (deletes d f o) = absurd (two_roles e d refl)

pub behind : {i : Bool} (u : List Letter) (l : Letter) (v : List Letter) → l.role ≡ stop → Orderly between i (u ++ l ∷ v) → Orderly between (inside_after i u) v
behind u l v e o = at_cut l v (λ i. Orderly between i v) (stopped l v e) u o

-- E stands outside definitions, and only blanks follow it
pub record Last (i : Bool) (w : List Letter) : Type 0 where
  pub outside : i ≡ false
  pub quiet : All Quiet w

all_over : {i : Bool} {w : List Letter} → Orderly over i w → All Quiet w
unfolding All
all_over done = tt
all_over (passes q o) = (q, all_over o)

ended : (l : Letter) (v : List Letter) → l.role ≡ head → (l is 'E') ≡ true → (g : Stage) (i : Bool) → Orderly g i (l ∷ v) → Last i v
unfolding quiet number has
ended l v e f g i (passes q o) = absurd (subst (λ (ρ : Role). T (quiet ρ)) e q)
ended l v e f g i (parts d o) = absurd (two_roles e d refl)
ended l v e f g i (ends d o) = absurd (two_roles e d refl)
ended l v e f g i (begins d h k o) = absurd (two_bits f k)
ended l v e f g i (begins_D d h o) = absurd (two_bits h (other_byte l.byte 69 68 f (λ x. omega arith)))
ended l v e f g i (begins_E d h o) = record { outside = refl; quiet = all_over o }
ended l v e f g i (starts d h o) = absurd (two_roles e d refl)
ended l v e f g i (finishes d h o) = absurd (two_roles e d refl)
ended l v e f g i (deletes d h o) = absurd (two_roles e d refl)

pub at_end : {t : List ℕ} (u : List Letter) (l : Letter) (w : List Letter) → Marked t (u ++ l ∷ w) → l.role ≡ head → (l is 'E') ≡ true → Last (inside_after false u) w
at_end u l w k e f = at_cut l w (λ i. Last i w) (ended l w e f) u (orderly k.rule)

-- ---- cut commands

pub ordered_behind : (i : Bool) (us vs : List (Placed Command)) → Ordered i (us ++ vs) → Ordered (inside_then i us) vs
unfolding Ordered inside_then
ordered_behind i [] vs o = o
ordered_behind i (c ∷ us) vs o = ordered_behind (opens c.what i) us vs o.1

pub ends-outside : (i : Bool) (cs : List (Placed Command)) → Ordered i cs → inside_then i cs ≡ false
unfolding Ordered inside_then
ends-outside i [] o = o
ends-outside i (c ∷ cs) o = ends-outside (opens c.what i) cs o.1

-- commands in order tell whether a definition was open before them
told : (i j : Bool) (cs : List (Placed Command)) → Ordered i cs → Ordered j cs → i ≡ j
unfolding Ordered
told i j [] o p = o ∙ sym p
told i j (c ∷ cs) o p = go c.what o.0 p.0 (told (opens c.what i) (opens c.what j) cs o.1 p.1)
  where
    go : (c : Command) → Allowed i c → Allowed j c → opens c i ≡ opens c j → i ≡ j
    go (start n a b) x y e = unfold Allowed in x ∙ sym y
    go (delete n) x y e = unfold Allowed in x ∙ sym y
    go finish x y e = unfold Allowed in x ∙ sym y
    go (draw k) x y e = unfold opens in e
    go (layer l) x y e = unfold opens in e
    go (call n ts) x y e = unfold opens in e
    go nothing x y e = unfold opens in e

module _ {t : List ℕ} (u : List Letter) (l : Letter) (v : List Letter) (k : Marked t (u ++ l ∷ v)) (e : l.role ≡ stop) where
  -- the commands behind a semicolon
  pub ordered_resumed : (n : ℕ) → Ordered (inside_after false u) (commands n v)
  ordered_resumed n = letters_ordered (behind u l v e (orderly k.rule)) n

  -- what stands there: whether a definition is open is what the recogniser says
  pub inside-commands : (n : ℕ) → inside_then false (commands n (u ++ l ∷ [])) ≡ inside_after false u
  inside-commands n =
      let cs = commands (n + (length u + 1)) v in
      let whole : Ordered false (commands n (u ++ l ∷ []) ++ cs) = subst (Ordered false) (commands-++ l e v n u) (ordered k n) in
      told _ _ cs (ordered_behind false (commands n (u ++ l ∷ [])) cs whole) (ordered_resumed (n + (length u + 1)))

  pub inside-standing : (n : ℕ) (s : Standing) → s.inside ≡ false → (standing s (commands n (u ++ l ∷ []))).inside ≡ inside_after false u
  inside-standing n s h =
      standing-inside s (commands n (u ++ l ∷ [])) ∙ (ap (λ (i : Bool). inside_then i (commands n (u ++ l ∷ []))) h ∙ inside-commands n)
