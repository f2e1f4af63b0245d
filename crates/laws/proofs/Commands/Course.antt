-- Numbers to which the productions give no sign have none, a layer's name has one to four characters, and commands and transformations have at least
-- so many letters. The recogniser's states say so: each has a count of what is still to come, found by search and tested here at each entry of its
-- table, so not believed.
-- Assumes nothing.
use Rattle.std.specs.Prelude.{if◌then◌else◌}
use mathlib.Core.Path.{◌≡◌, refl, sym, ap, ◌∙◌, subst}
use mathlib.Core.Bool.{Bool, true, false, not, ◌&&◌, ◌||◌}
use mathlib.Core.List.{List, [], ◌∷◌}
use mathlib.Core.Logic.{◌⊎◌, inl, inr}
use Prim.Native.Nat.{ℕ, zero, suc, ◌+◌, ◌-◌, ◌*◌, ◌/◌, ◌%◌, ◌≤◌, ◌<◌}
use native.Mathlib.Omega.{arith}
use lib.Dec.{T, ltb, leb, eqb, leb→le, eqb→eq, eqb-suc-zero}
use lib.IntN.{pos, neg_ℤ}
use lib.ListN.{length, get_or}
use borrow.Author.Tests.{eq-eqb}
use Rattle.grammar.specs.Notation.{Class, Role, Role-discrete, Letter, Match, has, dec, 'B', 'C', 'D', 'L', 'R', 'S', 'T', 'W'}
use Rattle.grammar.specs.Notation.{skip, head, second, turn, sign, lead, name, stop}
use Rattle.grammar.specs.Productions.{cif_file}
use Rattle.grammar.specs.Tables.{state_count, kind_count, role_unit, stuck, deep, accepting, lpar_kind, rpar_kind, foreign_kind, samples, table, roles, letter}
use Rattle.grammar.specs.Steps.{choose, kind_of, entry_of, next_of, mode_after, entered, within, mark_of, role_of}
use Rattle.grammar.proofs.Tests.{and_left, and_right, and_both, or_cases, follows, upto, upto_at}
use Rattle.grammar.proofs.Items.{dec-sound, final_complete}
use Rattle.grammar.proofs.Derivatives.{Choice, Items}
use Rattle.grammar.proofs.Fitting.{every_entry}
use Rattle.grammar.proofs.Automaton.{Lang, entry_at, stand, agree, label, deepen_zero, kind-below, step-role, step_to, start_to, accepts}
use Rattle.grammar.proofs.Verdicts.{final_deep}
use Rattle.grammar.proofs.Boundaries.{entered_at, within_at, live_next}
use Rattle.grammar.proofs.Markings.{Below, match_ascii}
use Rattle.definition.specs.Words.{at}
use Rattle.definition.specs.Commands.{Number, worth, numbers, nth, next, named, ◌plays◌, ◌is◌}

-- ---- what each state has still to come

-- the count of a state, and 0 for those that are not listed
counted : List (ℕ × ℕ) → ℕ → ℕ
counted [] q = 0
counted (c ∷ cs) q = let rest = counted cs q in if eqb c.0 q then c.1 else rest

-- how many numbers, from here on, the productions give no sign
owed : ℕ → ℕ
owed =
    counted ((4, 2) ∷ (5, 1) ∷ (10, 1) ∷ (11, 1) ∷ (14, 1) ∷ (16, 1) ∷ (17, 3) ∷ (23, 1) ∷ (28, 2) ∷ (37, 2) ∷ (39, 2) ∷ (47, 1) ∷ (50, 2)
    ∷ (51, 1) ∷ (55, 1) ∷ (56, 1) ∷ (62, 1) ∷ (64, 1) ∷ (74, 1) ∷ [])

-- how many characters of a name may come before the semicolon: 4 where one at least must come, and 5 before a command
room : ℕ → ℕ
room =
    counted ((0, 5) ∷ (2, 5) ∷ (3, 5) ∷ (8, 4) ∷ (13, 5) ∷ (18, 3) ∷ (29, 2) ∷ (38, 5) ∷ (40, 1) ∷ (49, 5) ∷ (53, 4) ∷ (66, 3) ∷ (78, 2) ∷ (88, 1) ∷ [])

-- how many letters at least come before the next transformation or semicolon, as far as what a letter brings depends on it
ahead : ℕ → ℕ
ahead =
    counted ((4, 6) ∷ (5, 1) ∷ (8, 1) ∷ (10, 3) ∷ (11, 1) ∷ (14, 5) ∷ (21, 2) ∷ (23, 4) ∷ (26, 2) ∷ (32, 1) ∷ (33, 3) ∷ (35, 1) ∷ (36, 1)
    ∷ (45, 2) ∷ (50, 6) ∷ (51, 1) ∷ (53, 1) ∷ (55, 3) ∷ (56, 1) ∷ (59, 1) ∷ (60, 1) ∷ (64, 5) ∷ (69, 2) ∷ (74, 4) ∷ (77, 2) ∷ (81, 1)
    ∷ (84, 3) ∷ (86, 1) ∷ (87, 1) ∷ (94, 2) ∷ (98, 1) ∷ (99, 1) ∷ [])

-- behind the D of a command, where the second letter is still to tell what the numbers are
awaits : ℕ → Bool
awaits q = eqb q 6 || eqb q 52

-- a letter of this role and class comes before so many numbers without a sign, and before so many letters at least that stand before the next
-- transformation or semicolon
pub data Brings : Role → Class → (signless letters : ℕ) → Type 0 where
  box_brings : Brings head 'B' 2 6
  flash_brings : Brings head 'R' 1 3
  wire_brings : Brings head 'W' 1 1
  call_brings : Brings head 'C' 1 1
  layer_brings : Brings head 'L' 0 1
  translate_brings : Brings turn 'T' 0 2
  rotate_brings : Brings turn 'R' 0 2
  start_brings : Brings second 'S' 3 0
  delete_brings : Brings second 'D' 1 0

-- the counts agree where a letter of role ρ and of the classes h leads from state q to state to. Bytes come in by their classes only, so that a
-- byte of each kind stands for all
unfoldable checks : ℕ → Role → (Class → Bool) → ℕ → List Bool
checks q ρ h to =
    let for : Role → Bool = λ σ. dec (Role-discrete ρ σ) in
    let brings : Role → Class → ℕ → ℕ → Bool = λ σ c k j. not (for σ && h c) || (leb k (owed to) && leb j (ahead to)) in
    (not (for sign) || eqb (owed q) 0)
    ∷ ((for turn || for stop) || leb (owed q) (if for lead then suc (owed to) else owed to))
    ∷ (for stop || leb (if for name then suc (room to) else room to) (room q))
    ∷ (not (eqb (room q) 4) || (not (for stop) && (for name || eqb (room to) 4)))
    ∷ (not (awaits q) || (for second || (for skip && awaits to)))
    ∷ (not (for head && h 'L') || eqb (room to) 4)
    ∷ (not (for head && h 'D') || awaits to)
    ∷ leb (ahead q) (if for turn || for stop then 0 else suc (ahead to))
    ∷ brings head 'B' 2 6
    ∷ brings head 'R' 1 3
    ∷ brings head 'W' 1 1
    ∷ brings head 'C' 1 1
    ∷ brings head 'L' 0 1
    ∷ brings turn 'T' 0 2
    ∷ brings turn 'R' 0 2
    ∷ brings second 'S' 3 0
    ∷ brings second 'D' 1 0
    ∷ []

abbrev all_true : List Bool → Bool
all_true [] = true
all_true (b ∷ bs) = b && all_true bs

all_at : (bs : List Bool) → T (all_true bs) → (i : ℕ) → T (get_or bs i true)
all_at [] t i = tt
all_at (b ∷ bs) t zero = and_left b (all_true bs) t
all_at (b ∷ bs) t (suc i) = all_at bs (and_right b (all_true bs) t) i

abbrev Passes : ℕ → Role → (Class → Bool) → ℕ → Type 0
Passes q ρ h to = T (all_true (checks q ρ h to))

-- what the checks say
record Checked (q : ℕ) (l : Letter) (to : ℕ) : Type 0 where
  signs : T (l plays sign) → owed q ≡ 0
  owes : T ((l plays turn || l plays stop) || leb (owed q) (if l plays lead then suc (owed to) else owed to))
  holds : T (l plays stop || leb (if l plays name then suc (room to) else room to) (room q))
  lacks : room q ≡ 4 → T (not (l plays stop) && (l plays name || eqb (room to) 4))
  tells : T (awaits q) → T (l plays second || (l plays skip && awaits to))
  names : T (l plays head && l is 'L') → room to ≡ 4
  defines : T (l plays head && l is 'D') → T (awaits to)
  spaces : ahead q ≤ (if l plays turn || l plays stop then 0 else suc (ahead to))
  brings : {ρ : Role} {c : Class} {k j : ℕ} → Brings ρ c k j → T (l plays ρ && l is c) → (k ≤ owed to) × (j ≤ ahead to)

T_of : {b : Bool} → b ≡ true → T b
T_of e = subst T (sym e) tt

checked : (q : ℕ) (l : Letter) (to : ℕ) → Passes q l.role (λ c. l is c) to → Checked q l to
unfolding checks
checked q l to t = record {
  signs = λ h. eqb→eq (owed q) 0 (follows (l plays sign) _ (pick 0) h);
  owes = pick 1;
  holds = pick 2;
  lacks = λ h. follows (eqb (room q) 4) _ (pick 3) (T_of (eq-eqb (room q) 4 h));
  tells = follows (awaits q) _ (pick 4);
  names = λ h. eqb→eq (room to) 4 (follows (l plays head && l is 'L') _ (pick 5) h);
  defines = follows (l plays head && l is 'D') _ (pick 6);
  spaces = leb→le (ahead q) _ (pick 7);
  brings = brought;
}
  where
    pick : (i : ℕ) → T (get_or (checks q l.role (λ c. l is c) to) i true)
    pick = all_at (checks q l.role (λ c. l is c) to) t

    least : (ρ : Role) (c : Class) (k j : ℕ) → T (not (l plays ρ && l is c) || (leb k (owed to) && leb j (ahead to))) → T (l plays ρ && l is c) → (k ≤ owed to) × (j ≤ ahead to)
    least ρ c k j t h =
        let x = follows (l plays ρ && l is c) _ t h in
        (leb→le k (owed to) (and_left (leb k (owed to)) _ x), leb→le j (ahead to) (and_right (leb k (owed to)) _ x))

    brought : {ρ : Role} {c : Class} {k j : ℕ} → Brings ρ c k j → T (l plays ρ && l is c) → (k ≤ owed to) × (j ≤ ahead to)
    brought box_brings h = least head 'B' 2 6 (pick 8) h
    brought flash_brings h = least head 'R' 1 3 (pick 9) h
    brought wire_brings h = least head 'W' 1 1 (pick 10) h
    brought call_brings h = least head 'C' 1 1 (pick 11) h
    brought layer_brings h = least head 'L' 0 1 (pick 12) h
    brought translate_brings h = least turn 'T' 0 2 (pick 13) h
    brought rotate_brings h = least turn 'R' 0 2 (pick 14) h
    brought start_brings h = least second 'S' 3 0 (pick 15) h
    brought delete_brings h = least second 'D' 1 0 (pick 16) h

-- entry x of the table, at state q and kind k
unfoldable passes : ℕ → ℕ → ℕ → Bool
passes q k x =
    let to = x % role_unit in
    eqb to stuck || all_true (checks q (get_or roles (x / role_unit) skip) (λ c. has c (stand k)) (choose (ltb to deep) to (to - deep)))

table-passes : T (every_entry passes table)
unfolding passes checks owed room ahead awaits counted dec has stand samples table
table-passes = tt

-- a letter within a comment, which leaves the state as it is
skip_passes : ℕ → Bool
skip_passes q = all_true (checks q skip (λ c. false) q)

skips_pass : T (upto skip_passes state_count)
unfolding upto skip_passes checks owed room ahead awaits counted dec
skips_pass = tt

skip_passes_lem : (q : ℕ) (h : Class → Bool) → q < state_count → Passes q skip h q
unfolding skip_passes checks dec
skip_passes_lem q h k = upto_at skip_passes state_count skips_pass q k

-- ---- so each step of the recogniser passes

module _ (q b : ℕ) (hq : q < state_count) (hb : b < 256) where
  entry_passes : (next_of q (kind_of b) ≡ stuck → ⊥)
      → Passes q (role_of q 0 b) (λ c. has c b) (choose (ltb (next_of q (kind_of b)) deep) (next_of q (kind_of b)) (next_of q (kind_of b) - deep))
  unfolding passes next_of entry_of role_of mark_of
  entry_passes n =
      let k = kind_of b in
      let x = get_or table (q * kind_count + k) 0 in
      let P : (Class → Bool) → Type 0 = λ h. Passes q (get_or roles (x / role_unit) skip) h (choose (ltb (x % role_unit) deep) (x % role_unit) (x % role_unit - deep)) in
      let u : P (λ c. has c (stand k)) = live (or_cases (eqb (x % role_unit) stuck) _ (entry_at passes table-passes q k hq (kind-below b hb))) in
      subst P (λ j c. sym (agree b hb c) j) u
    where
      live : {B : Type 0} → T (eqb (get_or table (q * kind_count + kind_of b) 0 % role_unit) stuck) ⊎ B → B
      live (inl h) = absurd (n (eqb→eq _ stuck h))
      live (inr h) = h

  step-passes : (d : ℕ) → ((mode_after q d b).state ≡ stuck → ⊥) → Passes q (role_of q d b) (λ c. has c b) (mode_after q d b).state
  unfolding mode_after role_of mark_of
  step-passes zero n =
      let x = next_of q (kind_of b) in
      entered_at (Passes q (role_of q 0 b) (λ c. has c b)) x (ltb x deep) (eqb x stuck) n (entry_passes (live_next q b hq hb n))
  step-passes (suc e) n =
      let k = kind_of b in
      let h : Class → Bool = λ c. has c b in
      let A = entered (next_of q k) in
      let B = within q (suc e) k in
      subst (λ (t : Bool). ((choose t A B).state ≡ stuck → ⊥) → Passes q (get_or roles (choose t (entry_of q k / role_unit) 0) skip) h (choose t A B).state) (sym (eqb-suc-zero e))
      (λ m. within_at (Passes q skip h) q (suc e) (eqb k lpar_kind) (eqb k rpar_kind) (eqb k foreign_kind) m (skip_passes_lem q h hq)) n

-- the letters m lead from state q on to the state in which a text may end
data Course : ℕ → List Letter → Type 0 where
  done : {q : ℕ} → q ≡ accepting → Course q []
  step : {q to : ℕ} {l : Letter} {m : List Letter} → Checked q l to → Course to m → Course q (l ∷ m)

end_course : (q d : ℕ) → q < state_count → Lang q d [] → q ≡ accepting
end_course q zero h k = eqb→eq q accepting (subst T (accepts q h) (final_complete (subst (λ (js : Choice). Items js []) (deepen_zero (label q)) k)))
end_course q (suc d) h k = absurd (final_deep d (label q) (final_complete k))

course : (m : List Letter) (q d : ℕ) → q < state_count → Below 256 m → Lang q d m → Course q m
course [] q d h b k = done (end_course q d h k)
course (l ∷ m) q d h b k =
    let to = mode_after q d l.byte in
    let p = step_to q l.byte h (b 0) d l.role k in
    let alive : to.state ≡ stuck → ⊥ = λ e. let z = p.state in omega arith in
    let same-role = sym (step-role q l.byte h (b 0) d l.role k) in
    step (checked q l to.state (subst (λ (ρ : Role). Passes q ρ (λ c. l is c) to.state) same-role (step-passes q l.byte h (b 0) d alive)))
    (course m to.state to.depth p.state (λ i. b (suc i)) p.texts)

matched_course : {m : List Letter} → Match cif_file m → Course 0 m
matched_course {m} k = course m 0 0 (omega arith) (λ i. let h = match_ascii k i in omega arith) (start_to k)

-- ---- numbers without a sign

-- a number without a sign
pub data Natural : Number → Type 0 where
  natural : (p v : ℕ) → Natural (at p (pos v))

-- the first k of the numbers are such, and so is one that is left out
pub record Firsts (k : ℕ) (ns : List Number) : Type 0 where
  pub plain : (i n v : ℕ) → i < k → Natural (nth n ns (pos v) i)

firsts_none : (ns : List Number) → Firsts 0 ns
firsts_none ns = record { plain = λ i n v h. absurd (omega arith) }

firsts_nil : (k : ℕ) → Firsts k []
firsts_nil k = record { plain = λ i n v h. natural n v }

firsts_cons : {k : ℕ} {d : Number} {ns : List Number} → Natural d → Firsts k ns → Firsts (suc k) (d ∷ ns)
firsts_cons {k} {d} {ns} x f = record { plain = go }
  where
    go : (i n v : ℕ) → i < suc k → Natural (nth n (d ∷ ns) (pos v) i)
    go zero n v h = x
    go (suc i) n v h = f.plain i n v (omega arith)

firsts : (k n : ℕ) (minus : Bool) {q : ℕ} {m : List Letter} → Course q m → k ≤ owed q → (minus ≡ true → k ≡ 0) → Firsts k (numbers n minus m)
unfolding numbers
firsts k n minus (done f) h z = firsts_nil k
firsts k n minus (step {q} {to} {l} {m} t c) h z =
    go k h (l plays turn || l plays stop) (l plays lead) minus z t.owes
    (λ j i g. firsts j (n + 1) (l plays sign) c i (λ e. let o = t.signs (T_of e) in omega arith))
  where
    go : (k : ℕ) → k ≤ owed q → (e ld minus : Bool) → (minus ≡ true → k ≡ 0) → T (e || leb (owed q) (if ld then suc (owed to) else owed to))
        → ((j : ℕ) → j ≤ owed to → j ≤ k → Firsts j (numbers (n + 1) (l plays sign) m))
        → Firsts k (if e then [] else if ld then (if minus then at (n - 1) (neg_ℤ (pos (worth (l.byte - 48) m))) else at n (pos (worth (l.byte - 48) m))) ∷ numbers (n + 1) (l plays sign) m else numbers (n + 1) (l plays sign) m)
    go k h true ld minus z t f = firsts_nil k
    go k h false false minus z t f = f k (let u = leb→le (owed q) (owed to) t in omega arith) (omega arith)
    go zero h false true minus z t f = firsts_none _
    go (suc k) h false true true z t f = absurd (let u = z refl in omega arith)
    go (suc k) h false true false z t f = firsts_cons (natural n _) (f k (let u = leb→le (owed q) (suc (owed to)) t in omega arith) (omega arith))

false_only : {A : Type 0} → false ≡ true → A
false_only e = absurd (subst T (sym e) tt)

-- of a D command the second letter tells how many
seconds : {c : Class} {k j : ℕ} → Brings second c k j → has c 59 ≡ false → (n : ℕ) (minus : Bool) {q : ℕ} {m : List Letter} → Course q m → T (awaits q)
    → (next second m is c) ≡ true → Firsts k (numbers n minus m)
unfolding next
seconds b none n minus (done f) a e = false_only (sym none ∙ e)
seconds {c} {k} b none n minus (step {q} {to} {l} {m} t f) a e =
    go (or_cases (l plays second) _ (t.tells a)) (λ h. seconds b none (n + 1) false f h) e
  where
    P : Role → Type 0
    P ρ = (next second (letter l.byte ρ ∷ m) is c) ≡ true → Firsts k (numbers n minus (letter l.byte ρ ∷ m))

    go : T (l plays second) ⊎ T (l plays skip && awaits to) → (T (awaits to) → (next second m is c) ≡ true → Firsts k (numbers (n + 1) false m)) → P l.role
    go (inl s) rest =
        subst P (sym (dec-sound (Role-discrete l.role second) s))
        (unfold numbers dec in λ e. firsts k (n + 1) false f (t.brings b (and_both (l plays second) (l is c) s (T_of e))).0 false_only)
    go (inr s) rest =
        subst P (sym (dec-sound (Role-discrete l.role skip) (and_left (l plays skip) _ s)))
        (unfold numbers dec in rest (and_right (l plays skip) _ s))

-- ---- names

few-named : {q : ℕ} {m : List Letter} → Course q m → length (named m) ≤ room q
unfolding named
few-named (done f) = omega arith
few-named (step {q} {to} {l} {m} t c) = go (l plays stop) (l plays name) t.holds (few-named c)
  where
    go : (s b : Bool) → T (s || leb (if b then suc (room to) else room to) (room q)) → length (named m) ≤ room to → length (if s then [] else if b then l.byte ∷ named m else named m) ≤ room q
    go true b t h = omega arith
    go false true t h = let u = leb→le (suc (room to)) (room q) t in omega arith
    go false false t h = let u = leb→le (room to) (room q) t in omega arith

some_named : {q : ℕ} {m : List Letter} → Course q m → room q ≡ 4 → 0 < length (named m)
unfolding named
some_named (done f) e = absurd (full (ap room (sym f) ∙ e))
  where
    full : room accepting ≡ 4 → ⊥
    full z = let w : ◌≡◌ {A = ℕ} 0 4 = unfold room counted in z in omega arith
some_named (step {q} {to} {l} {m} t c) e = go (l plays stop) (l plays name) (t.lacks e) (some_named c)
  where
    go : (s b : Bool) → T (not s && (b || eqb (room to) 4)) → (room to ≡ 4 → 0 < length (named m)) → 0 < length (if s then [] else if b then l.byte ∷ named m else named m)
    go true b t h = absurd t
    go false true t h = omega arith
    go false false t h = h (eqb→eq (room to) 4 t)

-- ---- letters before the next transformation or semicolon

unfoldable pub apart : List Letter → ℕ
apart [] = 0
apart (l ∷ m) = let rest = apart m in if l plays turn || l plays stop then 0 else suc rest

ahead_apart : {q : ℕ} {m : List Letter} → Course q m → ahead q ≤ apart m
unfolding apart
ahead_apart (done f) = let w : ahead accepting ≡ 0 = unfold ahead counted in refl in let z = ap ahead f in omega arith
ahead_apart (step {q} {to} {l} {m} t c) = go (l plays turn || l plays stop) t.spaces (ahead_apart c)
  where
    go : (b : Bool) → ahead q ≤ (if b then 0 else suc (ahead to)) → ahead to ≤ apart m → ahead q ≤ (if b then 0 else suc (apart m))
    go true h i = h
    go false h i = omega arith

-- each letter is before as many letters as it brings
pub record Space (l : Letter) (m : List Letter) : Type 0 where
  pub least : {ρ : Role} {c : Class} {k j : ℕ} → Brings ρ c k j → (l plays ρ) ≡ true → (l is c) ≡ true → j ≤ apart m

unfoldable pub Spaced : List Letter → Type 0
Spaced [] = Unit {0}
Spaced (l ∷ m) = Space l m × Spaced m

spaced : {q : ℕ} {m : List Letter} → Course q m → Spaced m
unfolding Spaced
spaced (done f) = tt
spaced (step {q} {to} {l} {m} t c) = (record { least = least }, spaced c)
  where
    least : {ρ : Role} {e : Class} {k j : ℕ} → Brings ρ e k j → (l plays ρ) ≡ true → (l is e) ≡ true → j ≤ apart m
    least {ρ} {e} b p i = omega (arith, (t.brings b (and_both (l plays ρ) (l is e) (T_of p) (T_of i))).1, ahead_apart c)

pub matched_spaced : {m : List Letter} → Match cif_file m → Spaced m
matched_spaced k = spaced (matched_course k)

-- ---- so much is known of a command that the letter l begins before the letters m

pub record Begun (l : Letter) (m : List Letter) : Type 0 where
  pub sized : {c : Class} {k j : ℕ} → Brings head c k j → (l is c) ≡ true → (n : ℕ) → Firsts k (numbers n false m)
  pub defined : {c : Class} {k j : ℕ} → Brings second c k j → (l is 'D') ≡ true → (next second m is c) ≡ true → (n : ℕ) → Firsts k (numbers n false m)
  pub some_name : (l is 'L') ≡ true → 0 < length (named m)
  pub short-name : (l is 'L') ≡ true → length (named m) ≤ 4

unfoldable pub Heads : List Letter → Type 0
Heads [] = Unit {0}
Heads (l ∷ m) = ((l plays head) ≡ true → Begun l m) × Heads m

no_stop : {c : Class} {k j : ℕ} → Brings second c k j → has c 59 ≡ false
unfolding has
no_stop start_brings = refl
no_stop delete_brings = refl

begun : {q to : ℕ} {l : Letter} {m : List Letter} → Checked q l to → Course to m → T (l plays head) → Begun l m
begun {q} {to} {l} {m} t c h = record {
  sized = λ b i n. firsts _ n false c (t.brings b (both i)).0 false_only;
  defined = λ b i j n. seconds b (no_stop b) n false c (t.defines (both i)) j;
  some_name = λ i. some_named c (t.names (both i));
  short-name = λ i. let f = t.names (both i) in let g = few-named c in omega arith;
}
  where
    both : {b : Bool} → b ≡ true → T (l plays head && b)
    both {b} e = and_both (l plays head) b h (T_of e)

heads : {q : ℕ} {m : List Letter} → Course q m → Heads m
unfolding Heads
heads (done f) = tt
heads (step t c) = (λ e. begun t c (T_of e), heads c)

pub matched_heads : {m : List Letter} → Match cif_file m → Heads m
matched_heads k = heads (matched_course k)
