-- Where a command ends: the recogniser is then in one state outside definitions and in one within them, whatever came before, so that a text can
-- be read again from there. Only the S of a DS leads into a definition, and only the F of a DF out of it.
-- Assumes nothing.
use mathlib.Core.Path.{◌≡◌, refl, sym, ap, ◌∙◌, subst}
use mathlib.Core.Bool.{Bool, true, false, not, ◌&&◌, ◌||◌}
use mathlib.Core.List.{List, [], ◌∷◌, ◌++◌}
use mathlib.Core.Logic.{◌⊎◌, inl, inr}
use Prim.Native.Nat.{ℕ, zero, suc, ◌+◌, ◌-◌, ◌*◌, ◌/◌, ◌%◌, ◌<◌}
use native.Mathlib.Omega.{arith}
use borrow.Author.Tests.{eq-eqb}
use lib.Dec.{T, ltb, eqb, eqb→eq, eqb-suc-zero}
use lib.ListN.{get_or}
use Rattle.grammar.specs.Notation.{Role, Letter, has, 'S', 'F', second, stop}
use Rattle.grammar.specs.Tables.{state_count, kind_count, role_unit, stuck, deep, lpar_kind, rpar_kind, foreign_kind, start_kind, finish_kind, kinds, table, insides}
use Rattle.grammar.specs.Steps.{choose, kind_of, entry_of, next_of, mode_after, entered, within, mode, mark_of, role_of, number, inside, marked}
use Rattle.grammar.specs.Viable.{bytes, Marked}
use Rattle.grammar.specs.declared.Mode.{Mode}
use Rattle.grammar.proofs.Tests.{and_left, and_right, or_cases, follows, same_bit, bit_eq, every, every_at}
use Rattle.grammar.proofs.Fitting.{inside_next, state_behind, inside_fits, insides-fit}
use Rattle.grammar.proofs.Automaton.{Lang, entry_at, kind-below, step-role, step_to, mark-below, mark-number, start_to}
use Rattle.grammar.proofs.Markings.{Below, match_ascii, marking}

-- what the table says of an entry that leads somewhere
pub record Crossing (q k : ℕ) : Type 0 where
  pub next : inside (choose (ltb (next_of q k) deep) (next_of q k) (next_of q k - deep)) ≡ inside_next (entry_of q k / role_unit) k (inside q)
  pub behind : entry_of q k / role_unit ≡ number stop → next_of q k ≡ state_behind (inside q)

abbrev Tested : ℕ → ℕ → ℕ → Type 0
Tested x k q =
    T (same_bit (inside (choose (ltb (x % role_unit) deep) (x % role_unit) (x % role_unit - deep))) (inside_next (x / role_unit) k (inside q))
    && (not (eqb (x / role_unit) (number stop)) || eqb (x % role_unit) (state_behind (inside q))))

yes_is : (t : Bool) → t ≡ true → T t
yes_is t e = subst T (sym e) tt

crossing : (q k : ℕ) → q < state_count → k < kind_count → (next_of q k ≡ stuck → ⊥) → Crossing q k
unfolding next_of entry_of inside_fits
crossing q k hq hk n = go (live (or_cases (eqb (get_or table (q * kind_count + k) 0 % role_unit) stuck) _ (entry_at inside_fits insides-fit q k hq hk)))
  where
    live : T (eqb (get_or table (q * kind_count + k) 0 % role_unit) stuck) ⊎ Tested (get_or table (q * kind_count + k) 0) k q → Tested (get_or table (q * kind_count + k) 0) k q
    live (inl h) = absurd (n (eqb→eq _ stuck h))
    live (inr h) = h

    go : Tested (get_or table (q * kind_count + k) 0) k q → Crossing q k
    go v =
        let x = get_or table (q * kind_count + k) 0 in
        let a = same_bit (inside (choose (ltb (x % role_unit) deep) (x % role_unit) (x % role_unit - deep))) (inside_next (x / role_unit) k (inside q)) in
        record {
          next = bit_eq _ _ (and_left a _ v);
          behind = λ e. eqb→eq (x % role_unit) (state_behind (inside q)) (follows (eqb (x / role_unit) (number stop)) _ (and_right a _ v) (yes_is _ (eq-eqb (x / role_unit) (number stop) e)));
        }

-- outside comments the state is the entry's, and within them it stays
pub entered_at : (P : ℕ → Type 0) (x : ℕ) (s t : Bool) → ((choose s (mode x 0) (choose t (mode stuck 0) (mode (x - deep) 1))).state ≡ stuck → ⊥)
    → P (choose s x (x - deep)) → P (choose s (mode x 0) (choose t (mode stuck 0) (mode (x - deep) 1))).state
entered_at P x true t n h = h
entered_at P x false true n h = absurd (n refl)
entered_at P x false false n h = h

entered-stuck : (x : ℕ) (s t : Bool) → eqb x stuck ≡ t → x ≡ stuck → (choose s (mode x 0) (choose t (mode stuck 0) (mode (x - deep) 1))).state ≡ stuck
entered-stuck x true t f h = h
entered-stuck x false true f h = refl
entered-stuck x false false f h = absurd (let g = eq-eqb x stuck h in let z : ◌≡◌ {A = ℕ} 0 1 = cc in omega arith)

pub within_at : (P : ℕ → Type 0) (q d : ℕ) (s t u : Bool) → ((choose s (mode q (d + 1)) (choose t (mode q (d - 1)) (choose u (mode stuck 0) (mode q d)))).state ≡ stuck → ⊥)
    → P q → P (choose s (mode q (d + 1)) (choose t (mode q (d - 1)) (choose u (mode stuck 0) (mode q d)))).state
within_at P q d true t u n h = h
within_at P q d false true u n h = h
within_at P q d false false true n h = absurd (n refl)
within_at P q d false false false n h = h

module _ (q b : ℕ) (hq : q < state_count) (hb : b < 256) where
  pub live_next : ((mode_after q 0 b).state ≡ stuck → ⊥) → next_of q (kind_of b) ≡ stuck → ⊥
  unfolding mode_after
  live_next n e = n (entered-stuck (next_of q (kind_of b)) (ltb (next_of q (kind_of b)) deep) (eqb (next_of q (kind_of b)) stuck) refl e)

  -- which states lie inside a definition
  pub inside-step : (d : ℕ) → ((mode_after q d b).state ≡ stuck → ⊥) → inside (mode_after q d b).state ≡ inside_next (mark_of q d b) (kind_of b) (inside q)
  unfolding mode_after mark_of number
  inside-step zero n =
      let k = kind_of b in
      entered_at (λ (to : ℕ). inside to ≡ inside_next (entry_of q k / role_unit) k (inside q)) (next_of q k) (ltb (next_of q k) deep) (eqb (next_of q k) stuck) n (crossing q k hq (kind-below b hb) (live_next n)).next
  inside-step (suc e) n =
      let k = kind_of b in
      let A = entered (next_of q k) in
      let B = within q (suc e) k in
      subst (λ (t : Bool). ((choose t A B).state ≡ stuck → ⊥) → inside (choose t A B).state ≡ inside_next (choose t (entry_of q k / role_unit) 0) k (inside q)) (sym (eqb-suc-zero e))
      (λ m. within_at (λ (to : ℕ). inside to ≡ inside q) q (suc e) (eqb k lpar_kind) (eqb k rpar_kind) (eqb k foreign_kind) m refl) n

  -- where a command's semicolon leads
  pub stop_step : (d : ℕ) → ((mode_after q d b).state ≡ stuck → ⊥) → mark_of q d b ≡ number stop → mode_after q d b ≡ mode (state_behind (inside q)) 0
  unfolding mode_after mark_of
  stop_step zero n e =
      let k = kind_of b in
      ap (λ (x : ℕ). entered x) ((crossing q k hq (kind-below b hb) (live_next n)).behind e) ∙ go (inside q)
    where
      go : (i : Bool) → entered (state_behind i) ≡ mode (state_behind i) 0
      go true = refl
      go false = refl
  stop_step (suc d) n e = absurd (apart (subst (λ (t : Bool). choose t (entry_of q (kind_of b) / role_unit) 0 ≡ number stop) (eqb-suc-zero d) e))
    where
      apart : 0 ≡ number stop → ⊥
      apart z = unfold number in omega arith

-- S and F by their bytes
letter_fits : ℕ → ℕ → Bool
unfolding has
letter_fits a k = same_bit (eqb k start_kind) (has 'S' a) && same_bit (eqb k finish_kind) (has 'F' a)

letters-fit : T (every letter_fits 0 kinds)
unfolding letter_fits kinds
letters-fit = tt

letter-test : (a : ℕ) → a < 256 → T (letter_fits a (kind_of a))
unfolding kind_of kinds
letter-test a h = every_at letter_fits kinds letters-fit a h

-- whether a definition is open behind the letters m, if i says so before them
unfoldable pub inside_by : Letter → Bool → Bool
unfolding has
inside_by l i = choose (eqb (number l.role) (number second)) (choose (has 'S' l.byte) true (choose (has 'F' l.byte) false i)) i

unfoldable pub inside_after : Bool → List Letter → Bool
unfolding inside_by
inside_after i [] = i
inside_after i (l ∷ m) = inside_after (inside_by l i) m

pub by_letter : (a : ℕ) (i : Bool) (m : ℕ) → a < 256
    → inside_next m (kind_of a) i ≡ choose (eqb m (number second)) (choose (has 'S' a) true (choose (has 'F' a) false i)) i
unfolding letter_fits
by_letter a i m h =
    let t = letter-test a h in
    let s : eqb (kind_of a) start_kind ≡ has 'S' a = bit_eq _ _ (and_left (same_bit (eqb (kind_of a) start_kind) (has 'S' a)) _ t) in
    let f : eqb (kind_of a) finish_kind ≡ has 'F' a = bit_eq _ _ (and_right (same_bit (eqb (kind_of a) start_kind) (has 'S' a)) _ t) in
    rw (s, f)

-- the letter's role is the one that the recogniser gives it, so its number is the mark
role-number : (q d : ℕ) (l : Letter) {v : List Letter} → q < state_count → l.byte < 256 → Lang q d (l ∷ v) → mark_of q d l.byte ≡ number l.role
unfolding role_of
role-number q d l hq hb k =
    sym (mark-number (mark_of q d l.byte) (mark-below q d l.byte hq hb)) ∙ ap (λ (ρ : Role). number ρ) (sym (step-role q l.byte hq hb d l.role k))

inside-letter : (q d : ℕ) (l : Letter) {v : List Letter} → q < state_count → l.byte < 256 → Lang q d (l ∷ v)
    → inside (mode_after q d l.byte).state ≡ inside_by l (inside q)
unfolding inside_by
inside-letter q d l hq hb k =
    let p = step_to q l.byte hq hb d l.role k in
    let n : (mode_after q d l.byte).state ≡ stuck → ⊥ = λ e. let z = p.state in omega arith in
    inside-step q l.byte hq hb d n
    ∙ (ap (λ (m : ℕ). inside_next m (kind_of l.byte) (inside q)) (role-number q d l hq hb k) ∙ by_letter l.byte (inside q) (number l.role) hb)

-- behind a command's semicolon the letters are those of the one state or of the other
pub boundary : (u : List Letter) (l : Letter) (v : List Letter) (q d : ℕ) → q < state_count → Below 256 (u ++ l ∷ v) → l.role ≡ stop
    → Lang q d (u ++ l ∷ v) → Lang (state_behind (inside_after (inside q) u)) 0 v
unfolding inside_after
boundary [] l v q d hq hb e k =
    let p = step_to q l.byte hq (hb 0) d l.role k in
    let n : (mode_after q d l.byte).state ≡ stuck → ⊥ = λ e. let z = p.state in omega arith in
    let m : mark_of q d l.byte ≡ number stop = role-number q d l hq (hb 0) k ∙ ap (λ (ρ : Role). number ρ) e in
    subst (λ (x : Mode). Lang x.state x.depth v) (stop_step q l.byte hq (hb 0) d n m) p.texts
boundary (a ∷ u) l v q d hq hb e k =
    let p = step_to q a.byte hq (hb 0) d a.role k in
    let to = mode_after q d a.byte in
    subst (λ (i : Bool). Lang (state_behind (inside_after i u)) 0 v) (inside-letter q d a hq (hb 0) k)
    (boundary u l v to.state to.depth p.state (λ i. hb (suc i)) e p.texts)

behind-below : (u : List Letter) (l : Letter) (v : List Letter) → Below 256 (u ++ l ∷ v) → Below 256 v
behind-below [] l v f = λ i. f (suc i)
behind-below (a ∷ u) l v f = behind-below u l v (λ i. f (suc i))

state-below : (i : Bool) → state_behind i < state_count
state-below true = omega arith
state-below false = omega arith

starts-outside : inside 0 ≡ false
unfolding inside insides
starts-outside = refl

-- so a marked text is marked anew from behind any semicolon of a command: by the place alone, once it is known whether a definition is open
pub resumed : {t : List ℕ} (u : List Letter) (l : Letter) (v : List Letter) → Marked t (u ++ l ∷ v) → l.role ≡ stop
    → v ≡ marked (state_behind (inside_after false u)) 0 (bytes v)
resumed u l v k e =
    let hb : Below 256 (u ++ l ∷ v) = λ i. let h = match_ascii k.rule i in omega arith in
    let b : (i : ℕ) → get_or (bytes v) i 0 < 256 = λ i. behind-below u l v hb i in
    marking v (state_behind (inside_after false u)) 0 (state-below (inside_after false u)) b (subst (λ (i : Bool). Lang (state_behind (inside_after i u)) 0 v) starts-outside (boundary u l v 0 0 (omega arith) hb e (start_to k.rule)))
