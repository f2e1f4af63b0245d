-- The cases of the running account in specs/Steps.antt, as the code comes to them.
-- Assumes nothing.
use mathlib.Core.Path.{◌≡◌, sym, ap, ◌∙◌, subst}
use mathlib.Core.Bool.{Bool, true, false, ◌&&◌}
use mathlib.Core.List.{List}
use Prim.Native.Nat.{ℕ, ◌+◌, ◌-◌, ◌/◌, ◌%◌, ◌≤◌, ◌<◌}
use native.Mathlib.Omega.{arith}
use native.Mathlib.Numerals.{add-one}
use borrow.Author.Tests.{eq-eqb, ne_eqb}
use lib.Dec.{eqb, ltb}
use lib.ListN.{length, get_or, drop, drop_of_length-le}
use lib.Seq.{drop-cons}
use Rattle.grammar.specs.Tables.{role_unit, stuck, deep, accepting, state_count}
use Rattle.grammar.specs.Steps.{choose, kind_of, entry_of, next_of, mark_of, mode_after, entered, within, mode, verdict_of}
use Rattle.grammar.specs.declared.Mode.{Mode}
use Rattle.grammar.proofs.Automaton.{step_range}
use Rattle.std.specs.Prelude.{Err, Ok}

module _ (q d b k : ℕ) (ek : k ≡ kind_of b) where
  pub outside_is : d ≡ 0 → (e : ℕ) → e ≡ entry_of q k → entered (e % role_unit) ≡ mode_after q d b
  unfolding mode_after next_of
  outside_is h e ee =
      ap (λ (x : ℕ). entered (x % role_unit)) (ee ∙ ap (λ (x : ℕ). entry_of q x) ek)
      ∙ sym (ap (λ (x : Bool). choose x (entered (next_of q (kind_of b))) (within q d (kind_of b))) (eq-eqb d 0 h))

  pub within_is : (d ≡ 0 → ⊥) → within q d k ≡ mode_after q d b
  unfolding mode_after
  within_is h =
      ap (λ (x : ℕ). within q d x) ek ∙ sym (ap (λ (x : Bool). choose x (entered (next_of q (kind_of b))) (within q d (kind_of b))) (ne_eqb d 0 h))

entered_depth : (x d : ℕ) (s t : Bool) → (choose s (mode x 0) (choose t (mode stuck 0) (mode (x - deep) 1))).depth ≤ d + 1
entered_depth x d true t = omega arith
entered_depth x d false true = omega arith
entered_depth x d false false = omega arith

within_depth : (q d : ℕ) (s t u : Bool) → (choose s (mode q (d + 1)) (choose t (mode q (d - 1)) (choose u (mode stuck 0) (mode q d)))).depth ≤ d + 1
within_depth q d true t u = omega arith
within_depth q d false true u = omega arith
within_depth q d false false true = omega arith
within_depth q d false false false = omega arith

choose_depth : (b : Bool) (p r : Mode) (n : ℕ) → p.depth ≤ n → r.depth ≤ n → (choose b p r).depth ≤ n
choose_depth true p r n h k = h
choose_depth false p r n h k = k

pub step_depth : (q d a : ℕ) → (mode_after q d a).depth ≤ d + 1
unfolding mode_after
step_depth q d a =
    choose_depth (eqb d 0) _ _ (d + 1) (entered_depth (next_of q (kind_of a)) d (ltb (next_of q (kind_of a)) deep) (eqb (next_of q (kind_of a)) stuck))
    (within_depth q d (eqb (kind_of a) 3) (eqb (kind_of a) 4) (eqb (kind_of a) 21))

pub mark_out : (q d b k e : ℕ) → k ≡ kind_of b → e ≡ entry_of q k → d ≡ 0 → e / role_unit ≡ mark_of q d b
unfolding mark_of
mark_out q d b k e ek ee h = ap (λ (n : ℕ). n / role_unit) (ee ∙ ap (λ (n : ℕ). entry_of q n) ek) ∙ sym (ap (λ (x : Bool). choose x (entry_of q (kind_of b) / role_unit) 0) (eq-eqb d 0 h))

pub mark_in : (q d b : ℕ) → (d ≡ 0 → ⊥) → 0 ≡ mark_of q d b
unfolding mark_of
mark_in q d b h = sym (ap (λ (x : Bool). choose x (entry_of q (kind_of b) / role_unit) 0) (ne_eqb d 0 h))

module _ (t : List ℕ) (q d i : ℕ) where
  pub stops : i < length t → (mode_after q d (get_or t i 0)).state ≡ stuck → verdict_of q d i (drop i t) ≡ Err i
  unfolding verdict_of
  stops h e = rw (drop-cons t i 0 h, eq-eqb (mode_after q d (get_or t i 0)).state stuck e)

  pub goes : i < length t → (p : Mode) → p ≡ mode_after q d (get_or t i 0) → (p.state ≡ stuck → ⊥) → verdict_of p.state p.depth (i + 1) (drop (i + 1) t) ≡ verdict_of q d i (drop i t)
  unfolding verdict_of
  goes h p e n =
      rw (drop-cons t i 0 h, ← e, ne_eqb p.state stuck n, add-one i)

  ends : length t ≤ i → (b : Bool) → (eqb q accepting && eqb d 0) ≡ b → verdict_of q d i (drop i t) ≡ choose b (Ok tt) (Err i)
  unfolding verdict_of
  ends h b e = rw (drop_of_length-le t h, e)

  pub ends_in : length t ≤ i → q ≡ accepting → d ≡ 0 → verdict_of q d i (drop i t) ≡ (Ok tt)
  ends_in h e f = ends h true (rw (eq-eqb q accepting e, eq-eqb d 0 f))

  pub ends-deep : length t ≤ i → q ≡ accepting → (d ≡ 0 → ⊥) → verdict_of q d i (drop i t) ≡ Err i
  ends-deep h e f = ends h false (rw (eq-eqb q accepting e, ne_eqb d 0 f))

  pub ends_out : length t ≤ i → (q ≡ accepting → ⊥) → verdict_of q d i (drop i t) ≡ Err i
  ends_out h e = ends h false (rw (ne_eqb q accepting e))

-- on the way over the text t, at place i
pub record RecognisedSoFar (t : List ℕ) (q d i : ℕ) : Type 0 where
  pub reached : i ≤ length t
  pub state : q < state_count
  pub depth : d ≤ i
  pub ahead : verdict_of q d i (drop i t) ≡ verdict_of 0 0 0 t

pub going_on : (t : List ℕ) (q d i : ℕ) → ((k : ℕ) → get_or t k 0 < 256) → RecognisedSoFar t q d i → i < length t → (p : Mode) → p ≡ mode_after q d (get_or t i 0) → (p.state ≡ stuck → ⊥) → RecognisedSoFar t p.state p.depth (i + 1)
going_on t q d i b g h p e n =
    let a = get_or t i 0 in
    let m : (mode_after q d a).depth ≤ d + 1 = step_depth q d a in
    let x = g.depth in
    record {
      reached = omega arith;
      state = subst (λ (p : Mode). p.state < state_count) (sym e) (step_range q a g.state (b i) d (λ f. n (ap (λ (p : Mode). p.state) e ∙ f)));
      depth = subst (λ (p : Mode). p.depth ≤ i + 1) (sym e) (omega arith);
      ahead = goes t q d i h p e n ∙ g.ahead;
    }
