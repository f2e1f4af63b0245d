-- The open calls of a run: what is pushed is the innermost of them, and what keeps the first numbers keeps them. The functions of this crate answer by it,
-- and whoever draws calls goes on from it.
-- Assumes nothing.
use mathlib.Core.Path.{◌≡◌, refl, sym, ap, ◌∙◌}
use mathlib.Core.Bool.{Bool, true, false, ◌||◌}
use mathlib.Core.List.{List, [], ◌∷◌, ◌++◌}
use Prim.Native.Nat.{ℕ, zero, suc, ◌+◌, ◌*◌, ◌≤◌, ◌<◌}
use native.Mathlib.Omega.{arith}
use native.Mathlib.Numerals.{add-one}
use lib.Dec.{eqb, ltb}
use lib.ListN.{length, take, get_or, set, length-set, length-append}
use lib.Seq.{get_or-take, get_or-set_same, get_or-set_other, take-take, take-set-le}
use borrow.Author.Tests.{eq-eqb, ne_eqb, ltb-true, ltb-false}
use Rattle.definition.specs.Words.{Placed, any, at}
use Rattle.definition.specs.Drawing.{Chain}
use Rattle.chain.specs.Chain.{open_calls, Kept, Pushed}

-- ---- the calls by their level

-- the call at a level
abbrev pub call_at : List ℕ → ℕ → Placed ℕ
call_at run i = at (get_or run (2 * i) 0) (get_or run (2 * i + 1) 0)

pub one_more : (run : List ℕ) (i : ℕ) → open_calls run (suc i) ≡ open_calls run i ++ (call_at run i ∷ [])
unfolding open_calls
one_more run i = refl

pub none_open : (run : List ℕ) → open_calls run 0 ≡ []
unfolding open_calls
none_open run = refl

pub so_many : (run : List ℕ) (level : ℕ) → length (open_calls run level) ≡ level
unfolding open_calls
so_many run zero = refl
so_many run (suc level) = omega (arith, length-append (open_calls run level) (call_at run level ∷ []), so_many run level)

-- ---- what is kept

pub kept-lower : {run run' : List ℕ} (lower : ℕ) {level : ℕ} → lower ≤ level → Kept level run run' → Kept lower run run'
kept-lower {run} {run'} lower {level} h k =
    let s : 2 * lower ≤ 2 * level = omega arith in
    record { first_are = sym (take-take (2 * lower) (2 * level) run' s) ∙ (ap (take (2 * lower)) k.first_are ∙ take-take (2 * lower) (2 * level) run s) }

-- a number after them may change
pub kept_set : (run : List ℕ) {level : ℕ} (i n : ℕ) → 2 * level ≤ i → Kept level run (set run i n)
kept_set run {level} i n h = record { first_are = take-set-le (2 * level) run i n h }

pub untouched : {level : ℕ} {run : List ℕ} → Kept level run run
untouched = record { first_are = refl }

pub kept-both : {level : ℕ} {run run' run'' : List ℕ} → Kept level run run' → Kept level run' run'' → Kept level run run''
kept-both k k' = record { first_are = k'.first_are ∙ k.first_are }

kept-number : (run run' : List ℕ) (level i : ℕ) → Kept level run run' → i < 2 * level → get_or run' i 0 ≡ get_or run i 0
kept-number run run' level i k h = sym (get_or-take (2 * level) run' i 0 h) ∙ (ap (λ (l : List ℕ). get_or l i 0) k.first_are ∙ get_or-take (2 * level) run i 0 h)

-- the calls up to this level, and so up to every lower one, are as they were
pub kept_open : (run run' : List ℕ) (level : ℕ) → Kept level run run' → open_calls run' level ≡ open_calls run level
unfolding open_calls
kept_open run run' zero k = refl
kept_open run run' (suc level) k =
    let below : open_calls run' level ≡ open_calls run level = kept_open run run' level (kept-lower level (omega arith) k) in
    let place : get_or run' (2 * level) 0 ≡ get_or run (2 * level) 0 = kept-number run run' (suc level) (2 * level) k (omega arith) in
    let symbol : get_or run' (2 * level + 1) 0 ≡ get_or run (2 * level + 1) 0 = kept-number run run' (suc level) (2 * level + 1) k (omega arith) in
    rw (below, place, symbol)

pub kept-below : {run run' : List ℕ} (lower : ℕ) {level : ℕ} → lower ≤ level → Kept level run run' → open_calls run' lower ≡ open_calls run lower
kept-below {run} {run'} lower h k = kept_open run run' lower (kept-lower lower h k)

-- ---- a call pushed

pub pushed : (run : List ℕ) (level place symbol : ℕ) → 2 * level + 1 < length run → Pushed level place symbol run (set (set run (2 * level) place) (2 * level + 1) symbol)
pushed run level place symbol h =
    let once = set run (2 * level) place in
    let twice = set once (2 * level + 1) symbol in
    let kept : Kept level run twice = kept-both (kept_set run (2 * level) place (omega arith)) (kept_set once (2 * level + 1) symbol (omega arith)) in
    let p : get_or twice (2 * level) 0 ≡ place =
    get_or-set_other once (2 * level + 1) (2 * level) symbol 0 (λ e. omega (arith, e)) ∙ get_or-set_same run (2 * level) place 0 (omega arith) in
    let s : get_or twice (2 * level + 1) 0 ≡ symbol = get_or-set_same once (2 * level + 1) symbol 0 (omega (arith, length-set run (2 * level) place)) in
    record {
      deeper = one_more twice level ∙ (ap (λ (c : Placed ℕ). open_calls twice level ++ (c ∷ [])) (λ i. at (p i) (s i)) ∙ ap (λ (o : Chain). o ++ (at place symbol ∷ [])) (kept_open run twice level kept));
      kept = kept;
    }

-- ---- the search for a symbol among the open calls

any_last : {A : Type 0} (p : A → Bool) (l : List A) (a : A) → any p (l ++ (a ∷ [])) ≡ any p l || p a
unfolding any
any_last p [] a = by_either (p a)
  where
    by_either : (b : Bool) → b || false ≡ b
    by_either true = refl
    by_either false = refl
any_last p (x ∷ l) a = by_either (p x) (any_last p l a)
  where
    by_either : (b : Bool) → any p (l ++ (a ∷ [])) ≡ any p l || p a → b || any p (l ++ (a ∷ [])) ≡ b || any p l || p a
    by_either true e = refl
    by_either false e = e

module _ (run : List ℕ) (symbol : ℕ) where
  abbrev pub among : ℕ → Bool  -- whether it is one of the first calls' symbol
  among level = any (λ c. eqb c.what symbol) (open_calls run level)

  pub among_none : among 0 ≡ false
  unfolding open_calls any
  among_none = refl

  among-more : (i : ℕ) → among (suc i) ≡ among i || eqb (get_or run (2 * i + 1) 0) symbol
  among-more i = ap (any (λ c. eqb c.what symbol)) (one_more run i) ∙ any_last (λ c. eqb c.what symbol) (open_calls run i) (call_at run i)

  pub not_here : (i : ℕ) → among i ≡ false → (get_or run (2 * i + 1) 0 ≡ symbol → ⊥) → among (i + 1) ≡ false
  not_here i e ne = rw (add-one, among-more i, e, ne_eqb _ _ ne)

  pub is_here : (i level : ℕ) → i < level → get_or run (2 * i + 1) 0 ≡ symbol → among level ≡ true
  is_here i zero h e = absurd (omega arith)
  is_here i (suc level) h e = among-more level ∙ by_level (ltb i level) refl (λ lt. is_here i level lt e)
    where
      either : (b : Bool) → b || true ≡ true
      either true = refl
      either false = refl

      by_level : (b : Bool) → ltb i level ≡ b → (i < level → among level ≡ true) → among level || eqb (get_or run (2 * level + 1) 0) symbol ≡ true
      by_level true lt below = rw (below (ltb-true i level lt))
      by_level false ge below =
          let same : level ≡ i = omega (arith, h, ltb-false i level ge) in
          rw (eq-eqb (get_or run (2 * level + 1) 0) symbol (ap (λ (j : ℕ). get_or run (2 * j + 1) 0) same ∙ e)) (either (among level))

  pub among_all : (i level : ℕ) → i ≤ level → level ≤ i → among i ≡ false → among level ≡ false
  among_all i level le ge e = let same : level ≡ i = omega arith in ap among same ∙ e
