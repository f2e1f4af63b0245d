-- The chain that a run tells where a drawing was refused: how long it is, and the places that are given back of it.
-- Assumes nothing.
use mathlib.Core.Path.{◌≡◌, refl, sym, ap, ◌∙◌}
use mathlib.Core.Bool.{Bool, true, false}
use mathlib.Core.List.{List, [], ◌∷◌, ◌++◌}
use Prim.Native.Nat.{ℕ, suc, ◌+◌, ◌-◌, ◌*◌, ◌≤◌, ◌<◌}
use native.Mathlib.Omega.{arith}
use native.Mathlib.Numerals.{add-one}
use lib.Dec.{ltb}
use lib.ListN.{length, get_or, set, replicate, length-map}
use lib.Seq.{get_or-set_same, set_at, append_snoc}
use Rattle.std.proofs.lemmas.List.{map-append}
use borrow.Author.Tests.{lt-ltb, le-ltb, ltb-true, ltb-false}
use Rattle.definition.specs.Position.{places_of, chain_told}
use Rattle.chain.specs.Chain.{open_calls, stopped_at, chain_in, Stopped}
use Rattle.chain.proofs.Runs.{one_more, so_many, kept_set, kept_open}

-- ---- how many were open

pub stopped-within : (run : List ℕ) → get_or run 64 0 ≤ 32 → stopped_at run ≡ get_or run 64 0
stopped-within run h = rw (le-ltb 32 (get_or run 64 0) h)

pub stopped-beyond : (run : List ℕ) → 32 < get_or run 64 0 → stopped_at run ≡ 32
stopped-beyond run h = rw (lt-ltb 32 (get_or run 64 0) h)

pub many-opened : (run : List ℕ) → 32 < get_or run 64 0 → 32 ≡ length (chain_in run)
many-opened run h = sym (so_many run (stopped_at run) ∙ stopped-beyond run h)

pub so_many-opened : (run : List ℕ) → get_or run 64 0 ≤ 32 → get_or run 64 0 ≡ length (chain_in run)
so_many-opened run h = sym (so_many run (stopped_at run) ∙ stopped-within run h)

-- a drawing is refused
pub stopped : (run : List ℕ) (level : ℕ) → level ≤ 32 → length run ≡ 65 → Stopped level run (set run 64 level)
stopped run level h long =
    let run' = set run 64 level in
    let e : get_or run' 64 0 ≡ level = get_or-set_same run 64 level 0 (omega arith) in
    let q : stopped_at run' ≡ level = stopped-within run' (omega arith) ∙ e in
    let k = kept_set run {level = level} 64 level (omega arith) in
    record { chain_is = ap (open_calls run') q ∙ kept_open run run' level k; kept = k }

pub few_opened : (run : List ℕ) → length (chain_in run) ≤ 32
few_opened run = by_test (ltb 32 (get_or run 64 0)) refl
  where
    by_test : (b : Bool) → ltb 32 (get_or run 64 0) ≡ b → length (chain_in run) ≤ 32
    by_test true e = omega (arith, many-opened run (ltb-true 32 (get_or run 64 0) e))
    by_test false e = let h = ltb-false 32 (get_or run 64 0) e in omega (arith, so_many-opened run h)

-- ---- their places

-- the places of the first calls are told, with zeros after them
pub record PlacesSoFar (run : List ℕ) (told : List ℕ) (next : ℕ) : Type 0 where
  pub are : told ≡ places_of (open_calls run next) ++ replicate (32 - next) 0

pub none_told : (run : List ℕ) → PlacesSoFar run (replicate 32 0) 0
unfolding open_calls
none_told run = record { are = refl }

pub one_told : {run told : List ℕ} {next : ℕ} → PlacesSoFar run told next → next < 32 → PlacesSoFar run (set told next (get_or run (2 * next) 0)) (next + 1)
one_told {run} {told} {next} h z =
    let p = get_or run (2 * next) 0 in
    let ps = places_of (open_calls run next) in
    let zeros : List ℕ = replicate (32 - (next + 1)) 0 in
    let one_less : 32 - next ≡ suc (32 - (next + 1)) = omega arith in
    let long : length ps ≡ next = length-map (open_calls run next) (λ c. c.place) ∙ so_many run next in
    let more : places_of (open_calls run (next + 1)) ≡ ps ++ (p ∷ []) =
    ap (λ (i : ℕ). places_of (open_calls run i)) (add-one next) ∙ (ap places_of (one_more run next) ∙ map-append _ (open_calls run next) _) in
    record {
      are =
          ap (λ (l : List ℕ). set l next p) (h.are ∙ ap (λ (i : ℕ). ps ++ replicate i 0) one_less)
          ∙ (set_at ps 0 zeros p next long ∙ (sym (append_snoc ps p zeros) ∙ ap (λ (l : List ℕ). l ++ zeros) (sym more)));
    }

pub all_told : {run told : List ℕ} {next : ℕ} → PlacesSoFar run told next → next ≡ length (chain_in run) → told ≡ chain_told (chain_in run)
all_told {run} {told} {next} h e =
    h.are ∙ (ap (λ (i : ℕ). places_of (open_calls run i) ++ replicate (32 - next) 0) (e ∙ so_many run (stopped_at run)) ∙ ap (λ (i : ℕ). places_of (chain_in run) ++ replicate (32 - i) 0) e)
