-- A run that is cut to the most words that any text needs warns of the same: no text needs more (crates/laws, Commands/WordsWithin.antt).
-- Assumes nothing.
use Rattle.std.specs.Prelude.{if◌then◌else◌}
use mathlib.Core.Path.{◌≡◌, refl, ap, ◌∙◌, subst}
use mathlib.Core.Bool.{Bool, true, false, ◌||◌}
use mathlib.Core.List.{List, [], ◌∷◌, ◌++◌}
use Prim.Native.Nat.{ℕ, ◌-◌, ◌≤◌}
use native.Mathlib.Omega.{arith}
use borrow.Author.Tests.{le-ltb, ltb-false}
use lib.Dec.{ltb}
use lib.ListN.{length}
use Rattle.definition.specs.Limits.{most_definitions}
use Rattle.definition.specs.Table.{Definition, Table, enter}
use Rattle.definition.specs.Drawing.{Deed, output, define, remove, entered, happens, table_after, story}
use Rattle.definition.specs.Held.{words_in, words_after}
use Rattle.laws.proofs.Lists.Range.{All}
use Rattle.laws.proofs.Story.WordsHeld.{Holds}
use Rattle.laws.proofs.Commands.WordsWithin.{text-holds}
use Rattle.keeping.specs.Keeping.{most_words}
use Rattle.digits.proofs.Writing.{same_bytes}
use Rattle.passing.specs.Passed.{Passed, lent_of}
use Rattle.warning.specs.Warned.{stops_at, warned_from, warned_of, Warns}

later_all : {A : Type 0} (P : A → Type 0) (a b : List A) → All P (a ++ b) → All P b
unfolding All
later_all P [] b h = h
later_all P (x ∷ a) b h = later_all P a b h.1

first_all : {A : Type 0} (P : A → Type 0) (a b : List A) → All P (a ++ b) → All P a
unfolding All
first_all P [] b h = tt
first_all P (x ∷ a) b h = (h.0, first_all P a b h.1)

module _ (k w v : ℕ) (kw : k ≤ w) (kv : k ≤ v) where
  entered-holds : (t : Table) (d : Definition) → ltb most_definitions (length (enter d t)) ≡ false → All (Holds k) (happens t (define d)) → words_in (enter d t) ≤ k
  unfolding happens All words_after
  entered-holds t d e h =
      let is : happens t (define d) ≡ entered d t ∷ [] = rw e in
      (subst (All (Holds k)) is h).0

  stops_same : (t : Table) (d : Deed) → All (Holds k) (happens t d) → stops_at w t d ≡ stops_at v t d
  unfolding stops_at
  stops_same t (output s) h = refl
  stops_same t (remove n) h = refl
  stops_same t (define d) h = go (ltb most_definitions (length (enter d t))) refl
    where
      go : (b : Bool) → ltb most_definitions (length (enter d t)) ≡ b
          → (ltb most_definitions (length (enter d t)) || ltb w (words_in (enter d t))) ≡ (ltb most_definitions (length (enter d t)) || ltb v (words_in (enter d t)))
      go true e = rw e
      go false e =
          let few = entered-holds t d e h in
          rw (e, le-ltb w (words_in (enter d t)) (omega (arith, few, kw)), le-ltb v (words_in (enter d t)) (omega (arith, few, kv)))

  pub warned-same : (t : Table) (ds : List Deed) → All (Holds k) (story t ds) → warned_from w t ds ≡ warned_from v t ds
  unfolding warned_from story
  warned-same t [] h = refl
  warned-same t (d ∷ ds) h =
      rw (stops_same t d (first_all (Holds k) (happens t d) _ h), warned-same (table_after t d) ds (later_all (Holds k) (happens t d) _ h)) refl

warned-cut : {t : List ℕ} (p : Passed t) (n : ℕ) → warned_of (lent_of n) p ≡ warned_of n p
warned-cut {t} p n = go (ltb n most_words) refl
  where
    go : (b : Bool) → ltb n most_words ≡ b → warned_of (if b then n else most_words) p ≡ warned_of n p
    go true e = refl
    go false e =
        let h = ltb-false n most_words e in
        let s = p.short in
        warned-same (length t) most_words n s (omega (arith, s, h)) [] _ (text-holds p.marked)

-- so many words of n, the first k, are lent
pub warns_lent : (n : ℕ) {r k : ℕ} → r ≡ lent_of n → k ≡ r - 0 → {t old new : List ℕ} {from x : ℕ} → Warns t k old new from x → Warns t n old new from x
warns_lent n {r} {k} e q {t} h = record {
  writes = λ p. same_bytes (ap (λ (i : ℕ). warned_of i p) same ∙ warned-cut p n) (h.writes p);
  near = h.near;
}
  where
    same : k ≡ lent_of n
    same = omega (arith, e, q)
