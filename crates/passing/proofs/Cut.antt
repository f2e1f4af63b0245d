-- No text needs more words than it has bytes, so to lend more than that changes nothing: a run may be cut to the most words that any text needs.
-- Assumes nothing.
use Rattle.std.specs.Prelude.{if◌then◌else◌, Result}
use mathlib.Core.Path.{◌≡◌, refl, sym, ap, ◌∙◌, subst}
use mathlib.Core.Bool.{Bool, true, false}
use mathlib.Core.List.{List, map}
use Prim.Native.Nat.{ℕ, ◌-◌, ◌≤◌}
use native.Mathlib.Omega.{arith}
use borrow.Author.Tests.{ltb-true, ltb-false}
use lib.Dec.{ltb}
use Rattle.definition.specs.declared.Refusal.{Refusal}
use Rattle.definition.specs.Drawing.{Event}
use Rattle.definition.specs.Held.{held_to}
use Rattle.laws.proofs.Commands.WordsWithin.{held-within}
use Rattle.keeping.specs.Keeping.{most_words}
use Rattle.chain.specs.Chain.{chain_in}
use Rattle.shapes.specs.declared.Ink.{Ink}
use Rattle.shapes.specs.Painting.{Painted}
use Rattle.passing.specs.Passed.{Passed, to_draw, dry, TextDraws, lent_of}

held_cut : {t : List ℕ} (p : Passed t) (words : ℕ) → most_words ≤ words → map (held_to most_words) (to_draw p) ≡ map (held_to words) (to_draw p)
held_cut p words h = held-within p.marked most_words p.short ∙ sym (held-within p.marked words (let s = p.short in omega (arith, s, h)))

lent-held : {t : List ℕ} (p : Passed t) (words : ℕ) → map (held_to (lent_of words)) (to_draw p) ≡ map (held_to words) (to_draw p)
lent-held p words = go (ltb words most_words) refl
  where
    go : (b : Bool) → ltb words most_words ≡ b → map (held_to (if b then words else most_words)) (to_draw p) ≡ map (held_to words) (to_draw p)
    go true e = refl
    go false e = held_cut p words (ltb-false words most_words e)

-- what is lent is at most what is there, and never more than the most
lent-within : (n : ℕ) → (lent_of n ≤ n) × (lent_of n ≤ most_words)
lent-within n = go (ltb n most_words) refl
  where
    go : (b : Bool) → ltb n most_words ≡ b → ((if b then n else most_words) ≤ n) × ((if b then n else most_words) ≤ most_words)
    go true e = let h = ltb-true n most_words e in (omega arith, omega arith)
    go false e = let h = ltb-false n most_words e in (omega arith, omega arith)

-- so many words of n, the first k, are lent
module _ (n : ℕ) {r : ℕ} (e : r ≡ lent_of n) where
  pub lent_in : r ≤ n
  lent_in = omega (arith, e, (lent-within n).0)

  module _ {k : ℕ} (q : k ≡ r - 0) where
    pub lent-short : k ≤ most_words
    lent-short = omega (arith, e, q, (lent-within n).1)

    pub draws-lent : {t room : List ℕ} (drawing' : List ℕ) {d : Result Ink Refusal} {room' : List ℕ} → TextDraws t k room drawing' d room' → TextDraws t n room drawing' d room'
    draws-lent {t} {room} drawing' {d} {room'} x p =
        let same : k ≡ lent_of n = omega (arith, e, q) in
        subst (λ (es : List Event). Painted dry es room (chain_in drawing') d room') (ap (λ (w : ℕ). map (held_to w) (to_draw p)) same ∙ lent-held p n) (x p)
