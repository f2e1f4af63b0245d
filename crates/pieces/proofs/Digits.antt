-- The rest of a number, told by its bytes: behind the first digit every digit is a further one, and nothing else is.
-- Assumes nothing.
use mathlib.Core.Path.{◌≡◌, refl, sym, ap, ◌∙◌, subst}
use mathlib.Core.Bool.{Bool, true, false}
use mathlib.Core.List.{List, [], ◌∷◌}
use Prim.Native.Nat.{ℕ, ◌+◌, ◌*◌, ◌≤◌, ◌<◌}
use native.Mathlib.Omega.{arith}
use native.Mathlib.Numerals.{add-one}
use borrow.Author.Tests.{eqb-true, eqb-false, leb-true, ltb-false, le-ltb, le-leb}
use lib.Dec.{ltb, leb, eqb}
use lib.ListN.{length, get_or, drop, drop_of_length-le}
use lib.Seq.{drop-cons}
use Rattle.grammar.specs.Notation.{Role, Letter, dec, skip, head, second, turn, axis, sign, lead, later, name, stop}
use Rattle.grammar.specs.Tables.{state_count, stuck, letter}
use Rattle.grammar.specs.Steps.{mode_after, mark_of, number, Moved}
use Rattle.grammar.specs.declared.Move.{Move}
use Rattle.grammar.proofs.Automaton.{number-mark}
use Rattle.grammar.proofs.Numerals.{Digital, Numeral}
use Rattle.definition.specs.Commands.{worth}
use Rattle.pieces.specs.Pieces.{too_large, capped, digit_of, digital, pieces, left, stream, spot, numeral_by, Step, Led}
use Rattle.pieces.specs.declared.Spot.{Spot}
use Rattle.pieces.specs.declared.Begun.{Begun}
use Rattle.pieces.specs.declared.Numeral.{Numeral as Counted}
use Rattle.pieces.specs.declared.Piece.{Piece}
use Rattle.pieces.specs.declared.Piece.TheVariants.{Number}
use Rattle.pieces.proofs.Capped.{cap_le, cap_small, cap_twice, worth-capped}
use Rattle.pieces.proofs.Lexing.{role, left_ended, left-stuck, left-next, role_is}

never : false ≡ true → ⊥
never e = let z : ◌≡◌ {A = ℕ} 0 1 = cc in omega arith

digit-yes : (b : ℕ) → digital b ≡ true → Digital b
unfolding digital
digit-yes b e = go (ltb b 48) refl (leb b 57) refl
  where
    go : (s : Bool) → ltb b 48 ≡ s → (u : Bool) → leb b 57 ≡ u → Digital b
    go false es true eu = (ltb-false b 48 es, let h = leb-true b 57 eu in omega arith)
    go false es false eu = absurd (never (rw (es, eu) at e))
    go true es u eu = absurd (never (rw (es) at e))

digit_no : (b : ℕ) → digital b ≡ false → Digital b → ⊥
unfolding digital
digit_no b e d = never (sym (rw (le-ltb b 48 d.0, le-leb b 57 (let h = d.1 in omega arith)) at e))

-- a number ends at a letter that is no later digit
worth-over : (v b : ℕ) (L : List Letter) (ρ : Role) → (number ρ ≡ number later → ⊥) → worth v (letter b ρ ∷ L) ≡ v
unfolding worth dec
worth-over v b L skip n = refl
worth-over v b L head n = refl
worth-over v b L second n = refl
worth-over v b L turn n = refl
worth-over v b L axis n = refl
worth-over v b L sign n = refl
worth-over v b L lead n = refl
worth-over v b L later n = absurd (n refl)
worth-over v b L name n = refl
worth-over v b L stop n = refl

worth_none : (v : ℕ) → worth v [] ≡ v
unfolding worth
worth_none v = refl

-- behind i₀, with digits worth v read up to i. What is said of letters holds in a state behind a first digit.
pub record Digits (t : List ℕ) (q i₀ v₀ i v : ℕ) : Type 0 where
  pub from : i₀ ≤ i
  pub within : i₀ ≤ length t → i ≤ length t
  pub small : v ≤ too_large
  pub size : Numeral q → q < state_count → capped (worth v (left t q 0 i)) ≡ capped (worth v₀ (left t q 0 i₀))
  pub on : Numeral q → q < state_count → pieces i₀ i₀ (left t q 0 i₀) ≡ pieces i i (left t q 0 i)
  pub exact : numeral_by q i₀ v₀ (drop i₀ t) ≡ numeral_by q i v (drop i t)

pub digits-start : (t : List ℕ) (q i v : ℕ) → v < 256 → Digits t q i v i v
digits-start t q i v h = record { from = omega arith; within = λ k. k; small = omega arith; size = λ n l. refl; on = λ n l. refl; exact = refl }

-- the step that the recogniser makes there
abbrev step : ℕ → ℕ → Move
step q b = record { state = (mode_after q 0 b).state; depth = (mode_after q 0 b).depth; mark = mark_of q 0 b }

moved : (q b : ℕ) → Moved q 0 b (step q b)
moved q b = record { goes = refl; mark = refl }

module _ (t : List ℕ) (q i₀ v₀ i v : ℕ) (g : Digits t q i₀ v₀ i v) where
  abbrev so_far : Counted
  so_far = record { size = v; to = spot i q }

  pub numeral-ended : length t ≤ i → so_far ≡ numeral_by q i₀ v₀ (drop i₀ t)
  unfolding numeral_by
  numeral-ended h = sym (g.exact ∙ ap (λ (l : List ℕ). numeral_by q i v l) (drop_of_length-le t h))

  here : i < length t → numeral_by q i₀ v₀ (drop i₀ t) ≡ numeral_by q i v (get_or t i 0 ∷ drop (i + 1) t)
  here h = g.exact ∙ ap (λ (l : List ℕ). numeral_by q i v l) (drop-cons t i 0 h ∙ ap (λ (k : ℕ). get_or t i 0 ∷ drop k t) (sym (add-one i)))

  pub numeral_other : i < length t → digital (get_or t i 0) ≡ false → so_far ≡ numeral_by q i₀ v₀ (drop i₀ t)
  unfolding numeral_by
  numeral_other h e = sym (here h ∙ rw e)

  module _ (hi : i < length t) (hb : get_or t i 0 < 256) where
    abbrev b : ℕ
    b = get_or t i 0

    further : digital b ≡ true → (u : ℕ) → u ≡ capped (10 * v + digit_of b) → numeral_by q i₀ v₀ (drop i₀ t) ≡ numeral_by q (i + 1) u (drop (i + 1) t)
    unfolding numeral_by
    further e u eu = here hi ∙ rw (e, eu)

    other_over : Numeral q → q < state_count → digital b ≡ false → worth v (left t q 0 i) ≡ v
    other_over n l e = go (eqb (mode_after q 0 b).state stuck) refl
      where
        go : (s : Bool) → eqb (mode_after q 0 b).state stuck ≡ s → worth v (left t q 0 i) ≡ v
        go true es = ap (λ (k : List Letter). worth v k) (left-stuck t q 0 i hi hb (step q b) (moved q b) (eqb-true _ stuck es)) ∙ worth_none v
        go false es =
            let live = eqb-false _ stuck es in
            let r = step q b in
            ap (λ (k : List Letter). worth v k) (left-next t q 0 i hi hb r (moved q b) l live)
            ∙ worth-over v b (left t r.state r.depth (i + 1)) (role r) (λ f. n.other b hb (digit_no b e) (sym (role_is t q 0 i hi hb r (moved q b) l live) ∙ f))

    digit_on : Numeral q → q < state_count → digital b ≡ true → left t q 0 i ≡ letter b later ∷ left t q 0 (i + 1)
    digit_on n l e =
        let d = digit-yes b e in
        let r : Move = record { state = q; depth = 0; mark = number later } in
        let mv : Moved q 0 b r = record { goes = n.stays b d; mark = sym (n.again b d) } in
        left-next t q 0 i hi hb r mv l (λ s. omega arith) ∙ ap (λ (ρ : Role). letter b ρ ∷ left t q 0 (i + 1)) (number-mark later)

    pub digits-next : digital b ≡ true → (u : ℕ) → u ≡ capped (10 * v + digit_of b) → Digits t q i₀ v₀ (i + 1) u
    unfolding worth dec pieces
    digits-next e u eu =
        let h = g.from in
        record {
          from = omega arith;
          within = λ k. omega arith;
          small = subst (λ (x : ℕ). x ≤ too_large) (sym eu) (cap_le (10 * v + digit_of b));
          size = λ n l.
              worth-capped (left t q 0 (i + 1)) u (10 * v + digit_of b) (ap (λ (x : ℕ). capped x) eu ∙ cap_twice (10 * v + digit_of b))
              ∙ ap (λ (k : List Letter). capped (worth v k)) (sym (digit_on n l e))
              ∙ g.size n l;
          exact = further e u eu;
          on = λ n l. g.on n l ∙ ap (λ (k : List Letter). pieces i i k) (digit_on n l e);
        }

module _ {t : List ℕ} {s : Spot} {m : Begun} (l : Led t s m) {i v : ℕ} (g : Digits t m.to.state m.to.at (digit_of m.byte) i v) where
  abbrev q : ℕ
  q = m.to.state

  abbrev σ : Bool
  σ = ltb m.place m.at

  over : worth v (left t q 0 i) ≡ v → Step t s (Number m.place σ v) (spot i q)
  over w =
      let e = sym (g.size l.numeral l.fit.state) ∙ ap (λ (n : ℕ). capped n) w ∙ cap_small v g.small in
      let h = l.ahead in
      let k = g.from in
      record {
        is =
            l.is
            ∙ ap (λ (n : ℕ). Number m.place σ n ∷ stream t m.to) e
            ∙ ap (λ (xs : List Piece). Number m.place σ v ∷ xs) (g.on l.numeral l.fit.state);
        small = g.small;
        ahead = omega arith;
        fit = record { within = g.within l.fit.within; state = l.fit.state };
        crosses = l.same;
        stops = λ f. absurd (let z : ◌≡◌ {A = ℕ} 0 1 = cc in omega arith);
      }

  pub digits-ended : length t ≤ i → Step t s (Number m.place σ v) (spot i q)
  digits-ended h = over (ap (λ (k : List Letter). worth v k) (left_ended t q 0 i h) ∙ worth_none v)

  pub digits_other : i < length t → get_or t i 0 < 256 → digital (get_or t i 0) ≡ false → Step t s (Number m.place σ v) (spot i q)
  digits_other hi hb e = over (other_over t q m.to.at (digit_of m.byte) i v g hi hb l.numeral l.fit.state e)
