-- The letters of a text as the code comes to them, byte by byte: a step of the recogniser, and what holds of the pieces behind it. Numbers, comments
-- and the way to the next piece, each with what its loop keeps, stand in Digits, Comments and Marks.
-- Assumes nothing.
use mathlib.Core.Path.{◌≡◌, refl, sym, ap, ◌∙◌, subst}
use mathlib.Core.Bool.{true, false}
use mathlib.Core.List.{List, [], ◌∷◌}
use Prim.Native.Nat.{ℕ, ◌+◌, ◌≤◌, ◌<◌}
use native.Mathlib.Omega.{arith}
use native.Mathlib.Numerals.{add-one}
use borrow.Author.Tests.{eq-eqb, ne_eqb}
use lib.Dec.{ltb, eqb}
use lib.ListN.{length, get_or, drop_of_length-le}
use lib.Seq.{drop-cons}
use Rattle.grammar.specs.Notation.{Role, has, 'S', 'F', skip, second, stop}
use Rattle.grammar.specs.Tables.{state_count, role_count, stuck, roles, letter}
use Rattle.grammar.specs.Steps.{choose, kind_of, mode_after, role_of, marked, number, inside, Moved}
use Rattle.grammar.specs.declared.Mode.{Mode}
use Rattle.grammar.specs.declared.Move.{Move}
use Rattle.grammar.proofs.Automaton.{mark-below, mark-number, step_range}
use Rattle.grammar.proofs.Fitting.{inside_next}
use Rattle.grammar.proofs.Boundaries.{inside-step, stop_step, by_letter}
use Rattle.definition.specs.Commands.{worth}
use Rattle.pieces.specs.Pieces.{capped, digit_of, pieces, left, spot, behind, Step, Led}
use Rattle.pieces.specs.declared.Spot.{Spot}
use Rattle.pieces.specs.declared.Begun.{Begun}
use Rattle.pieces.specs.declared.Piece.TheVariants.{Number}
use Rattle.pieces.proofs.Capped.{cap_le}

pub pieces_none : (n p : ℕ) → pieces n p [] ≡ []
unfolding pieces
pieces_none n p = refl

-- the role of the byte that a step passed
abbrev pub role : Move → Role
role r = get_or roles r.mark skip

module _ (t : List ℕ) (q d i : ℕ) where
  pub left_ended : length t ≤ i → left t q d i ≡ []
  unfolding marked
  left_ended h = rw (drop_of_length-le t h)

  module _ (hi : i < length t) (hb : get_or t i 0 < 256) (r : Move) (mv : Moved q d (get_or t i 0) r) where
    pub left-stuck : r.state ≡ stuck → left t q d i ≡ []
    unfolding marked
    left-stuck e =
        let s : (mode_after q d (get_or t i 0)).state ≡ stuck = ap (λ (p : Mode). p.state) (sym mv.goes) ∙ e in
        rw (drop-cons t i 0 hi, eq-eqb (mode_after q d (get_or t i 0)).state stuck s)

    module _ (hq : q < state_count) (n : r.state ≡ stuck → ⊥) where
      pub left-next : left t q d i ≡ letter (get_or t i 0) (role r) ∷ left t r.state r.depth (i + 1)
      unfolding marked role_of
      left-next = rw (drop-cons t i 0 hi, ← mv.goes, ne_eqb r.state stuck n, ← mv.mark, add-one i)

      pub role_is : number (role r) ≡ r.mark
      role_is = mark-number r.mark (subst (λ (x : ℕ). x < role_count) (sym mv.mark) (mark-below q d (get_or t i 0) hq hb))

      live : (mode_after q d (get_or t i 0)).state ≡ stuck → ⊥
      live x = n (ap (λ (p : Mode). p.state) mv.goes ∙ x)

      pub next-state : r.state < state_count
      next-state = subst (λ (p : Mode). p.state < state_count) (sym mv.goes) (step_range q (get_or t i 0) hq hb d live)

      -- within a definition or not, by the byte and its role
      pub next-inside : inside r.state ≡ choose (eqb r.mark (number second)) (choose (has 'S' (get_or t i 0)) true (choose (has 'F' (get_or t i 0)) false (inside q))) (inside q)
      next-inside =
          ap (λ (p : Mode). inside p.state) mv.goes
          ∙ inside-step q (get_or t i 0) hq hb d live
          ∙ ap (λ (m : ℕ). inside_next m (kind_of (get_or t i 0)) (inside q)) (sym mv.mark)
          ∙ by_letter (get_or t i 0) (inside q) r.mark hb

      pub still_inside : (r.mark ≡ number second → ⊥) → inside r.state ≡ inside q
      still_inside m = next-inside ∙ rw (ne_eqb r.mark (number second) m)

      pub next-stop : r.mark ≡ number stop → spot (i + 1) r.state ≡ behind (inside q) (i + 1)
      next-stop m = ap (λ (p : Mode). spot (i + 1) p.state) (mv.goes ∙ stop_step q (get_or t i 0) hq hb d live (sym mv.mark ∙ m))

-- a number that is passed over: its digits are no pieces of their own
pub led-step : {t : List ℕ} {s : Spot} {m : Begun} → Led t s m
    → Step t s (Number m.place (ltb m.place m.at) (capped (worth (digit_of m.byte) (left t m.to.state 0 m.to.at)))) m.to
led-step {t} {s} {m} l = record {
  is = l.is;
  small = cap_le (worth (digit_of m.byte) (left t m.to.state 0 m.to.at));
  ahead = l.ahead;
  fit = l.fit;
  crosses = l.same;
  stops = λ e. absurd (let z : ◌≡◌ {A = ℕ} 0 1 = cc in omega arith);
}
