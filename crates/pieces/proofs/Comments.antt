-- Comments, passed over: within one the state stays, every letter is skipped, and no piece begins.
-- Assumes nothing.
use mathlib.Core.Path.{◌≡◌, refl, sym, ap, ◌∙◌, subst}
use mathlib.Core.List.{List, [], ◌∷◌}
use Prim.Native.Nat.{ℕ, ◌+◌, ◌≤◌, ◌<◌}
use native.Mathlib.Omega.{arith}
use native.Mathlib.Numerals.{add-one}
use borrow.Author.Tests.{eq-eqb, ne_eqb}
use lib.Dec.{eqb}
use lib.ListN.{length, get_or, drop, length-drop, drop_of_length-le}
use lib.Seq.{drop-cons}
use Rattle.grammar.specs.Notation.{Role, Letter, skip}
use Rattle.grammar.specs.Tables.{state_count, stuck, roles, letter, lpar_kind, rpar_kind, foreign_kind}
use Rattle.grammar.specs.Steps.{mode, kind_of, mode_after, within, Moved}
use Rattle.grammar.specs.declared.Mode.{Mode}
use Rattle.grammar.specs.declared.Move.{Move}
use Rattle.grammar.proofs.Steps.{step_depth, within_is, mark_in}
use Rattle.grammar.proofs.Boundaries.{within_at}
use Rattle.pieces.specs.Pieces.{pieces, left, closed_at, Closes}
use Rattle.pieces.proofs.Lexing.{role, pieces_none, left_ended, left-stuck, left-next}

-- within a comment that began before place i₀: d are open at place i
pub record Commented (t : List ℕ) (q i₀ d i : ℕ) : Type 0 where
  pub state : q < state_count
  pub within_text : i ≤ length t
  pub from : i₀ ≤ i
  pub busy : 1 ≤ d
  pub shallow : d ≤ i
  pub on : pieces i₀ i₀ (left t q 1 i₀) ≡ pieces i i (left t q d i)
  pub exact : closed_at q 1 i₀ (drop i₀ t) ≡ closed_at q d i (drop i t)

pub comment_start : (t : List ℕ) (q i : ℕ) → q < state_count → 1 ≤ i → i ≤ length t → Commented t q i 1 i
comment_start t q i hq h k = record { state = hq; within_text = k; from = omega arith; busy = omega arith; shallow = h; on = refl; exact = refl }

-- one byte of the account by bytes
module _ (q d i b : ℕ) (l : List ℕ) (r : Move) (goes : mode r.state r.depth ≡ mode_after q d b) where
  by_stuck : r.state ≡ stuck → closed_at q d i (b ∷ l) ≡ i + (1 + length l)
  unfolding closed_at
  by_stuck e = rw (← goes, eq-eqb r.state stuck e) (omega arith)

  by_next : (r.state ≡ stuck → ⊥) → (r.depth ≡ 0 → ⊥) → closed_at q d i (b ∷ l) ≡ closed_at q r.depth (i + 1) l
  unfolding closed_at
  by_next n m = rw (← goes, ne_eqb r.state stuck n, ne_eqb r.depth 0 m)

  by_end : (r.state ≡ stuck → ⊥) → r.depth ≡ 0 → closed_at q d i (b ∷ l) ≡ i + 1
  unfolding closed_at
  by_end n e = rw (← goes, ne_eqb r.state stuck n, eq-eqb r.depth 0 e)

none_left : (t : List ℕ) (q i j : ℕ) → length t ≤ j → [] ≡ pieces j j (left t q 0 j)
none_left t q i j h = sym (ap (λ (l : List Letter). pieces j j l) (left_ended t q 0 j h) ∙ pieces_none j j)

module _ (t : List ℕ) (q i₀ d i : ℕ) (g : Commented t q i₀ d i) where
  pub comment_ended : length t ≤ i → Closes t q i₀ (length t)
  unfolding closed_at
  comment_ended h =
      let w = g.within_text in
      let e : i ≡ length t = omega arith in
      subst (λ (r : ℕ). Closes t q i₀ r) e
      (record {
        exact = sym (g.exact ∙ ap (λ (l : List ℕ). closed_at q d i l) (drop_of_length-le t h));
        ahead = g.from;
        within = w;
        on = g.on ∙ ap (λ (l : List Letter). pieces i i l) (left_ended t q d i h) ∙ pieces_none i i ∙ none_left t q i i h;
      })

  module _ (hi : i < length t) (hb : get_or t i 0 < 256) (r : Move) (mv : Moved q d (get_or t i 0) r) where
    open_still : d ≡ 0 → ⊥
    open_still e = let h = g.busy in omega arith

    here : closed_at q 1 i₀ (drop i₀ t) ≡ closed_at q d i (get_or t i 0 ∷ drop (i + 1) t)
    here = g.exact ∙ ap (λ (l : List ℕ). closed_at q d i l) (drop-cons t i 0 hi ∙ ap (λ (k : ℕ). get_or t i 0 ∷ drop k t) (sym (add-one i)))

    pub comment_stuck : r.state ≡ stuck → Closes t q i₀ (length t)
    comment_stuck e = record {
      exact = sym (here ∙ by_stuck q d i (get_or t i 0) (drop (i + 1) t) r mv.goes e ∙ (let k = length-drop (i + 1) t in omega arith));
      ahead = let h = g.from in omega arith;
      within = omega arith;
      on = g.on ∙ ap (λ (l : List Letter). pieces i i l) (left-stuck t q d i hi hb r mv e) ∙ pieces_none i i ∙ none_left t q i (length t) (omega arith);
    }

    module _ (n : r.state ≡ stuck → ⊥) where
      same-state : r.state ≡ q
      same-state =
          let k = kind_of (get_or t i 0) in
          let w : within q d k ≡ mode_after q d (get_or t i 0) = within_is q d (get_or t i 0) k refl open_still in
          let e : (within q d k).state ≡ r.state = ap (λ (p : Mode). p.state) (w ∙ sym mv.goes) in
          sym e ∙ within_at (λ (x : ℕ). x ≡ q) q d (eqb k lpar_kind) (eqb k rpar_kind) (eqb k foreign_kind) (λ s. n (sym e ∙ s)) refl

      comment_on : pieces i₀ i₀ (left t q 1 i₀) ≡ pieces (i + 1) (i + 1) (left t q r.depth (i + 1))
      unfolding pieces
      comment_on =
          let ρ : role r ≡ skip = ap (λ (m : ℕ). get_or roles m skip) (mv.mark ∙ sym (mark_in q d (get_or t i 0) open_still)) in
          g.on
          ∙ ap (λ (l : List Letter). pieces i i l) (left-next t q d i hi hb r mv g.state n)
          ∙ ap (λ (x : Role). pieces i i (letter (get_or t i 0) x ∷ left t r.state r.depth (i + 1))) ρ
          ∙ ap (λ (x : ℕ). pieces (i + 1) (i + 1) (left t x r.depth (i + 1))) same-state

      pub comment_next : (r.depth ≡ 0 → ⊥) → Commented t q i₀ r.depth (i + 1)
      comment_next m =
          let k : (mode_after q d (get_or t i 0)).depth ≤ d + 1 = step_depth q d (get_or t i 0) in
          let e : r.depth ≡ (mode_after q d (get_or t i 0)).depth = ap (λ (p : Mode). p.depth) mv.goes in
          let h = g.shallow in
          let f = g.from in
          record { state = g.state; within_text = omega arith; from = omega arith; busy = omega arith; shallow = omega arith; on = comment_on; exact = here ∙ by_next q d i (get_or t i 0) (drop (i + 1) t) r mv.goes n m }

      pub comment_closed : r.depth ≡ 0 → Closes t q i₀ (i + 1)
      comment_closed e =
          let f = g.from in
          record {
            exact = sym (here ∙ by_end q d i (get_or t i 0) (drop (i + 1) t) r mv.goes n e);
            ahead = omega arith;
            within = omega arith;
            on = comment_on ∙ ap (λ (x : ℕ). pieces (i + 1) (i + 1) (left t q x (i + 1))) e;
          }
