-- A call's list read from its words, one transformation after another: what stands at a place, and what is done and left of the list there.
-- Assumes nothing.
use Rattle.std.specs.Prelude.{if◌then◌else◌}
use mathlib.Core.Path.{◌≡◌, refl, sym, ap, subst, ◌∙◌}
use mathlib.Core.Bool.{Bool, true, false, ◌||◌}
use mathlib.Core.List.{List, [], ◌∷◌, ◌++◌, append_assoc, append-nil}
use Prim.Native.Nat.{ℕ, ◌+◌, ◌-◌, ◌*◌, ◌^◌, ◌≤◌, ◌<◌}
use native.Mathlib.Omega.{arith}
use lib.Dec.{eqb}
use lib.IntN.{ℤ, pos}
use lib.ListN.{length, drop, get_or, length-append, length-drop}
use lib.Seq.{get_or-drop, drop-drop, drop-append_seam}
use borrow.Author.Tests.{ne_eqb}
use mir.Syntax.{w32}
use mir.Val.{of_z}
use Rattle.definition.specs.Words.{point, any}
use Rattle.definition.specs.Commands.{Turn, translate, mirror_x, mirror_y, rotate}
use Rattle.definition.specs.Turns.{off_axes}
use Rattle.turns.specs.declared.Net.{Net}
use Rattle.turns.specs.declared.Single.{Single}
use Rattle.turns.specs.Nets.{net, Carries, Near, Composed, IsSingle, IsListed, Begins, Written}
use Rattle.turns.specs.Words.{turn_words, turns_words}
use Rattle.turns.proofs.Nets.{near-more, carries-both, askew-both}

-- the transformation whose letter has these bits
unfoldable pub decode : ℕ → ℤ → ℤ → Turn ℤ
decode n x y =
    if eqb n 88 then mirror_x else if eqb n 89 then mirror_y else if eqb n 84 then translate (point x y) else rotate (point x y)

with_numbers : (n : ℕ) (x y : ℤ) → (n ≡ 88 → ⊥) → (n ≡ 89 → ⊥) → length (turn_words (decode n x y)) ≡ 3
unfolding decode turn_words
with_numbers n x y a b = rw (ne_eqb n 88 a, ne_eqb n 89 b) (go (eqb n 84))
  where
    go : (t : Bool) → length (turn_words (if t then translate (point x y) else rotate (point x y))) ≡ 3
    go true = refl
    go false = refl

pub is_rotation : (n : ℕ) (x y : ℤ) → (n ≡ 88 → ⊥) → (n ≡ 89 → ⊥) → (n ≡ 84 → ⊥) → decode n x y ≡ rotate (point x y)
unfolding decode
is_rotation n x y a b d = rw (ne_eqb n 88 a, ne_eqb n 89 b, ne_eqb n 84 d)

pub with_words : (t : Turn ℤ) → 1 ≤ length (turn_words t)
unfolding turn_words
with_words (translate d) = omega arith
with_words mirror_x = omega arith
with_words mirror_y = omega arith
with_words (rotate d) = omega arith

module _ (words : List ℤ) (at : ℕ) (h : Begins words at) where
  -- the word that stands i words on
  on : (i : ℕ) → get_or words (at + i) (pos 0) ≡ get_or (turn_words h.turn ++ h.rest) i (pos 0)
  on i = sym (get_or-drop at words i (pos 0)) ∙ ap (λ (l : List ℤ). get_or l i (pos 0)) h.are

  pub decoded : h.turn ≡ decode (of_z w32 (get_or words at (pos 0))) (get_or words (at + 1) (pos 0)) (get_or words (at + 2) (pos 0))
  unfolding turn_words decode
  decoded = go h.turn (ap (λ (k : ℕ). get_or words k (pos 0)) (omega arith) ∙ on 0) (on 1) (on 2)
    where
      go : (t : Turn ℤ) → get_or words at (pos 0) ≡ get_or (turn_words t ++ h.rest) 0 (pos 0) → get_or words (at + 1) (pos 0) ≡ get_or (turn_words t ++ h.rest) 1 (pos 0)
          → get_or words (at + 2) (pos 0) ≡ get_or (turn_words t ++ h.rest) 2 (pos 0)
          → t ≡ decode (of_z w32 (get_or words at (pos 0))) (get_or words (at + 1) (pos 0)) (get_or words (at + 2) (pos 0))
      go (translate d) a b e = rw (a, b, e)
      go mirror_x a b e = rw a
      go mirror_y a b e = rw a
      go (rotate d) a b e = rw (a, b, e)

  pub room : at + length (turn_words h.turn) ≤ length words
  room = omega (arith, with_words h.turn, length-drop at words, length-append (turn_words h.turn) h.rest, ap (λ (l : List ℤ). length l) h.are)

  -- what is read, from the transformation that its letter and numbers tell
  pub single_read : (t : Turn ℤ) (k : ℕ) (r : Single) → decode (of_z w32 (get_or words at (pos 0))) (get_or words (at + 1) (pos 0)) (get_or words (at + 2) (pos 0)) ≡ t
      → Carries (t ∷ []) r.net → Near (2 ^ 31) r.net → r.askew ≡ off_axes (t ∷ []) → length (turn_words t) ≡ k → r.next ≡ at + k
      → IsSingle h.turn (at + length (turn_words h.turn)) r
  single_read t k r e carried near off long next =
      subst (λ (u : Turn ℤ). IsSingle u (at + length (turn_words u)) r) (sym (decoded ∙ e))
      (record { carries = carried; near = near; askew = off; next = omega arith })

  pub long : (of_z w32 (get_or words at (pos 0)) ≡ 88 → ⊥) → (of_z w32 (get_or words at (pos 0)) ≡ 89 → ⊥) → at + 3 ≤ length words
  long a b = omega (arith, room, ap (λ (t : Turn ℤ). length (turn_words t)) decoded, with_numbers (of_z w32 (get_or words at (pos 0))) (get_or words (at + 1) (pos 0)) (get_or words (at + 2) (pos 0)) a b)

-- what is done and what is left of the list at this place, with the net transformation of what is done
pub record ComposedSoFar (words : List ℤ) (from end : ℕ) (h : Written words from end) (at : ℕ) (n : Net) (off : Bool) : Type 0 where
  pub done : List (Turn ℤ)
  pub left : List (Turn ℤ)
  pub all : done ++ left ≡ h.turns
  pub are : drop at words ≡ turns_words left ++ h.rest
  pub ends : at + length (turns_words left) ≡ end
  pub carries : Carries done n
  pub near : Near (length done * 2 ^ 31) n
  pub askew : off ≡ off_axes done

pub start : {words : List ℤ} {from end : ℕ} (h : Written words from end) (n : Net) → Carries [] n → Near 0 n → ComposedSoFar words from end h from n false
unfolding off_axes any
start h n carried near = record { done = []; left = h.turns; all = refl; are = h.are; ends = h.ends; carries = carried; near = near; askew = refl }

record Ahead (left : List (Turn ℤ)) : Type 0 where
  turn : Turn ℤ
  later : List (Turn ℤ)
  is : left ≡ turn ∷ later

module _ {words : List ℤ} {from end : ℕ} {h : Written words from end} {at : ℕ} {n : Net} {off : Bool} (g : ComposedSoFar words from end h at n off) where
  pub few-done : length g.done ≤ 32
  few-done = omega (arith, h.few, ap (λ (l : List (Turn ℤ)). length l) g.all, length-append g.done g.left)

  pub near-enough : Near (2 ^ 36) n
  near-enough = near-more (omega (arith, few-done)) g.near

  module _ (lt : at < end) where
    ahead : Ahead g.left
    unfolding turns_words
    ahead = go g.left g.ends
      where
        go : (l : List (Turn ℤ)) → at + length (turns_words l) ≡ end → Ahead l
        go [] e = absurd (omega arith)
        go (t ∷ ts) e = record { turn = t; later = ts; is = refl }

    parts : turns_words g.left ≡ turn_words ahead.turn ++ turns_words ahead.later
    unfolding turns_words
    parts = ap turns_words ahead.is

    pub begins : Begins words at
    begins = record {
      turn = ahead.turn;
      rest = turns_words ahead.later ++ h.rest;
      are = g.are ∙ ap (λ (l : List ℤ). l ++ h.rest) parts ∙ append_assoc (turn_words ahead.turn) (turns_words ahead.later) h.rest;
    }

    module _ (r : Single) (s : IsSingle begins.turn (at + length (turn_words begins.turn)) r) where
      pub nearer : end - r.next < end - at
      nearer = omega (arith, s.next, with_words begins.turn)

      pub further : (m : Net) (also : Bool) → Composed n r.net m → also ≡ (off || r.askew) → ComposedSoFar words from end h r.next m also
      unfolding begins
      further m also both e = record {
        done = g.done ++ (ahead.turn ∷ []);
        left = ahead.later;
        all = append_assoc g.done (ahead.turn ∷ []) ahead.later ∙ ap (λ (l : List (Turn ℤ)). g.done ++ l) (sym ahead.is) ∙ g.all;
        are =
            ap (λ (k : ℕ). drop k words) s.next ∙ sym (drop-drop (length (turn_words ahead.turn)) at words)
            ∙ ap (drop (length (turn_words ahead.turn))) begins.are ∙ drop-append_seam (turn_words ahead.turn) begins.rest;
        ends = omega (arith, g.ends, s.next, ap (λ (l : List ℤ). length l) parts, length-append (turn_words ahead.turn) (turns_words ahead.later));
        carries = carries-both g.done (ahead.turn ∷ []) n r.net m g.carries s.carries both;
        near = near-more (omega (arith, length-append g.done (ahead.turn ∷ []))) (both.near (length g.done * 2 ^ 31) (2 ^ 31) g.near s.near);
        askew = e ∙ cc (g.askew, s.askew, askew-both g.done (ahead.turn ∷ []));
      }

  pub finished : end ≤ at → IsListed h.turns (record { net = n; askew = off })
  unfolding turns_words
  finished le = subst (λ (l : List (Turn ℤ)). IsListed l (record { net = n; askew = off })) (none_left g.left g.ends g.all) (record { carries = g.carries; near = near-enough; askew = g.askew })
    where
      none_left : (l : List (Turn ℤ)) → at + length (turns_words l) ≡ end → g.done ++ l ≡ h.turns → g.done ≡ h.turns
      none_left [] e a = sym (append-nil g.done) ∙ a
      none_left (t ∷ ts) e a = absurd (omega (arith, with_words t, length-append (turn_words t) (turns_words ts), e))
