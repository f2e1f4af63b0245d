-- A command decoded straight into the run after the words used: `read_command` on the part from there on leaves this.
-- Assumes nothing.
use mathlib.Core.Path.{◌≡◌, refl, sym, ap, ◌∙◌, subst}
use mathlib.Core.List.{List, ◌++◌}
use Prim.Native.Nat.{ℕ, ◌+◌, ◌≤◌, ◌<◌}
use native.Mathlib.Omega.{arith}
use lib.IntN.{ℤ, pos}
use lib.ListN.{length, take, drop, get_or, length-append, length-drop, get_or-append}
use lib.Seq.{sets, sets-eq, length-sets, length-take-le, take_at, drop_at, get_or-take}
use Rattle.definition.specs.Words.{Placed}
use Rattle.definition.specs.Table.{Step}
use Rattle.library.specs.Memory.{words_at}
use Rattle.library.specs.Sound.{step_words}
use Rattle.library.specs.Storing.{Put}
use Rattle.library.proofs.Runs.{part_words}

module _ (b : List ℤ) (used : ℕ) (vs : List ℤ) (room : used + length vs ≤ length b) where
  abbrev pub laid : List ℤ
  laid = take used b ++ sets (drop used b) 0 vs

  front : length (take used b) ≡ used
  front = length-take-le used b (omega arith)

  laid-size : length laid ≡ length b
  laid-size = length-append (take used b) (sets (drop used b) 0 vs) ∙ (let p = length-sets (drop used b) 0 vs in let q = length-drop used b in let r = front in omega (arith, p, q, r))

  parts : sets (drop used b) 0 vs ≡ vs ++ drop (length vs) (drop used b)
  parts =
      let e : 0 + length vs ≡ length vs = omega arith in
      sets-eq vs (drop used b) 0 (omega (arith, length-drop used b)) ∙ ap (λ (x : ℕ). vs ++ drop x (drop used b)) e

  laid_words : words_at laid used (length vs) ≡ vs
  laid_words =
      sym (part_words laid (length vs) used (omega (arith, laid-size)))
      ∙ (ap (take (length vs)) (drop_at (take used b) (sets (drop used b) 0 vs) used front) ∙ (ap (take (length vs)) parts ∙ take_at vs (drop (length vs) (drop used b)) (length vs) refl))

  laid-below : (k : ℕ) → k < used → get_or laid k (pos 0) ≡ get_or b k (pos 0)
  laid-below k h = get_or-append (take used b) (sets (drop used b) 0 vs) (pos 0) k (omega (arith, front)) ∙ get_or-take used b k (pos 0) h

pub put_by : (b : List ℤ) (used : ℕ) (s : Placed Step) (b' : List ℤ) → used + length (step_words s) ≤ length b → b' ≡ take used b ++ sets (drop used b) 0 (step_words s) → Put b used s b'
put_by b used s b' room e =
    subst (Put b used s) (sym e)
    (record { size = laid-size b used (step_words s) room; below = laid-below b used (step_words s) room; words = laid_words b used (step_words s) room; room = room })
