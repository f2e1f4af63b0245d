-- What moving together keeps beside the table: sound bodies, the words needed, and the row that grows.
-- Assumes nothing.
use mathlib.Core.Path.{◌≡◌, sym, ap, ◌∙◌}
use mathlib.Core.Bool.{Bool}
use mathlib.Core.List.{List}
use Prim.Native.Nat.{ℕ, ◌≤◌, ◌<◌}
use native.Mathlib.Omega.{arith}
use lib.IntN.{ℤ}
use Rattle.definition.specs.Table.{Definition}
use Rattle.library.specs.Memory.{words_at, body_at, start_at, length_at, needed_at, needed_in}
use Rattle.library.specs.Sound.{Stocked}
use Rattle.library.specs.Moving.{Compacted}
use Rattle.library.specs.Rows.{Sorted}
use Rattle.library.specs.Storing.{last_sets, Growing}
use Rattle.library.proofs.Sums.{sum_same}
use Rattle.library.proofs.Packing.{row_same}
use Rattle.library.proofs.Cases.{equal_or, by_place, none_or_some}

-- moved together, the bodies are sound
module _ {rows : List ℕ} {b : List ℤ} {live used : ℕ} {rows' : List ℕ} {b' : List ℤ} (c : Compacted rows b live used rows' b') (s : Stocked rows b live) where
  pub stocked_together : Stocked rows' b' live
  stocked_together = record {
    few = s.few;
    within = λ i l.
        let q = (c.same i l).words in
        none_or_some _ (length_at rows i) (λ z. let e = c.empties i l z in let w = s.within i l in omega (arith, c.size))
        (λ y. let w = c.laid.within i l (omega arith) in omega (arith, c.within, c.size));
    sound = λ i l.
        let r = c.same i l in
        let o = s.sound i l in
        record { steps = o.steps; proper = o.proper; words = ap (words_at b' (start_at rows' i)) r.words ∙ (r.body ∙ o.words) };
  }

  -- the definitions need the words that they needed
  pub needed_together : needed_in rows' live ≡ needed_in rows live
  needed_together = sum_same (needed_at rows) (needed_at rows') live (λ k l. (c.same k l).needed)

  pub body_together : (i : ℕ) → i < live → body_at rows' b' i ≡ body_at rows b i
  body_together i l = ap (λ (d : Definition). d.body) (row_same rows b rows' b' i (c.same i l))

  pub sorted_together : Sorted rows live → Sorted rows' live
  sorted_together o = record {
    few = o.few;
    rising = λ i j h l. let r = o.rising i j h l in omega (arith, (c.same i (omega arith)).symbol, (c.same j l).symbol);
  }

-- ---- the row that grows may grow on, after all the others

module _ {rows : List ℕ} {b : List ℤ} {live used i : ℕ} {layered : Bool} (g : Growing rows b live used i layered) {used' : ℕ} {rows' : List ℕ} {b' : List ℤ} (c : Compacted rows b live used' rows' b') where
  -- it stands highest
  high : 0 < length_at rows i → (j : ℕ) → j < live → 0 < length_at rows j → start_at rows j ≤ start_at rows i
  high z j l y =
      let w = g.laid.within j l y in
      equal_or _ j i (λ e. let q : start_at rows j ≡ start_at rows i = ap (start_at rows) e in omega (arith, q))
      (λ e. by_place _ (start_at rows i) (start_at rows j)
      (λ v. let a = g.laid.apart i j g.here l (λ r. e (sym r)) z y (omega arith) in absurd (omega (arith, a, g.last z, y, w))) (λ v. v))

  pub grows_together : Growing rows' b' live used' i layered
  grows_together = record {
    stocked = stocked_together c g.stocked;
    laid = c.laid;
    sorted = sorted_together c g.stocked g.sorted;
    here = g.here;
    last = λ z. let y : 0 < length_at rows i = omega (arith, (c.same i g.here).words) in c.highest i g.here y (high y);
    fits = omega (arith, c.within, c.size);
    layer_last = ap last_sets (body_together c g.stocked i g.here) ∙ g.layer_last;
  }
