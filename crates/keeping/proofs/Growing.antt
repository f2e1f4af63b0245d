-- How a body grows: by nothing, by a step, by moving together, and by one after another. What memory means and what it needs go along.
-- Assumes nothing.
use Rattle.std.specs.Prelude.{if◌then◌else◌}
use mathlib.Core.Path.{◌≡◌, refl, sym, ap, ◌∙◌, subst}
use mathlib.Core.Bool.{Bool, true, false}
use mathlib.Core.List.{List, [], ◌∷◌, ◌++◌, append_assoc, append-nil}
use Prim.Native.Nat.{ℕ, suc, ◌+◌, ◌≤◌, ◌<◌}
use native.Mathlib.Omega.{arith}
use lib.Dec.{eqb, ltb}
use lib.IntN.{ℤ, pos}
use lib.ListN.{length, get_or}
use Rattle.definition.specs.Words.{Placed}
use Rattle.definition.specs.Table.{Step, Table, enter}
use Rattle.definition.specs.Held.{words_of_body, words_in}
use Rattle.laws.proofs.Story.WordSums.{body_words-++}
use Rattle.library.specs.Memory.{words_at, body_at, steps_of, definition_at, symbol_at, start_at, length_at}
use Rattle.library.specs.Moving.{Compacted}
use Rattle.library.specs.Storing.{layer_now, is_layer, last_sets, Growing, Grows}
use Rattle.library.specs.Holds.{HoldsFrom, Holds}
use Rattle.library.proofs.Runs.{same_words}
use Rattle.library.proofs.Adding.{layer-added}
use Rattle.library.proofs.Counted.{step_count}
use Rattle.library.proofs.Together.{body_together, grows_together}
use Rattle.library.proofs.Holding.{holds-grown, holds_together}
use Rattle.keeping.specs.Growth.{with_body, Adds}

-- ---- the words after those used do not count

module _ {rows : List ℕ} {b : List ℤ} {live used i : ℕ} {layered : Bool} (g : Growing rows b live used i layered) (b' : List ℤ) (size : length b' ≡ length b)
    (below : (k : ℕ) → k < used → get_or b' k (pos 0) ≡ get_or b k (pos 0)) where
  words_kept : (k : ℕ) → k < live → words_at b' (start_at rows k) (length_at rows k) ≡ words_at b (start_at rows k) (length_at rows k)
  words_kept k l =
      same_words b b' (length_at rows k) (start_at rows k) (start_at rows k)
      (λ j q. let w = g.laid.within k l (omega arith) in below (start_at rows k + j) (omega arith))

  body_kept : (k : ℕ) → k < live → body_at rows b' k ≡ body_at rows b k
  body_kept k l = ap (steps_of (length_at rows k) []) (words_kept k l)

  growing-kept : Growing rows b' live used i layered
  growing-kept = record {
    stocked = record {
      few = g.stocked.few;
      within = λ k l. let w = g.stocked.within k l in omega (arith, size);
      sound = λ k l. let o = g.stocked.sound k l in record { steps = o.steps; proper = o.proper; words = words_kept k l ∙ o.words };
    };
    laid = g.laid;
    sorted = g.sorted;
    here = g.here;
    last = g.last;
    fits = omega (arith, g.fits, size);
    layer_last = ap last_sets (body_kept i g.here) ∙ g.layer_last;
  }

  holds_from : (t : Table) (j : ℕ) → j + length t ≤ live → HoldsFrom rows b j t → HoldsFrom rows b' j t
  unfolding HoldsFrom
  holds_from [] j l h = tt
  holds_from (d ∷ t) j l h =
      let e = body_kept j (omega arith) in (
        record { kept_lean = (λ x. record { symbol = symbol_at rows j; place = (definition_at rows b j).place; body = e x }) ∙ h.0.kept_lean; needs = h.0.needs },
        holds_from t (j + 1) (omega arith) h.1,
      )

  holds_kept : (t : Table) → Holds rows b live t → Holds rows b' live t
  holds_kept t h = record { many = h.many; each = holds_from t 0 (omega (arith, h.many)) h.each }

  pub adds_none : Adds rows b live i [] rows b' used layered
  unfolding layer_now words_of_body
  adds_none = record {
    symbol = refl;
    growing = growing-kept;
    layers = ap (layer_now []) (body_kept i g.here);
    needs = omega arith;
    holds = λ p done table h. rw append-nil (holds_kept (enter (with_body (symbol_at rows i) p done) table) h);
  }

-- ---- a step

pub adds_one : {rows : List ℕ} {b : List ℤ} {live i : ℕ} {s : Placed Step} {rows' : List ℕ} {b' : List ℤ} {used' : ℕ} → Grows rows b live i s rows' b' used'
    → Adds rows b live i (s ∷ []) rows' b' used' (is_layer s.what)
unfolding layer_now words_of_body
adds_one {rows} {b} {live} {i} {s} {rows'} {b'} {used'} g = record {
  symbol = g.symbol;
  growing = g.growing;
  layers = ap (layer_now []) g.body ∙ layer-added [] (body_at rows b i) s;
  needs = let e = step_count s in omega (arith, g.needs);
  holds = λ p done table h. holds-grown g (symbol_at rows i) p done refl table h;
}

-- ---- moving together

pub adds_together : {rows : List ℕ} {b : List ℤ} {live used i : ℕ} {layered : Bool} → Growing rows b live used i layered → {used' : ℕ} {rows' : List ℕ} {b' : List ℤ}
    → Compacted rows b live used' rows' b' → Adds rows b live i [] rows' b' used' layered
unfolding layer_now words_of_body
adds_together {rows} {i = i} g c = record {
  symbol = (c.same i g.here).symbol;
  growing = grows_together g c;
  layers = ap (layer_now []) (body_together c g.stocked i g.here);
  needs = omega (arith, (c.same i g.here).needed);
  holds = λ p done table h. rw append-nil (holds_together c h);
}

-- ---- one after another

layer-steps : (l : List ℕ) (ss rs : List (Placed Step)) → layer_now (layer_now l ss) rs ≡ layer_now l (ss ++ rs)
unfolding layer_now
layer-steps l [] rs = refl
layer-steps l (s ∷ ss) rs = layer-steps _ ss rs

pub adds_then : {rows : List ℕ} {b : List ℤ} {live i : ℕ} {ss rs : List (Placed Step)} {rows' rows'' : List ℕ} {b' b'' : List ℤ} {used' used'' : ℕ} {x y : Bool}
    → Adds rows b live i ss rows' b' used' x → Adds rows' b' live i rs rows'' b'' used'' y → Adds rows b live i (ss ++ rs) rows'' b'' used'' y
adds_then {rows} {b} {live} {i} {ss} {rs} {rows'} {rows''} {b'} {b''} f g = record {
  symbol = g.symbol ∙ f.symbol;
  growing = g.growing;
  layers = g.layers ∙ ap (λ (l : List ℕ). layer_now l rs) f.layers ∙ layer-steps (layer_now [] (body_at rows b i)) ss rs;
  needs = let e = body_words-++ ss rs in omega (arith, f.needs, g.needs);
  holds = λ p done table h.
      subst (λ (x : List (Placed Step)). Holds rows'' b'' live (enter (with_body (symbol_at rows i) p x) table)) (append_assoc done ss rs)
      (subst (λ (n : ℕ). Holds rows'' b'' live (enter (with_body n p ((done ++ ss) ++ rs)) table)) f.symbol
      (g.holds p (done ++ ss) table (subst (λ (n : ℕ). Holds rows' b' live (enter (with_body n p (done ++ ss)) table)) (sym f.symbol) (f.holds p done table h))));
}

-- ---- the table in which a definition has more steps

pub enter-more : (n p : ℕ) (ss rs : List (Placed Step)) (t : Table) → words_in (enter (with_body n p (ss ++ rs)) t) ≡ words_in (enter (with_body n p ss) t) + words_of_body rs
unfolding enter words_in
enter-more n p ss rs [] = omega (arith, body_words-++ ss rs)
enter-more n p ss rs (e ∷ t) = go (ltb n e.symbol) (eqb n e.symbol) (enter-more n p ss rs t)
  where
    go : (x y : Bool) → words_in (enter (with_body n p (ss ++ rs)) t) ≡ words_in (enter (with_body n p ss) t) + words_of_body rs
        → words_in (if x then with_body n p (ss ++ rs) ∷ e ∷ t else if y then with_body n p (ss ++ rs) ∷ t else e ∷ enter (with_body n p (ss ++ rs)) t)
        ≡ words_in (if x then with_body n p ss ∷ e ∷ t else if y then with_body n p ss ∷ t else e ∷ enter (with_body n p ss) t) + words_of_body rs
    go true y h = omega (arith, body_words-++ ss rs)
    go false true h = omega (arith, body_words-++ ss rs)
    go false false h = omega arith

pub enter_long : (n p : ℕ) (ss rs : List (Placed Step)) (t : Table) → length (enter (with_body n p ss) t) ≡ length (enter (with_body n p rs) t)
unfolding enter
enter_long n p ss rs [] = refl
enter_long n p ss rs (e ∷ t) = go (ltb n e.symbol) (eqb n e.symbol) (enter_long n p ss rs t)
  where
    go : (x y : Bool) → length (enter (with_body n p ss) t) ≡ length (enter (with_body n p rs) t)
        → length (if x then with_body n p ss ∷ e ∷ t else if y then with_body n p ss ∷ t else e ∷ enter (with_body n p ss) t)
        ≡ length (if x then with_body n p rs ∷ e ∷ t else if y then with_body n p rs ∷ t else e ∷ enter (with_body n p rs) t)
    go true y h = refl
    go false true h = refl
    go false false h = ap suc h
