-- A body decoded command by command: `keep_body` keeps `KeptSoFar`. Where a command does not fit though the live bodies stand together, the live definitions
-- need more words than are lent.
-- Assumes nothing.
use Rattle.std.specs.Prelude.{Some, None}
use mathlib.Core.Path.{◌≡◌, refl, sym, ap, ◌∙◌, subst}
use mathlib.Core.Bool.{Bool, true, false}
use mathlib.Core.List.{List, [], ◌∷◌, ◌++◌, append_assoc, append-nil}
use Prim.Native.Nat.{ℕ, ◌+◌, ◌≤◌, ◌<◌}
use native.Mathlib.Omega.{arith}
use lib.IntN.{ℤ}
use lib.ListN.{length}
use Rattle.definition.specs.Words.{Placed}
use Rattle.definition.specs.Commands.{Command}
use Rattle.definition.specs.Standing.{Standing, outside}
use Rattle.definition.specs.Table.{Step, Table, enter}
use Rattle.definition.specs.Held.{words_of_step, words_of_body, words_in}
use Rattle.definition.specs.Drawing.{retained, deeds}
use Rattle.pieces.specs.Pieces.{stream, Fit}
use Rattle.pieces.specs.declared.Spot.{Spot}
use Rattle.rules.specs.Written.{written}
use Rattle.library.specs.Memory.{symbol_at, length_at, needed_at, words_held}
use Rattle.library.specs.Moving.{Laid, Compacted}
use Rattle.library.specs.Rows.{bare}
use Rattle.library.specs.Holds.{Holds}
use Rattle.library.proofs.Sums.{sum_same}
use Rattle.library.proofs.Counted.{step_count}
use Rattle.library.proofs.Holding.{stored-within}
use Rattle.keeping.specs.declared.Stored.{Stored}
use Rattle.keeping.specs.declared.Stored.TheVariants.{More, Last, Tight}
use Rattle.keeping.specs.Voices.{Told}
use Rattle.keeping.specs.Growth.{with_body, Adds, Within, Ready, Keeps, KeepsMore, KeepsLast, KeepsTight, KeepsBy, KeepsCommand, KeepsBodyBy, KeepsBody}
use Rattle.keeping.proofs.Growing.{adds_none, adds_together, adds_then, enter-more}
use Rattle.keeping.proofs.Onward.{within_same}

-- one more where the bodies have not been moved for this command
unfoldable pub unmoved : Bool → ℕ
unmoved true = 0
unmoved false = 1

pub once : (moved : Bool) → moved ≡ false → unmoved moved ≡ 1
unfolding unmoved
once moved e = ap unmoved e

pub never_again : unmoved true ≡ 0
unfolding unmoved
never_again = refl

pub record KeptSoFar (t : List ℕ) (from : Spot) (a b : ℕ) (rows₀ : List ℕ) (words₀ : List ℤ) (live row : ℕ) (rows : List ℕ) (words : List ℤ) (spot : Spot) (used : ℕ) (layered moved : Bool) : Type 0 where
  pub fit : Fit t spot
  pub ahead : from.at ≤ spot.at
  pub size : length words ≡ length words₀
  pub ready : Ready t spot a b rows words live row used layered
  pub together : moved ≡ true → used ≡ words_held rows live
  keeps : (σ : Standing) (cs : List (Placed Command)) → Within t from a b rows₀ words₀ row σ cs → Keeps t spot a b rows₀ words₀ live row σ cs rows words used layered

pub going_start : {t : List ℕ} {from : Spot} {a b : ℕ} {rows : List ℕ} {words : List ℤ} {live row used : ℕ} → Ready t from a b rows words live row used false → Fit t from
    → KeptSoFar t from a b rows words live row rows words from used false false
going_start {words = words} g f = record {
  fit = f;
  ahead = omega arith;
  size = refl;
  ready = g;
  together = λ e. absurd (let z : ◌≡◌ {A = ℕ} 0 1 = cc in omega arith);
  keeps = λ σ cs w. record {
    kept = [];
    adds = adds_none g.growing words refl (λ k h. refl);
    standing = σ;
    commands = cs;
    within = w;
    retains = refl;
    left = refl;
    same_outside = refl;
  };
}

-- what `keep_command` answered
module _ {t : List ℕ} {spot : Spot} {a b : ℕ} {rows : List ℕ} {words : List ℤ} {live row used : ℕ} {layered : Bool} {r : Stored} {rows' : List ℕ} {words' : List ℤ}
    (k : KeepsCommand t spot a b rows words live row used layered r rows' words') where
  pub as_more : {used' : ℕ} {layered' : Bool} {to : Spot} → r ≡ More used' layered' to → KeepsMore t spot a b rows words live row used' layered' to rows' words'
  unfolding KeepsBy
  as_more e = subst (λ (x : Stored). KeepsBy t spot a b rows words live row used layered x rows' words') e k.by

  pub as_last : {to : Spot} → r ≡ Last to → KeepsLast t spot a b rows words live row used layered to rows' words'
  unfolding KeepsBy
  as_last e = subst (λ (x : Stored). KeepsBy t spot a b rows words live row used layered x rows' words') e k.by

  pub as_tight : r ≡ Tight → KeepsTight t spot a b rows words live row used layered rows' words'
  unfolding KeepsBy
  as_tight e = subst (λ (x : Stored). KeepsBy t spot a b rows words live row used layered x rows' words') e k.by

-- the same steps, where nothing more was added
adds_still : {rows : List ℕ} {b : List ℤ} {live i : ℕ} {ss : List (Placed Step)} {rows' rows'' : List ℕ} {b' b'' : List ℤ} {used' used'' : ℕ} {x y : Bool}
    → Adds rows b live i ss rows' b' used' x → Adds rows' b' live i [] rows'' b'' used'' y → Adds rows b live i ss rows'' b'' used'' y
adds_still {rows} {b} {live} {i} {ss} {rows'' = rows''} {b'' = b''} {used'' = used''} {y = y} f g =
    subst (λ (l : List (Placed Step)). Adds rows b live i l rows'' b'' used'' y) (append-nil ss) (adds_then f g)

module _ {t : List ℕ} {from : Spot} {a b : ℕ} {rows₀ : List ℕ} {words₀ : List ℤ} {live row : ℕ} {rows : List ℕ} {words : List ℤ} {spot : Spot} {used : ℕ} {layered moved : Bool}
    (g : KeptSoFar t from a b rows₀ words₀ live row rows words spot used layered moved) where
  -- one command further
  pub going_on : {r : Stored} {rows' : List ℕ} {words' : List ℤ} → KeepsCommand t spot a b rows words live row used layered r rows' words' → {used' : ℕ} {layered' : Bool} {to : Spot}
      → r ≡ More used' layered' to → KeptSoFar t from a b rows₀ words₀ live row rows' words' to used' layered' false
  going_on k e =
      let m = as_more k e in
      record {
        fit = m.fit;
        ahead = omega (arith, g.ahead, m.ahead);
        size = k.size ∙ g.size;
        ready = m.ready;
        together = λ z. absurd (let y : ◌≡◌ {A = ℕ} 0 1 = cc in omega arith);
        keeps = λ σ cs w.
            let x = g.keeps σ cs w in
            let y = m.keeps x.standing x.commands x.within in
            record {
              kept = x.kept ++ y.kept;
              adds = adds_then x.adds y.adds;
              standing = y.standing;
              commands = y.commands;
              within = y.within;
              retains = x.retains ∙ (ap (λ (l : List (Placed Step)). x.kept ++ l) y.retains ∙ sym (append_assoc x.kept y.kept (retained y.standing y.commands)));
              left = x.left ∙ y.left;
              same_outside = y.same_outside ∙ x.same_outside;
            };
      }

  -- it does not fit
  module _ {r : Stored} {rows' : List ℕ} {words' : List ℤ} (k : KeepsCommand t spot a b rows words live row used layered r rows' words') (q : r ≡ Tight) where
    tight : KeepsTight t spot a b rows words live row used layered rows' words'
    tight = as_tight k q

    pub laid_anywhere : Laid rows' live (length words')
    laid_anywhere =
        let l = tight.ready.growing.laid in
        let f = tight.ready.growing.fits in
        record { few = l.few; sized = l.sized; within = λ i h z. let w = l.within i h z in omega (arith, f); apart = l.apart }

    -- the bodies are moved together, and it is tried again
    pub going-moved : {used'' : ℕ} {rows'' : List ℕ} {words'' : List ℤ} → Compacted rows' words' live used'' rows'' words'' → KeptSoFar t from a b rows₀ words₀ live row rows'' words'' spot used'' layered true
    going-moved {used''} {rows''} {words''} c = record {
      fit = g.fit;
      ahead = g.ahead;
      size = c.size ∙ (k.size ∙ g.size);
      ready = record {
        growing = moved_on.growing;
        standing = tight.ready.standing;
        commands = tight.ready.commands;
        within = within_same moved_on tight.ready.within;
        few_needed =
            let s = c.same row tight.ready.growing.here in
            omega (arith, s.words, s.needed, tight.ready.few_needed);
        text_short = tight.ready.text_short;
        run_short = omega (arith, c.size, tight.ready.run_short);
      };
      together = λ e. c.tight ∙ sym (sum_same (length_at rows') (length_at rows'') live (λ i h. (c.same i h).words));
      keeps = λ σ cs w.
          let x = g.keeps σ cs w in
          record {
            kept = x.kept;
            adds = adds_still (adds_still x.adds tight.adds) moved_on;
            standing = x.standing;
            commands = x.commands;
            within = within_same moved_on (within_same tight.adds x.within);
            retains = x.retains;
            left = x.left;
            same_outside = x.same_outside;
          };
    }
      where
        moved_on : Adds rows' words' live row [] rows'' words'' used'' layered
        moved_on = adds_together tight.ready.growing c

    pub body_lacking : moved ≡ true → KeepsBody t from a b rows₀ words₀ live row None rows' words'
    unfolding KeepsBodyBy
    body_lacking e = record {
      size = k.size ∙ g.size;
      by = record { needs_more = λ σ cs w place table h. over σ cs w place table h };
    }
      where
        over : (σ : Standing) (cs : List (Placed Command)) → Within t from a b rows₀ words₀ row σ cs → (place : ℕ) (table : Table)
            → Holds rows₀ words₀ live (enter (bare (symbol_at rows₀ row) place) table) → length words₀ < words_in (enter (with_body (symbol_at rows₀ row) place (retained σ cs)) table)
        over σ cs w place table h =
            let x = g.keeps σ cs w in
            let l = tight.lacks x.standing x.commands x.within in
            let n = symbol_at rows₀ row in
            let s = stored-within (x.adds.holds place [] table h) x.adds.growing.stocked in
            let m = enter-more n place x.kept (l.first ∷ l.later) table in
            let q : retained σ cs ≡ x.kept ++ (l.first ∷ l.later) = x.retains ∙ ap (λ (r : List (Placed Step)). x.kept ++ r) l.are in
            let z : words_in (enter (with_body n place (retained σ cs)) table) ≡ words_in (enter (with_body n place (x.kept ++ (l.first ∷ l.later))) table) =
            ap (λ (r : List (Placed Step)). words_in (enter (with_body n place r) table)) q in
            omega (arith, s, m, z, first_words l.first l.later, step_count l.first, l.over, g.together e, g.size)
          where
            first_words : (f : Placed Step) (fs : List (Placed Step)) → words_of_body (f ∷ fs) ≡ words_of_step f.what + words_of_body fs
            first_words f fs = unfold words_of_body in refl

  -- the definition ends
  pub body-whole : {r : Stored} {rows' : List ℕ} {words' : List ℤ} → KeepsCommand t spot a b rows words live row used layered r rows' words' → {to : Spot} → r ≡ Last to
      → KeepsBody t from a b rows₀ words₀ live row (Some record { used = used; to = to }) rows' words'
  unfolding KeepsBodyBy
  body-whole {rows' = rows'} {words' = words'} k {to} e =
      let l = as_last k e in
      let s : needed_at rows' row ≡ needed_at rows row = ap (λ (x : List ℕ). needed_at x row) l.same_rows in
      let w = g.ready.growing.stocked.within row g.ready.growing.here in
      record {
        size = k.size ∙ g.size;
        by = record {
          fit = l.fit;
          ahead = omega (arith, g.ahead, l.ahead);
          few_needed = omega (arith, s, w, g.ready.few_needed, g.ready.run_short, g.ready.text_short, g.fit.within);
          layered = layered;
          adds = λ σ cs w.
              let x = g.keeps σ cs w in
              subst (λ (r : List (Placed Step)). Adds rows₀ words₀ live row r rows' words' used layered)
              (sym (x.retains ∙ (ap (λ (r : List (Placed Step)). x.kept ++ r) (l.nothing_more x.standing x.commands x.within) ∙ append-nil x.kept)))
              (adds_still x.adds l.adds);
          passes = λ σ cs w.
              let x = g.keeps σ cs w in
              let p = l.passes x.standing x.commands x.within in
              record {
                rest = p.rest;
                told = subst (λ (y : List ℕ). Told (outside y) (written (stream t to)) p.rest) x.same_outside p.told;
                left = x.left ∙ (p.left ∙ ap (λ (y : List ℕ). deeds (outside y) p.rest) x.same_outside);
              };
        };
      }
