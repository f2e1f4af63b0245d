-- One command further: what `keep_command` leaves where a definition ends, where a command is passed over, where it does not fit, and where it is kept.
-- Assumes nothing.
use mathlib.Core.Path.{◌≡◌, refl, sym, ap, ap₂, ◌∙◌, subst}
use mathlib.Core.Bool.{Bool, true, false, ◌&&◌}
use mathlib.Core.List.{List, [], ◌∷◌, ◌++◌}
use Prim.Native.Nat.{ℕ, ◌+◌, ◌-◌, ◌*◌, ◌≤◌, ◌<◌}
use native.Mathlib.Omega.{arith}
use lib.Dec.{eqb}
use lib.IntN.{ℤ, pos}
use lib.ListN.{length, take, drop, get_or, set, length-set, length-append, length-drop, get_or-append}
use lib.Seq.{sets, length-sets, length-take-le, get_or-take, get_or-set_same, get_or-set_other}
use Rattle.definition.specs.Words.{Placed, at}
use Rattle.definition.specs.Commands.{Command, finish, nothing}
use Rattle.definition.specs.Standing.{Standing, outside, after}
use Rattle.definition.specs.Table.{Step}
use Rattle.definition.specs.Drawing.{retained, deeds}
use Rattle.pieces.specs.Pieces.{stream, letter_f, Fit}
use Rattle.pieces.specs.declared.Spot.{Spot}
use Rattle.rules.specs.Letters.{letter_l}
use Rattle.rules.specs.Written.{Written, written, last_letter}
use Rattle.commands.specs.Words.{words_of, kind_by, DecodedOne}
use Rattle.library.specs.Memory.{body_at, start_at, length_at, needed_at, row_numbers}
use Rattle.library.specs.Sound.{step_words, Fair}
use Rattle.library.specs.Storing.{start_of, extended, layer_words, Relayered, Storable, Stores, layer_now, is_layer, Grows, Put}
use Rattle.library.proofs.Laying.{put_by}
use Rattle.library.proofs.Adding.{layer_words_lem}
use Rattle.library.proofs.Storing.{three_before, grown-after, grown_in_place}
use Rattle.keeping.specs.Voices.{Told, none_told}
use Rattle.keeping.specs.Growth.{steps, Adds, Within, Ready, Keeps, KeepsMore, KeepsLast, KeepsTight}
use Rattle.keeping.proofs.Spoken.{OneStep, one_step, is_finish, is_nothing, First, first-told, none_told_of, placed, words_are, few-values, retains_it, deeds_on, retains_none, deeds_none, retains_end, deeds_end}
use Rattle.keeping.proofs.Growing.{adds_none, adds_one}

-- where the body has no step more, the same is told
pub within_same : {t : List ℕ} {spot : Spot} {a b : ℕ} {rows : List ℕ} {words : List ℤ} {live row : ℕ} {rows' : List ℕ} {words' : List ℤ} {used' : ℕ} {layered' : Bool}
    → Adds rows words live row [] rows' words' used' layered' → {σ : Standing} {cs : List (Placed Command)} → Within t spot a b rows words row σ cs → Within t spot a b rows' words' row σ cs
unfolding layer_now
within_same f w = record { told = w.told; opened = w.opened; same_a = w.same_a; same_b = w.same_b; layer_now_lem = f.layers ∙ w.layer_now_lem }

both_true : (x y : Bool) → (x && y) ≡ true → (x ≡ true) × (y ≡ true)
both_true true true e = (refl, refl)
both_true true false e = absurd (let z : ◌≡◌ {A = ℕ} 0 1 = cc in omega arith)
both_true false y e = absurd (let z : ◌≡◌ {A = ℕ} 0 1 = cc in omega arith)

module _ {t : List ℕ} {from : Spot} {a b : ℕ} {rows : List ℕ} {words : List ℤ} {live row used : ℕ} {layered : Bool} (g : Ready t from a b rows words live row used layered) where
  -- where nothing was written
  module _ (fit : Fit t from) where
    ended_none : written (stream t from) ≡ [] → {σ : Standing} {cs : List (Placed Command)} → Within t from a b rows words row σ cs → cs ≡ []
    ended_none e {σ} {cs} w = none_told_of (subst (λ (xs : List Written). Told σ xs cs) e w.told)

    pub keeps_none : written (stream t from) ≡ [] → (words' : List ℤ) → words' ≡ take used words ++ drop used words → KeepsLast t from a b rows words live row used layered from rows words'
    unfolding retained deeds
    keeps_none e words' q = record {
      fit = fit;
      ahead = omega arith;
      adds = adds_none g.growing words' size below;
      same_rows = refl;
      nothing_more = λ σ cs w. ap (retained σ) (ended_none e w);
      passes = λ σ cs w. record {
        rest = [];
        told = subst (λ (xs : List Written). Told (outside σ.layer_outside) xs []) (sym e) none_told;
        left = ap (deeds σ) (ended_none e w);
      };
    }
      where
        front : length (take used words) ≡ used
        front = length-take-le used words g.growing.fits

        size : length words' ≡ length words
        size = ap length q ∙ (let i = length-append (take used words) (drop used words) in let j = length-drop used words in omega (arith, i, j, front, g.growing.fits))

        below : (k : ℕ) → k < used → get_or words' k (pos 0) ≡ get_or words k (pos 0)
        below k h =
            ap (λ (l : List ℤ). get_or l k (pos 0)) q
            ∙ (get_or-append (take used words) (drop used words) (pos 0) k (omega (arith, front)) ∙ get_or-take used words k (pos 0) h)

  module _ {c : Written} {k p n : ℕ} {to : Spot} {ws' : List ℤ} (r : DecodedOne t from a b c (drop used words) k p n to ws') (words' : List ℤ) (e : words' ≡ take used words ++ ws') where
    front : length (take used words) ≡ used
    front = length-take-le used words g.growing.fits

    pub size : length words' ≡ length words
    size =
        ap length e
        ∙ (let h = length-append (take used words) ws' in
        let i = ap length r.tells.laid ∙ length-sets (drop used words) 0 (words_of a b c) in
        let j = length-drop used words in
        omega (arith, h, i, j, front, g.growing.fits))

    below : (i : ℕ) → i < used → get_or words' i (pos 0) ≡ get_or words i (pos 0)
    below i h =
        ap (λ (l : List ℤ). get_or l i (pos 0)) e
        ∙ (get_or-append (take used words) ws' (pos 0) i (omega (arith, front)) ∙ get_or-take used words i (pos 0) h)

    pub still : Adds rows words live row [] rows words' used layered
    still = adds_none g.growing words' size below

    first : {σ : Standing} {cs : List (Placed Command)} → Within t from a b rows words row σ cs → First σ c (written (stream t to)) cs
    first {σ} {cs} w = first-told (subst (λ (xs : List Written). Told σ xs cs) r.is w.told)

    -- ---- the DF

    module _ (end : k ≡ letter_f) where
      ended : {σ : Standing} {cs : List (Placed Command)} (w : Within t from a b rows words row σ cs) → cs ≡ at (first w).command.place finish ∷ (first w).rest
      ended w =
          let f = first w in
          f.are ∙ ap (λ (d : Command). at f.command.place d ∷ f.rest) (is_finish w.opened f.voiced.voice (sym r.tells.kind ∙ end))

      pub keeps-last : KeepsLast t from a b rows words live row used layered to rows words'
      unfolding after
      keeps-last = record {
        fit = r.fit;
        ahead = omega (arith, r.ahead);
        adds = still;
        same_rows = refl;
        nothing_more = λ σ cs w. ap (retained σ) (ended w) ∙ retains_end σ (first w).command.place (first w).rest w.opened;
        passes = λ σ cs w.
            let f = first w in
            record {
              rest = f.rest;
              told =
                  subst (λ (d : Command). Told (after d σ) (written (stream t to)) f.rest) (is_finish w.opened f.voiced.voice (sym r.tells.kind ∙ end)) f.told;
              left = ap (deeds σ) (ended w) ∙ deeds_end σ f.command.place f.rest w.opened;
            };
      }

    module _ (on : k ≡ letter_f → ⊥) where
      on_kind : kind_by c.letter (last_letter c) ≡ letter_f → ⊥
      on_kind q = on (r.tells.kind ∙ q)

      -- ---- no step

      module _ (other : steps k ≡ false) where
        passed : {σ : Standing} {cs : List (Placed Command)} (w : Within t from a b rows words row σ cs) → (first w).command.what ≡ nothing
        passed w = is_nothing w.opened (first w).voiced.voice (sym (ap steps r.tells.kind) ∙ other) on_kind

        goes_by : {σ : Standing} {cs : List (Placed Command)} (w : Within t from a b rows words row σ cs) → Keeps t to a b rows words live row σ cs rows words' used layered
        unfolding after
        goes_by {σ} {cs} w =
            let f = first w in
            let q : cs ≡ at f.command.place nothing ∷ f.rest = f.are ∙ ap (λ (d : Command). at f.command.place d ∷ f.rest) (passed w) in
            let s = within_same still w in
            record {
              kept = [];
              adds = still;
              standing = σ;
              commands = f.rest;
              within = record {
                told = subst (λ (d : Command). Told (after d σ) (written (stream t to)) f.rest) (passed w) f.told;
                opened = s.opened;
                same_a = s.same_a;
                same_b = s.same_b;
                layer_now_lem = s.layer_now_lem;
              };
              retains = ap (retained σ) q ∙ retains_none σ f.command.place f.rest w.opened;
              left = ap (deeds σ) q ∙ deeds_none σ f.command.place f.rest w.opened;
              same_outside = refl;
            }

        pub keeps_by : KeepsMore t from a b rows words live row used layered to rows words'
        keeps_by =
            let own = goes_by g.within in
            record {
              fit = r.fit;
              ahead = r.ahead;
              ready = record {
                growing = still.growing;
                standing = own.standing;
                commands = own.commands;
                within = own.within;
                few_needed = omega (arith, g.few_needed, r.ahead);
                text_short = g.text_short;
                run_short = omega (arith, size, g.run_short);
              };
              keeps = λ σ cs w. goes_by w;
            }

      -- ---- a step

      module _ (a_step : steps k ≡ true) where
        step_of : {σ : Standing} {cs : List (Placed Command)} (w : Within t from a b rows words row σ cs)
            → OneStep σ (kind_by c.letter (last_letter c)) (first w).voiced.values (first w).command.what
        step_of w = one_step w.opened (first w).voiced.voice (first w).voiced.unsigned (sym (ap steps r.tells.kind) ∙ a_step) on_kind

        abbrev new : {σ : Standing} {cs : List (Placed Command)} (w : Within t from a b rows words row σ cs) → Placed Step
        new w = placed (first w).voiced (step_of w)

        its_words : {σ : Standing} {cs : List (Placed Command)} (w : Within t from a b rows words row σ cs) → words_of a b c ≡ step_words (new w)
        its_words w = ap₂ {C = List ℤ} (λ (i j : ℕ). words_of i j c) (sym w.same_a) (sym w.same_b) ∙ words_are (first w).voiced (step_of w)

        its_count : {σ : Standing} {cs : List (Placed Command)} (w : Within t from a b rows words row σ cs) → n ≡ length (step_words (new w))
        its_count w = r.tells.count ∙ ap length (its_words w)

        -- the first step that is left
        ahead_is : {σ : Standing} {cs : List (Placed Command)} (w : Within t from a b rows words row σ cs)
            → retained σ cs ≡ new w ∷ retained (after (first w).command.what σ) (first w).rest
        ahead_is {σ} w = ap (retained σ) (first w).are ∙ retains_it (first w).voiced (step_of w) w.opened (first w).rest

        pub keeps-tight : length words - used < n → KeepsTight t from a b rows words live row used layered rows words'
        keeps-tight h = record {
          adds = still;
          same_rows = refl;
          ready = record {
            growing = still.growing;
            standing = g.standing;
            commands = g.commands;
            within = within_same still g.within;
            few_needed = g.few_needed;
            text_short = g.text_short;
            run_short = omega (arith, size, g.run_short);
          };
          lacks = λ σ cs w. record {
            first = new w;
            later = retained (after (first w).command.what σ) (first w).rest;
            are = ahead_is w;
            over = omega (arith, h, its_count w, g.growing.fits);
          };
        }

        module _ (fits : n ≤ length words - used) (layer : Bool) (layer_is : layer ≡ eqb k letter_l) where
          layer_of : {σ : Standing} {cs : List (Placed Command)} (w : Within t from a b rows words row σ cs) → is_layer (new w).what ≡ layer
          layer_of w = sym (step_of w).layer_is ∙ (ap (λ (x : ℕ). eqb x letter_l) (sym r.tells.kind) ∙ sym layer_is)

          room : {σ : Standing} {cs : List (Placed Command)} (w : Within t from a b rows words row σ cs) → used + length (step_words (new w)) ≤ length words
          room w = omega (arith, fits, its_count w, g.growing.fits)

          three : layer ≡ true → n ≡ layer_words
          three q = its_count g.within ∙ layer_words_lem (new g.within) (layer_of g.within ∙ q)

          pub storable : (fit : Fit t from) (idle : Bool) → idle ≡ (layered && layer) → Storable rows words' row used n idle
          storable fit idle q = record {
            here = omega (arith, g.growing.here, g.growing.laid.few);
            stored = omega (arith, short, long, fits, g.run_short);
            needed = omega (arith, short, long, fits, g.run_short, g.few_needed, fit.within, g.text_short);
            within = omega (arith, fits, g.growing.fits, size);
            layer = λ z. let both = both_true layered layer (sym q ∙ z) in (three both.1, three_before g.growing both.0);
          }
            where
              short : start_at rows row + length_at rows row ≤ length words
              short = g.growing.stocked.within row g.growing.here

              long : length words ≤ 16777216
              long = g.run_short

          put : {σ : Standing} {cs : List (Placed Command)} (w : Within t from a b rows words row σ cs) → Put words used (new w) words'
          put w =
              put_by words used (new w) words' (room w)
              (e ∙ ap (λ (l : List ℤ). take used words ++ l) (r.tells.laid ∙ ap (sets (drop used words) 0) (its_words w)))

          fair : {σ : Standing} {cs : List (Placed Command)} (w : Within t from a b rows words row σ cs) → Fair (layer_now [] (body_at rows words row)) (new w).what
          fair w = subst (λ (l : List ℕ). Fair l (new w).what) (sym w.layer_now_lem) (step_of w).fair

          -- by either way the body has the step more
          module _ {used'' : ℕ} {rows'' : List ℕ} {words'' : List ℤ}
              (grows : (σ : Standing) (cs : List (Placed Command)) (w : Within t from a b rows words row σ cs) → Grows rows words live row (new w) rows'' words'' used'')
              (few : needed_at rows'' row + length_at rows row ≤ needed_at rows row + length_at rows'' row + 3) (same : length words'' ≡ length words) where
            added : {σ : Standing} {cs : List (Placed Command)} (w : Within t from a b rows words row σ cs) → Adds rows words live row (new w ∷ []) rows'' words'' used'' layer
            added {σ} {cs} w = subst (λ (x : Bool). Adds rows words live row (new w ∷ []) rows'' words'' used'' x) (layer_of w) (adds_one (grows σ cs w))

            goes_on : {σ : Standing} {cs : List (Placed Command)} (w : Within t from a b rows words row σ cs) → Keeps t to a b rows words live row σ cs rows'' words'' used'' layer
            unfolding layer_now
            goes_on {σ} {cs} w =
                let f = first w in
                let s = step_of w in
                record {
                  kept = new w ∷ [];
                  adds = added w;
                  standing = after f.command.what σ;
                  commands = f.rest;
                  within = record {
                    told = f.told;
                    opened = s.stays.opened;
                    same_a = s.stays.same_a ∙ w.same_a;
                    same_b = s.stays.same_b ∙ w.same_b;
                    layer_now_lem = (added w).layers ∙ (ap (λ (l : List ℕ). layer_now l (new w ∷ [])) w.layer_now_lem ∙ sym s.layer_then);
                  };
                  retains = ahead_is w;
                  left = ap (deeds σ) f.are ∙ deeds_on f.voiced s f.rest;
                  same_outside = s.stays.same_outside;
                }

            keeps-added : KeepsMore t from a b rows words live row used'' layer to rows'' words''
            keeps-added =
                let own = goes_on g.within in
                record {
                  fit = r.fit;
                  ahead = r.ahead;
                  ready = record {
                    growing = (added g.within).growing;
                    standing = own.standing;
                    commands = own.commands;
                    within = own.within;
                    few_needed = omega (arith, few, g.few_needed, r.ahead);
                    text_short = g.text_short;
                    run_short = omega (arith, same, g.run_short);
                  };
                  keeps = λ σ cs w. goes_on w;
                }

          in_run : 5 * row + 4 < row_numbers
          in_run = omega (arith, g.growing.here, g.growing.laid.few)

          module _ (used'' : ℕ) (rows'' : List ℕ) (words'' : List ℤ) where
            keeps-after : (layered && layer) ≡ false → used'' ≡ used + n → rows'' ≡ extended rows row used n → words'' ≡ words' → KeepsMore t from a b rows words live row used'' layer to rows'' words''
            keeps-after plain u v x =
                subst (λ (i : ℕ). KeepsMore t from a b rows words live row i layer to rows'' words'') (sym u)
                (subst (λ (l : List ℕ). KeepsMore t from a b rows words live row (used + n) layer to l words'') (sym v)
                (subst (λ (l : List ℤ). KeepsMore t from a b rows words live row (used + n) layer to (extended rows row used n) l) (sym x)
                (keeps-added (λ σ cs w. grows w) few size)))
              where
                grows : {σ : Standing} {cs : List (Placed Command)} (w : Within t from a b rows words row σ cs) → Grows rows words live row (new w) (extended rows row used n) words' (used + n)
                grows w =
                    subst (λ (i : ℕ). Grows rows words live row (new w) (extended rows row used i) words' (used + i)) (sym (its_count w))
                    (grown-after g.growing (put w) (fair w) (few-values (first w).voiced (step_of w)) (ap (λ (y : Bool). layered && y) (layer_of w) ∙ plain))

                longer : length_at (extended rows row used n) row ≡ length_at rows row + n
                longer =
                    get_or-set_other (set (set rows (5 * row + 2) (start_of rows row used)) (5 * row + 3) (length_at rows row + n)) (5 * row + 4) (5 * row + 3) (needed_at rows row + n) 0 (λ z. omega arith)
                    ∙ get_or-set_same (set rows (5 * row + 2) (start_of rows row used)) (5 * row + 3) (length_at rows row + n) 0
                    (omega (arith, in_run, g.growing.laid.sized, length-set rows (5 * row + 2) (start_of rows row used)))

                few : needed_at (extended rows row used n) row + length_at rows row ≤ needed_at rows row + length_at (extended rows row used n) row + 3
                few = omega (arith, longer, (grows g.within).needs, its_count g.within)

            keeps_in_place : (layered && layer) ≡ true → used'' ≡ used → Relayered rows words' row used rows'' words'' → KeepsMore t from a b rows words live row used'' layer to rows'' words''
            keeps_in_place both u v =
                let q = both_true layered layer both in
                subst (λ (i : ℕ). KeepsMore t from a b rows words live row i layer to rows'' words'') (sym u)
                (keeps-added (λ σ cs w. grown_in_place g.growing q.0 (put w) (fair w) (few-values (first w).voiced (step_of w)) (layer_of w ∙ q.1) v)
                (few q.1) (v.moved.size ∙ size))
              where
                same_length : length_at rows'' row ≡ length_at rows row
                same_length =
                    ap (λ (l : List ℕ). length_at l row) v.rows_are ∙ get_or-set_other rows (5 * row + 4) (5 * row + 3) (needed_at rows row + layer_words) 0 (λ z. omega arith)

                three_more : needed_at rows'' row ≡ needed_at rows row + layer_words
                three_more =
                    ap (λ (l : List ℕ). needed_at l row) v.rows_are
                    ∙ get_or-set_same rows (5 * row + 4) (needed_at rows row + layer_words) 0 (omega (arith, in_run, g.growing.laid.sized))

                few : layer ≡ true → needed_at rows'' row + length_at rows row ≤ needed_at rows row + length_at rows'' row + 3
                few q = omega (arith, same_length, three_more)

            pub keeps-stored : (idle : Bool) → idle ≡ (layered && layer) → Stores idle rows words' row used n rows'' words'' used'' → KeepsMore t from a b rows words live row used'' layer to rows'' words''
            unfolding Stores
            keeps-stored true q s = keeps_in_place (sym q) s.1 s.0
            keeps-stored false q s = keeps-after (sym q) s.2 s.0 s.1

            pub stored-size : (idle : Bool) → Stores idle rows words' row used n rows'' words'' used'' → length words'' ≡ length words
            unfolding Stores
            stored-size true s = s.0.moved.size ∙ size
            stored-size false s = ap length s.1 ∙ size
