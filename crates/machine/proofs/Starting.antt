-- Where a drawing begins, where it is measured, and where a record comes back.
-- Assumes nothing.
use mathlib.Core.Path.{◌≡◌, refl, sym, ap, ◌∙◌, subst}
use mathlib.Core.Bool.{Bool, true, false}
use mathlib.Core.List.{List, [], ◌∷◌}
use Prim.Native.Nat.{ℕ, zero, suc, ◌+◌, ◌-◌, ◌*◌, ◌^◌, ◌≤◌, ◌<◌}
use native.Mathlib.Omega.{arith}
use lib.IntN.{ℤ, pos}
use lib.ListN.{length, get_or, set, replicate, length-set, length-replicate}
use lib.Seq.{length-take-le, get_or-set_same, get_or-set_other}
use lib.Dec.{ltb}
use borrow.Author.Tests.{ltb-true, ltb-false}
use Rattle.definition.specs.declared.Answer.{Answer}
use Rattle.definition.specs.declared.Refusal.{Refusal}
use Rattle.definition.specs.Commands.{commands}
use Rattle.definition.specs.Rounded.{rounded}
use Rattle.reader.specs.Screened.{Screened}
use Rattle.reader.proofs.Promises.{passes}
use Rattle.definition.specs.Limits.{most_bytes, most_calls, most_shapes}
use Rattle.definition.specs.declared.Rule.TheVariants.{FlatFileTooLong}
use Rattle.definition.specs.Rules.{refuse}
use Rattle.definition.specs.Answer.{failure}
use Rattle.laws.proofs.Rules.Outcomes.{TooLong}
use Rattle.pen.proofs.Names.{no_name}
use Rattle.shapes.specs.declared.Ink.{Ink}
use Rattle.shapes.specs.Painting.{Reached, Painted}
use Rattle.shapes.proofs.Painting.{PaintedSoFar, begun}
use Rattle.library.specs.Memory.{row_numbers, most_words}
use Rattle.passing.specs.Passed.{Passed, lent_of}
use Rattle.passing.proofs.Stands.{at_start}
use Rattle.passing.proofs.Cut.{lent-short}
use Rattle.stretch.specs.declared.Here.{Here}
use Rattle.machine.specs.declared.Frame.{Frame}
use Rattle.machine.specs.declared.Course.{Course}
use Rattle.machine.specs.declared.State.{State}
use Rattle.machine.specs.States.{no_frame, started, fresh_course, over_state, clearing, here_of, cut, onto, Spares, Passes}
use Rattle.machine.specs.Underway.{Host, lends_from, refused_early, too_long_for, phase_turns, course_turns, start_turns, turns_left, Blank, Cleared, all_of, Phase, Base, AtText, InBody, Back, to_text, to_body, Beginning, Means, MeansBy, Measured, Arrives}
use Rattle.machine.proofs.Settling.{finished-goes}
use Rattle.machine.proofs.Stepping.{over_arrives}
use Rattle.machine.proofs.Cutting.{lent-within}
use Rattle.machine.proofs.Texting.{text-drawn}
use Rattle.std.specs.Prelude.{Err, Ok, Result}
use Rattle.between.specs.declared.Text.{Text}
use Rattle.between.specs.declared.Text.TheVariants.{Over}

pub sooner : {t : List ℕ} {h : Host} {fs : List Frame} {turns later : ℕ} {r : State} {rows : List ℕ} {b : List ℤ} {room : List ℕ} → Arrives t h fs turns r rows b room → turns ≤ later → Arrives t h fs later r rows b room
sooner a l = record { underway = a.underway; less = omega (arith, a.less, l) }

-- ---- a drawing begins

module _ {t : List ℕ} {h : Host} {fs : List Frame} {m : ℕ} {writing : Bool} {k f : ℕ} {rows : List ℕ} {b : List ℤ} {room : List ℕ} (base : Base t h fs (fresh_course m writing k f) rows b room) where
  lent_long : length (cut b) ≡ lent_of h.lent
  lent_long = length-take-le (lent_of (length b)) b (lent-within b refl) ∙ ap lent_of base.lent_is

  pub begins_at_text : Blank 0 fs → room ≡ h.room → AtText t h fs (fresh_course m writing k f) rows b room
  begins_at_text blank same =
      let p = base.passed in
      let w = lent_of h.lent in
      let few : length (cut b) ≤ most_words = let z = lent-short h.lent {r = w} refl {k = w} (omega arith) in omega (arith, z, lent_long) in
      let reached : Reached (started h.earlier) = record { calls_most = omega arith; shapes_most = h.few; place_most = omega arith } in
      let from_start = begun (all_of p h) (started h.earlier) (onto writing h.room) reached in
      record {
        base = base;
        outside = refl;
        blank = blank;
        paused = record {
          stands = at_start p rows (cut b) base.rows_size few;
          layer_is = no_name 0 refl;
          going =
              subst (λ (x : List ℕ). PaintedSoFar (all_of p h) (started h.earlier) (onto writing h.room) (all_of p h) (started f) (onto writing x)) (sym same)
              (subst (λ (e : ℕ). PaintedSoFar (all_of p h) (started h.earlier) (onto writing h.room) (all_of p h) (started e) (onto writing h.room)) (sym base.earlier_is) from_start);
          short = p.short;
          fit = record { within = omega arith; state = omega arith };
          size = lent_long;
          redefined = omega arith;
        };
      }

-- ---- all is measured

pub text_measured : {t : List ℕ} {h : Host} {fs : List Frame} {c : Course} {rows : List ℕ} {b : List ℤ} {room : List ℕ} (x : AtText t h fs c rows b room) → c.writing ≡ false
    → {came : Result Text Refusal} {rows' : List ℕ} (b' : List ℤ) (room' : List ℕ) (s : Passes t rows b c room came rows' b' room') {ink : Ink} → came ≡ Ok (Over ink) → Measured t h fs c ink rows' b' room'
text_measured {t} {h} {fs} {c} {rows} {b} {room} x off b' room' s {ink} q =
    record {
      passed = x.base.passed;
      rounded_is = x.base.rounded_is;
      records_is = x.base.records_is;
      earlier_is = x.base.earlier_is;
      size = x.base.size;
      lent_is = s.same_words ∙ x.base.lent_is;
      same_room = spared c.writing off s.spares ∙ kept c.writing off x.base.phase;
      blank = x.blank;
      painted = subst (λ (o : Bool). Painted (started h.earlier) (all_of x.base.passed h) (onto o h.room) [] (Ok ink) (onto o room')) off (text-drawn x b' room' s q);
    }
  where
    spared : (o : Bool) → o ≡ false → Spares o room room' → room' ≡ room
    spared true e s = absurd (let z : ◌≡◌ {A = ℕ} 0 1 = cc in omega arith)
    spared false e s = unfold Spares in s

    kept : (o : Bool) → o ≡ false → Phase o (all_of x.base.passed h) h room → room ≡ h.room
    kept true e s = absurd (let z : ◌≡◌ {A = ℕ} 0 1 = cc in omega arith)
    kept false e s = unfold Phase in s

module _ {t : List ℕ} {h : Host} {fs : List Frame} {c : Course} {ink : Ink} {rows : List ℕ} {b : List ℤ} {room : List ℕ} (m : Measured t h fs c ink rows b room) where
  pub measured_end : ink.pen.at ≤ 2 ^ 60
  measured_end = let g = finished-goes m.passed h m.painted in omega (arith, g.reached.place_most, g.reached.shapes_most)

  pub measured_long : {a : Answer} {k : ℕ} {r : State} {b' : List ℤ} {rows' : List ℕ} → TooLong (ink.pen.at + 2) (length room) → a ≡ failure t (refuse FlatFileTooLong 0) [] → r ≡ over_state a k
      → b' ≡ replicate (length b) (pos 0) → Arrives t h fs (2 * most_calls + 2) r rows' b' room
  measured_long l e q w =
      over_arrives b m.size (too_long_for m.passed m.painted (subst (λ (x : List ℕ). TooLong (ink.pen.at + 2) (length x)) m.same_room l) e m.same_room) m.blank m.lent_is q w (omega arith)

  pub measured_base : ink.pen.at + 2 ≤ length room → ink.pen.at + 2 ≤ most_bytes → Base t h fs (fresh_course c.records true c.rounded c.earlier) (replicate 2560 0) b room
  unfolding Phase
  measured_base i l = record {
    passed = m.passed;
    rounded_is = m.rounded_is;
    records_is = m.records_is;
    earlier_is = m.earlier_is;
    size = m.size;
    lent_is = m.lent_is;
    run_size = length-replicate {0} {A = ℕ} 65 0;
    rows_size = length-replicate {0} {A = ℕ} 2560 0;
    room_size = ap length m.same_room;
    phase = record { ink = ink; goes = finished-goes m.passed h m.painted; in_room = subst (λ (x : List ℕ). ink.pen.at + 2 ≤ length x) m.same_room i; in_limit = l };
  }

  pub measured_fits : ink.pen.at + 2 ≤ length room → ink.pen.at + 2 ≤ most_bytes → AtText t h fs (fresh_course c.records true c.rounded c.earlier) (replicate 2560 0) b room
  measured_fits i l = begins_at_text (measured_base i l) m.blank m.same_room

-- ---- a record comes back

module _ {t : List ℕ} {h : Host} {fs : List Frame} {c : Course} {old : Frame} {rows : List ℕ} {b : List ℤ} {room : List ℕ} where
  pub back-text : Back t h fs c old rows b room → c.level ≡ 0 → AtText t h fs c rows b room
  back-text (to_text x) e = x
  back-text (to_body x l) e = absurd (omega (arith, e, x.level_is))

  pub back-body : Back t h fs c old rows b room → (c.level ≡ 0 → ⊥) → InBody t h fs c (here_of old) rows b room
  back-body (to_text x) e = absurd (e x.outside)
  back-body (to_body x l) e = x

  pub back-layer : Back t h fs c old rows b room → (c.level ≡ 0 → ⊥) → old.layer < 2 ^ 32
  back-layer (to_text x) e = absurd (e x.outside)
  back-layer (to_body x l) e = l

-- ---- once more, onto the room

pub measure_bound : (c : Course) → c.writing ≡ false → 2 * most_calls + 2 ≤ course_turns c
measure_bound c off = let z = ap phase_turns off in omega (arith, z)

module _ {t : List ℕ} {h : Host} {fs : List Frame} {c : Course} {ink : Ink} {rows : List ℕ} {b : List ℤ} {room : List ℕ} (m : Measured t h fs c ink rows b room)
    {c' : Course} (e : c' ≡ fresh_course c.records true c.rounded c.earlier) where
  pub again_at : ink.pen.at + 2 ≤ length room → ink.pen.at + 2 ≤ most_bytes → AtText t h fs c' (replicate 2560 0) b room
  again_at i l = subst (λ (x : Course). AtText t h fs x (replicate 2560 0) b room) (sym e) (measured_fits m i l)

  pub again-writes : c'.writing ≡ true
  again-writes = ap (λ (x : Course). x.writing) e

  pub again_bound : course_turns c' ≤ 2 * most_calls + 2
  again_bound = let z = ap course_turns e in omega (arith, z)

-- ---- from the host's records on

cleared_more : (fs : List Frame) (k : ℕ) → Cleared k fs → k < length fs → Cleared (k + 1) (set fs k no_frame)
cleared_more fs k done lt i l = go (k - i) refl
  where
    go : (d : ℕ) → k - i ≡ d → get_or (set fs k no_frame) i no_frame ≡ no_frame
    go zero q = let e : i ≡ k = omega (arith, l, q) in subst (λ (j : ℕ). get_or (set fs k no_frame) j no_frame ≡ no_frame) (sym e) (get_or-set_same fs k no_frame no_frame lt)
    go (suc d) q = get_or-set_other fs k i no_frame no_frame (λ e. omega (arith, e, q)) ∙ done i (omega (arith, q))

get_d_beyond : (fs : List Frame) (i : ℕ) (z : Frame) → length fs ≤ i → get_or fs i z ≡ z
get_d_beyond [] i z h = refl
get_d_beyond (f ∷ fs) zero z h = absurd (omega (arith, h))
get_d_beyond (f ∷ fs) (suc i) z h = get_d_beyond fs i z (omega (arith, h))

pub starts-base : {t : List ℕ} {h : Host} {fs : List Frame} {m k f : ℕ} {rows : List ℕ} {b : List ℤ} {room : List ℕ} (p : Passed t) → k ≡ rounded (commands 0 p.letters) → Beginning h fs m f rows b room
    → Base t h fs (fresh_course m false k f) rows b room
unfolding Phase
starts-base p q x = record {
  passed = p;
  rounded_is = q;
  records_is = x.records_is;
  earlier_is = x.earlier_is;
  size = x.size;
  lent_is = x.lent_is;
  run_size = length-replicate {0} {A = ℕ} 65 0;
  rows_size = x.rows_size;
  room_size = ap length x.same_room;
  phase = x.same_room;
}

module _ {t : List ℕ} {h : Host} {fs : List Frame} {m f : ℕ} {rows : List ℕ} {b : List ℤ} {room : List ℕ} (x : Beginning h fs m f rows b room) (blank : Blank 0 fs) where
  pub start-refused : {d : Result ℕ Refusal} {why : Refusal} {a : Answer} {k : ℕ} {r : State} {b' : List ℤ} → Screened t d → d ≡ Err why → a ≡ failure t why [] → r ≡ over_state a k → b' ≡ replicate (length b) (pos 0)
      → Arrives t h fs start_turns r rows b' room
  start-refused s is e q w = over_arrives b x.size (refused_early s is e x.same_room) blank x.lent_is q w (omega arith)

  pub start_at : {d : Result ℕ Refusal} {k : ℕ} → Screened t d → d ≡ Ok k → {c : Course} → c ≡ fresh_course m false k f → AtText t h fs c rows b room
  start_at s is e =
      let r = passes s is in
      subst (λ (y : Course). AtText t h fs y rows b room) (sym e) (begins_at_text (starts-base r.passed r.is x) blank x.same_room)

pub start_bound : {m k f : ℕ} {c : Course} → c ≡ fresh_course m false k f → course_turns c ≤ start_turns
start_bound e = let z = ap course_turns e in omega (arith, z)

-- the next record is put to zero
pub clear_next : {t : List ℕ} {h : Host} {fs : List Frame} {m f next : ℕ} {rows : List ℕ} {b : List ℤ} {room : List ℕ} → Beginning h fs m f rows b room → Cleared next fs → next < m → {r : State} → r ≡ clearing m f next
    → Arrives t h fs ((m - next) + start_turns + 1) r rows b room
unfolding MeansBy Means turns_left
clear_next {t} {h} {fs} {m} {f} {next} {rows} {b} {room} x done lt {r} e =
    subst (λ (s : State). Arrives t h fs ((m - next) + start_turns + 1) s rows b room) (sym e)
    (record {
      underway = record {
        size = x.size;
        means = (
          omega (arith, lt, x.records_is),
          (
            record { size = length-set fs next no_frame ∙ x.size; records_is = x.records_is; earlier_is = x.earlier_is; lent_is = x.lent_is; rows_size = x.rows_size; same_room = x.same_room },
            cleared_more fs next done (omega (arith, lt, x.records_is, x.size)),
          ),
        );
      };
      less = omega (arith, lt);
    })

-- all are
pub all_cleared : (fs : List Frame) (next : ℕ) → length fs ≤ next → Cleared next fs → Blank 0 fs
all_cleared fs next le done i z = by_place (ltb i next) refl
  where
    by_place : (o : Bool) → ltb i next ≡ o → get_or fs i no_frame ≡ no_frame
    by_place true q = done i (ltb-true i next q)
    by_place false q = get_d_beyond fs i no_frame (let z = ltb-false i next q in omega (arith, le, z))

pub all_blank : {h : Host} {fs : List Frame} {m f next : ℕ} {rows : List ℕ} {b : List ℤ} {room : List ℕ} → Beginning h fs m f rows b room → Cleared next fs → m ≤ next → Blank 0 fs
all_blank {fs = fs} {next = next} x done le = all_cleared fs next (omega (arith, x.size, x.records_is, le)) done

-- and before the first turn none is known to be
pub none_cleared : (fs : List Frame) → Cleared 0 fs
none_cleared fs i l = absurd (omega (arith, l))

pub at_begin : {fs : List Frame} {m f : ℕ} {rows : List ℕ} (few : f ≤ most_shapes) (b : List ℤ) (room : List ℕ) → length fs ≡ m → length rows ≡ row_numbers
    → Beginning (lends_from (length b) room m f few) fs m f rows b room
at_begin few b room size rows_size = record { size = size; records_is = refl; earlier_is = refl; lent_is = refl; rows_size = rows_size; same_room = refl }

-- the body that was read from its record
pub here_in : {t : List ℕ} {h : Host} {fs : List Frame} {c : Course} {here there : Here} {rows : List ℕ} {b : List ℤ} {room : List ℕ} → here ≡ there → InBody t h fs c there rows b room → InBody t h fs c here rows b room
here_in {t} {h} {fs} {c} {rows = rows} {b} {room} e x = subst (λ (z : Here). InBody t h fs c z rows b room) (sym e) x
