-- From one state to the next: what a stretch of drawing came to, and the state that is made of it, is under way. One law for each way.
-- Assumes nothing.
use mathlib.Core.Path.{◌≡◌, refl, sym, ap, ◌∙◌, subst}
use mathlib.Core.Bool.{true}
use mathlib.Core.List.{List, ◌++◌}
use Prim.Native.Nat.{ℕ, zero, suc, ◌+◌, ◌-◌, ◌*◌, ◌≤◌, ◌<◌}
use native.Mathlib.Omega.{arith}
use borrow.Author.Tests.{eq-eqb, ne_eqb}
use lib.IntN.{ℤ, pos}
use lib.ListN.{length, get_or, set, replicate, length-set}
use lib.Seq.{get_or-set_same, get_or-set_other}
use Rattle.definition.specs.declared.Answer.{Answer}
use Rattle.definition.specs.Limits.{most_calls}
use Rattle.definition.specs.Table.{Table}
use Rattle.definition.specs.Drawing.{Chain, Event}
use Rattle.shapes.specs.declared.Ink.{Ink}
use Rattle.shapes.proofs.Painting.{skips, over}
use Rattle.library.specs.Memory.{table_of}
use Rattle.chain.specs.Chain.{open_calls}
use Rattle.passing.specs.Passed.{lent_of}
use Rattle.stretch.specs.declared.Here.{Here}
use Rattle.stretch.specs.Bodies.{rest_of, body_story}
use Rattle.machine.specs.declared.Frame.{Frame}
use Rattle.machine.specs.declared.Course.{Course}
use Rattle.machine.specs.declared.Kind.TheVariants.{Pop}
use Rattle.machine.specs.declared.State.{State}
use Rattle.machine.specs.States.{no_frame, here_of, over_at, at_level, popping, unwinding, Unwinds, cut, onto}
use Rattle.machine.specs.Underway.{Host, origin_of, phase_turns, turns_left, Blank, CameOut, all_of, Base, Calling, Caller, Callers, Back, to_text, to_body, Means, MeansBy, Arrives}

-- ---- records that change at one slot

pub blank-zero : (k : ℕ) (fs : List Frame) → k < length fs → Blank (suc k) fs → Blank k (set fs k no_frame)
blank-zero k fs l h i le = go (i - k) refl
  where
    go : (d : ℕ) → i - k ≡ d → get_or (set fs k no_frame) i no_frame ≡ no_frame
    go zero q = let e : i ≡ k = omega (arith, le, q) in subst (λ (j : ℕ). get_or (set fs k no_frame) j no_frame ≡ no_frame) (sym e) (get_or-set_same fs k no_frame no_frame l)
    go (suc d) q = get_or-set_other fs k i no_frame no_frame (λ e. omega (arith, e, q)) ∙ h i (omega (arith, le, q))

pub blank_put : (k : ℕ) (fs : List Frame) (f : Frame) → Blank k fs → Blank (suc k) (set fs k f)
blank_put k fs f h i le = get_or-set_other fs k i f no_frame (λ e. omega (arith, e, le)) ∙ h i (omega (arith, le))

module _ (n : ℕ) (t : Table) (b : List ℤ) (run : List ℕ) (fs : List Frame) where
  pub callers-set : (k i : ℕ) (f : Frame) → k < i → (later : List Event) → Callers n t b run fs k later → Callers n t b run (set fs i f) k later
  unfolding Callers
  callers-set zero i f l later c = c
  callers-set (suc k) i f l later (after, caller, below) =
      (after, subst (λ (x : Frame). Caller n t b run x (suc k) later after) (sym (get_or-set_other fs i (suc k) f no_frame (λ e. omega (arith, e, l)))) caller, callers-set k i f (omega (arith, l)) after below)

  pub callers-run : (run' : List ℕ) (k : ℕ) → ((j : ℕ) → j ≤ k → open_calls run' j ≡ open_calls run j) → (later : List Event) → Callers n t b run fs k later → Callers n t b run' fs k later
  unfolding Callers
  callers-run run' zero same later c = c
  callers-run run' (suc k) same later (after, caller, below) = (
    after,
    record {
      outer = caller.outer;
      carries = caller.carries;
      near = caller.near;
      rests = caller.rests;
      layer_fits = caller.layer_fits;
      is = caller.is ∙ ap (λ (o : Chain). body_story n t (32 - suc k) o caller.outer (rest_of b (here_of (get_or fs (suc k) no_frame))) ++ after) (sym (same (suc k) (omega arith)));
    },
    callers-run run' k (λ j l. same j (omega (arith, l))) after below,
  )

-- ---- it is over

module _ {t : List ℕ} {h : Host} {fs : List Frame} {turns : ℕ} {rows : List ℕ} (b : List ℤ) {room : List ℕ} (size : length fs ≡ h.records) where
  pub over_arrives : {a : Answer} {here : Here} {m : ℕ} {r : State} {b' : List ℤ} → CameOut t h a here.net room → Blank 0 fs → length b ≡ h.lent → r ≡ over_at a here m → b' ≡ replicate (length b) (pos 0) → 0 < turns
      → Arrives t h fs turns r rows b' room
  unfolding MeansBy turns_left
  over_arrives {a} {here} {m} {r} {b'} s z l e q lt =
      subst (λ (x : State). Arrives t h fs turns x rows b' room) (sym e)
      (record {
        underway = record { size = size; means = record { came_out = s; cleared = q ∙ ap (λ (k : ℕ). replicate k (pos 0)) l; blank = z } };
        less = lt;
      })

  -- or its records go back to zero
  pub unwinds_arrive : {a : Answer} {c : Course} {here : Here} {r : State} {b' : List ℤ} → CameOut t h a here.net room → c.level ≤ h.records → Blank c.level fs → length b ≡ h.lent → Unwinds a c here b r b' → c.level < turns
      → Arrives t h fs turns r rows b' room
  unfolding MeansBy Means turns_left
  unwinds_arrive {a} {c} {here} {r} {b'} s held z l u lt = go c.level refl
    where
      go : (k : ℕ) → c.level ≡ k → Arrives t h fs turns r rows b' room
      go zero q =
          over_arrives {here = here} {m = c.records} s (subst (λ (k : ℕ). Blank k fs) q z) l (u.is ∙ rw (eq-eqb c.level 0 q)) (u.words ∙ rw (eq-eqb c.level 0 q)) (omega (arith, lt))
      go (suc k) q =
          let no : c.level ≡ 0 → ⊥ = λ e. omega (arith, e, q) in
          let d : c.level - 1 ≡ k = omega (arith, q) in
          let at-k : Blank k (set fs k no_frame) = blank-zero k fs (omega (arith, size, held, q)) (subst (λ (j : ℕ). Blank j fs) q z) in
          let same : b' ≡ b = u.words ∙ rw (ne_eqb c.level 0 no) in
          let made : r ≡ unwinding a c here = u.is ∙ rw (ne_eqb c.level 0 no) in
          subst (λ (x : List ℤ). Arrives t h fs turns r rows x room) (sym same)
          (subst (λ (x : State). Arrives t h fs turns x rows b room) (sym made)
          (record {
            underway = record {
              size = size;
              means = (
                omega (arith, held, q),
                record {
                  came_out = s;
                  size = length-set fs (c.level - 1) no_frame ∙ size;
                  lent_is = l;
                  held = omega (arith, held);
                  blank = subst (λ (j : ℕ). Blank j (set fs j no_frame)) (sym d) at-k;
                },
              );
            };
            less = omega (arith, lt, q);
          }))

-- ---- a body is at its end

module _ {t : List ℕ} {h : Host} {fs : List Frame} {c : Course} {rows : List ℕ} {b : List ℤ} {room : List ℕ} (base : Base t h fs c rows b room) {k : ℕ} (level_is : c.level ≡ suc k) (deep : suc k ≤ 32)
    (held : suc k ≤ h.records) (blank : Blank (suc k) fs) where
  abbrev w : ℕ
  w = lent_of h.lent

  abbrev table : Table
  table = table_of rows (cut b) c.stand.stock.live

  -- the same drawing at the level below
  abbrev lower : (l : ℕ) (f : Frame) (ink : Ink) → Base t h (set fs k f) (at_level c l ink) rows b room
  lower l f ink = record {
    passed = base.passed;
    rounded_is = base.rounded_is;
    records_is = base.records_is;
    earlier_is = base.earlier_is;
    size = length-set fs k f ∙ base.size;
    lent_is = base.lent_is;
    run_size = base.run_size;
    rows_size = base.rows_size;
    room_size = base.room_size;
    phase = base.phase;
  }

  pub pop_arrives : {ink : Ink} {later : List Event} {turns : ℕ} {r : State} → Callers h.records table (cut b) c.run fs k later
      → Calling t w h.records (all_of base.passed h) (origin_of c.writing h) rows (cut b) c.stand later ink (onto c.writing room)
      → r ≡ popping c ink → phase_turns c.writing + 2 * (most_calls - ink.counts.calls) + k + 1 < turns → Arrives t h fs turns r rows b room
  unfolding MeansBy Means turns_left Callers
  pop_arrives {ink} {later} {turns} {r} callers calling e lt =
      subst (λ (x : State). Arrives t h fs turns x rows b room) (sym (e ∙ ap (λ (l : ℕ). zero_at l) down))
      (record {
        underway = record { size = base.size; means = (omega (arith, held), back k refl callers) };
        less = lt;
      })
    where
      zero_at : ℕ → State
      zero_at l = record { going = true; slot = l; put = no_frame; answer = (popping c ink).answer; kind = Pop; here = (popping c ink).here; course = at_level c l ink }

      down : c.level - 1 ≡ k
      down = omega (arith, level_is)

      below : Blank k (set fs k no_frame)
      below = blank-zero k fs (omega (arith, base.size, held)) blank

      back : (j : ℕ) → k ≡ j → Callers h.records table (cut b) c.run fs j later → Back t h (set fs k no_frame) (at_level c k ink) (get_or fs k no_frame) rows b room
      back zero q none =
          to_text (record {
            base = lower k no_frame ink;
            outside = q;
            blank = subst (λ (j : ℕ). Blank j (set fs k no_frame)) q below;
            paused = calling.resumes (over calling.going none);
          })
      back (suc j) q (after, caller, others) =
          let f : Caller h.records table (cut b) c.run (get_or fs k no_frame) (suc j) later after = subst (λ (i : ℕ). Caller h.records table (cut b) c.run (get_or fs i no_frame) (suc j) later after) (sym q) caller in
          to_body (record {
            base = lower k no_frame ink;
            k = j;
            level_is = q;
            deep = omega (arith, deep, q);
            held = omega (arith, held, q);
            blank = subst (λ (i : ℕ). Blank i (set fs k no_frame)) q below;
            outer = f.outer;
            later = after;
            carries = f.carries;
            near = f.near;
            rests = f.rests;
            callers = callers-set h.records table (cut b) c.run fs j k no_frame (omega (arith, q)) after others;
            calling = record {
              events = calling.events;
              ink_there = calling.ink_there;
              room_there = calling.room_there;
              sorted = calling.sorted;
              stocked = calling.stocked;
              short = calling.short;
              resumes = λ x. calling.resumes x;
              halts = λ x. calling.halts x;
              stops_in = calling.stops_in;
              going = skips calling.going _ f.is;
            };
          }) f.layer_fits
