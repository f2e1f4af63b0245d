-- A call is opened, from a body or from the text: the state that is made of it is under way one level down.
-- Assumes nothing.
use mathlib.Core.Path.{◌≡◌, refl, sym, ap, ◌∙◌, subst}
use mathlib.Core.Bool.{Bool, true, false}
use mathlib.Core.List.{List, [], ◌∷◌, ◌++◌, append_assoc}
use Prim.Native.Nat.{ℕ, zero, suc, ◌+◌, ◌-◌, ◌*◌, ◌^◌, ◌≤◌, ◌<◌}
use native.Mathlib.Omega.{arith}
use lib.IntN.{ℤ}
use lib.ListN.{length, set, length-set}
use lib.Seq.{get_or-set_same}
use Rattle.definition.specs.Words.{Placed, at}
use Rattle.definition.specs.Commands.{Turn}
use Rattle.definition.specs.Table.{Step, Table}
use Rattle.definition.specs.Drawing.{Chain, Event}
use Rattle.turns.specs.Nets.{Carries, Near}
use Rattle.names.specs.Names.{name_of}
use Rattle.pen.proofs.Names.{no_name}
use Rattle.shapes.specs.declared.Ink.{Ink}
use Rattle.shapes.proofs.Painting.{PaintedSoFar, goes_on, skips, so_far}
use Rattle.library.specs.Memory.{words_at, steps_of, table_of, start_at, length_at, body_at}
use Rattle.library.specs.Sound.{Proper, Stocked}
use Rattle.chain.specs.Chain.{open_calls}
use Rattle.chain.proofs.Runs.{kept-below, so_many, none_open}
use Rattle.passing.specs.Passed.{lent_of}
use Rattle.opening.specs.declared.Call.{Call}
use Rattle.stretch.specs.declared.Here.{Here}
use Rattle.stretch.specs.Bodies.{rest_of, Rests, body_story, deeper, Led, CallsOn}
use Rattle.between.specs.declared.Stand.{Stand}
use Rattle.between.specs.Texts.{CallsOut}
use Rattle.machine.specs.declared.Frame.{Frame}
use Rattle.machine.specs.declared.Course.{Course}
use Rattle.machine.specs.declared.State.{State}
use Rattle.machine.specs.States.{no_frame, frame_of, Pushes, cut, onto, Spares}
use Rattle.machine.specs.Underway.{Host, origin_of, course_turns, turns_left, Blank, all_of, Phase, Base, AtText, Calling, Caller, Callers, InBody, Means, MeansBy, Arrives}
use Rattle.machine.proofs.Making.{here_back}
use Rattle.machine.proofs.Stepping.{blank_put, callers-set, callers-run}

-- the room as it is after a stretch
pub phase_on : (writing : Bool) (all : List Event) (h : Host) (room room' : List ℕ) → Spares writing room room' → Phase writing all h room → Phase writing all h room'
unfolding Spares Phase
phase_on true all h room room' s p = p
phase_on false all h room room' s p = s ∙ p

-- the body of a live row, from its start
module _ {rows : List ℕ} {b : List ℤ} {live row : ℕ} (s : Stocked rows b live) (l : row < live) (call : Call) where
  abbrev whole : Here
  whole = record { at = start_at rows row; end = start_at rows row + length_at rows row; layer = 0; net = call.net }

  long : start_at rows row + length_at rows row - start_at rows row ≡ length_at rows row
  long = omega arith

  pub whole-rests : Rests b whole
  whole-rests = record {
    steps = (s.sound row l).steps;
    proper = subst (λ (x : List ℕ). Proper x (s.sound row l).steps) (sym (no_name 0 refl)) (s.sound row l).proper;
    words = ap (words_at b (start_at rows row)) long ∙ (s.sound row l).words;
    low = omega arith;
    within = s.within row l;
  }

  pub whole_is : body_at rows b row ≡ rest_of b whole
  whole_is =
      sym (ap (λ (n : ℕ). steps_of n (name_of 0) (words_at b (start_at rows row) n)) long
      ∙ ap (λ (x : List ℕ). steps_of (length_at rows row) x (words_at b (start_at rows row) (length_at rows row))) (no_name 0 refl))

module _ {c : Course} {rows : List ℕ} {stand : Stand} {on : Here} {call : Call} {row : ℕ} {ink' : Ink} {r : State} (x : Pushes rows c stand on call row ink' r) where
  abbrev c' : Course
  c' = record { records = c.records; writing = c.writing; rounded = c.rounded; earlier = c.earlier; level = c.level + 1; stand = stand; ink = ink'; run = x.run }

  -- up to the level of the caller the same calls are open, and one more after it
  pub same_open : (j : ℕ) → j ≤ c.level → open_calls x.run j ≡ open_calls c.run j
  same_open j l = kept-below j l x.pushed.kept

  -- one level down
  pub opened_arrives : {t : List ℕ} {h : Host} {fs : List Frame} {b : List ℤ} {room' : List ℕ} {turns : ℕ} (base : Base t h (set fs c.level (frame_of call on)) c' rows b room') → length fs ≡ h.records → (l : ℕ) → c.level ≡ l → Led h.records stand.stock.live (open_calls c.run l) (32 - l) call row
      → Blank l fs → (outer : List (Turn ℤ)) (later : List Event) → Carries outer call.net
      → Callers h.records (table_of rows (cut b) stand.stock.live) (cut b) x.run (set fs c.level (frame_of call on)) l later
      → Calling t (lent_of h.lent) h.records (all_of base.passed h) (origin_of c.writing h) rows (cut b) stand
      (body_story h.records (table_of rows (cut b) stand.stock.live) (32 - l - 1) (deeper (open_calls c.run l) call) outer (body_at rows (cut b) row) ++ later) ink' (onto c.writing room')
      → course_turns c' < turns → Arrives t h fs turns r rows b room'
  unfolding MeansBy Means turns_left
  opened_arrives {t} {h} {fs} {b} {room'} {turns} base size l level led blank outer later carries callers calling lt =
      let many = so_many c.run l in
      let lv : l < 32 = go (32 - l) refl in
      let rests = whole-rests calling.stocked led.row_live call in
      subst (λ (s : State). Arrives t h fs turns s rows b room') (sym x.is)
      (record {
        underway = record {
          size = size;
          means = (
            omega (arith, many, led.a_record, level),
            record {
              base = base;
              k = l;
              level_is = omega (arith, level);
              deep = lv;
              held = omega (arith, many, led.a_record);
              blank = subst (λ (j : ℕ). Blank (suc l) (set fs j (frame_of call on))) (sym level) (blank_put l fs (frame_of call on) blank);
              outer = outer;
              later = later;
              carries = carries;
              near = subst (λ (m : ℕ). Near (m * 2 ^ 36) call.net) (let z : 33 - (32 - l) ≡ suc l = omega (arith, lv) in z) led.near;
              rests = rests;
              callers = callers;
              calling = record {
                events = calling.events;
                ink_there = calling.ink_there;
                room_there = calling.room_there;
                sorted = calling.sorted;
                stocked = calling.stocked;
                short = calling.short;
                resumes = λ y. calling.resumes y;
                halts = λ y. calling.halts y;
                stops_in = calling.stops_in;
                going = skips calling.going _ (ap (λ (es : List Event). es ++ later) (same-story lv));
              };
            },
          );
        };
        less = lt;
      })
    where
      go : (m : ℕ) → 32 - l ≡ m → l < 32
      go zero q = absurd (led.a_level q)
      go (suc m) q = omega (arith, q)

      same-story : l < 32 → body_story h.records (table_of rows (cut b) stand.stock.live) (32 - l - 1) (deeper (open_calls c.run l) call) outer (body_at rows (cut b) row)
          ≡ body_story h.records (table_of rows (cut b) stand.stock.live) (32 - suc l) (open_calls x.run (suc l)) outer (rest_of (cut b) (whole calling.stocked led.row_live call))
      same-story lv =
          let e : 32 - l - 1 ≡ 32 - suc l = omega (arith, lv) in
          let d : deeper (open_calls c.run l) call ≡ open_calls x.run (suc l) = sym (subst (λ (j : ℕ). open_calls x.run (suc j) ≡ open_calls c.run j ++ (at call.place call.symbol ∷ [])) level x.pushed.deeper) in
          ap (λ (j : ℕ). body_story h.records (table_of rows (cut b) stand.stock.live) j (deeper (open_calls c.run l) call) outer (body_at rows (cut b) row)) e
          ∙ (ap (λ (o : Chain). body_story h.records (table_of rows (cut b) stand.stock.live) (32 - suc l) o outer (body_at rows (cut b) row)) d
          ∙ ap (λ (ss : List (Placed Step)). body_story h.records (table_of rows (cut b) stand.stock.live) (32 - suc l) (open_calls x.run (suc l)) outer ss) (whole_is calling.stocked led.row_live call))

-- ---- from a body

module _ {t : List ℕ} {h : Host} {fs : List Frame} {c : Course} {here : Here} {rows : List ℕ} {b : List ℤ} {room : List ℕ} (x : InBody t h fs c here rows b room)
    {on : Here} {call : Call} {row : ℕ} {ink' : Ink} {r : State} (pu : Pushes rows c c.stand on call row ink' r) where
  abbrev n : ℕ
  n = h.records

  abbrev bt : Table
  bt = table_of rows (cut b) c.stand.stock.live

  abbrev k : ℕ
  k = x.k

  abbrev chain : Chain
  chain = open_calls c.run (suc k)

  -- what is left of the caller, and then what was left after it
  abbrev after_it : List Event
  after_it = body_story n bt (32 - suc k) chain x.outer (rest_of (cut b) on) ++ x.later

  module _ (room' : List ℕ) (y : CallsOn n rows (cut b) c.stand.stock.live chain (32 - suc k) here c.ink (onto c.writing room) on call row ink' (onto c.writing room')) where
    the_caller : Caller n bt (cut b) pu.run (frame_of call on) (suc k) after_it x.later
    the_caller =
        let back = here_back call on in
        record {
          outer = x.outer;
          carries = subst (λ (e : Here). Carries x.outer e.net) (sym back) (subst (Carries x.outer) (sym y.same_net) x.carries);
          near = subst (λ (e : Here). Near (suc k * 2 ^ 36) e.net) (sym back) (subst (Near (suc k * 2 ^ 36)) (sym y.same_net) x.near);
          rests = subst (Rests (cut b)) (sym back) y.rests;
          layer_fits = pu.fits;
          is =
              ap (λ (o : Chain). body_story n bt (32 - suc k) o x.outer (rest_of (cut b) on) ++ x.later) (sym (same_open pu (suc k) (omega (arith, x.level_is))))
              ∙ ap (λ (e : Here). body_story n bt (32 - suc k) (open_calls pu.run (suc k)) x.outer (rest_of (cut b) e) ++ x.later) (sym back);
        }

    its_callers : Callers n bt (cut b) pu.run (set fs c.level (frame_of call on)) (suc k) after_it
    unfolding Callers
    its_callers =
        let f = frame_of call on in
        subst (λ (l : ℕ). Callers n bt (cut b) pu.run (set fs l f) (suc k) after_it) (sym x.level_is) (
          x.later,
          subst (λ (g : Frame). Caller n bt (cut b) pu.run g (suc k) after_it x.later) (sym (get_or-set_same fs (suc k) f no_frame (fits_in y.led))) the_caller,
          callers-set n bt (cut b) pu.run fs k (suc k) f (omega arith) x.later (callers-run n bt (cut b) c.run fs pu.run k (λ j l. same_open pu j (omega (arith, x.level_is, l))) x.later x.callers),
        )
      where
        fits_in : Led n c.stand.stock.live chain (32 - suc k) call row → suc k < length fs
        fits_in led = omega (arith, led.a_record, so_many c.run (suc k), x.base.size)

    pub body-pushed : Spares c.writing room room' → length room' ≡ length room → c.ink.counts.calls < ink'.counts.calls → Arrives t h fs (course_turns c) r rows b room'
    body-pushed spares same more =
        let o = y.opens x.outer x.carries in
        let inner = body_story n bt (32 - suc k - 1) (deeper chain call) (o.own ++ x.outer) (body_at rows (cut b) row) in
        let rest = body_story n bt (32 - suc k) chain x.outer (rest_of (cut b) on) in
        let g = x.calling in
        let going : PaintedSoFar g.events g.ink_there g.room_there (inner ++ after_it) ink' (onto c.writing room') =
        goes_on g.going o.going.done _
        (ap (λ (es : List Event). es ++ x.later) (sym o.going.parts) ∙ (append_assoc o.going.done (inner ++ rest) x.later ∙ ap (λ (es : List Event). o.going.done ++ es) (append_assoc inner rest x.later)))
        o.going.drawn in
        let most = (so_far going).calls_most in
        opened_arrives pu
        (record {
          passed = x.base.passed;
          rounded_is = x.base.rounded_is;
          records_is = x.base.records_is;
          earlier_is = x.base.earlier_is;
          size = length-set fs c.level (frame_of call on) ∙ x.base.size;
          lent_is = x.base.lent_is;
          run_size = pu.same ∙ x.base.run_size;
          rows_size = x.base.rows_size;
          room_size = same ∙ x.base.room_size;
          phase = phase_on c.writing _ _ _ _ spares x.base.phase;
        })
        x.base.size (suc k) x.level_is y.led x.blank (o.own ++ x.outer) after_it o.carries its_callers
        (record {
          events = g.events;
          ink_there = g.ink_there;
          room_there = g.room_there;
          sorted = g.sorted;
          stocked = g.stocked;
          short = g.short;
          resumes = λ z. g.resumes z;
          halts = λ z. g.halts z;
          stops_in = g.stops_in;
          going = going;
        })
        (omega (arith, more, most))

-- ---- from the text

module _ {t : List ℕ} {h : Host} {fs : List Frame} {c : Course} {rows rows' : List ℕ} {b : List ℤ} (b' : List ℤ) {room : List ℕ} (room' : List ℕ) (x : AtText t h fs c rows b room)
    {stand : Stand} {on : Here} {call : Call} {row : ℕ} {ink' : Ink} {r : State} (pu : Pushes rows' c stand on call row ink' r)
    (y : CallsOut t (lent_of h.lent) h.records (all_of x.base.passed h) (origin_of c.writing h) rows' (cut b') stand call row ink' (onto c.writing room')) where
  pub text-pushed : length rows' ≡ length rows → length b' ≡ length b → Spares c.writing room room' → length room' ≡ length room → c.ink.counts.calls < ink'.counts.calls
      → Arrives t h fs (course_turns c) r rows' b' room'
  unfolding Callers
  text-pushed same_rows same_words spares same more =
      let most = (so_far y.opens.going).calls_most in
      opened_arrives pu
      (record {
        passed = x.base.passed;
        rounded_is = x.base.rounded_is;
        records_is = x.base.records_is;
        earlier_is = x.base.earlier_is;
        size = length-set fs c.level (frame_of call on) ∙ x.base.size;
        lent_is = same_words ∙ x.base.lent_is;
        run_size = pu.same ∙ x.base.run_size;
        rows_size = same_rows ∙ x.base.rows_size;
        room_size = same ∙ x.base.room_size;
        phase = phase_on c.writing _ _ _ _ spares x.base.phase;
      })
      x.base.size 0 x.outside (subst (λ (o : Chain). Led h.records stand.stock.live o 32 call row) (sym (none_open c.run)) y.led) x.blank (y.opens.own ++ []) [] y.opens.carries refl
      (record {
        events = y.events;
        ink_there = y.ink_there;
        room_there = y.room_there;
        sorted = y.sorted;
        stocked = y.stocked;
        short = y.short;
        resumes = λ z. y.resumes z;
        halts = λ z. y.halts z;
        stops_in = y.stops_in;
        going =
            subst (λ (o : Chain). PaintedSoFar y.events y.ink_there y.room_there (body_story h.records (table_of rows' (cut b') stand.stock.live) 31 (deeper o call) (y.opens.own ++ []) (body_at rows' (cut b') row) ++ []) ink' (onto c.writing room'))
            (sym (none_open c.run)) y.opens.going;
      })
      (omega (arith, more, most))
