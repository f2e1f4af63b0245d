-- One turn: what a state means is what the function of its kind asks, at the records with the state's own put at its slot, and what that function comes to is nearer
-- to the end than the state was. For each kind `..-turns` gives the contract, and `..-asks` what is asked, where anything is.
-- Assumes nothing.
use mathlib.Core.Path.{◌≡◌, sym, ap, ◌∙◌, subst}
use mathlib.Core.Bool.{Bool, true}
use mathlib.Core.List.{List}
use Prim.Native.Nat.{ℕ, ◌+◌, ◌≤◌, ◌<◌}
use native.Mathlib.Omega.{arith}
use lib.IntN.{ℤ}
use lib.ListN.{get_or, set}
use Rattle.machine.specs.declared.Frame.{Frame}
use Rattle.machine.specs.declared.Kind.{Kind}
use Rattle.machine.specs.declared.Kind.TheVariants.{Clear, Push, Pop, Unwind}
use Rattle.machine.specs.declared.State.{State}
use Rattle.machine.specs.States.{no_frame, Unwinds}
use Rattle.machine.specs.Underway.{Host, kind_turns, going_turns, turns_left, Cleared, InBody, Back, Beginning, Refusing, Means, MeansBy, UnderwayFor, Arrives, BodyOn, BackOn, ClearOn, Turnable, TurnsTo, Turns}
use Rattle.machine.proofs.Stepping.{unwinds_arrive}

-- ---- of any kind

module _ {t : List ℕ} {host : Host} {s : State} {fs : List Frame} {rows : List ℕ} {b : List ℤ} {room : List ℕ} (on : s.going ≡ true)
    (u : UnderwayFor t host s fs rows b room) where
  -- the records once the state's own is at its slot
  abbrev there : List Frame
  there = set fs s.slot s.put

  meant : (s.slot < host.records) × Means s.kind t host there s (get_or fs s.slot no_frame) rows b room
  unfolding MeansBy
  meant = subst (λ (g : Bool). MeansBy g t host fs s rows b room) on u.means

  meant_as : {k : Kind} → s.kind ≡ k → Means k t host there s (get_or fs s.slot no_frame) rows b room
  meant_as e = subst (λ (k : Kind). Means k t host there s (get_or fs s.slot no_frame) rows b room) e meant.1

  left_as : {k : Kind} → s.kind ≡ k → turns_left s ≡ kind_turns k s
  unfolding turns_left
  left_as e = ap (λ (g : Bool). going_turns g s) on ∙ ap (λ (k : Kind). kind_turns k s) e

  nearer : {k : Kind} → s.kind ≡ k → {turns : ℕ} → turns ≤ kind_turns k s → {r : State} {rows' : List ℕ} {b' : List ℤ} {room' : List ℕ} → Arrives t host there turns r rows' b' room'
      → TurnsTo t host s fs r rows' b' room'
  nearer e l a = record { underway = a.underway; less = let z = left_as e in omega (arith, a.less, l, z) }

  -- ---- what each kind means

  begun : s.kind ≡ Clear → Beginning host there s.course.records s.course.earlier rows b room × Cleared (s.slot + 1) there
  unfolding Means
  begun e = meant_as e

  slot_below : s.kind ≡ Clear → s.slot < s.course.records
  slot_below e = let below = meant.0 in let same = (begun e).0.records_is in omega (arith, below, same)

  within : s.kind ≡ Push → InBody t host there s.course s.here rows b room
  unfolding Means
  within e = meant_as e

  come_back : s.kind ≡ Pop → {old : Frame} → old ≡ get_or fs s.slot no_frame → Back t host there s.course old rows b room
  unfolding Means
  come_back e q = subst (λ (f : Frame). Back t host there s.course f rows b room) (sym q) (meant_as e)

  refusing : s.kind ≡ Unwind → Refusing t host there s b room
  unfolding Means
  refusing e = meant_as e

-- ---- what the function of the kind asks

module _ {t : List ℕ} {s : State} {old : Frame} {rows : List ℕ} {b : List ℤ} {room : List ℕ} (x : Turnable t s old rows b room) where
  pub clear_slot : s.kind ≡ Clear → s.slot < s.course.records
  clear_slot e = slot_below x.going x.underway e

  pub clear_asks : s.kind ≡ Clear → (h : Host) × ((fs : List Frame) × (Beginning h fs s.course.records s.course.earlier rows b room × Cleared (s.slot + 1) fs × (s.slot + 1 ≤ s.course.records)))
  clear_asks e =
      let m = begun x.going x.underway e in
      let l = clear_slot e in
      (_, (_, (m.0, m.1, omega (arith, l))))

  pub push_asks : s.kind ≡ Push → (h : Host) × ((fs : List Frame) × InBody t h fs s.course s.here rows b room)
  push_asks e = (_, (_, within x.going x.underway e))

  pub pop_asks : s.kind ≡ Pop → (h : Host) × ((fs : List Frame) × Back t h fs s.course old rows b room)
  pop_asks e = (_, (_, come_back x.going x.underway e x.is_old))

-- ---- and what comes of it

module _ {t : List ℕ} {s : State} {old : Frame} {rows : List ℕ} {b : List ℤ} {room : List ℕ} {r : State} {b' : List ℤ} where
  pub clear-turns : {rows' room' : List ℕ} → s.kind ≡ Clear → ClearOn t s.course.records s.course.earlier (s.slot + 1) rows b room r rows' b' room' → Turns t s old rows b room r rows' b' room'
  clear-turns e x h fs on q u =
      let m = begun on u e in
      let l = slot_below on u e in
      nearer on u e (omega (arith, l)) (x _ _ m.0 m.1 (omega (arith, l)))

  pub push_turns : {room' : List ℕ} → s.kind ≡ Push → BodyOn t s.course s.here rows b room r b' room' → Turns t s old rows b room r rows b' room'
  push_turns e x h fs on q u = nearer on u e (omega arith) (x _ _ (within on u e))

  pub pop_turns : {rows' room' : List ℕ} → s.kind ≡ Pop → BackOn t s.course old rows b room r rows' b' room' → Turns t s old rows b room r rows' b' room'
  pop_turns e x h fs on q u = nearer on u e (omega arith) (x _ _ (come_back on u e q))

  pub unwind_turns : s.kind ≡ Unwind → Unwinds s.answer s.course s.here b r b' → Turns t s old rows b room r rows b' room
  unwind_turns e x h fs on q u =
      let m = refusing on u e in
      nearer on u e (omega arith) (unwinds_arrive {turns = s.course.level + 1} b m.size {here = s.here} m.came_out m.held m.blank m.lent_is x (omega arith))
