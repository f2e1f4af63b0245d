-- How two runs tell why a shape is here: what the reader refuses is told so; of a text that is drawn through, how the machine came out, with so many shapes counted before, is the shape with
-- the count or that there is none.
--     refused-first, passes_so      what the first run says.        never_counted       no run is needed.        found_or_not      what the second run says
-- Assumes nothing.
use mathlib.Core.Path.{◌≡◌, refl, sym, ap, ◌∙◌, subst}
use mathlib.Core.List.{List, []}
use mathlib.Core.Logic.{◌⊎◌, inl, inr}
use mathlib.Core.Option.{Option, none, some}
use Prim.Native.Nat.{ℕ, suc, ◌+◌, ◌-◌, ◌≤◌, ◌<◌}
use native.Mathlib.Omega.{arith}
use borrow.Author.Tests.{eq-eqb, ne_eqb}
use lib.IntN.{ℤ, pos}
use lib.ListN.{length, replicate, length-replicate}
use Rattle.grammar.specs.Notation.{Letter}
use Rattle.grammar.specs.Viable.{Judged}
use Rattle.grammar.proofs.Markings.{one_marking}
use Rattle.definition.specs.declared.Answer.{Answer}
use Rattle.definition.specs.declared.Refusal.{Refusal}
use Rattle.definition.specs.declared.Why.{Why}
use Rattle.definition.specs.Limits.{most_shapes, deepest}
use Rattle.definition.specs.Words.{Point, point}
use Rattle.definition.specs.declared.Rule.TheVariants.{FlatFileTooLong, TooManyShapes, NoSuchShape}
use Rattle.definition.specs.Rules.{number_of, refuse}
use Rattle.definition.specs.Commands.{commands}
use Rattle.definition.specs.Faults.{first_fault}
use Rattle.definition.specs.Rounded.{rounded}
use Rattle.definition.specs.Drawing.{Chain, Drawn}
use Rattle.definition.specs.Counts.{counts, stopped, ending}
use Rattle.definition.specs.Answer.{Outcome, given_back, success, failure, Promised}
use Rattle.definition.specs.Records.{stacked_drawing}
use Rattle.definition.specs.Why.{Reason, because, refuses, WhyAnswers, why_told, PromisedWhy}
use Rattle.laws.proofs.Rules.FaultRules.{no_first-fault}
use Rattle.reasons.specs.Stops.{stop_of}
use Rattle.reasons.proofs.Told.{Through, FoundThere, through-when, refused-when, found_there, none_there, zero-told, beyond-told}
use Rattle.reasons.proofs.Matrix.{tells-net}
use Rattle.turns.specs.declared.Net.{Net}
use Rattle.turns.specs.declared.Pair.{Pair}
use Rattle.turns.specs.Nets.{as_point, turned, Carries}
use Rattle.reading.specs.Refusal.{fault_said, by_verdict}
use Rattle.reader.specs.Screened.{Screened, over, within}
use Rattle.shapes.specs.declared.Ink.{Ink}
use Rattle.shapes.specs.Painting.{Goes, Answered, Painted}
use Rattle.passing.specs.Passed.{Passed}
use Rattle.machine.specs.declared.State.{State}
use Rattle.machine.specs.States.{no_frame, started}
use Rattle.machine.specs.Underway.{Host, lends_from, all_of, NetThere, CameOut, refused_early, stopped_there, too_long_for, written_out, UnderwayFor, Over, BeginsAt}
use Rattle.machine.proofs.Settling.{all_is}
use Rattle.machine.proofs.Underway.{comes_out}
use Rattle.local.specs.Within.{no_records, Begun, Ended, Runs}
use Rattle.why.specs.Telling.{why_of, found_by, missing_in, told_of, Zeroed}
use Rattle.std.specs.Prelude.{Err, Ok, Result}

-- ---- the first run

-- a refusal is told as it is
refused_as : (t : List ℕ) (why : Refusal) (chain : Chain) → why_of (failure t why chain) ≡ why_told t (refuses why chain)
unfolding failure why_told
refused_as t why chain = refl

module _ {t : List ℕ} {words : List ℤ} {room : List ℕ} {r : Answer} {words' : List ℤ} {left : List ℕ} (p : Promised t words room r words' left) where
  pub refused-first : (count : ℕ) → (r.number ≡ 0 → ⊥) → (r.number ≡ 18 → ⊥) → {y : Why} → y ≡ why_of r → PromisedWhy t words count y words'
  unfolding given_back
  refused-first count not-0 not-18 e =
      let same = ap (λ (a : Answer). a.number) p.given in
      let so = refused-when count p.outcome p.answers (λ z. not-0 (same ∙ z)) (λ z. not-18 (same ∙ z)) in
      record {
        reason = refuses so.why so.chain;
        answers = so.answers;
        given = e ∙ ap why_of p.given ∙ ap (λ (o : Outcome). why_of (given_back t o)) so.is ∙ refused_as t so.why so.chain;
        cleared = p.cleared;
      }

  passes : (r.number ≡ 0) ⊎ (r.number ≡ 18) → Through t (length words') × Zeroed words'
  passes e =
      let same = ap (λ (a : Answer). a.number) p.given in
      let long : length words ≡ length words' = sym (ap length p.cleared ∙ length-replicate (length words) (pos 0)) in
      (subst (Through t) long (through-when p.outcome p.answers (told same e)), p.cleared ∙ ap (λ (n : ℕ). replicate n (pos 0)) long)
    where
      told : r.number ≡ (given_back t p.outcome).number → (r.number ≡ 0) ⊎ (r.number ≡ 18) → ((given_back t p.outcome).number ≡ 0) ⊎ ((given_back t p.outcome).number ≡ number_of FlatFileTooLong)
      told same (inl z) = inl (sym same ∙ z)
      told same (inr z) = inr (sym same ∙ z)

  -- with room, or without
  pub passes_so : {n : ℕ} → n ≡ 18 → (r.number ≡ 0) ⊎ ((r.number ≡ 0 → ⊥) × (r.number ≡ n)) → Through t (length words') × Zeroed words'
  passes_so e (inl z) = passes (inl z)
  passes_so e (inr z) = passes (inr (z.1 ∙ e))

  -- what is promised of the words as the first run left them is promised of those that were lent
  pub on_the_words : {count : ℕ} {y : Why} {words'' : List ℤ} → PromisedWhy t words' count y words'' → PromisedWhy t words count y words''
  on_the_words {count} q =
      let long : length words' ≡ length words = ap length p.cleared ∙ length-replicate (length words) (pos 0) in
      record {
        reason = q.reason;
        answers = subst (λ (n : ℕ). WhyAnswers t n count q.reason) long q.answers;
        given = q.given;
        cleared = q.cleared ∙ ap (λ (n : ℕ). replicate n (pos 0)) long;
      }

-- ---- no second run

module _ {t : List ℕ} {words : List ℤ} (f : Through t (length words)) (z : Zeroed words) {y : Why} (e : y ≡ missing_in t) where
  missing_at-0 : {count : ℕ} → count ≡ 0 → PromisedWhy t words count y words
  missing_at-0 {count} q = record { reason = refuses (refuse NoSuchShape 0) []; answers = subst (λ (n : ℕ). WhyAnswers t (length words) n (refuses (refuse NoSuchShape 0) [])) (sym q) (zero-told f); given = e; cleared = z }

  missing_beyond : {count : ℕ} → most_shapes < count → PromisedWhy t words count y words
  missing_beyond {count} h = record { reason = refuses (refuse NoSuchShape 0) []; answers = beyond-told count f h; given = e; cleared = z }

  pub never_counted : {count : ℕ} → (count ≡ 0) ⊎ ((count ≡ 0 → ⊥) × (most_shapes < count)) → PromisedWhy t words count y words
  never_counted (inl q) = missing_at-0 q
  never_counted (inr h) = missing_beyond h.1

-- as code makes it
pub missing_made : (t : List ℕ) {a : Answer} {y : Why} → a ≡ failure t (refuse NoSuchShape 0) [] → y ≡ why_of a → y ≡ missing_in t
missing_made t e q = q ∙ ap why_of e ∙ refused_as t (refuse NoSuchShape 0) []

-- ---- the second run

never_clear : {k : ℕ} {why : Refusal} → Ok k ≡ Err why → ⊥
never_clear e = let z : ◌≡◌ {A = ℕ} 0 1 = cc in omega (arith, z)

-- a text that is drawn through breaks none of 1 to 9
no_fault : {t : List ℕ} {words : ℕ} {d : Result ℕ Refusal} {why : Refusal} → Through t words → Screened t d → d ≡ Err why → ⊥
no_fault f (over h) is = let within-it = f.passed.within in omega (arith, h, within-it)
no_fault {t} {words} {d} {why} f (within h r) is = by_verdict_lem r.verdict r.judged (subst (by_verdict t r.verdict) is r.is)
  where
    by_fault : (x : Option Refusal) (k : ℕ) → x ≡ none → Err why ≡ fault_said x k → ⊥
    by_fault none k q e = never_clear (sym e)
    by_fault (some y) k q e = let z : ◌≡◌ {A = ℕ} 0 1 = cc in omega (arith, z)

    by_verdict_lem : (v : Result Unit ℕ) → Judged t v → by_verdict t v (Err why) → ⊥
    by_verdict_lem (Ok _) g e =
        by_fault (first_fault (commands 0 g.0)) (rounded (commands 0 g.0))
        (ap (λ (m : List Letter). first_fault (commands 0 m)) (one_marking g.1 f.passed.marked) ∙ (no_first-fault f.passed.marked).1 f.passed.unbroken) (e g.0 g.1)
    by_verdict_lem (Err i) g e = g.0 (f.roles, f.passed.marked)

-- what is told of the shape is what stands at 17
found_as : (t : List ℕ) (d : Drawn) (n : Net) → Carries d.net n → found_by (failure t (refuse TooManyShapes d.place) d.chain) n ≡ why_told t (because d)
unfolding failure why_told
found_as t d n h =
    let tells = tells-net h in
    λ i. record {
      number = 0;
      place = 0;
      line = 0;
      column = 0;
      opened = length d.chain;
      chain = (found_by (failure t (refuse TooManyShapes d.place) d.chain) n).chain;
      shape = d.place;
      a = (sym tells.first_column i).x;
      b = (sym tells.second_column i).x;
      c = (sym tells.first_column i).y;
      d = (sym tells.second_column i).y;
      tx = (sym tells.translation i).x;
      ty = (sym tells.translation i).y;
    }

-- as code makes it, from where the directions along x and along y go
pub found_made : (r : Answer) (n : Net) (east north : Pair) {a b c d x y : ℤ} → as_point east ≡ turned n (point (pos 1) (pos 0)) → as_point north ≡ turned n (point (pos 0) (pos 1))
    → a ≡ east.x → b ≡ north.x → c ≡ east.y → d ≡ north.y → x ≡ n.tx → y ≡ n.ty
    → record { number = 0; place = 0; line = 0; column = 0; opened = r.opened; chain = r.chain; shape = r.place; a = a; b = b; c = c; d = d; tx = x; ty = y } ≡ found_by r n
found_made r n east north e f ka kb kc kd kx ky =
    λ i. record {
      number = 0;
      place = 0;
      line = 0;
      column = 0;
      opened = r.opened;
      chain = r.chain;
      shape = r.place;
      a = (ka ∙ ap (λ (p : Point ℤ). p.x) e) i;
      b = (kb ∙ ap (λ (p : Point ℤ). p.x) f) i;
      c = (kc ∙ ap (λ (p : Point ℤ). p.y) e) i;
      d = (kd ∙ ap (λ (p : Point ℤ). p.y) f) i;
      tx = kx i;
      ty = ky i;
    }

pub record ToldWhy (t : List ℕ) (words count : ℕ) (y : Why) : Type 0 where
  pub reason : Reason
  pub answers : WhyAnswers t words count reason
  pub given : y ≡ why_told t reason

module _ {t : List ℕ} (h : Host) (f : Through t h.lent) (n : ℕ) (to_go : h.earlier + n ≡ most_shapes) (many : deepest ≤ h.records) where
  -- it is the same drawing
  drawn-same : (p : Passed t) → all_of p h ≡ stacked_drawing h.lent h.records (commands 0 f.roles)
  drawn-same p = all_is p h ∙ ap (λ (m : List Letter). stacked_drawing h.lent h.records (commands 0 m)) (one_marking p.marked f.passed.marked)

  told_missing : (p : Passed t) (a : Answer) (net : Net) {ink : Ink} {from to : List ℕ} → Painted (started h.earlier) (all_of p h) from [] (Ok ink) to → (a.number ≡ 17 → ⊥)
      → {y : Why} → y ≡ told_of t a net → ToldWhy t h.lent (suc n) y
  unfolding Answered
  told_missing p a net {ink} x not e =
      let g : Goes (started h.earlier) (all_of p h) ink = x.answer in
      record {
        reason = refuses (refuse NoSuchShape 0) [];
        answers = none_there f n h.earlier h.records to_go many (ap (ending (counts 0 h.earlier 0)) (sym (drawn-same p)) ∙ g.ends);
        given = e ∙ rw (ne_eqb a.number 17 not);
      }

  told_found : (p : Passed t) {why : Refusal} {chain : Chain} {net : Net} → ending (counts 0 h.earlier 0) (all_of p h) ≡ stopped why chain → NetThere p h net → {a : Answer} → a ≡ failure t why chain
      → {y : Why} → y ≡ told_of t a net → ToldWhy t h.lent (suc n) y
  unfolding failure
  told_found p {why} {chain} {net} x there {a} is {y} e =
      let found : FoundThere t h.lent n (counts 0 h.earlier 0) (stacked_drawing h.lent h.records (commands 0 f.roles)) why chain =
      found_there f n h.earlier h.records to_go many (ap (ending (counts 0 h.earlier 0)) (sym (drawn-same p)) ∙ x) in
      let d = found.shape in
      let carries : Carries d.net net = there d (ap (stop_of (counts 0 h.earlier 0)) (drawn-same p) ∙ found.stops_at) in
      let made : a ≡ failure t (refuse TooManyShapes d.place) d.chain = is ∙ (λ i. failure t (found.refused_so i) (found.chain_is i)) in
      let number : a.number ≡ 17 = ap (λ (z : Answer). z.number) made in
      record {
        reason = because d;
        answers = found.answers;
        given = e ∙ rw (eq-eqb a.number 17 number) (ap (λ (z : Answer). found_by z net) made ∙ found_as t d net carries);
      }

  told_by : {a : Answer} {net : Net} {room : List ℕ} → CameOut t h a net room → {y : Why} → y ≡ told_of t a net → ToldWhy t h.lent (suc n) y
  unfolding failure success
  told_by (refused_early s is e k) q = absurd (no_fault f s is)
  told_by (stopped_there p x there e k) q = told_found p x there e q
  told_by {a} {net} (too_long_for p x l e k) q = told_missing p a net x (λ z. let eighteen : a.number ≡ 18 = ap (λ (y : Answer). y.number) e in omega (arith, z, eighteen)) q
  told_by {a} {net} (written_out p x i l e r s) q = told_missing p a net x (λ z. let none-refused : a.number ≡ 0 = ap (λ (y : Answer). y.number) s in omega (arith, z, none-refused)) q

module _ {t : List ℕ} {lent : ℕ} {room : List ℕ} {earlier : ℕ} {s : State} {rows' : List ℕ} {b' : List ℤ} {room' : List ℕ} (few : earlier ≤ most_shapes)
    (b : BeginsAt t lent room 64 earlier s rows' b' room') where
  first : UnderwayFor t (lends_from lent room 64 earlier few) s (no_records 64) rows' b' room'
  first = b few (no_records 64) (length-replicate 64 no_frame)

  pub run-begun : Begun t s 64 rows' b' room'
  run-begun = record { h = lends_from lent room 64 earlier few; underway = first }

pub found_or_not : {t : List ℕ} {words : List ℤ} {room : List ℕ} {count earlier : ℕ} {s : State} {rows' : List ℕ} {b' : List ℤ} {room' : List ℕ} (few : earlier ≤ most_shapes)
    → BeginsAt t (length words) room 64 earlier s rows' b' room' → Through t (length words) → (count ≡ 0 → ⊥) → count ≤ most_shapes → earlier ≡ most_shapes - (count - 1)
    → {r : State} {b'' : List ℤ} {room'' : List ℕ} → Runs t s 64 rows' b' room' r b'' room'' → {y : Why} → y ≡ told_of t r.answer r.here.net → PromisedWhy t words count y b''
found_or_not {t} {words} {room} {count} {earlier} few b f some-count low is {r} {b''} {room''} runs {y} e =
    let ended : Ended t (lends_from (length words) room 64 earlier few) r b'' room'' = runs (lends_from (length words) room 64 earlier few) (first few b) in
    let m : Over t (lends_from (length words) room 64 earlier few) ended.left r.answer r.here.net b'' room'' = comes_out ended.underway ended.is_over in
    let one_more : suc (count - 1) ≡ count = omega (arith, some-count) in
    let told = told_by (lends_from (length words) room 64 earlier few) f (count - 1) (omega (arith, is, low, some-count)) (omega arith) m.came_out e in
    record {
      reason = told.reason;
      answers = subst (λ (n : ℕ). WhyAnswers t (length words) n told.reason) one_more told.answers;
      given = told.given;
      cleared = m.cleared;
    }
