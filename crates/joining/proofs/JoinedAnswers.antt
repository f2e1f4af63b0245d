-- Joining, carried to what readers give back: of two texts and of the joined one, by their contract `Promised` alone, so that it holds of every reader that keeps it.
-- Assumes nothing.
use mathlib.Core.Path.{◌≡◌, refl, sym, ap, ap₂, ◌∙◌, subst}
use mathlib.Core.List.{List, [], ◌++◌, map}
use Prim.Native.Nat.{ℕ, ◌+◌, ◌≤◌}
use native.Mathlib.Omega.{arith}
use lib.IntN.{ℤ}
use lib.ListN.{length, take, drop}
use lib.Seq.{take_at, drop-append_seam}
use Rattle.definition.specs.declared.Answer.{Answer}
use Rattle.definition.specs.Limits.{most_bytes, most_calls, most_shapes}
use Rattle.definition.specs.Words.{Placed}
use Rattle.definition.specs.Commands.{Command}
use Rattle.definition.specs.Drawing.{Drawn, Event}
use Rattle.definition.specs.Counts.{Counts, shapes_of}
use Rattle.definition.specs.Flat.{flat}
use Rattle.definition.specs.Answer.{Outcome, accepted, rejected, Answers, Promised}
use Rattle.definition.proofs.Right.{unique}
use Rattle.laws.proofs.Demands.Demand1.{refusal-holds, SuccessHolds, success-holds}
use Rattle.joining.specs.Joined.{joined, second_start, further_on, added, WithinLimits, Enough, Joins}
use Rattle.joining.proofs.Joining.{joining, joining_exactly, flat_at_most}

unfoldable pub drawn_of : Outcome → List Drawn  -- the shapes that are drawn: none where the text is refused
drawn_of (accepted cs c es) = shapes_of es
drawn_of (rejected r chain) = []

abbrev pub list_of : {t : List ℕ} {words words' : List ℤ} {room left : List ℕ} {r : Answer} → Promised t words room r words' left → List Drawn
list_of h = drawn_of h.outcome

-- the flat file is the first bytes of the room that is left, and the rest is as it was
file_of : {room left : List ℕ} {r : Answer} {cs : List (Placed Command)} {c : Counts} {f : List ℕ} → SuccessHolds room r left cs c f → take r.length left ≡ f
file_of {room} {left} {r} {f = f} k = ap (take r.length) k.room-holds ∙ take_at f (drop (length f) room) r.length (sym k.length_is)

rest_of : {room left : List ℕ} {r : Answer} {cs : List (Placed Command)} {c : Counts} {f : List ℕ} → SuccessHolds room r left cs c f → drop r.length left ≡ drop r.length room
rest_of {room} {left} {r} {f = f} k =
    ap₂ {C = List ℕ} (λ (n : ℕ) (x : List ℕ). drop n x) k.length_is k.room-holds
    ∙ (drop-append_seam f (drop (length f) room) ∙ ap (λ (n : ℕ). drop n room) (sym k.length_is))

-- an answer with number 0: what it is of, and what it holds
pub record Accepts {t : List ℕ} {words words' : List ℤ} {room left : List ℕ} {r : Answer} (h : Promised t words room r words' left) : Type 0 where
  pub its_commands : List (Placed Command)
  pub its_counts : Counts
  pub its_events : List Event
  pub is : h.outcome ≡ accepted its_commands its_counts its_events
  pub answers : Answers t (length words) (length room) (accepted its_commands its_counts its_events)
  pub holds : SuccessHolds room r left its_commands its_counts (flat (shapes_of its_events))
  pub list_is : list_of h ≡ shapes_of its_events
  pub file_is : take r.length left ≡ flat (list_of h)

module _ {t : List ℕ} {words words' : List ℤ} {room left : List ℕ} {r : Answer} (h : Promised t words room r words' left) where
  accepts_so : {cs : List (Placed Command)} {c : Counts} {es : List Event} → h.outcome ≡ accepted cs c es → Accepts h
  unfolding drawn_of
  accepts_so {cs} {c} {es} e =
      let k = success-holds h e in
      record {
        its_commands = cs;
        its_counts = c;
        its_events = es;
        is = e;
        answers = subst (Answers t (length words) (length room)) e h.answers;
        holds = k;
        list_is = ap drawn_of e;
        file_is = file_of k ∙ ap (λ (o : Outcome). flat (drawn_of o)) (sym e);
      }

  pub accepts : r.number ≡ 0 → Accepts h
  accepts e = go h.outcome refl
    where
      go : (o : Outcome) → h.outcome ≡ o → Accepts h
      go (accepted cs c es) is = accepts_so is
      go (rejected by chain) is = let k = refusal-holds h is in absurd (omega (arith, e, k.0.number, k.1.first-number))

-- the answers of two texts allow their joined text in so much room: the totals of calls and shapes and the lengths of the joined text and of its flat file are within the limits,
-- and the room holds the flat file
pub record Allow (first second : List ℕ) (room : ℕ) (r₁ r₂ : Answer) (list₁ list₂ : List Drawn) : Type 0 where
  pub calls : r₁.calls + r₂.calls ≤ most_calls
  pub shapes : r₁.shapes + r₂.shapes ≤ most_shapes
  pub text_length : length (joined first second) ≤ most_bytes
  pub flat_length_lem : length (flat (list₁ ++ list₂)) ≤ most_bytes
  pub room-length : length (flat (list₁ ++ list₂)) ≤ room

-- what the answer of the joined text then holds, and what it leaves in the room
pub record AnswersJoined (first : List ℕ) (r₁ r₂ : Answer) (list₁ list₂ : List Drawn) (room : List ℕ) (r : Answer) (left : List ℕ) (list : List Drawn) : Type 0 where
  pub no_number : r.number ≡ 0
  pub no_place : r.place ≡ 0
  pub calls : r.calls ≡ r₁.calls + r₂.calls
  pub shapes : r.shapes ≡ r₁.shapes + r₂.shapes
  pub redefinitions : r.redefinitions ≡ r₁.redefinitions + r₂.redefinitions
  pub rounded-both : r.rounded ≡ r₁.rounded + r₂.rounded
  pub draws : list ≡ list₁ ++ map (further_on (second_start first)) list₂
  pub length_is : r.length ≡ length (flat (list₁ ++ list₂))
  pub flat_file_lem : take r.length left ≡ flat (list₁ ++ list₂)
  pub rest-kept : drop r.length left ≡ drop r.length room

-- ---- two texts and the joined one

module _ {first second : List ℕ} {lent₁ lent₁' lent₂ lent₂' : List ℤ} {room₁ left₁ room₂ left₂ : List ℕ} {r₁ r₂ : Answer}
    (one : Promised first lent₁ room₁ r₁ lent₁' left₁) (two : Promised second lent₂ room₂ r₂ lent₂' left₂) (e₁ : r₁.number ≡ 0) (e₂ : r₂.number ≡ 0) where
  x : Accepts one
  x = accepts one e₁

  y : Accepts two
  y = accepts two e₂

  lists : shapes_of x.its_events ++ shapes_of y.its_events ≡ list_of one ++ list_of two
  lists = sym (ap₂ {C = List Drawn} (λ (a b : List Drawn). a ++ b) x.list_is y.list_is)

  -- each list is what its flat file says
  pub file_first : take r₁.length left₁ ≡ flat (list_of one)
  file_first = x.file_is

  pub file_second : take r₂.length left₂ ≡ flat (list_of two)
  file_second = y.file_is

  -- it is enough for the flat file that the lengths told of the two add up to two bytes more
  pub lengths_allow : (n : ℕ) → r₁.length + r₂.length ≤ n + 2 → length (flat (list_of one ++ list_of two)) ≤ n
  lengths_allow n h =
      omega (arith, h, flat_at_most x.answers y.answers, ap (λ (ds : List Drawn). length (flat ds)) lists, x.holds.length_is, y.holds.length_is)

  module _ {lent lent' : List ℤ} {room left : List ℕ} {r : Answer} (both : Promised (joined first second) lent room r lent' left) where
    pub answers-joined : Allow first second (length room) r₁ r₂ (list_of one) (list_of two) → Enough first second (length lent₁) (length lent₂) (length lent)
        → AnswersJoined first r₁ r₂ (list_of one) (list_of two) room r left (list_of both)
    answers-joined allow enough = record {
      no_number = k.no_number;
      no_place = k.no_place;
      calls = k.calls_are ∙ sym (ap₂ {C = ℕ} (λ (m n : ℕ). m + n) x.holds.calls_are y.holds.calls_are);
      shapes = k.shapes_are ∙ sym (ap₂ {C = ℕ} (λ (m n : ℕ). m + n) x.holds.shapes_are y.holds.shapes_are);
      redefinitions = k.redefinitions_are ∙ sym (ap₂ {C = ℕ} (λ (m n : ℕ). m + n) x.holds.redefinitions_are y.holds.redefinitions_are);
      rounded-both = k.rounded_are ∙ (j.rounds ∙ sym (ap₂ {C = ℕ} (λ (m n : ℕ). m + n) x.holds.rounded_are y.holds.rounded_are));
      draws = list ∙ (j.draws ∙ sym (ap₂ {C = List Drawn} (λ (a b : List Drawn). a ++ map (further_on (second_start first)) b) x.list_is y.list_is));
      length_is = k.length_is ∙ ap (λ (w : List ℕ). length w) file;
      flat_file_lem = file_of k ∙ file;
      rest-kept = rest_of k;
    }
      where
        within : WithinLimits first second x.its_counts y.its_counts (shapes_of x.its_events) (shapes_of y.its_events)
        within = record {
          calls = omega (arith, allow.calls, x.holds.calls_are, y.holds.calls_are);
          shapes = omega (arith, allow.shapes, x.holds.shapes_are, y.holds.shapes_are);
          text_length = allow.text_length;
          flat_length_lem = subst (λ (ds : List Drawn). length (flat ds) ≤ most_bytes) (sym lists) allow.flat_length_lem;
        }

        j : Joins first second (length lent) (length room) x.its_commands y.its_commands x.its_counts y.its_counts x.its_events y.its_events
        j = joining x.answers y.answers within (length lent) (length room) enough (subst (λ (ds : List Drawn). length (flat ds) ≤ length room) (sym lists) allow.room-length)

        outcome_is : both.outcome ≡ accepted j.its_commands (added x.its_counts y.its_counts) j.its_events
        outcome_is = unique both.answers j.answers

        list : list_of both ≡ shapes_of j.its_events
        list = unfold drawn_of in ap drawn_of outcome_is

        k : SuccessHolds room r left j.its_commands (added x.its_counts y.its_counts) (flat (shapes_of j.its_events))
        k = success-holds both outcome_is

        file : flat (shapes_of j.its_events) ≡ flat (list_of one ++ list_of two)
        file = j.flat_file_lem ∙ ap flat lists

    -- and only then is the joined text accepted
    pub joined_only : r.number ≡ 0 → Allow first second (length room) r₁ r₂ (list_of one) (list_of two)
    joined_only e =
        let z = accepts both e in
        let h = (joining_exactly x.answers y.answers (length lent) (length room)).0 (z.its_commands, z.its_counts, z.its_events, z.answers) in
        record {
          calls = omega (arith, h.0.calls, x.holds.calls_are, y.holds.calls_are);
          shapes = omega (arith, h.0.shapes, x.holds.shapes_are, y.holds.shapes_are);
          text_length = h.0.text_length;
          flat_length_lem = subst (λ (ds : List Drawn). length (flat ds) ≤ most_bytes) lists h.0.flat_length_lem;
          room-length = subst (λ (ds : List Drawn). length (flat ds) ≤ length room) lists h.3;
        }
