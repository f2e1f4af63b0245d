-- A row of Rows with the records lent (RULES 8, request 7); a row that computes is a row that is promised. What `answer_with` computes is allowed. And rows at each
-- level, with records that just suffice and one too few; which refusal comes first; and the chain of 21.
-- Assumes nothing.
use Rattle.std.specs.Prelude.{if◌then◌else◌, Err, Ok, Result}
use mathlib.Core.Path.{◌≡◌, refl, sym, subst}
use mathlib.Core.Bool.{Bool, true, false, not, ◌&&◌}
use mathlib.Core.List.{List, [], ◌∷◌}
use Prim.Native.Nat.{ℕ, ◌≤◌}
use lib.Dec.{T, ltb, ltb→lt, nltb→le}
use lib.ListN.{length}
use Rattle.grammar.specs.Notation.{Letter}
use Rattle.definition.specs.Quick.{quick_verdict}
use Rattle.grammar.specs.Viable
use Rattle.grammar.proofs.Tests.{and_left, and_right}
use Rattle.grammar.proofs.Verdicts.{Bytes}
use Rattle.definition.specs.Limits.{most_bytes}
use Rattle.definition.specs.Words.{same}
use Rattle.definition.specs.declared.Rule.TheVariants.{TextTooLong}
use Rattle.definition.specs.Rules.{refuse, order}
use Rattle.definition.specs.Answer.{Outcome, rejected}
use Rattle.definition.specs.Records.{outcome_with, AnswersWith, too_long, not_cif, read}
use Rattle.definition.specs.Computed.{verdict_with, answer_with}
use Rattle.definition.proofs.Quick.{quick_letters_lem, quick_judged}
use Rattle.definition.proofs.Held.{number_after}
use Rattle.definition.proofs.Rows.{Row, accepted, refused_at, in_calls, on_line, said_by, said_of, small, small_bytes, same-eq, every, by_test, Each, all_hold}

-- ---- what is computed is allowed

by_verdict_lem : (t : List ℕ) (words records room : ℕ) → Bytes t → length t ≤ most_bytes → (v : Result Unit ℕ) → Viable.Judged t v → AnswersWith t words records room (verdict_with v t words records room)
unfolding verdict_with
by_verdict_lem t words records room b h (Ok _) g =
    subst (λ (m : List Letter). AnswersWith t words records room (outcome_with m words records room)) (quick_letters_lem g.1) (read h g.1)
by_verdict_lem t words records room b h (Err n) g = not_cif h g.0 g.1

by_length : (t : List ℕ) (words records room : ℕ) → Bytes t → (c : Bool) → ltb most_bytes (length t) ≡ c
    → AnswersWith t words records room (if c then rejected (refuse TextTooLong 0) [] else verdict_with (quick_verdict t) t words records room)
by_length t words records room b true e = too_long (ltb→lt most_bytes (length t) (subst T (sym e) tt))
by_length t words records room b false e =
    by_verdict_lem t words records room b (nltb→le most_bytes (length t) (subst (λ (c : Bool). T (not c)) (sym e) tt)) (quick_verdict t) (quick_judged t b)

pub right_with : (t : List ℕ) (words records room : ℕ) → Bytes t → AnswersWith t words records room (answer_with t words records room)
unfolding answer_with
right_with t words records room b = by_length t words records room b (ltb most_bytes (length t)) refl

-- ---- rows

pub record Recorded : Type 0 where  -- what is said of a text where so many records are lent
  pub records : ℕ
  pub row : Row

abbrev pub with : ℕ → Row → Recorded
with n r = record { records = n; row = r }

pub record HoldsWith (r : Recorded) : Type 0 where
  pub outcome : Outcome
  pub answers : AnswersWith r.row.text r.row.words r.records r.row.room outcome
  pub says : said_by r.row.text outcome ≡ said_of r.row

recorded : Recorded → Bool
recorded r = small r.row.text && same (said_by r.row.text (answer_with r.row.text r.row.words r.records r.row.room)) (said_of r.row)

recorded_right : (r : Recorded) → T (recorded r) → HoldsWith r
unfolding recorded
recorded_right r t = record {
  outcome = answer_with r.row.text r.row.words r.records r.row.room;
  answers = right_with r.row.text r.row.words r.records r.row.room (small_bytes _ (and_left (small r.row.text) _ t));
  says = same-eq _ _ (and_right (small r.row.text) _ t);
}

unfoldable pub all_recorded : List Recorded → Bool
unfolding recorded all_hold
all_recorded rs = every recorded rs

-- each row of a list that passes the test is as promised
pub each_recorded : (rs : List Recorded) → T (all_recorded rs) → Each HoldsWith rs
unfolding all_recorded
each_recorded rs t = by_test recorded HoldsWith recorded_right rs t

pub recordings : List Recorded
recordings =
    -- an executable call needs one record, and one in its body two; an empty body too, and what is never drawn none
    with 1 (accepted "DS1;DF;C1;C1;E" 0 2 0 "E\n")
    ∷ with 0 (refused_at "DS1;DF;C1;E" 21 7)
    ∷ with 2 (accepted "DS1;C2;C2;DF;DS2;DF;C1;E" 0 3 0 "E\n")
    ∷ with 1 (in_calls (20 ∷ []) (refused_at "DS1;C2;DF;DS2;DF;C2;C1;E" 21 4))
    ∷ with 0 (accepted "DS1;C1;DF;LA;R1 0 0;E" 1 0 0 "LA;\nR1 0 0;\nE\n")
    -- the chain of 21 does not hold the refused call, and is told outermost first; line and column are those of the refused call
    ∷ with 2 (on_line 2 2 (in_calls (29 ∷ 4 ∷ []) (refused_at "DS1;C2;DF;DS2;\n C3;DF;DS3;DF;C1;E" 21 16)))
    -- 11, 12 and 13 come before it at one call
    ∷ with 0 (refused_at "DS1;DF;C1R1 1;E" 11 7)
    ∷ with 0 (refused_at "C1;E" 12 0)
    ∷ with 1 (in_calls (10 ∷ []) (refused_at "DS1;C1;DF;C1;E" 13 4))
    -- in the order of drawing, and after 2 to 9
    ∷ with 0 (refused_at "C2;DS1;DF;C1;E" 12 0)
    ∷ with 0 (refused_at "DS1;DF;C1;C2;E" 21 7)
    ∷ with 0 (refused_at "DS1;DF;C1;R1 0 0;E" 8 10)
    ∷ []

pub records_hold : Each HoldsWith recordings
unfolding all_recorded recordings
records_hold = each_recorded recordings tt

-- and in the order of the rules 21 stands directly after 14
pub directly_after-14 : number_after 14 order ≡ 21
unfolding number_after
directly_after-14 = refl
