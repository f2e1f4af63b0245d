-- The account over the table's rows is the one that contracts name: a row's entry is the table's, so each byte leads to the same and has the same role.
-- Assumes nothing.
use Rattle.std.specs.Prelude.{if◌then◌else◌, Err, Ok, Result}
use mathlib.Core.Path.{◌≡◌, refl, sym, ap, ◌∙◌, subst}
use mathlib.Core.Bool.{Bool, true, ◌&&◌}
use mathlib.Core.List.{List, [], ◌∷◌}
use Prim.Native.Nat.{ℕ, zero, suc, ◌+◌, ◌*◌, ◌/◌, ◌%◌, ◌^◌, ◌<◌, ◌≤◌}
use native.Mathlib.Nat.{pow-suc, mul_comm, zero-div, div-one, mod-eq_of_lt, div-eq_of_lt, add-mul-mod_self_left, add-mul-div_left, div-div-eq-div-mul}
use native.Mathlib.Omega.{arith}
use lib.Dec.{T, ltb, ltb→lt}
use lib.ListN.{length, get_or, drop, length-drop, drop_of_length-le}
use Rattle.grammar.specs.Notation.{Letter}
use Rattle.grammar.specs.Tables.{state_count, kind_count, kinds, table}
use Rattle.grammar.proofs.Tests.{and_left, and_right}
use Rattle.grammar.specs.Steps.{kind_of, entry_of, next_of, mode_after, mark_of, role_of, marked, verdict_of}
use Rattle.grammar.specs.Viable
use Rattle.grammar.specs.declared.Mode.{Mode}
use Rattle.grammar.specs.Viable.{Marked}
use Rattle.grammar.proofs.Markings.{marking_is}
use Rattle.grammar.proofs.Verdicts.{Bytes, judged}
use Rattle.definition.specs.Limits.{most_bytes}
use Rattle.definition.specs.declared.Rule.TheVariants.{TextTooLong}
use Rattle.definition.specs.Rules.{refuse}
use Rattle.definition.specs.declared.Summary.{Summary}
use Rattle.definition.specs.Answer.{Outcome, rejected, outcome_of, Answers}
use Rattle.definition.specs.Summary.{empty_summary, summary_of, Summarises}
use Rattle.definition.specs.Computed.{verdict, answer_of, quick_outcome, quick_answer, summary_verdict, summary_for, quick_summed, quick_summary}
use Rattle.definition.proofs.Right.{right}
use Rattle.definition.proofs.Summed.{summary_right}
use Rattle.definition.specs.Quick.{entry_unit, packed, packed_rows, entry_in, marking_by, verdict_by, quick_letters, quick_verdict}

-- ---- a packed entry is the table's

from_zero : (n : ℕ) → n ≡ 0 + n
from_zero n = omega arith

from_next : (i n : ℕ) → suc (i + n) ≡ suc i + n
from_next i n = omega arith

next_row : (q : ℕ) → kind_count + q * kind_count ≡ suc q * kind_count
next_row q = omega arith

get_d_drop : (i k : ℕ) (l : List ℕ) → get_or (drop i l) k 0 ≡ get_or l (i + k) 0
get_d_drop zero k l = ap (λ (n : ℕ). get_or l n 0) (from_zero k)
get_d_drop (suc i) k [] = refl
get_d_drop (suc i) k (x ∷ l) = get_d_drop i k l ∙ ap (λ (n : ℕ). get_or {A = ℕ} (x ∷ l) n 0) (from_next i k)

drop-drop : (i j : ℕ) (l : List ℕ) → drop j (drop i l) ≡ drop (i + j) l
drop-drop zero j l = ap (λ (n : ℕ). drop n l) (from_zero j)
drop-drop (suc i) j [] = drop_of_length-le {A = ℕ} [] {i = j} (omega arith) ∙ sym (drop_of_length-le {A = ℕ} [] {i = suc i + j} (omega arith))
drop-drop (suc i) j (x ∷ l) = drop-drop i j l ∙ ap (λ (n : ℕ). drop {A = ℕ} n (x ∷ l)) (from_next i j)

abbrev Below : ℕ → List ℕ → Type 0
Below b l = (i : ℕ) → get_or l i 0 < b

below : ℕ → List ℕ → Bool
below b [] = true
below b (e ∷ l) = ltb e b && below b l

all_below : (b : ℕ) (l : List ℕ) → 0 < b → T (below b l) → Below b l
unfolding below
all_below b [] z t i = z
all_below b (e ∷ l) z t zero = ltb→lt e b (and_left (ltb e b) _ t)
all_below b (e ∷ l) z t (suc i) = all_below b l z (and_right (ltb e b) _ t) i

kind-below : (a : ℕ) → kind_of a < kind_count
unfolding kind_of kinds below
kind-below = all_below kind_count kinds (omega arith) tt

table_below : Below entry_unit table
unfolding table below
table_below = all_below entry_unit table (omega arith) tt

picked : (n k : ℕ) (l : List ℕ) → k < n → Below entry_unit l → packed n l / entry_unit ^ k % entry_unit ≡ get_or l k 0
unfolding packed
picked zero k l h s = absurd (omega (arith, h))
picked (suc n) k [] h s = ap (λ (x : ℕ). x % entry_unit) (zero-div (entry_unit ^ k))
picked (suc n) zero (e ∷ l) h s =
    ap (λ (x : ℕ). x % entry_unit) (div-one (e + entry_unit * packed n l)) ∙ add-mul-mod_self_left e entry_unit (packed n l) ∙ mod-eq_of_lt (s 0)
picked (suc n) (suc k) (e ∷ l) h s =
    ap
    (λ (x : ℕ). x % entry_unit)
    (ap (λ (u : ℕ). whole / u) (pow-suc entry_unit k ∙ mul_comm (entry_unit ^ k) entry_unit)
    ∙ sym (div-div-eq-div-mul whole entry_unit (entry_unit ^ k))
    ∙ ap (λ (x : ℕ). x / entry_unit ^ k) (add-mul-div_left e rest {y = entry_unit} (omega arith) ∙ ap (λ (x : ℕ). x + rest) (div-eq_of_lt (s 0)) ∙ sym (from_zero rest)))
    ∙ picked n k l (omega (arith, h)) (λ (i : ℕ). s (suc i))
  where
    rest : ℕ
    rest = packed n l

    whole : ℕ
    whole = e + entry_unit * rest

row_at : (states q : ℕ) (l : List ℕ) → length l ≤ states * kind_count → get_or (packed_rows states l) q 0 ≡ packed kind_count (drop (q * kind_count) l)
unfolding packed_rows packed
row_at zero q l h = ap (packed kind_count) (sym (drop_of_length-le l {i = q * kind_count} (omega (arith, h))))
row_at (suc states) zero l h = refl
row_at (suc states) (suc q) l h =
    row_at states q (drop kind_count l) (omega (arith, h, length-drop kind_count l))
    ∙ ap (packed kind_count) (drop-drop kind_count (q * kind_count) l ∙ ap (λ (n : ℕ). drop n l) (next_row q))

whole-table : length table ≤ state_count * kind_count
unfolding table
whole-table = omega arith

entry_at : (q a : ℕ) → entry_in (packed_rows state_count table) q (kind_of a) ≡ entry_of q (kind_of a)
unfolding entry_of
entry_at q a =
    ap (λ (x : ℕ). x / entry_unit ^ kind_of a % entry_unit) (row_at state_count q table whole-table)
    ∙ picked kind_count (kind_of a) (drop (q * kind_count) table) (kind-below a) (λ (i : ℕ). subst (λ (x : ℕ). x < entry_unit) (sym (get_d_drop (q * kind_count) i table)) (table_below (q * kind_count + i)))
    ∙ get_d_drop (q * kind_count) (kind_of a) table

-- ---- so the accounts are equal

abbrev Same : List ℕ → Type 0
Same rows = (q a : ℕ) → entry_in rows q (kind_of a) ≡ entry_of q (kind_of a)

marked_by : (rows : List ℕ) → Same rows → (q d : ℕ) (w : List ℕ) → marking_by rows q d w ≡ marked q d w
unfolding marking_by marked mode_after next_of mark_of role_of
marked_by rows same q d [] = refl
marked_by rows same q d (a ∷ w) =
    let p : Mode = mode_after q d a in
    rw (same q a, marked_by rows same p.state p.depth w)

verdict_by_lem : (rows : List ℕ) → Same rows → (q d n : ℕ) (w : List ℕ) → verdict_by rows q d n w ≡ verdict_of q d n w
unfolding verdict_by verdict_of mode_after next_of
verdict_by_lem rows same q d n [] = refl
verdict_by_lem rows same q d n (a ∷ w) =
    let p : Mode = mode_after q d a in
    rw (same q a, verdict_by_lem rows same p.state p.depth (n + 1) w)

pub quick_letters_lem : {t : List ℕ} {m : List Letter} → Marked t m → m ≡ quick_letters t
unfolding quick_letters
quick_letters_lem {t} g = marking_is g ∙ sym (marked_by (packed_rows state_count table) entry_at 0 0 t)

pub quick_judged : (t : List ℕ) → Bytes t → Viable.Judged t (quick_verdict t)
unfolding quick_verdict
quick_judged t b = subst (λ (v : Result Unit ℕ). Viable.Judged t v) (sym (verdict_by_lem (packed_rows state_count table) entry_at 0 0 0 t)) (judged t b)

-- so what is computed of a text is what is promised of it
pub same_letters : (t : List ℕ) → quick_letters t ≡ marked 0 0 t
unfolding quick_letters
same_letters t = marked_by (packed_rows state_count table) entry_at 0 0 t

pub same_verdict : (t : List ℕ) → quick_verdict t ≡ verdict_of 0 0 0 t
unfolding quick_verdict
same_verdict t = verdict_by_lem (packed_rows state_count table) entry_at 0 0 0 t

pub quick_is : (t : List ℕ) (words room : ℕ) → quick_answer t words room ≡ answer_of t words room
unfolding quick_answer answer_of quick_outcome verdict
quick_is t words room = ap (λ (o : Outcome). if ltb most_bytes (length t) then rejected (refuse TextTooLong 0) [] else o) (rw (same_verdict t) (judged_so (verdict_of 0 0 0 t)))
  where
    judged_so : (v : Result Unit ℕ) → quick_outcome v t words room ≡ verdict v t words room
    judged_so (Ok _) = ap (λ (m : List Letter). outcome_of m words room) (same_letters t)
    judged_so (Err n) = refl

pub quick_summary_is : (t : List ℕ) (words symbol : ℕ) → quick_summary t words symbol ≡ summary_for t words symbol
unfolding quick_summary summary_for quick_summed summary_verdict
quick_summary_is t words n = ap (λ (s : Summary). if ltb most_bytes (length t) then empty_summary t (refuse TextTooLong 0) else s) (rw (same_verdict t) (summed_so (verdict_of 0 0 0 t)))
  where
    summed_so : (v : Result Unit ℕ) → quick_summed v t words n ≡ summary_verdict v t words n
    summed_so (Ok _) = ap (λ (m : List Letter). summary_of t m words n) (same_letters t)
    summed_so (Err k) = refl

pub quick_right : (t : List ℕ) (words room : ℕ) → Bytes t → Answers t words room (quick_answer t words room)
quick_right t words room b = subst (Answers t words room) (sym (quick_is t words room)) (right t words room b)

pub quick_summary_right : (t : List ℕ) (words symbol : ℕ) → Bytes t → Summarises t words symbol (quick_summary t words symbol)
quick_summary_right t words n b = subst (Summarises t words n) (sym (quick_summary_is t words n)) (summary_right t words n b)
