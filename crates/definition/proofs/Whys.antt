-- The table of texts, counts and why the shape with that count is there (RULES 20, request 11). The answers were worked out elsewhere, by the second reader or by hand.
-- Assumes nothing.
use mathlib.Core.Path.{◌≡◌}
use mathlib.Core.Bool.{Bool, ◌&&◌}
use mathlib.Core.List.{List, [], ◌∷◌, ◌++◌}
use Prim.Native.Nat.{ℕ, ◌-◌}
use Prim.Native.String.{String}
use lib.Dec.{T}
use lib.ListN.{length, replicate}
use Rattle.grammar.proofs.Tests.{and_left, and_right}
use Rattle.definition.specs.declared.Why.{Why}
use Rattle.definition.specs.Words.{same, bytes_of}
use Rattle.definition.specs.Flat.{spaced}
use Rattle.definition.specs.Why.{Reason, WhyAnswers, why_told}
use Rattle.definition.specs.Computed.{reason_for}
use Rattle.definition.proofs.Rows.{small, small_bytes, same-eq, every, by_test, Each, all_hold}
use Rattle.definition.proofs.Reasons.{reason-right}

pub record Pointed : Type 0 where  -- a text, the words lent, a count; the plain numbers that are told, and a b c d tx ty as they are written
  pub text : List ℕ
  pub words : ℕ
  pub count : ℕ
  pub said : List ℕ
  pub sends : List ℕ

abbrev filled : List ℕ → List ℕ  -- the places of the calls, with zeros after them
filled chain = length chain ∷ (chain ++ replicate (32 - length chain) 0)

-- a shape that is told, with its command's place, its net transformation and the places of its calls; and a text that is refused
abbrev pub shown : String → ℕ → ℕ → String → List ℕ → Pointed
shown t n p sends chain = record { text = bytes_of t; words = length (bytes_of t); count = n; said = 0 ∷ 0 ∷ 0 ∷ 0 ∷ p ∷ filled chain; sends = bytes_of sends }

abbrev pub not_shown_with : ℕ → String → ℕ → ℕ → ℕ → ℕ → ℕ → List ℕ → Pointed
not_shown_with w t n k p line column chain = record { text = bytes_of t; words = w; count = n; said = k ∷ p ∷ line ∷ column ∷ 0 ∷ filled chain; sends = bytes_of "0 0 0 0 0 0" }

abbrev pub not_shown : String → ℕ → ℕ → ℕ → ℕ → ℕ → List ℕ → Pointed
not_shown t n k p line column chain = not_shown_with (length (bytes_of t)) t n k p line column chain

abbrev pub none_there : String → ℕ → Pointed  -- 26, at place 0
none_there t n = not_shown t n 26 0 1 1 []

abbrev pub said_in : Why → List ℕ
said_in w =
    w.number ∷ w.place ∷ w.line ∷ w.column ∷ w.shape ∷ w.opened ∷ w.chain

abbrev pub sends_in : Why → List ℕ
sends_in w = spaced (w.a ∷ w.b ∷ w.c ∷ w.d ∷ w.tx ∷ w.ty ∷ [])

pub record Shown (r : Pointed) : Type 0 where
  pub reason : Reason
  pub answers : WhyAnswers r.text r.words r.count reason
  pub says : said_in (why_told r.text reason) ≡ r.said
  pub tells : sends_in (why_told r.text reason) ≡ r.sends

row_shown : Pointed → Bool
row_shown r =
    let w = why_told r.text (reason_for r.text r.words r.count) in
    small r.text && same (said_in w) r.said && same (sends_in w) r.sends

shown_right : (r : Pointed) → T (row_shown r) → Shown r
unfolding row_shown
shown_right r t =
    let front = and_left (small r.text && same (said_in (why_told r.text (reason_for r.text r.words r.count))) r.said) _ t in
    record {
      reason = reason_for r.text r.words r.count;
      answers = reason-right r.text r.words r.count (small_bytes _ (and_left (small r.text) _ front));
      says = same-eq _ _ (and_right (small r.text) _ front);
      tells = same-eq _ _ (and_right (small r.text && same (said_in (why_told r.text (reason_for r.text r.words r.count))) r.said) _ t);
    }

unfoldable pub all_shown : List Pointed → Bool
unfolding row_shown all_hold
all_shown rows = every row_shown rows

-- each row of a list that passes the test is as promised
pub each_shown : (rows : List Pointed) → T (all_shown rows) → Each Shown rows
unfolding all_shown
each_shown rows t = by_test row_shown Shown shown_right rows t

pub pointed : List Pointed
pointed =
    -- outside definitions: an empty chain, the identity and (0, 0)
    shown "\nLA;R1 0 0; W2 1 1;E" 1 4 "1 0 0 1 0 0" []
    ∷ shown "LA;R1 0 0;R1 0 0;E" 2 10 "1 0 0 1 0 0" []
    -- the inner call's list acts before the outer's, and each from its left; the translation comes after the turn
    ∷ shown "DS1;LA;R1 3 5;DF;DS2;C1T1 1;C1MX;DF;C2;C2R0 1T7 0;E" 3 7 "0 -1 1 0 6 1" (39 ∷ 21 ∷ [])
    ∷ shown "DS1;LA;R1 3 5;DF;DS2;C1 T10 20 MX;DF;C2 R0 -1;E" 1 7 "0 1 1 0 20 10" (37 ∷ 21 ∷ [])
    ∷ shown "DS1;LA;R1 3 5;DF;C1 MX R0 1;E" 1 7 "0 -1 -1 0 0 0" (17 ∷ [])
    -- shapes before, between and after calls
    ∷ shown "DS1;LA;R1 0 0;DF;DS2;LB;R2 0 0;C1;R3 0 0;C1MY;R4 0 0;DF;LC;R5 0 0;C2T1 2;R6 0 0;E" 4 34 "1 0 0 1 1 2" (66 ∷ [])
    ∷ shown "DS1;LA;R1 0 0;DF;DS2;LB;R2 0 0;C1;R3 0 0;C1MY;R4 0 0;DF;LC;R5 0 0;C2T1 2;R6 0 0;E" 5 7 "1 0 0 -1 1 2" (66 ∷ 41 ∷ [])
    -- the table as it stood then; and a translation far out of range
    ∷ shown "DS1;LA;R1 0 0;DF;C1;DS1;LA;R2 0 0;W1 0 0;DF;C1T5 5;E" 1 7 "1 0 0 1 0 0" (17 ∷ [])
    ∷ shown "DS1;LA;R1 -16777215 16777215;DF;DS2;C1T16777215 -16777215;DF;C2T16777215 -16777215;E" 1 7 "1 0 0 1 33554430 -33554430" (61 ∷ 36 ∷ [])
    -- 26 for count 0 and a count above the shapes
    ∷ none_there "LA;R1 0 0;R1 0 0;E" 0
    ∷ none_there "DS1;LA;R1 3 5;DF;C1T10 -20;E" 2
    ∷ none_there "DS1;LA;R1 3 5;DF;C1T10 -20;E" 4294967295
    -- the reader's refusals come first, those of the whole text, whatever the count
    ∷ not_shown "LA;R1 0 0;C1;E" 0 12 10 1 11 []
    ∷ not_shown "LA;R1 0 0;DS1;\nC2;DF;C1;E" 1 12 15 2 1 (21 ∷ [])
    ∷ not_shown "LA;R1 0 0;" 0 2 10 1 11 []
    ∷ not_shown_with 2 "LA;R1 0 0;DS1;C1;DF;E" 1 25 10 1 11 []
    ∷ []

pub whys : Each Shown pointed
unfolding all_shown pointed
whys = each_shown pointed tt
