-- Digits: behind the first digit of a number every digit leads back to the same state, and no other byte is a further digit. So the rest of a number
-- can be told by its bytes, without the table. And a comment is a command: what begins one is a first letter.
-- Assumes nothing.
use mathlib.Core.Path.{◌≡◌, refl, sym, ap, ◌∙◌, subst}
use mathlib.Core.Bool.{Bool, true, not, ◌&&◌, ◌||◌}
use mathlib.Core.Logic.{◌⊎◌, inl, inr}
use Prim.Native.Nat.{ℕ, ◌+◌, ◌*◌, ◌/◌, ◌%◌, ◌≤◌, ◌<◌}
use native.Mathlib.Omega.{arith}
use borrow.Author.Tests.{eq-eqb, lt-ltb, le-ltb}
use lib.Dec.{T, ltb, eqb, ltb→lt, nltb→le, eqb→eq}
use Rattle.grammar.specs.Notation.{lead, later, head}
use Rattle.grammar.specs.Tables.{state_count, role_unit, stuck, deep, kinds, table}
use Rattle.grammar.specs.Steps.{kind_of, entry_of, next_of, mode_after, mode, mark_of, number}
use Rattle.grammar.proofs.Tests.{and_left, and_right, or_cases, follows, same_bit, bit_eq, every, every_at}
use Rattle.grammar.proofs.Fitting.{every_entry}
use Rattle.grammar.proofs.Automaton.{entry_at, kind-below}
use Rattle.grammar.proofs.Ahead.{mark_is, next_is, plain_is}

abbrev digit_kind : ℕ
digit_kind = 0

abbrev later_only : ℕ → ℕ → Bool
later_only k x = not (eqb (x / role_unit) (number later)) || eqb k digit_kind

abbrev lead_stays : ℕ → Bool
lead_stays x =
    not (eqb (x / role_unit) (number lead))
    || (ltb (x % role_unit) state_count && eqb (entry_of (x % role_unit) digit_kind) (role_unit * number later + x % role_unit))

abbrev deep_head : ℕ → Bool
deep_head x = ltb (x % role_unit) deep || (eqb (x % role_unit) stuck || eqb (x / role_unit) (number head))

unfoldable numeral_fits : ℕ → ℕ → ℕ → Bool
numeral_fits q k x = later_only k x && (lead_stays x && deep_head x)

numerals_fit : T (every_entry numeral_fits table)
unfolding numeral_fits table entry_of number
numerals_fit = tt

unfoldable digit_fits : ℕ → ℕ → Bool
digit_fits a k = same_bit (eqb k digit_kind) (not (ltb a 48) && ltb a 58)

digits-fit : T (every digit_fits 0 kinds)
unfolding digit_fits kinds
digits-fit = tt

-- a byte is a digit
abbrev pub Digital : ℕ → Type 0
Digital b = (48 ≤ b) × (b < 58)

digit-test : (b : ℕ) → b < 256 → eqb (kind_of b) digit_kind ≡ (not (ltb b 48) && ltb b 58)
unfolding kind_of kinds digit_fits
digit-test b h = bit_eq _ _ (every_at digit_fits kinds digits-fit b h)

digit-kind : (b : ℕ) → Digital b → kind_of b ≡ digit_kind
digit-kind b h =
    let e : (not (ltb b 48) && ltb b 58) ≡ true = rw (le-ltb b 48 h.0, lt-ltb b 58 h.1) in
    eqb→eq (kind_of b) digit_kind (subst T (sym (digit-test b (let x = h.1 in omega arith) ∙ e)) tt)

kind-digit : (b : ℕ) → b < 256 → kind_of b ≡ digit_kind → Digital b
kind-digit b h e =
    let t : T (not (ltb b 48) && ltb b 58) = subst T (sym (eq-eqb (kind_of b) digit_kind e) ∙ digit-test b h) tt in
    (not_below (and_left (not (ltb b 48)) (ltb b 58) t), ltb→lt b 58 (and_right (not (ltb b 48)) (ltb b 58) t))
  where
    not_below : T (not (ltb b 48)) → 48 ≤ b
    not_below u = nltb→le b 48 u

-- the state behind the first digit of a number
pub record Numeral (q : ℕ) : Type 0 where
  pub stays : (b : ℕ) → Digital b → mode q 0 ≡ mode_after q 0 b
  pub again : (b : ℕ) → Digital b → mark_of q 0 b ≡ number later
  pub other : (b : ℕ) → b < 256 → (Digital b → ⊥) → mark_of q 0 b ≡ number later → ⊥

module _ (q b : ℕ) (hq : q < state_count) (hb : b < 256) where
  abbrev x : ℕ
  x = entry_of q (kind_of b)

  tests : T (later_only (kind_of b) x && (lead_stays x && deep_head x))
  unfolding numeral_fits entry_of
  tests = entry_at numeral_fits numerals_fit q (kind_of b) hq (kind-below b hb)

  later-digit : mark_of q 0 b ≡ number later → Digital b
  later-digit m =
      kind-digit b hb (eqb→eq (kind_of b) digit_kind
      (follows (eqb (x / role_unit) (number later)) _ (and_left (later_only (kind_of b) x) _ tests) (subst T (sym (eq-eqb (x / role_unit) (number later) (mark_is q b x refl ∙ m))) tt)))

  lead_tests : mark_of q 0 b ≡ number lead → T (ltb (x % role_unit) state_count && eqb (entry_of (x % role_unit) digit_kind) (role_unit * number later + x % role_unit))
  lead_tests m =
      follows (eqb (x / role_unit) (number lead)) _ (and_left (lead_stays x) (deep_head x) (and_right (later_only (kind_of b) x) _ tests))
      (subst T (sym (eq-eqb (x / role_unit) (number lead) (mark_is q b x refl ∙ m))) tt)

  -- what begins a comment is a first letter
  pub comment_head : deep ≤ next_of q (kind_of b) → (next_of q (kind_of b) ≡ stuck → ⊥) → mark_of q 0 b ≡ number head
  unfolding next_of
  comment_head l n = go (or_cases (ltb (x % role_unit) deep) _ (and_right (lead_stays x) (deep_head x) (and_right (later_only (kind_of b) x) _ tests)))
    where
      go : T (ltb (x % role_unit) deep) ⊎ T (eqb (x % role_unit) stuck || eqb (x / role_unit) (number head)) → mark_of q 0 b ≡ number head
      go (inl h) = absurd (let k = ltb→lt (x % role_unit) deep h in omega arith)
      go (inr h) = sym (mark_is q b x refl) ∙ is (or_cases (eqb (x % role_unit) stuck) _ h)
        where
          is : T (eqb (x % role_unit) stuck) ⊎ T (eqb (x / role_unit) (number head)) → x / role_unit ≡ number head
          is (inl s) = absurd (n (eqb→eq (x % role_unit) stuck s))
          is (inr s) = eqb→eq (x / role_unit) (number head) s

pub lead-numeral : (q b : ℕ) → q < state_count → b < 256 → mark_of q 0 b ≡ number lead → Numeral (next_of q (kind_of b))
unfolding next_of number
lead-numeral q b hq hb m =
    let to = entry_of q (kind_of b) % role_unit in
    let t = lead_tests q b hq hb m in
    let l : to < state_count = ltb→lt to state_count (and_left (ltb to state_count) _ t) in
    let e : entry_of to digit_kind ≡ role_unit * number later + to = eqb→eq (entry_of to digit_kind) (role_unit * number later + to) (and_right (ltb to state_count) _ t) in
    let f : (b' : ℕ) → Digital b' → entry_of to (kind_of b') ≡ role_unit * number later + to = λ b' d. ap (λ (k : ℕ). entry_of to k) (digit-kind b' d) ∙ e in
    record {
      stays = λ b' d. plain_is to 0 b' to refl (let g = f b' d in let k = next_is to b' (entry_of to (kind_of b')) refl in omega arith) (omega arith);
      again = λ b' d. sym (mark_is to b' (entry_of to (kind_of b')) refl) ∙ (let g = f b' d in omega arith);
      other = λ b' hb' n k. n (later-digit to b' l hb' k);
    }
