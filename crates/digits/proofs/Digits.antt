-- Decimals as the code writes them, from the highest digit on: how many digits there are, numbers in two parts, digits that fall out of a product; and how many bytes
-- numbers of 64 bits have.
-- Assumes nothing.
use mathlib.Core.Path.{◌≡◌, refl, sym, ap, ◌∙◌, subst}
use mathlib.Core.List.{List, [], ◌∷◌, ◌++◌, append_assoc, append-nil}
use Prim.Native.Nat.{ℕ, zero, suc, ◌+◌, ◌*◌, ◌-◌, ◌/◌, ◌%◌, ◌^◌, ◌≤◌, ◌<◌}
use native.Mathlib.Nat.{mul_comm, mul_assoc, mul_left_comm, mul_right_comm, mul-add, mul-le-mul_left, mul-le-mul_right, lt_of_mul-lt-mul_right, mod-lt}
use Rattle.std.proofs.Math.Nat.{pow-succ'}
use native.Mathlib.Omega.{arith}
use borrow.Author.Tests.{lt-ltb, le-ltb}
use lib.IntN.{ℤ, pos, negsuc, nat_abs}
use lib.ListN.{length, set, length-append}
use Rattle.definition.specs.Flat.{digits, shortest, decimal}
use Rattle.laws.proofs.FlatFile.Decimals.{by_shortest}
use Rattle.laws.proofs.FlatFile.Lengths.{shortest-length}
use Rattle.digits.specs.Writes.{Writes}
use Rattle.digits.specs.Tens.{tens, lasts, whole, Raises, Wide}
use Rattle.digits.proofs.Writing.{WrittenSoFar, begun, goes_on, reaches, written, only_counted, nothing, both, same_bytes}
use Rattle.digits.proofs.Tens.{tens_positive, tenth_quotient, rest_tenth, rest-last, first-digit, digit_is, rest-low, rest_high}

-- ---- one digit, and more

pub one_digit : (n : ℕ) → n < 10 → shortest n ≡ (48 + n) ∷ []
unfolding digits
one_digit n h = rw (lt-ltb n 10 h) (ap (λ (k : ℕ). (48 + k) ∷ []) (omega (arith, h)))

-- `shortest` allows more digits than there are: how many does not matter
any_digits : (n d : ℕ) → n < d → shortest n ≡ digits d n
unfolding digits
any_digits n = by_shortest (λ (n : ℕ) (cs : List ℕ). (d : ℕ) → n < d → cs ≡ digits d n) low high n
  where
    low : (n : ℕ) → n < 10 → (d : ℕ) → n < d → (48 + n) ∷ [] ≡ digits d n
    low n l zero h = absurd (omega (arith, h))
    low n l (suc d) h = rw (lt-ltb n 10 l) (ap (λ (k : ℕ). (48 + k) ∷ []) (omega (arith, l)))

    high : (n : ℕ) (cs : List ℕ) → 10 ≤ n → ((d : ℕ) → n / 10 < d → cs ≡ digits d (n / 10)) → (d : ℕ) → n < d → cs ++ ((48 + n % 10) ∷ []) ≡ digits d n
    high n cs g r zero h = absurd (omega (arith, h))
    high n cs g r (suc d) h = rw (le-ltb n 10 g) (ap (λ (x : List ℕ). x ++ ((48 + n % 10) ∷ [])) (r d (omega arith)))

more-digits : (n : ℕ) → 10 ≤ n → shortest n ≡ shortest (n / 10) ++ ((48 + n % 10) ∷ [])
unfolding digits
more-digits n h = rw (le-ltb n 10 h) (ap (λ (x : List ℕ). x ++ ((48 + n % 10) ∷ [])) (sym (any_digits (n / 10) n (omega arith))))

pub counts_one : (n : ℕ) → n < 10 → length (shortest n) ≡ 1
counts_one n h = ap length (one_digit n h)

pub counts-more : (n : ℕ) → 10 ≤ n → length (shortest n) ≡ length (shortest (n / 10)) + 1
counts-more n h = ap length (more-digits n h) ∙ length-append (shortest (n / 10)) ((48 + n % 10) ∷ [])

-- ---- from the highest on

-- a number with k digits and one more has as many
pub counts_between : (k n : ℕ) → tens k ≤ n → n < tens (suc k) → length (shortest n) ≡ suc k
unfolding tens
counts_between zero n h l = counts_one n (omega (arith, l))
counts_between (suc k) n h l =
    let z = tens_positive k in
    let i = counts_between k (n / 10) (omega (arith, h)) (omega (arith, l)) in
    omega (arith, counts-more n (omega (arith, h, z)), i)

tens-power : (k : ℕ) → tens k ≡ 10 ^ k
unfolding tens
tens-power zero = refl
tens-power (suc k) = ap (λ (n : ℕ). 10 * n) (tens-power k) ∙ sym (pow-succ' 10 k)

-- the digits by the power of ten that is the greatest not above the number
pub counts_power : (k n : ℕ) → 10 ^ k ≤ n → n < 10 * 10 ^ k → length (shortest n) ≡ k + 1
unfolding tens
counts_power k n h l = let p = tens-power k in omega (arith, counts_between k n (omega (arith, p, h)) (omega (arith, p, l)))

pub lasts-length : (k n : ℕ) → length (lasts k n) ≡ k
unfolding lasts
lasts-length zero n = refl
lasts-length (suc k) n = omega (arith, length-append (lasts k (n / 10)) ((48 + n % 10) ∷ []), lasts-length k (n / 10))

pub all_lasts : (n : ℕ) → lasts (length (shortest n)) n ≡ shortest n
unfolding lasts
all_lasts = by_shortest (λ (n : ℕ) (cs : List ℕ). lasts (length cs) n ≡ cs) low high
  where
    low : (n : ℕ) → n < 10 → lasts 1 n ≡ (48 + n) ∷ []
    low n h = ap (λ (k : ℕ). (48 + k) ∷ []) (omega (arith, h))

    high : (n : ℕ) (cs : List ℕ) → 10 ≤ n → lasts (length cs) (n / 10) ≡ cs → lasts (length (cs ++ ((48 + n % 10) ∷ []))) n ≡ cs ++ ((48 + n % 10) ∷ [])
    high n cs h e =
        let l : length (cs ++ ((48 + n % 10) ∷ [])) ≡ suc (length cs) = omega (arith, length-append cs ((48 + n % 10) ∷ [])) in
        ap (λ (k : ℕ). lasts k n) l ∙ ap (λ (x : List ℕ). x ++ ((48 + n % 10) ∷ [])) e

-- a number lies below the power of ten of its digits
pub below : (n : ℕ) → n < tens (length (shortest n))
unfolding tens
below = by_shortest (λ (n : ℕ) (cs : List ℕ). n < tens (length cs)) (λ n h. omega (arith, h)) high
  where
    high : (n : ℕ) (cs : List ℕ) → 10 ≤ n → n / 10 < tens (length cs) → n < tens (length (cs ++ ((48 + n % 10) ∷ [])))
    high n cs h i =
        let l : suc (length cs) ≡ length (cs ++ ((48 + n % 10) ∷ [])) = omega (arith, length-append cs ((48 + n % 10) ∷ [])) in
        subst (λ (k : ℕ). n < tens k) l (omega (arith, i))

-- a number written in two parts: what comes before its last k digits, and these
pub in_parts : (k n : ℕ) → tens k ≤ n → shortest n ≡ shortest (n / tens k) ++ lasts k (n % tens k)
unfolding tens lasts
in_parts zero n h = let e : n ≡ n / 1 = omega arith in ap shortest e ∙ sym (append-nil (shortest (n / 1)))
in_parts (suc k) n h =
    let u = tens k in
    let z = tens_positive k in
    let last : List ℕ = (48 + n % 10) ∷ [] in
    more-digits n (omega (arith, h, z))
    ∙ ap (λ (x : List ℕ). x ++ last) (in_parts k (n / 10) (omega (arith, h)))
    ∙ append_assoc (shortest (n / 10 / u)) (lasts k (n / 10 % u)) last
    ∙ ap (λ (q : ℕ). shortest q ++ (lasts k (n / 10 % u) ++ last)) (sym (tenth_quotient u n z))
    ∙ ap (λ (r : ℕ). shortest (n / (10 * u)) ++ (lasts k r ++ last)) (sym (rest_tenth u n z))
    ∙ ap (λ (d : ℕ). shortest (n / (10 * u)) ++ (lasts k (n % (10 * u) / 10) ++ ((48 + d) ∷ []))) (sym (rest-last u n z))

-- so many digits, by two comparisons, and a unit, by two tests that compute
pub wide : (k n unit : ℕ) → tens k ≤ n → n < tens (suc k) → suc k ≤ 9 → 10 * whole ≤ unit * tens (suc k)
    → (unit * tens (suc k) - 10 * whole) * tens (suc k) < 10 * whole → Wide n (suc k) unit
wide k n unit h l few over close = record { all = sym (counts_between k n h l); raises = record { few = few; over = over; close = close } }

pub wide_one : (n : ℕ) → n < 10 → Wide n 1 whole
unfolding tens
wide_one n h = record { all = sym (counts_one n h); raises = record { few = omega arith; over = omega arith; close = omega arith } }

pub below_wide : {n count unit : ℕ} → Wide n count unit → n < tens count
below_wide {n} w = subst (λ (k : ℕ). n < tens k) (sym w.all) (below n)

pub all_wide : {n count unit : ℕ} → Wide n count unit → lasts count n ≡ shortest n
all_wide {n} w = ap (λ (k : ℕ). lasts k n) w.all ∙ all_lasts n

-- a part of nine digits, with its unit; and a number that ends with one
pub nine : Raises 9 1441151881
unfolding tens
nine = record { few = omega arith; over = omega arith; close = omega arith }

pub below_nine : (n : ℕ) → n % 1000000000 < tens 9
unfolding tens
below_nine n = omega arith

pub ends_with_nine : (n : ℕ) → 1000000000 ≤ n → shortest (n / 1000000000) ++ lasts 9 (n % 1000000000) ≡ shortest n
unfolding tens
ends_with_nine n h = sym (in_parts 9 n h)

pub counts-parts : (n : ℕ) → 1000000000 ≤ n → length (shortest n) ≡ length (shortest (n / 1000000000)) + 9
counts-parts n h =
    let l = lasts-length 9 (n % 1000000000) in
    let a = length-append (shortest (n / 1000000000)) (lasts 9 (n % 1000000000)) in
    let e = ap length (ends_with_nine n h) in
    omega (arith, l, a, e)

-- ---- the loop: `rest` has the digits that are left, as many as `k`, and the product is `rest` in units of 2^57 / 10^(k - 1)

pub record Falling (old new : List ℕ) (at i : ℕ) (all : List ℕ) (left : ℕ) : Type 0 where
  pub rest : ℕ
  pub k : ℕ
  pub going : WrittenSoFar old new at i all (lasts k rest)
  pub below : rest < tens k
  pub low : rest * (10 * whole) ≤ left * tens k
  pub high : left * tens k < (rest + 1) * (10 * whole)
  pub small : left < 10 * whole

-- the rounding, times a number of that many digits, is less than one of its last digit
rounded_little : (count unit n : ℕ) → Raises count unit → n < tens count
    → (n * (10 * whole) ≤ n * unit * tens count) × (n * unit * tens count < (n + 1) * (10 * whole))
rounded_little count unit n r h =
    let u = tens count in
    let e = unit * u - 10 * whole in
    let a = mul_assoc n unit u in
    let b : unit * u ≡ 10 * whole + e = omega (arith, r.over) in
    let c : n * (unit * u) ≡ n * (10 * whole) + n * e = ap (λ (x : ℕ). n * x) b ∙ mul-add n (10 * whole) e in
    let d : n * e ≤ u * e = mul-le-mul_right e (omega (arith, h)) in
    let f = mul_comm u e in
    (omega (arith, a, c), omega (arith, a, c, d, f, r.close))

pub begins_to_fall : {room : List ℕ} {at n count unit : ℕ} → Raises count unit → n < tens count → Falling room room at at (lasts count n) (n * unit)
begins_to_fall {room} {at} {n} {count} {unit} r h =
    let little = rounded_little count unit n r h in
    let more : (n + 1) * (10 * whole) ≤ 10 * whole * tens count = let m = mul-le-mul_left {m = n + 1} {n = tens count} (10 * whole) (omega (arith, h)) in omega (arith, m) in
    record {
      rest = n;
      k = count;
      going = begun room at (lasts count n);
      below = h;
      low = little.0;
      high = little.1;
      small = lt_of_mul-lt-mul_right (tens count) {m = n * unit} {n = 10 * whole} (omega (arith, little.1, more));
    }

pub falls : {old new : List ℕ} {at i : ℕ} {all : List ℕ} {left : ℕ} → Falling old new at i all left → i < at + length all
    → Falling old (set new i (48 + left / whole)) at (i + 1) all (left % whole * 10)
unfolding tens
falls {old} {new} {at} {i} {all} {left} f h = by f.k f.rest f.going f.below f.low f.high
  where
    by : (k rest : ℕ) → WrittenSoFar old new at i all (lasts k rest) → rest < tens k → rest * (10 * whole) ≤ left * tens k → left * tens k < (rest + 1) * (10 * whole)
        → Falling old (set new i (48 + left / whole)) at (i + 1) all (left % whole * 10)
    by zero rest g b l m = absurd (let r = reaches g in let n = lasts-length 0 rest in omega (arith, r, n, h))
    by (suc j) rest g b l m =
        let u = tens j in
        let z = tens_positive j in
        let t = mul_left_comm left 10 u in
        let l' : rest * whole ≤ left * u = omega (arith, l, t) in
        let m' : left * u < (rest + 1) * whole = omega (arith, m, t) in
        let d = digit_is whole left rest u z (omega arith) l' m' in
        let lo = rest-low whole left rest u z (omega arith) l' m' in
        let hi = rest_high whole left rest u z (omega arith) l' m' in
        let s = mul_right_comm (left % whole) 10 u in
        let e : lasts (suc j) rest ≡ (48 + left / whole) ∷ lasts j (rest % u) = first-digit j rest b ∙ ap (λ (q : ℕ). (48 + q) ∷ lasts j (rest % u)) (sym d) in
        record {
          rest = rest % u;
          k = j;
          going = goes_on ((48 + left / whole) ∷ []) g e (written refl refl);
          below = mod-lt rest {m = u} z;
          low = omega (arith, lo, s);
          high = omega (arith, hi, s);
          small = omega arith;
        }

-- where the loop ends, at the last digit or at the room's end, what is left lies past the room
pub fallen : {old new : List ℕ} {at i next : ℕ} {all : List ℕ} {left : ℕ} → Falling old new at i all left → next ≡ at + length all
    → (i < next → length new ≤ i) → Writes old new at next all
unfolding lasts
fallen {old} {new} {at} {i} {next} {all} f e past =
    let g = f.going in
    let r = reaches g in
    same_bytes g.parts (both g.writes (tail f.k f.rest r))
  where
    tail : (k rest : ℕ) → i + length (lasts k rest) ≡ at + length all → Writes new new i next (lasts k rest)
    tail zero rest r = let z : next ≡ i = omega (arith, e, r) in subst (λ (n : ℕ). Writes new new i n []) (sym z) (nothing new i)
    tail (suc k) rest r = only_counted (past (let l = lasts-length (suc k) rest in omega (arith, e, r, l))) (omega (arith, e, r))

-- ---- lengths of numbers of 64 bits

pub digits-64 : (n : ℕ) → n < 18446744073709551616 → length (shortest n) ≤ 20
digits-64 n h = shortest-length n 20 (omega arith) (omega (arith, h))

pub decimal-64 : (z : ℤ) → nat_abs z ≤ 9223372036854775808 → length (decimal z) ≤ 20
unfolding decimal
decimal-64 (pos n) h = let q : length (shortest n) ≤ 19 = shortest-length n 19 (omega arith) (omega (arith, h)) in omega (arith, q)
decimal-64 (negsuc n) h =
    let h' : suc n ≤ 9223372036854775808 = h in
    let q : length (shortest (suc n)) ≤ 19 = shortest-length (suc n) 19 (omega arith) (omega (arith, h')) in
    omega (arith, q)
