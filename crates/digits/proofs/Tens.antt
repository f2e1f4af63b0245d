-- Digits counted by comparisons and written from the highest on: what tens do to a number, and that no digit is reached by the rounding of the product
-- from which they fall out.
-- Assumes nothing.
use mathlib.Core.Path.{◌≡◌, sym, ap, ◌∙◌}
use mathlib.Core.List.{List, [], ◌∷◌, ◌++◌}
use Prim.Native.Nat.{ℕ, zero, suc, ◌+◌, ◌*◌, ◌/◌, ◌%◌, ◌≤◌, ◌<◌}
use native.Mathlib.Nat.{mul_assoc, mul_right_comm, add-mul, mul-le-mul_right, le_of_mul-le-mul_right, lt_of_mul-lt-mul_right, mod-lt, div-add-mod, div-add-mod', add-mul-div_left, div-eq_of_lt, lt-div-mul-add, div-mul-le_self, le-div_iff_mul-le, div-lt_iff_lt-mul}
use native.Mathlib.Omega.{arith}
use Rattle.digits.specs.Tens.{tens, lasts}

pub tens_positive : (k : ℕ) → 0 < tens k
unfolding tens
tens_positive zero = omega arith
tens_positive (suc k) = omega (arith, tens_positive k)

-- a quotient and a rest are told by what they make
quotient_is : (n q m r : ℕ) → n ≡ m * q + r → r < m → n / m ≡ q
quotient_is n q m r e h =
    let z : 0 < m = omega (arith, h) in
    let c : m * q + r ≡ r + m * q = omega arith in
    let t = div-eq_of_lt {n = r} {m = m} h in
    ap (λ (x : ℕ). x / m) (e ∙ c) ∙ add-mul-div_left r q {y = m} z ∙ omega (arith, t)

rest_is : (n q m r : ℕ) → n ≡ m * q + r → r < m → n % m ≡ r
rest_is n q m r e h =
    let d = div-add-mod n m in
    let s : m * (n / m) ≡ m * q = ap (λ (x : ℕ). m * x) (quotient_is n q m r e h) in
    omega (arith, d, s, e)

-- ten times as much: what is left of n, and how its last digit comes off
module _ (u n : ℕ) (z : 0 < u) where
  parts : n ≡ 10 * u * (n / 10 / u) + (10 * (n / 10 % u) + n % 10)
  parts =
      let d = div-add-mod (n / 10) u in
      let a = mul_assoc 10 u (n / 10 / u) in
      omega (arith, d, a)

  low : 10 * (n / 10 % u) + n % 10 < 10 * u
  low = let h = mod-lt (n / 10) {m = u} z in omega (arith, h)

  pub tenth_quotient : n / (10 * u) ≡ n / 10 / u
  tenth_quotient = quotient_is n (n / 10 / u) (10 * u) (10 * (n / 10 % u) + n % 10) parts low

  tenth_rest : n % (10 * u) ≡ 10 * (n / 10 % u) + n % 10
  tenth_rest = rest_is n (n / 10 / u) (10 * u) (10 * (n / 10 % u) + n % 10) parts low

  pub rest_tenth : n % (10 * u) / 10 ≡ n / 10 % u
  rest_tenth = let e = tenth_rest in omega (arith, e)

  pub rest-last : n % (10 * u) % 10 ≡ n % 10
  rest-last = let e = tenth_rest in omega (arith, e)

-- the first of so many digits, and the others
pub first-digit : (k n : ℕ) → n < tens (suc k) → lasts (suc k) n ≡ (48 + n / tens k) ∷ lasts k (n % tens k)
unfolding tens lasts
first-digit zero n h =
    let a : 48 + n % 10 ≡ 48 + n / 1 = omega (arith, h) in ap (λ (x : ℕ). x ∷ []) a
first-digit (suc k) n h =
    let u = tens k in
    let z = tens_positive k in
    let i = first-digit k (n / 10) (omega (arith, h)) in
    let q : 48 + n / 10 / u ≡ 48 + n / (10 * u) = ap (λ (x : ℕ). 48 + x) (sym (tenth_quotient u n z)) in
    let l : lasts k (n / 10 % u) ≡ lasts k (n % (10 * u) / 10) = ap (lasts k) (sym (rest_tenth u n z)) in
    let b : n % 10 ≡ n % (10 * u) % 10 = sym (rest-last u n z) in
    ap (λ (x : List ℕ). x ++ ((48 + n % 10) ∷ [])) i
    ∙ ap (λ (x : ℕ). x ∷ (lasts k (n / 10 % u) ++ ((48 + n % 10) ∷ []))) q
    ∙ ap (λ (x : List ℕ). (48 + n / (10 * u)) ∷ (x ++ ((48 + n % 10) ∷ []))) l
    ∙ ap (λ (x : ℕ). (48 + n / (10 * u)) ∷ (lasts k (n % (10 * u) / 10) ++ ((48 + x) ∷ []))) b

-- ---- the product: m has the digits that are left, and x is m in units of w / u, with less than one of m's last digit too much

module _ (w x m u : ℕ) (z : 0 < u) (p : 0 < w) (low : m * w ≤ x * u) (high : x * u < (m + 1) * w) where
  digit-least : m / u ≤ x / w
  digit-least =
      let a = mul-le-mul_right w (div-mul-le_self m u) in
      let b = mul_right_comm (m / u) u w in
      let c : m / u * w * u ≤ x * u = omega (arith, a, b, low) in
      (le-div_iff_mul-le {k = w} {x = m / u} {y = x} p).1 (le_of_mul-le-mul_right {m = m / u * w} {n = x} {k = u} c z)

  digit-most : x / w < m / u + 1
  digit-most =
      let a : m + 1 ≤ (m / u + 1) * u = let t = lt-div-mul-add {a = m} {b = u} z in let d = add-mul (m / u) 1 u in omega (arith, t, d) in
      let b = mul-le-mul_right w a in
      let c = mul_right_comm (m / u + 1) u w in
      let d : x * u < (m / u + 1) * w * u = omega (arith, high, b, c) in
      (div-lt_iff_lt-mul {k = w} {x = x} {y = m / u + 1} p).1 (lt_of_mul-lt-mul_right u {m = x} {n = (m / u + 1) * w} d)

  pub digit_is : x / w ≡ m / u
  digit_is = omega (arith, digit-least, digit-most)

  -- what is left of both
  rest_share : x % w * u + m / u * u * w ≡ x * u
  rest_share =
      let a = div-add-mod' x w in
      let b : x / w * w ≡ m / u * w = ap (λ (q : ℕ). q * w) digit_is in
      let c = add-mul (x / w * w) (x % w) u in
      let d : x / w * w * u ≡ m / u * w * u = ap (λ (q : ℕ). q * u) b in
      let e = mul_right_comm (m / u) w u in
      let f : (x / w * w + x % w) * u ≡ x * u = ap (λ (q : ℕ). q * u) a in
      omega (arith, c, d, e, f)

  rest-parts : m % u * w + m / u * u * w ≡ m * w
  rest-parts =
      let a = div-add-mod' m u in
      let b = add-mul (m / u * u) (m % u) w in
      let c : (m / u * u + m % u) * w ≡ m * w = ap (λ (q : ℕ). q * w) a in
      omega (arith, b, c)

  pub rest-low : m % u * w ≤ x % w * u
  rest-low = omega (arith, rest_share, rest-parts, low)

  pub rest_high : x % w * u < (m % u + 1) * w
  rest_high =
      let a = add-mul (m % u) 1 w in
      let b = add-mul m 1 w in
      omega (arith, rest_share, rest-parts, high, a, b)
