-- Two verdicts that the contract allows are one, so the contract settles what `recognise` answers.
-- Assumes nothing.
use mathlib.Core.Path.{◌≡◌, refl, ap}
use mathlib.Core.List.{List}
use Prim.Native.Nat.{ℕ, ◌≤◌}
use native.Mathlib.Omega.{arith}
use Rattle.grammar.specs.Viable.{LongestViable, Judged}
use Rattle.std.specs.Prelude.{Err, Ok, Result}

pub one_length : {t : List ℕ} {n m : ℕ} → LongestViable t n → LongestViable t m → n ≡ m
one_length {t} {n} {m} a b =
    let up : n ≤ m = b.longest n a.within a.viable in
    let down : m ≤ n = a.longest m b.within b.viable in
    omega arith

pub one_verdict : (t : List ℕ) (v w : Result Unit ℕ) → Judged t v → Judged t w → v ≡ w
one_verdict t (Ok _) (Ok _) a b = refl
one_verdict t (Ok _) (Err m) a b = absurd (b.0 a)
one_verdict t (Err n) (Ok _) a b = absurd (a.0 b)
one_verdict t (Err n) (Err m) a b = ap (λ (k : ℕ). Err k) (one_length a.1 b.1)
