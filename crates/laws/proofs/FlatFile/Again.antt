-- A flat file read again: its letters with their roles, and that the numbers that it says are read back.
-- Assumes nothing.
use Rattle.std.specs.Prelude.{if◌then◌else◌}
use mathlib.Core.Path.{◌≡◌, refl, ap, ap₂, ◌∙◌}
use mathlib.Core.Bool.{Bool, true, false}
use mathlib.Core.List.{List, [], ◌∷◌, ◌++◌, append_assoc, map}
use Prim.Native.Nat.{ℕ, suc, ◌+◌, ◌-◌, ◌*◌, ◌<◌}
use native.Mathlib.Omega.{arith}
use lib.IntN.{ℤ, pos, negsuc, neg_ℤ, nat_abs}
use lib.ListN.{length}
use Rattle.grammar.specs.Notation.{Letter, dec, skip, sign, stop, lead, later}
use Rattle.grammar.specs.Viable.{bytes}
use Rattle.grammar.specs.Tables.{letter}
use Rattle.definition.specs.Words.{at}
use Rattle.definition.specs.Commands.{Number, worth, numbers, ◌plays◌}
use Rattle.definition.specs.Flat.{shortest, decimal, spaced}
use Rattle.laws.proofs.FlatFile.Decimals.{val, shortest_is}

abbrev pub laters : List ℕ → List Letter
laters [] = []
laters (c ∷ cs) = letter c later ∷ laters cs

unfoldable pub digit_letters : List ℕ → List Letter
digit_letters [] = []
digit_letters (c ∷ cs) = letter c lead ∷ laters cs

unfoldable pub decimal_letters : ℤ → List Letter
decimal_letters (pos n) = digit_letters (shortest n)
decimal_letters (negsuc n) = letter 45 sign ∷ digit_letters (shortest (nat_abs (negsuc n)))

unfoldable pub spaced_letters : List ℤ → List Letter
spaced_letters [] = []
spaced_letters (z ∷ []) = decimal_letters z
spaced_letters (z ∷ y ∷ zs) = decimal_letters z ++ (letter 32 skip ∷ spaced_letters (y ∷ zs))

-- ---- they are the bytes of the flat file

pub bytes-++ : (a b : List Letter) → bytes (a ++ b) ≡ bytes a ++ bytes b
bytes-++ [] b = refl
bytes-++ (l ∷ a) b = ap (λ (x : List ℕ). l.byte ∷ x) (bytes-++ a b)

laters_bytes : (cs : List ℕ) → bytes (laters cs) ≡ cs
laters_bytes [] = refl
laters_bytes (c ∷ cs) = ap (λ (x : List ℕ). c ∷ x) (laters_bytes cs)

digits-bytes : (cs : List ℕ) → bytes (digit_letters cs) ≡ cs
unfolding digit_letters
digits-bytes [] = refl
digits-bytes (c ∷ cs) = ap (λ (x : List ℕ). c ∷ x) (laters_bytes cs)

decimal-bytes : (z : ℤ) → bytes (decimal_letters z) ≡ decimal z
unfolding decimal_letters decimal
decimal-bytes (pos n) = digits-bytes (shortest n)
decimal-bytes (negsuc n) = ap (λ (x : List ℕ). 45 ∷ x) (digits-bytes (shortest (nat_abs (negsuc n))))

pub spaced-bytes : (zs : List ℤ) → bytes (spaced_letters zs) ≡ spaced zs
unfolding spaced_letters spaced
spaced-bytes [] = refl
spaced-bytes (z ∷ []) = decimal-bytes z
spaced-bytes (z ∷ y ∷ zs) =
    bytes-++ (decimal_letters z) (letter 32 skip ∷ spaced_letters (y ∷ zs))
    ∙ ap₂ {C = List ℕ} (λ (a b : List ℕ). a ++ (32 ∷ b)) (decimal-bytes z) (spaced-bytes (y ∷ zs))

-- ---- decimals are read back

-- digits, up to a letter that is none
worth_val : (v : ℕ) (cs : List ℕ) (l : Letter) (m : List Letter) → (l plays later) ≡ false → worth v (laters cs ++ l ∷ m) ≡ val v cs
unfolding worth val dec
worth_val v [] l m e = rw e
worth_val v (c ∷ cs) l m e = worth_val (10 * v + (c - 48)) cs l m e

pass_laters : (n : ℕ) (cs : List ℕ) (m : List Letter) → numbers n false (laters cs ++ m) ≡ numbers (n + length cs) false m
unfolding numbers dec
pass_laters n [] m = ap (λ (k : ℕ). numbers k false m) (omega arith)
pass_laters n (c ∷ cs) m = pass_laters (n + 1) cs m ∙ ap (λ (k : ℕ). numbers k false m) (omega arith)

abbrev pub values : List Number → List ℤ
values ns = map (λ d. d.what) ns

-- a letter that is nothing but a space or the semicolon
pub record Ends (l : Letter) : Type 0 where
  pub no_later : (l plays later) ≡ false
  pub no_lead : (l plays lead) ≡ false
  pub no_sign : (l plays sign) ≡ false

digits-read : (n : ℕ) (s : Bool) (cs : List ℕ) (l : Letter) (m : List Letter) → Ends l → (0 < length cs)
    → numbers n s (digit_letters cs ++ l ∷ m)
    ≡ (if s then at (n - 1) (neg_ℤ (pos (val 0 cs))) else at n (pos (val 0 cs))) ∷ numbers (n + length cs) false (l ∷ m)
unfolding digit_letters
digits-read n s [] l m e h = absurd (omega (arith, h))
digits-read n s (c ∷ cs) l m e h = step ∙ two
  where
    first_val : worth (c - 48) (laters cs ++ l ∷ m) ≡ val 0 (c ∷ cs)
    first_val = worth_val (c - 48) cs l m e.no_later ∙ begin
      where
        begin : val (c - 48) cs ≡ val 0 (c ∷ cs)
        begin = unfold val in ap (λ (k : ℕ). val k cs) (omega arith)

    step : numbers n s (letter c lead ∷ (laters cs ++ l ∷ m))
        ≡ (if s then at (n - 1) (neg_ℤ (pos (worth (c - 48) (laters cs ++ l ∷ m)))) else at n (pos (worth (c - 48) (laters cs ++ l ∷ m)))) ∷ numbers (n + 1) false (laters cs ++ l ∷ m)
    step = unfold numbers dec in refl

    two : (if s then at (n - 1) (neg_ℤ (pos (worth (c - 48) (laters cs ++ l ∷ m)))) else at n (pos (worth (c - 48) (laters cs ++ l ∷ m)))) ∷ numbers (n + 1) false (laters cs ++ l ∷ m)
        ≡ (if s then at (n - 1) (neg_ℤ (pos (val 0 (c ∷ cs)))) else at n (pos (val 0 (c ∷ cs)))) ∷ numbers (n + suc (length cs)) false (l ∷ m)
    two =
        ap₂ {C = List Number} (λ (v : ℕ) (ns : List Number). (if s then at (n - 1) (neg_ℤ (pos v)) else at n (pos v)) ∷ ns) first_val
        (pass_laters (n + 1) cs (l ∷ m) ∙ ap (λ (k : ℕ). numbers k false (l ∷ m)) (omega arith))

-- a number that is said is read
number_read : (n : ℕ) (z : ℤ) (l : Letter) (m : List Letter) → Ends l
    → (k : ℕ) × (values (numbers n false (decimal_letters z ++ l ∷ m)) ≡ z ∷ values (numbers k false (l ∷ m)))
unfolding decimal_letters
number_read n (pos v) l m e = (
  n + length (shortest v),
  ap (λ (ns : List Number). values ns) (digits-read n false (shortest v) l m e (shortest_is v).says.some)
      ∙ ap (λ (x : ℕ). pos x ∷ values (numbers (n + length (shortest v)) false (l ∷ m))) (shortest_is v).says.value,
)
number_read n (negsuc v) l m e = (
  n + 1 + length (shortest (suc v)),
  ap (λ (ns : List Number). values ns) (signed ∙ digits-read (n + 1) true (shortest (suc v)) l m e (shortest_is (suc v)).says.some)
      ∙ ap (λ (x : ℕ). neg_ℤ (pos x) ∷ values (numbers (n + 1 + length (shortest (suc v))) false (l ∷ m))) (shortest_is (suc v)).says.value,
)
  where
    signed : numbers n false (letter 45 sign ∷ (digit_letters (shortest (suc v)) ++ l ∷ m)) ≡ numbers (n + 1) true (digit_letters (shortest (suc v)) ++ l ∷ m)
    signed = unfold numbers dec in refl

space-ends : Ends (letter 32 skip)
space-ends = unfold dec in record { no_later = refl; no_lead = refl; no_sign = refl }

stop-ends : (l : Letter) → l.role ≡ stop → Ends l
stop-ends l e = record { no_later = unfold dec in rw e; no_lead = unfold dec in rw e; no_sign = unfold dec in rw e }

-- numbers that are said with spaces, up to a semicolon, are read
pub spaced-read : (n : ℕ) (zs : List ℤ) (l : Letter) (m : List Letter) → l.role ≡ stop → values (numbers n false (spaced_letters zs ++ l ∷ m)) ≡ zs
unfolding spaced_letters
spaced-read n [] l m e = stopped n
  where
    stopped : (k : ℕ) → values (numbers k false (l ∷ m)) ≡ []
    stopped k = unfold numbers dec in rw e
spaced-read n (z ∷ []) l m e =
    let r = number_read n z l m (stop-ends l e) in r.1 ∙ ap (λ (x : List ℤ). z ∷ x) (stopped r.0)
  where
    stopped : (k : ℕ) → values (numbers k false (l ∷ m)) ≡ []
    stopped k = unfold numbers dec in rw e
spaced-read n (z ∷ y ∷ zs) l m e =
    let r = number_read n z (letter 32 skip) (spaced_letters (y ∷ zs) ++ l ∷ m) space-ends in
    ap (λ (x : List Letter). values (numbers n false x)) (append_assoc (decimal_letters z) (letter 32 skip ∷ spaced_letters (y ∷ zs)) (l ∷ m))
    ∙ r.1
    ∙ ap (λ (x : List ℤ). z ∷ x) (passed r.0 ∙ spaced-read (r.0 + 1) (y ∷ zs) l m e)
  where
    passed : (k : ℕ) → values (numbers k false (letter 32 skip ∷ (spaced_letters (y ∷ zs) ++ l ∷ m))) ≡ values (numbers (k + 1) false (spaced_letters (y ∷ zs) ++ l ∷ m))
    passed k = unfold numbers dec in refl
