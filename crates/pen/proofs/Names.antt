-- Packed names: the name comes back from its number and the number from its name, so two numbers differ where their names do; their order is the byte
-- order of the names. The drawing compares layers by it, and lists of layers can be sorted by it.
-- Assumes nothing.
use Rattle.std.specs.Prelude.{if◌then◌else◌}
use mathlib.Core.Path.{◌≡◌, refl, sym, ap, ◌∙◌, subst}
use mathlib.Core.Bool.{Bool, true, false, ◌&&◌}
use mathlib.Core.Logic.{inl, inr}
use mathlib.Core.List.{List, [], ◌∷◌}
use Prim.Native.Nat.{ℕ, zero, suc, ◌+◌, ◌*◌, ◌/◌, ◌%◌, ◌≤◌, ◌<◌}
use native.Mathlib.Omega.{arith}
use borrow.Author.Tests.{eq-eqb, ne_eqb, eqb-true, eqb-false, lt-ltb, le-ltb, ltb-true, ltb-false}
use lib.Dec.{T, eqb, ltb, leb, leb→le}
use lib.ListN.{length}
use Rattle.grammar.specs.Notation.{has}
use Rattle.grammar.proofs.Tests.{and_left, and_right}
use Rattle.definition.specs.Words.{same}
use Rattle.definition.specs.Drawing.{Drawn}
use Rattle.definition.specs.Flat.{line}
use Rattle.laws.proofs.Lists.Range.{All, all_to}
use Rattle.definition.proofs.Rows.{same-eq}
use Rattle.laws.proofs.FlatFile.Spelling.{NameChar}
use Rattle.laws.proofs.FlatFile.Sound.{Sound}
use Rattle.pen.specs.Lines.{layer_line}
use Rattle.pen.specs.Names.{packed_by, packed, behind, unpacked, name_of, earlier}

-- CM is the bytes 67 and 77, and two of zero
cm : packed (67 ∷ 77 ∷ []) ≡ ((67 * 256 + 77) * 256 + 0) * 256 + 0
unfolding packed packed_by
cm = refl

-- ---- a name's bytes

abbrev pub NameByte : ℕ → Type 0
NameByte a = (0 < a) × (a < 256)

pub record Name (l : List ℕ) : Type 0 where
  pub short : length l ≤ 4
  pub bytes : All NameByte l

within : (low high a : ℕ) → 0 < low → high < 256 → T (leb low a && leb a high) → NameByte a
within low high a p q h =
    let l = leb→le low a (and_left (leb low a) (leb a high) h) in
    let g = leb→le a high (and_right (leb low a) (leb a high) h) in
    (omega arith, omega arith)

-- digits and upper-case letters are such bytes
char-byte : (a : ℕ) → NameChar a → NameByte a
unfolding has
char-byte a (inl h) = within 48 57 a (omega arith) (omega arith) h
char-byte a (inr h) = within 65 90 a (omega arith) (omega arith) h

pub a_name : (l : List ℕ) → length l ≤ 4 → All NameChar l → Name l
a_name l h cs = record { short = h; bytes = all_to NameChar NameByte char-byte l cs }

pub sound-name : (d : Drawn) → Sound d → Name d.layer_of
sound-name d s = a_name d.layer_of s.short-name s.name_chars

-- ---- unpacking, byte by byte

-- where nothing is left, no byte more is
enough : (k n : ℕ) → unpacked k (behind n) ≡ unpacked (suc k) (behind n) → unpacked (suc k) n ≡ unpacked (suc (suc k)) n
unfolding unpacked
enough k n e = ap (λ (l : List ℕ). if eqb n 0 then [] else (n / 16777216) ∷ l) e

no_more : (n : ℕ) → n ≡ 0 → unpacked 0 n ≡ unpacked 1 n
unfolding unpacked
no_more n e = rw (eq-eqb n 0 e)

pub no_name : (n : ℕ) → n ≡ 0 → name_of n ≡ []
unfolding unpacked
no_name n e = rw (eq-eqb n 0 e)

pub name-bytes : (n : ℕ) → (n ≡ 0 → ⊥) → name_of n ≡ (n / 16777216) ∷ name_of (behind n)
unfolding unpacked
name-bytes n h =
    let m = behind n in
    rw (ne_eqb n 0 h) (ap (λ (l : List ℕ). (n / 16777216) ∷ l) (enough 2 m (enough 1 (behind m) (enough 0 (behind (behind m)) (no_more (behind (behind (behind m))) (omega arith))))))

unpacked-length : (k n : ℕ) → length (unpacked k n) ≤ k
unfolding unpacked
unpacked-length zero n = omega arith
unpacked-length (suc k) n = go (eqb n 0) (unpacked-length k (behind n))
  where
    go : (b : Bool) → length (unpacked k (behind n)) ≤ k → length (if b then [] else (n / 16777216) ∷ unpacked k (behind n)) ≤ suc k
    go true h = omega arith
    go false h = omega (arith, h)

pub name-length : (n : ℕ) → length (name_of n) ≤ 4
name-length n = unpacked-length 4 n

-- ---- there and back

-- the first letter counts most, and what comes after it is moved down
packed-first : (a : ℕ) (l : List ℕ) → length l ≤ 3 → packed (a ∷ l) ≡ a * 16777216 + packed l / 256
unfolding packed packed_by
packed-first a [] h = omega arith
packed-first a (b ∷ []) h = omega arith
packed-first a (b ∷ c ∷ []) h = omega arith
packed-first a (b ∷ c ∷ d ∷ []) h = omega arith
packed-first a (b ∷ c ∷ d ∷ e ∷ l) h = absurd (omega (arith, h))

packed-empty : packed [] ≡ 0
unfolding packed packed_by
packed-empty = refl

below : (l : List ℕ) → length l ≤ 4 → All NameByte l → packed l < 4294967296
unfolding All
below [] n h = omega (arith, packed-empty)
below (a ∷ l) n h = let q = below l (omega (arith, n)) h.1 in let b = h.0.1 in omega (arith, q, b, packed-first a l (omega (arith, n)))

-- three bytes leave the lowest free
lowest_free : (l : List ℕ) → length l ≤ 3 → packed l % 256 ≡ 0
unfolding packed packed_by
lowest_free [] h = omega arith
lowest_free (a ∷ []) h = omega arith
lowest_free (a ∷ b ∷ []) h = omega arith
lowest_free (a ∷ b ∷ c ∷ []) h = omega arith
lowest_free (a ∷ b ∷ c ∷ d ∷ l) h = absurd (omega (arith, h))

unpacks : (k : ℕ) (l : List ℕ) → length l ≤ k → k ≤ 4 → All NameByte l → unpacked k (packed l) ≡ l
unfolding unpacked All
unpacks zero [] h i b = refl
unpacks zero (a ∷ l) h i b = absurd (omega (arith, h))
unpacks (suc k) [] h i b = rw (packed-empty)
unpacks (suc k) (a ∷ l) h i b =
    let n = packed (a ∷ l) in
    let e : n ≡ a * 16777216 + packed l / 256 = packed-first a l (omega (arith, h, i)) in
    let p : packed l < 4294967296 = below l (omega (arith, h, i)) b.1 in
    let f : packed l % 256 ≡ 0 = lowest_free l (omega (arith, h)) in
    let some : 0 < a = b.0.0 in
    let rest : behind n ≡ packed l = omega arith in
    let first : n / 16777216 ≡ a = omega arith in
    let others : unpacked k (behind n) ≡ l = ap (unpacked k) rest ∙ unpacks k l (omega (arith, h)) (omega (arith, i)) b.1 in
    rw (ne_eqb n 0 (omega arith)) (cc)

-- the name comes back
pub name_back : (l : List ℕ) → Name l → name_of (packed l) ≡ l
name_back l h = unpacks 4 l h.short (omega arith) h.bytes

pub packed-same : (l m : List ℕ) → Name l → Name m → packed l ≡ packed m → l ≡ m
packed-same l m h i e = sym (name_back l h) ∙ ap name_of e ∙ name_back m i

packs : (k n : ℕ) → k ≤ 3 → packed (unpacked k (behind n)) ≡ behind n → packed (unpacked (suc k) n) ≡ n
unfolding unpacked
packs k n h e = go (eqb n 0) refl
  where
    go : (b : Bool) → eqb n 0 ≡ b → packed (if b then [] else (n / 16777216) ∷ unpacked k (behind n)) ≡ n
    go true q = packed-empty ∙ sym (eqb-true n 0 q)
    go false q =
        let x = packed (unpacked k (behind n)) in
        omega (arith, e, packed-first (n / 16777216) (unpacked k (behind n)) (omega (arith, h, unpacked-length k (behind n))))

-- the number comes back
pub packed-back : (n : ℕ) → packed (name_of n) ≡ n
unfolding unpacked
packed-back n =
    let a = behind n in
    let b = behind a in
    let c = behind b in
    packs 3 n (omega arith) (packs 2 a (omega arith) (packs 1 b (omega arith) (packs 0 c (omega arith) (packed-empty ∙ omega arith))))

pub packed_none : (l : List ℕ) → Name l → packed l ≡ 0 → l ≡ []
packed_none l h e = sym (name_back l h) ∙ no_name (packed l) e

pub name-same : (n m : ℕ) → name_of n ≡ name_of m → n ≡ m
name-same n m e = sym (packed-back n) ∙ ap packed e ∙ packed-back m

-- ---- the order

ltb_alike : (a b x y : ℕ) → (a < b → x < y) → (x < y → a < b) → ltb a b ≡ ltb x y
ltb_alike a b x y f g = go (ltb x y) refl
  where
    go : (t : Bool) → ltb x y ≡ t → ltb a b ≡ t
    go true e = lt-ltb a b (g (ltb-true x y e))
    go false e = le-ltb a b (let h = ltb-false x y e in let not : ¬ (a < b) = λ l. (let k = f l in omega (arith, h, k)) in omega (arith, not))

order : (l m : List ℕ) → length l ≤ 4 → length m ≤ 4 → All NameByte l → All NameByte m → ltb (packed l) (packed m) ≡ earlier l m
unfolding earlier All
order [] [] h i x y = le-ltb (packed []) (packed []) (omega arith)
order (a ∷ l) [] h i x y = le-ltb (packed (a ∷ l)) (packed []) (omega (arith, packed-empty))
order [] (b ∷ m) h i x y =
    let some : 0 < b = y.0.0 in lt-ltb (packed []) (packed (b ∷ m)) (omega (arith, packed-empty, packed-first b m (omega (arith, i))))
order (a ∷ l) (b ∷ m) h i x y = go (eqb a b) refl (order l m (omega (arith, h)) (omega (arith, i)) x.1 y.1)
  where
    p : packed l < 4294967296
    p = below l (omega (arith, h)) x.1

    q : packed m < 4294967296
    q = below m (omega (arith, i)) y.1

    u : packed l % 256 ≡ 0
    u = lowest_free l (omega (arith, h))

    v : packed m % 256 ≡ 0
    v = lowest_free m (omega (arith, i))

    f : packed (a ∷ l) ≡ a * 16777216 + packed l / 256
    f = packed-first a l (omega (arith, h))

    g : packed (b ∷ m) ≡ b * 16777216 + packed m / 256
    g = packed-first b m (omega (arith, i))

    go : (t : Bool) → eqb a b ≡ t → ltb (packed l) (packed m) ≡ earlier l m → ltb (packed (a ∷ l)) (packed (b ∷ m)) ≡ (if t then earlier l m else ltb a b)
    go true e r =
        let s = eqb-true a b e in
        ltb_alike (packed (a ∷ l)) (packed (b ∷ m)) (packed l) (packed m) (λ k. omega (arith, k, s, u, v, f, g)) (λ k. omega (arith, k, s, u, v, f, g)) ∙ r
    go false e r =
        let d = eqb-false a b e in
        ltb_alike (packed (a ∷ l)) (packed (b ∷ m)) a b (λ k. omega (arith, k, d, p, q, f, g)) (λ k. omega (arith, k, p, q, f, g))

pub packed-order : (l m : List ℕ) → Name l → Name m → ltb (packed l) (packed m) ≡ earlier l m
packed-order l m h i = order l m h.short i.short h.bytes i.bytes

-- ---- the L line

pub same_refl : (l : List ℕ) → same l l ≡ true
unfolding same
same_refl [] = refl
same_refl (a ∷ l) = rw (eq-eqb a a refl) (same_refl l)

pub no_line : (before layer : ℕ) → before ≡ layer → layer_line (name_of before) (name_of layer) ≡ []
no_line b n e = rw (e, same_refl (name_of n))

pub a_line : (before layer : ℕ) → (before ≡ layer → ⊥) → layer_line (name_of before) (name_of layer) ≡ line 76 (name_of layer)
a_line b n d = go (same (name_of b) (name_of n)) refl
  where
    go : (t : Bool) → same (name_of b) (name_of n) ≡ t → (if t then [] else line 76 (name_of n)) ≡ line 76 (name_of n)
    go true e = absurd (d (name-same b n (same-eq (name_of b) (name_of n) (subst T (sym e) tt))))
    go false e = refl
