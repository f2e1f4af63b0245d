-- What the account says against a command, refusal by refusal, in terms of the command's marks.
-- Assumes nothing.
use Rattle.std.specs.Prelude.{if◌then◌else◌}
use mathlib.Core.Path.{◌≡◌, refl, sym, ap, ap₂, ◌∙◌}
use mathlib.Core.Bool.{Bool, true, false, not, ◌&&◌, ◌||◌, and_comm}
use mathlib.Core.List.{List, [], ◌∷◌}
use mathlib.Core.Option.{Option, none, some}
use Prim.Native.Nat.{ℕ, ◌+◌, ◌*◌, ◌%◌}
use native.Mathlib.Nat.{zero-add}
use native.Mathlib.Omega.{arith}
use lib.Dec.{ltb, eqb}
use lib.IntN.{nat_abs}
use borrow.Author.Tests.{lt-ltb, ltb-false, ne_eqb}
use Rattle.definition.specs.Words.{any}
use Rattle.definition.specs.Standing.{nearest}
use Rattle.definition.specs.Faults.{beyond}
use Rattle.laws.proofs.Lists.Range.{All}
use Rattle.definition.specs.Limits.{largest}
use Rattle.pieces.specs.Pieces.{too_large, capped}
use Rattle.rules.specs.Written.{Figure, one}
use Rattle.rules.specs.Rules.{distance, scaled_by, vital, scaleless, few, bare, many}
use Rattle.checking.specs.Account.{Blame, when, of_number, of_numbers, of_whole, rounded_of}
use Rattle.checking.specs.declared.Scope.{Scope}
use Rattle.reading.proofs.Foremost.{find, find-own, find_other, Numbered, all_when}
use Rattle.reading.proofs.Marks.{Mark, along_marks, found_by, one_place, worth_at, weighty_at}

-- ---- capped sizes

cap : (v : ℕ) (b : Bool) → ltb v too_large ≡ b → capped v ≡ (if b then v else too_large)
unfolding capped
cap v b e = rw e refl

pub capped-beyond : (v : ℕ) → ltb largest (capped v) ≡ ltb largest v
capped-beyond v = go (ltb v too_large) refl
  where
    go : (b : Bool) → ltb v too_large ≡ b → ltb largest (capped v) ≡ ltb largest v
    go true e = rw (cap v true e) refl
    go false e = rw (cap v false e) (sym (lt-ltb largest v (let h = ltb-false v too_large e in omega arith)))

pub capped-zero : (v : ℕ) → eqb (capped v) 0 ≡ eqb v 0
capped-zero v = go (ltb v too_large) refl
  where
    go : (b : Bool) → ltb v too_large ≡ b → eqb (capped v) 0 ≡ eqb v 0
    go true e = rw (cap v true e) refl
    go false e = rw (cap v false e) (sym (ne_eqb v 0 (λ z. let h = ltb-false v too_large e in omega arith)))

pub capped-exact : (v : ℕ) → ltb largest v ≡ false → capped v ≡ v
capped-exact v e = cap v true (lt-ltb v too_large (let h = ltb-false largest v e in omega arith))

-- ---- figures of the account, and marks

-- the account's figure, in a command with the first letter l, is this mark's
pub record Seen (l : ℕ) (f : Figure) (m : Mark) : Type 0 where
  pub place : f.place ≡ m.number.place
  pub size : f.size ≡ capped (nat_abs m.number.what)
  pub far : distance l f.word f.index ≡ m.far
  pub vital : vital l f.word f.index f.zero ≡ m.vital

-- a number that is left out meets no refusal
pub record Absent (m : Mark) : Type 0 where
  pub near : beyond m.number.what ≡ false
  pub not_far : m.far ≡ false
  pub light : m.vital ≡ false

pub data Sees (l : ℕ) : List Figure → List Mark → Type 0 where
  no_more : Sees l [] []
  left_out : {m : Mark} {ms : List Mark} → Absent m → Sees l [] ms → Sees l [] (m ∷ ms)
  one_seen : {f : Figure} {m : Mark} {fs : List Figure} {ms : List Mark} → Seen l f m → Sees l fs ms → Sees l (f ∷ fs) (m ∷ ms)

all_unit : (ms : List Mark) → All (λ (m : Mark). Unit {0}) ms
unfolding All
all_unit [] = tt
all_unit (m ∷ ms) = (tt, all_unit ms)

-- ---- against one number

module _ (s : Scope) (p l : ℕ) where
  abbrev test₃ : Figure → Bool
  test₃ f = ltb largest f.size

  abbrev value : Figure → ℕ
  value f = scaled_by s.a s.b l f.word f.index f.size

  abbrev test₆ : Figure → Bool
  test₆ f = ltb largest (value f)

  abbrev test₇ : Figure → Bool
  test₇ f = eqb (value f) 0 && Rattle.rules.specs.Rules.vital l f.word f.index f.zero

  module _ (f : Figure) (r : List Blame) where
    abbrev from₇ : List Blame
    from₇ = when (test₇ f) 7 p r

    abbrev from₆ : List Blame
    from₆ = when (test₆ f) 6 f.place from₇

    find_none : (k : ℕ) → eqb 3 k ≡ false → eqb 6 k ≡ false → eqb 7 k ≡ false → find k (of_number s p l f r) ≡ find k r
    find_none k e₃ e₆ e₇ =
        find_other k 3 e₃ (test₃ f) f.place from₆ ∙ (find_other k 6 e₆ (test₆ f) f.place from₇ ∙ find_other k 7 e₇ (test₇ f) p r)

    find-3 : find 3 (of_number s p l f r) ≡ (if test₃ f then some f.place else find 3 r)
    find-3 =
        find-own 3 refl (test₃ f) f.place from₆
        ∙ ap (λ (y : Option ℕ). if test₃ f then some f.place else y) (find_other 3 6 refl (test₆ f) f.place from₇ ∙ find_other 3 7 refl (test₇ f) p r)

    find-6 : find 6 (of_number s p l f r) ≡ (if test₆ f then some f.place else find 6 r)
    find-6 =
        find_other 6 3 refl (test₃ f) f.place from₆
        ∙ (find-own 6 refl (test₆ f) f.place from₇ ∙ ap (λ (y : Option ℕ). if test₆ f then some f.place else y) (find_other 6 7 refl (test₇ f) p r))

    find-7 : find 7 (of_number s p l f r) ≡ (if test₇ f then some p else find 7 r)
    find-7 = find_other 7 3 refl (test₃ f) f.place from₆ ∙ (find_other 7 6 refl (test₆ f) f.place from₇ ∙ find-own 7 refl (test₇ f) p r)

    all_of_number : All Numbered r → All Numbered (of_number s p l f r)
    all_of_number h =
        all_when (test₃ f) 3 f.place from₆ (omega arith) (omega arith)
        (all_when (test₆ f) 6 f.place from₇ (omega arith) (omega arith) (all_when (test₇ f) 7 p r (omega arith) (omega arith) h))

  -- where no number is beyond, sizes are exact
  abbrev Near : Mark → Type 0
  Near m = beyond m.number.what ≡ false

  exact : (f : Figure) (m : Mark) → Seen l f m → Near m → f.size ≡ nat_abs m.number.what
  unfolding beyond
  exact f m x h = x.size ∙ capped-exact (nat_abs m.number.what) h

  value_is : (f : Figure) (m : Mark) → Seen l f m → Near m → value f ≡ worth_at s.a s.b m
  value_is f m x h = ap₂ {C = ℕ} (λ (d : Bool) (n : ℕ). if d then nearest (s.a * n) s.b else n) x.far (exact f m x h)

  -- ---- against all numbers of a command
  module _ (r : List Blame) where
    pub sees_none : (k : ℕ) → eqb 3 k ≡ false → eqb 6 k ≡ false → eqb 7 k ≡ false → (fs : List Figure) → find k (of_numbers s p l fs r) ≡ find k r
    unfolding of_numbers
    sees_none k e₃ e₆ e₇ [] = refl
    sees_none k e₃ e₆ e₇ (f ∷ fs) = find_none f (of_numbers s p l fs r) k e₃ e₆ e₇ ∙ sees_none k e₃ e₆ e₇ fs

    sees_found : (k : ℕ) (t : Figure → Bool) (h : Mark → Bool) (P : Mark → Type 0)
        → ((f : Figure) (q : List Blame) → find k (of_number s p l f q) ≡ (if t f then some f.place else find k q))
        → ((f : Figure) (m : Mark) → Seen l f m → P m → t f ≡ h m) → ((m : Mark) → Absent m → h m ≡ false)
        → {fs : List Figure} {ms : List Mark} → Sees l fs ms → All P ms → find k (of_numbers s p l fs r) ≡ found_by h ms (find k r)
    unfolding of_numbers along_marks All
    sees_found k t h P own same skip no_more a = refl
    sees_found k t h P own same skip (left_out {m} x g) a = rw (skip m x) (sees_found k t h P own same skip g a.1)
    sees_found k t h P own same skip (one_seen {f} {m} {fs} {ms} x g) a =
        own f (of_numbers s p l fs r)
        ∙ rw (same f m x a.0, x.place) (ap (λ (y : Option ℕ). if h m then some m.number.place else y) (sees_found k t h P own same skip g a.1))

    abbrev heavy : Mark → Bool
    heavy m = weighty_at s.a s.b m

    pub sees-7 : {fs : List Figure} {ms : List Mark} → Sees l fs ms → All Near ms → find 7 (of_numbers s p l fs r) ≡ (if any heavy ms then some p else find 7 r)
    unfolding of_numbers any All
    sees-7 no_more a = refl
    sees-7 (left_out {m} {ms} x g) a =
        sees-7 g a.1 ∙ ap (λ (b : Bool). if (b && eqb (worth_at s.a s.b m) 0) || any heavy ms then some p else find 7 r) (sym x.light)
    sees-7 (one_seen {f} {m} {fs} {ms} x g) a =
        find-7 f (of_numbers s p l fs r)
        ∙ (ap (λ (y : Option ℕ). if test₇ f then some p else y) (sees-7 g a.1)
        ∙ (ap (λ (b : Bool). if b then some p else (if any heavy ms then some p else find 7 r)) weight ∙ nest (heavy m) (any heavy ms)))
      where
        weight : test₇ f ≡ heavy m
        weight =
            ap₂ (λ (b c : Bool). b && c) (ap (λ (n : ℕ). eqb n 0) (value_is f m x a.0)) x.vital ∙ and_comm (eqb (worth_at s.a s.b m) 0) m.vital

        nest : (a b : Bool) → (if a then some p else (if b then some p else find 7 r)) ≡ (if a || b then some p else find 7 r)
        nest true b = refl
        nest false b = refl

    pub sees-3 : {fs : List Figure} {ms : List Mark} → Sees l fs ms → find 3 (of_numbers s p l fs r) ≡ found_by (λ m. beyond m.number.what) ms (find 3 r)
    unfolding beyond
    sees-3 {ms = ms} g =
        sees_found 3 test₃ (λ m. beyond m.number.what) (λ m. Unit {0}) find-3 (λ f m x u. ap (λ (n : ℕ). ltb largest n) x.size ∙ capped-beyond (nat_abs m.number.what))
        (λ m x. x.near) g (all_unit ms)

    -- a number that is no distance and not beyond stays so
    far_test : Mark → Bool
    far_test m = m.far && ltb largest (nearest (s.a * nat_abs m.number.what) s.b)

    far_or_near : (m : Mark) → Near m → ltb largest (worth_at s.a s.b m) ≡ far_test m
    unfolding beyond far_test
    far_or_near m h = go m.far
      where
        go : (b : Bool) → ltb largest (if b then nearest (s.a * nat_abs m.number.what) s.b else nat_abs m.number.what) ≡ (b && ltb largest (nearest (s.a * nat_abs m.number.what) s.b))
        go true = refl
        go false = h

    pub sees-6 : {fs : List Figure} {ms : List Mark} → Sees l fs ms → All Near ms
        → find 6 (of_numbers s p l fs r) ≡ found_by (λ m. m.far && ltb largest (nearest (s.a * nat_abs m.number.what) s.b)) ms (find 6 r)
    unfolding far_test
    sees-6 g a =
        sees_found 6 test₆ far_test Near find-6
        (λ f m x h. ap (λ (n : ℕ). ltb largest n) (value_is f m x h) ∙ far_or_near m h)
        (λ m x. ap (λ (b : Bool). b && ltb largest (nearest (s.a * nat_abs m.number.what) s.b)) x.not_far) g a

    pub all_of_numbers : (fs : List Figure) → All Numbered r → All Numbered (of_numbers s p l fs r)
    unfolding of_numbers
    all_of_numbers [] h = h
    all_of_numbers (f ∷ fs) h = all_of_number f (of_numbers s p l fs r) (all_of_numbers fs h)

-- ---- rounded numbers of a command

module _ (s : Scope) (l : ℕ) where
  abbrev ragged-mark : Mark → Bool
  ragged-mark m = m.far && not (eqb (s.a * nat_abs m.number.what % s.b) 0)

  pub sees_rounded : {fs : List Figure} {ms : List Mark} → Sees l fs ms → All (λ m. beyond m.number.what ≡ false) ms → rounded_of s l fs ≡ along_marks one_place ragged-mark ms 0
  unfolding rounded_of along_marks All
  sees_rounded no_more a = refl
  sees_rounded (left_out {m} {ms} x g) a =
      sees_rounded g a.1
      ∙ sym (ap (λ (b : Bool). (if b && not (eqb (s.a * nat_abs m.number.what % s.b) 0) then 1 else 0) + along_marks one_place ragged-mark ms 0) x.not_far ∙ zero-add _)
  sees_rounded (one_seen {f} {m} {fs} {ms} x g) a =
      ap₂ {C = ℕ} (λ (b : Bool) (n : ℕ). one (b && not (eqb (s.a * n % s.b) 0)) + rounded_of s l fs) x.far (exact s 0 l f m x a.0)
      ∙ ap (λ (n : ℕ). one (ragged-mark m) + n) (sees_rounded g a.1)

-- ---- against the command as a whole

-- r says refusals 4, 7, 8 and 9 at place p by these tests, and no other
pub record Wholly (p : ℕ) (b₄ b₇ b₈ b₉ : Bool) (r : List Blame) : Type 0 where
  pub none_else : (k : ℕ) → eqb 4 k ≡ false → eqb 7 k ≡ false → eqb 8 k ≡ false → eqb 9 k ≡ false → find k r ≡ none
  pub four : find 4 r ≡ (if b₄ then some p else none)
  pub seven : find 7 r ≡ (if b₇ then some p else none)
  pub eight : find 8 r ≡ (if b₈ then some p else none)
  pub nine : find 9 r ≡ (if b₉ then some p else none)
  pub numbered : All Numbered r

nothing_found : (k : ℕ) → find k [] ≡ none
unfolding find
nothing_found k = refl

wholly : (p : ℕ) (b₄ b₇ b₈ b₉ : Bool) → Wholly p b₄ b₇ b₈ b₉ (when b₄ 4 p (when b₇ 7 p (when b₈ 8 p (when b₉ 9 p []))))
wholly p b₄ b₇ b₈ b₉ = record {
  none_else = λ k e₄ e₇ e₈ e₉. not-4 k e₄ ∙ (not-7 k e₇ ∙ (not-8 k e₈ ∙ not-9 k e₉));
  four = own 4 refl b₄ r₇ (not-7 4 refl ∙ (not-8 4 refl ∙ not-9 4 refl));
  seven = not-4 7 refl ∙ own 7 refl b₇ r₈ (not-8 7 refl ∙ not-9 7 refl);
  eight = not-4 8 refl ∙ (not-7 8 refl ∙ own 8 refl b₈ r₉ (not-9 8 refl));
  nine = not-4 9 refl ∙ (not-7 9 refl ∙ (not-8 9 refl ∙ own 9 refl b₉ [] (nothing_found 9)));
  numbered =
      all_when b₄ 4 p r₇ (omega arith) (omega arith)
      (all_when b₇ 7 p r₈ (omega arith) (omega arith) (all_when b₈ 8 p r₉ (omega arith) (omega arith) (all_when b₉ 9 p [] (omega arith) (omega arith) empty)));
}
  where
    r₉ : List Blame
    r₉ = when b₉ 9 p []

    r₈ : List Blame
    r₈ = when b₈ 8 p r₉

    r₇ : List Blame
    r₇ = when b₇ 7 p r₈

    not-4 : (k : ℕ) → eqb 4 k ≡ false → find k (when b₄ 4 p r₇) ≡ find k r₇
    not-4 k e = find_other k 4 e b₄ p r₇

    not-7 : (k : ℕ) → eqb 7 k ≡ false → find k r₇ ≡ find k r₈
    not-7 k e = find_other k 7 e b₇ p r₈

    not-8 : (k : ℕ) → eqb 8 k ≡ false → find k r₈ ≡ find k r₉
    not-8 k e = find_other k 8 e b₈ p r₉

    not-9 : (k : ℕ) → eqb 9 k ≡ false → find k r₉ ≡ none
    not-9 k e = find_other k 9 e b₉ p [] ∙ nothing_found k

    own : (n : ℕ) → eqb n n ≡ true → (b : Bool) (r : List Blame) → find n r ≡ none → find n (when b n p r) ≡ (if b then some p else none)
    own n e b r h = find-own n e b p r ∙ ap (λ (z : Option ℕ). if b then some p else z) h

    empty : All Numbered []
    empty = unfold All in tt

pub of_whole_lem : (p l w n t a b y : ℕ) → Wholly p (scaleless l w a b) (few l n) (bare l y) (many l n t) (of_whole p l w n t a b y)
of_whole_lem p l w n t a b y = wholly p (scaleless l w a b) (few l n) (bare l y) (many l n t)
