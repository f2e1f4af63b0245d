-- Two outcomes that a contract of this crate allows are one: what `find`, `forget`, `begin`, `compact`, `store` and `replace_layer` answer, and every number and
-- word afterwards, those after the live rows and after the words used too. The other contracts are equations.
-- Assumes nothing.
use mathlib.Core.Path.{◌≡◌, refl, sym, ap, ap₂, ◌∙◌, subst}
use mathlib.Core.Bool.{Bool, true, false}
use mathlib.Core.List.{List, [], head-eq_of_cons-eq, tail-eq_of_cons-eq}
use Prim.Native.Nat.{ℕ, zero, suc, ◌+◌, ◌-◌, ◌*◌, ◌/◌, ◌%◌, ◌≤◌, ◌<◌}
use native.Mathlib.Omega.{arith}
use borrow.Author.Tests.{eqb-true, eqb-false}
use lib.Dec.{eqb}
use lib.IntN.{ℤ, pos}
use lib.ListN.{length, get_or}
use lib.Seq.{ext_get_or}
use Rattle.definition.specs.Table.{Definition, Table}
use Rattle.std.specs.Prelude.{Option, Some, None}
use Rattle.library.specs.declared.Begun.{Begun}
use Rattle.library.specs.declared.Begun.TheVariants.{Replaced, Added}
use Rattle.library.specs.Memory.{words_at, table_from, symbol_at, start_at, length_at, needed_at, row_numbers}
use Rattle.library.specs.Moving.{Moved, Compacted}
use Rattle.library.specs.Rows.{Finds, Forgets, SameAt, before, Entry, Begins}
use Rattle.library.specs.Storing.{Relayered, Stores}
use Rattle.library.proofs.Cases.{by_row, by_place, side, none_or_some}

-- ---- find and forget

pub finds_sole : (rows : List ℕ) (live n : ℕ) (r s : Option ℕ) → Finds rows live n r → Finds rows live n s → r ≡ s
unfolding Finds
finds_sole rows live n (Some i) (Some j) x y = ap {B = Option ℕ} Some (side (i ≡ j) i j (λ h. absurd (y.2 i h x.1)) (λ e. e) (λ h. absurd (x.2 j h y.1)))
finds_sole rows live n (Some i) None x y = absurd (y i x.0 x.1)
finds_sole rows live n None (Some j) x y = absurd (x j y.0 y.1)
finds_sole rows live n None None x y = refl

table-length : (rows : List ℕ) (b : List ℤ) (n i : ℕ) → length (table_from rows b i n) ≡ n
unfolding table_from
table-length rows b zero i = refl
table-length rows b (suc n) i = ap suc (table-length rows b n (i + 1))

pub forgets_sole : {rows : List ℕ} {live symbol l m : ℕ} → Forgets rows live symbol l → Forgets rows live symbol m → l ≡ m
forgets_sole {rows} {live} {symbol} {l} {m} x y = sym (table-length rows [] l 0) ∙ (ap (λ (t : Table). length t) (x.table [] ∙ sym (y.table [])) ∙ table-length rows [] m 0)

-- ---- rows that are the same

five : (P : ℕ → Type 0) → P 0 → P 1 → P 2 → P 3 → P 4 → (d : ℕ) → d < 5 → P d
five P a b c d e zero h = a
five P a b c d e (suc zero) h = b
five P a b c d e (suc (suc zero)) h = c
five P a b c d e (suc (suc (suc zero))) h = d
five P a b c d e (suc (suc (suc (suc zero)))) h = e
five P a b c d e (suc (suc (suc (suc (suc n))))) h = absurd (omega (arith, h))

number_same : (x y : List ℕ) (i : ℕ) → SameAt x i y i → (d : ℕ) → d < 5 → get_or y (5 * i + d) 0 ≡ get_or x (5 * i + d) 0
number_same x y i s =
    let e : 5 * i ≡ 5 * i + 0 = omega arith in
    five (λ d. get_or y (5 * i + d) 0 ≡ get_or x (5 * i + d) 0) (subst (λ (k : ℕ). get_or y k 0 ≡ get_or x k 0) e s.symbol) s.place s.start s.words s.needed

rows_same : (x y : List ℕ) (live : ℕ) → length x ≡ row_numbers → length y ≡ row_numbers → ((i : ℕ) → i < live → SameAt x i y i) → ((k : ℕ) → 5 * live ≤ k → get_or y k 0 ≡ get_or x k 0) → y ≡ x
rows_same x y live a b h g =
    ext_get_or 0 y x (b ∙ sym a)
    (λ k l. by_place _ k (5 * live)
    (λ q.
    let w : 5 * (k / 5) + k % 5 ≡ k = omega arith in
    subst (λ (j : ℕ). get_or y j 0 ≡ get_or x j 0) w (number_same x y (k / 5) (h (k / 5) (omega arith)) (k % 5) (omega arith)))
    (g k))

-- ---- begin

symbols-same : (x y : List ℕ) (n j : ℕ) → table_from x [] j n ≡ table_from y [] j n → (k : ℕ) → j ≤ k → k < j + n → symbol_at x k ≡ symbol_at y k
unfolding table_from
symbols-same x y zero j e k h l = absurd (omega arith)
symbols-same x y (suc n) j e k h l = go (eqb j k) refl (λ m. symbols-same x y n (j + 1) (tail-eq_of_cons-eq e) k m (omega arith))
  where
    go : (t : Bool) → eqb j k ≡ t → (j + 1 ≤ k → symbol_at x k ≡ symbol_at y k) → symbol_at x k ≡ symbol_at y k
    go true f later = subst (λ (z : ℕ). symbol_at x z ≡ symbol_at y z) (eqb-true j k f) (ap (λ (d : Definition). d.symbol) (head-eq_of_cons-eq e))
    go false f later = let g : ¬ (j ≡ k) = eqb-false j k f in later (omega arith)

module _ {rows : List ℕ} {live n p : ℕ} (source : ℕ → ℕ → ℕ) {x y : List ℕ} {live' : ℕ} where
  row_sole : (i j : ℕ) → Entry rows live n p x live' i (source i) → Entry rows live n p y live' j (source j) → i ≡ j
  row_sole i j e f =
      let s = symbols-same x y live' 0 (e.table [] ∙ sym (f.table [])) j (omega arith) (omega (arith, f.here)) in
      side (i ≡ j) i j (λ h. absurd (let r = e.sorted.rising i j h f.here in omega (arith, r, s, e.symbol_is, f.symbol_is))) (λ q. q)
      (λ h. absurd (let r = e.sorted.rising j i h e.here in omega (arith, r, s, e.symbol_is, f.symbol_is)))

  same_entry : (i : ℕ) → Entry rows live n p x live' i (source i) → Entry rows live n p y live' i (source i) → x ≡ y
  same_entry i e f = rows_same y x live' f.sized e.sized (λ k l. by_row i (λ m. m < live' → SameAt y m x m) k (λ _. here) (λ q l. other k l q) l) (λ k l. e.beyond k l ∙ sym (f.beyond k l))
    where
      here : SameAt y i x i
      here = record {
        symbol = e.symbol_is ∙ sym f.symbol_is;
        place = e.place_is ∙ sym f.place_is;
        start = e.start_is ∙ sym f.start_is;
        words = e.empty ∙ sym f.empty;
        needed = e.free ∙ sym f.free;
      }

      other : (k : ℕ) → k < live' → (k ≡ i → ⊥) → SameAt y k x k
      other k l q =
          let a = e.keeps.same k l q in
          let c = f.keeps.same k l q in
          record {
            symbol = a.symbol ∙ sym c.symbol;
            place = a.place ∙ sym c.place;
            start = a.start ∙ sym c.start;
            words = a.words ∙ sym c.words;
            needed = a.needed ∙ sym c.needed;
          }

  entry_sole : (i j : ℕ) → Entry rows live n p x live' i (source i) → Entry rows live n p y live' j (source j) → (i ≡ j) × (x ≡ y)
  entry_sole i j e f = let q = row_sole i j e f in (q, same_entry i e (subst (λ (m : ℕ). Entry rows live n p y live' m (source m)) (sym q) f))

pub begins_sole : (rows : List ℕ) (live n p : ℕ) (r s : Option Begun) (x y : List ℕ) → Begins rows live n p r x → Begins rows live n p s y → (r ≡ s) × (x ≡ y)
unfolding Begins
begins_sole rows live n p (Some (Replaced i c)) (Some (Replaced j d)) x y e f =
    let q = entry_sole (λ a b. b) i j e.0 f.0 in
    (ap₂ {C = Option Begun} (λ (a b : ℕ). Some (Replaced a b)) q.0 (e.1 ∙ (ap (needed_at rows) q.0 ∙ sym f.1)), q.1)
begins_sole rows live n p (Some (Added i)) (Some (Added j)) x y e f = let q = entry_sole before i j e.0 f.0 in (ap {B = Option Begun} (λ (a : ℕ). Some (Added a)) q.0, q.1)
begins_sole rows live n p None None x y e f = (refl, e.0 ∙ sym f.0)
begins_sole rows live n p (Some (Replaced i c)) (Some (Added j)) x y e f = absurd (e.3 [] (f.1 []))
begins_sole rows live n p (Some (Replaced i c)) None x y e f = absurd (e.3 [] (f.2 []))
begins_sole rows live n p (Some (Added i)) (Some (Replaced j d)) x y e f = absurd (f.3 [] (e.1 []))
begins_sole rows live n p None (Some (Replaced j d)) x y e f = absurd (f.3 [] (e.2 []))
begins_sole rows live n p (Some (Added i)) None x y e f = absurd (omega (arith, e.0.sorted.few, f.1))
begins_sole rows live n p None (Some (Added j)) x y e f = absurd (omega (arith, f.0.sorted.few, e.1))

-- ---- words

word_of : (b b' : List ℤ) (n i j : ℕ) → words_at b i n ≡ words_at b' j n → (k : ℕ) → k < n → get_or b (i + k) (pos 0) ≡ get_or b' (j + k) (pos 0)
unfolding words_at
word_of b b' zero i j e k l = absurd (omega arith)
word_of b b' (suc n) i j e zero l =
    let p : i ≡ i + 0 = omega arith in
    let q : j ≡ j + 0 = omega arith in
    ap (λ (x : ℕ). get_or b x (pos 0)) (sym p) ∙ (head-eq_of_cons-eq e ∙ ap (λ (x : ℕ). get_or b' x (pos 0)) q)
word_of b b' (suc n) i j e (suc k) l =
    let p : i + 1 + k ≡ i + suc k = omega arith in
    let q : j + 1 + k ≡ j + suc k = omega arith in
    ap (λ (x : ℕ). get_or b x (pos 0)) (sym p) ∙ (word_of b b' n (i + 1) (j + 1) (tail-eq_of_cons-eq e) k (omega arith) ∙ ap (λ (x : ℕ). get_or b' x (pos 0)) q)

pub moved_sole : {b : List ℤ} {from to n : ℕ} {x y : List ℤ} → Moved b from to n x → Moved b from to n y → x ≡ y
moved_sole {b} {from} {to} {n} {x} {y} h g =
    ext_get_or (pos 0) x y (h.size ∙ sym g.size)
    (λ k l. by_place _ k to (λ e. h.below k e ∙ sym (g.below k e))
    (λ e. by_place _ k (to + n)
    (λ f.
    let q : to + (k - to) ≡ k = omega arith in
    subst (λ (z : ℕ). get_or x z (pos 0) ≡ get_or y z (pos 0)) q (h.here (k - to) (omega arith) ∙ sym (g.here (k - to) (omega arith))))
    (λ f. h.above k f ∙ sym (g.above k f))))

pub relayered_sole : {rows : List ℕ} {b : List ℤ} {i used : ℕ} {x y : List ℕ} {c d : List ℤ} → Relayered rows b i used x c → Relayered rows b i used y d → (x ≡ y) × (c ≡ d)
relayered_sole h g = (h.rows_are ∙ sym g.rows_are, moved_sole h.moved g.moved)

pub stores_sole : (again : Bool) (rows : List ℕ) (b : List ℤ) (i used n : ℕ) (x y : List ℕ) (c d : List ℤ) (u v : ℕ) → Stores again rows b i used n x c u → Stores again rows b i used n y d v
    → (x ≡ y) × (c ≡ d) × (u ≡ v)
unfolding Stores
stores_sole true rows b i used n x y c d u v h g = let q = relayered_sole h.0 g.0 in (q.0, q.1, h.1 ∙ sym g.1)
stores_sole false rows b i used n x y c d u v h g = (h.0 ∙ sym g.0, h.1 ∙ sym g.1, h.2 ∙ sym g.2)

-- ---- compact

module _ {rows : List ℕ} {b : List ℤ} {live used used' : ℕ} {x y : List ℕ} {c d : List ℤ} (h : Compacted rows b live used x c) (g : Compacted rows b live used' y d) where
  starts-same : (i : ℕ) → i < live → start_at x i ≡ start_at y i
  starts-same i l = none_or_some _ (length_at rows i) (λ z. h.empties i l z ∙ sym (g.empties i l z)) (λ w. h.starts i l w ∙ sym (g.starts i l w))

  rows_sole : x ≡ y
  rows_sole = rows_same y x live g.laid.sized h.laid.sized
      (λ i l.
      let a = h.same i l in
      let e = g.same i l in
      record {
        symbol = a.symbol ∙ sym e.symbol;
        place = a.place ∙ sym e.place;
        start = starts-same i l;
        words = a.words ∙ sym e.words;
        needed = a.needed ∙ sym e.needed;
      })
      (λ k l. h.rest k l ∙ sym (g.rest k l))

  words_sole : c ≡ d
  words_sole = ext_get_or (pos 0) c d (h.size ∙ sym g.size) (λ k l. by_place _ k used (in_body k) (λ e. h.beyond k e ∙ sym (g.beyond k (omega (arith, h.tight, g.tight)))))
    where
      in_body : (k : ℕ) → k < used → get_or c k (pos 0) ≡ get_or d k (pos 0)
      in_body k e =
          let v = h.covered k e in
          let j = v.row in
          let s = starts-same j v.here in
          let a = h.same j v.here in
          let r = g.same j v.here in
          let w : words_at c (start_at x j) (length_at rows j) ≡ words_at d (start_at y j) (length_at rows j) = a.body ∙ sym r.body in
          let m = word_of c d (length_at rows j) (start_at x j) (start_at y j) w (k - start_at x j) (omega (arith, v.from, v.to, a.words)) in
          let p : start_at x j + (k - start_at x j) ≡ k = omega (arith, v.from) in
          let q : start_at y j + (k - start_at x j) ≡ k = omega (arith, v.from, s) in
          ap (λ (z : ℕ). get_or c z (pos 0)) (sym p) ∙ (m ∙ ap (λ (z : ℕ). get_or d z (pos 0)) q)

  pub compacted_sole : (used ≡ used') × (x ≡ y) × (c ≡ d)
  compacted_sole = (h.tight ∙ sym g.tight, rows_sole, words_sole)
