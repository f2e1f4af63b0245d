-- A command laid out in words: runs of stores, what has been written and what is left to write (`Wording`), and the way to a command's first letter
-- (`Seeking`).
-- Assumes nothing.
use Rattle.std.specs.Prelude.{Some}
use mathlib.Core.Path.{◌≡◌, refl, sym, ap, ◌∙◌, subst}
use mathlib.Core.Bool.{Bool, true, false}
use mathlib.Core.List.{List, [], ◌∷◌, ◌++◌, append_assoc, append-nil}
use mathlib.Core.Logic.{◌⊎◌, inl, inr}
use Prim.Native.Nat.{ℕ, zero, suc, ◌+◌, ◌-◌, ◌*◌, ◌/◌, ◌≤◌, ◌<◌}
use native.Mathlib.Nat.{add-zero, zero-add, add-suc, suc-add, add_assoc}
use native.Mathlib.Omega.{arith}
use lib.Dec.{eqb}
use lib.ListN.{length, set, length-append}
use lib.Seq.{sets, length-sets, set_comm}
use lib.IntN.{ℤ, pos, neg_ℤ, ◌-ℤ◌, +ℤ_idl}
use lib.Signed.{mag}
use mir.Syntax.{w32}
use mir.Val.{SFits, to_z, of_z}
use mir.Facts.{to_z-of_z, to_z_pos}
use Rattle.grammar.specs.Notation.{skip, lead, stop, head}
use Rattle.grammar.specs.Steps.{choose, inside, number}
use borrow.Author.Tests.{eq-eqb, ne_eqb}
use Rattle.pieces.specs.Pieces.{stream, behind, inside_after, begun, numeral_of, Fit, Step, Begins}
use Rattle.pieces.specs.declared.Spot.{Spot}
use Rattle.pieces.specs.declared.Begun.{Begun}
use Rattle.pieces.specs.declared.Numeral.{Numeral}
use Rattle.pieces.specs.declared.Piece.{Piece}
use Rattle.pieces.specs.declared.Piece.TheVariants.{First, Second, Number, Word, Stop}
use Rattle.rules.specs.Letters.{letter_c, letter_m, byte_unit, first_unit}
use Rattle.rules.specs.Written.{Written, items_of, stops, written, written_at, letters, last_of, packed_by, one, inside_behind}
use Rattle.commands.specs.Words.{widest, held, signed, word, value_of, letter_words, body_of, tally, kind_by, framed, words_of, line_number, line_letter, Lined, closed, Closed, Tells, inside_first, preceding, letters_on, piece_end, pieces_on, ReadsCommand, ReadsItems}
use Rattle.commands.specs.declared.Line.{Line}
use Rattle.pieces.proofs.Finds.{Finds, none, some}
use Rattle.names.proofs.Naming.{name-room}
use Rattle.commands.specs.declared.Decoded.{Decoded}

never : false ≡ true → ⊥
never e = let z : ◌≡◌ {A = ℕ} 0 1 = cc in omega arith

-- signed words
neg_small : (m : ℕ) → m ≤ widest → mag (neg_ℤ (pos m)) < widest + 1
neg_small zero h = omega arith
neg_small (suc m) h = omega arith

below : (m : ℕ) → m ≤ widest → to_z w32 m ≡ pos m
below m h = to_z_pos w32 (omega arith)

minus_is : (m : ℕ) → m ≤ widest → pos 0 -ℤ to_z w32 m ≡ neg_ℤ (pos m)
minus_is m h = ap (λ (z : ℤ). pos 0 -ℤ z) (below m h) ∙ +ℤ_idl (neg_ℤ (pos m))

pub minus-fits : (m : ℕ) → m ≤ widest → SFits w32 (pos 0 -ℤ to_z w32 m)
minus-fits m h = subst (λ (z : ℤ). SFits w32 z) (sym (minus_is m h)) (record { sfits = neg_small m h })

pub word_minus : (σ : Bool) (n m : ℕ) → σ ≡ true → m ≡ held n → m ≤ widest → to_z w32 (of_z w32 (pos 0 -ℤ to_z w32 m)) ≡ word σ n
unfolding word
word_minus σ n m e em h = to_z-of_z {w = w32} {z = pos 0 -ℤ to_z w32 m} (minus-fits m h) ∙ minus_is m h ∙ ap (λ (k : ℕ). neg_ℤ (pos k)) em ∙ sym (ap (λ (s : Bool). signed s (held n)) e)

pub word_plus : (σ : Bool) (n m : ℕ) → σ ≡ false → m ≡ held n → m ≤ widest → to_z w32 m ≡ word σ n
unfolding word
word_plus σ n m e em h = below m h ∙ ap (λ (k : ℕ). pos k) em ∙ sym (ap (λ (s : Bool). signed s (held n)) e)

-- runs of stores
pub sets_append : (a b l : List ℤ) (i : ℕ) → sets (sets l i a) (i + length a) b ≡ sets l i (a ++ b)
sets_append [] b l i = ap (λ (k : ℕ). sets l k b) (add-zero i)
sets_append (x ∷ a) b l i = ap (λ (k : ℕ). sets (sets (set l i x) (suc i) a) k b) (add-suc i (length a) ∙ sym (suc-add i (length a))) ∙ sets_append a b (set l i x) (suc i)

set-sets : (vs l : List ℤ) (i k : ℕ) (v : ℤ) → i < k → set (sets l k vs) i v ≡ sets (set l i v) k vs
set-sets [] l i k v h = refl
set-sets (x ∷ vs) l i k v h =
    let n : k ≡ i → ⊥ = λ e. omega arith in
    set-sets vs (set l k x) i (suc k) v (omega arith) ∙ ap (λ (m : List ℤ). sets m (suc k) vs) (set_comm l k i x v n)

framing : (ws body : List ℤ) (x y : ℤ) → sets (sets ws 2 body) 0 (x ∷ y ∷ []) ≡ sets ws 0 (x ∷ y ∷ body)
framing ws body x y =
    ap (λ (m : List ℤ). set m 1 y) (set-sets body ws 0 2 x (omega arith)) ∙ set-sets body (set ws 0 x) 1 2 y (omega arith)

-- where a piece ends: a number behind its last digit, any other behind its letter
module _ {t : List ℕ} {s : Spot} {m : Begun} (g : Begins t s m) where
  pub number_end : {n : Numeral} → m.mark ≡ number lead → n ≡ numeral_of t m → n.to ≡ piece_end t (begun t s)
  unfolding number
  number_end {n} h k = ap (λ (z : Numeral). z.to) k ∙ sym here ∙ ap (λ (z : Begun). piece_end t z) g.exact
    where
      here : piece_end t m ≡ (numeral_of t m).to
      here = rw (eq-eqb m.mark (number lead) h)

  pub letter_end : (m.mark ≡ number lead → ⊥) → m.to ≡ piece_end t (begun t s)
  unfolding number
  letter_end h = sym here ∙ ap (λ (z : Begun). piece_end t z) g.exact
    where
      here : piece_end t m ≡ m.to
      here = rw (ne_eqb m.mark (number lead) h)

piece_on : (t : List ℕ) (s to : Spot) (n m k : ℕ) → m ≡ suc n → to ≡ piece_end t (begun t s) → pieces_on t (n + k) to ≡ pieces_on t (m + k) s
unfolding pieces_on
piece_on t s to n m k e x = ap (λ (z : Spot). pieces_on t (n + k) z) x ∙ sym (ap (λ (j : ℕ). pieces_on t j s) (ap (λ (i : ℕ). i + k) e ∙ suc-add n k))

letter_on : (t : List ℕ) (s to : Spot) (n m k : ℕ) → m ≡ suc n → to ≡ (begun t s).to → letters_on t (n + k) to ≡ letters_on t (m + k) s
unfolding letters_on
letter_on t s to n m k e x = ap (λ (z : Spot). letters_on t (n + k) z) x ∙ sym (ap (λ (j : ℕ). letters_on t j s) (ap (λ (i : ℕ). i + k) e ∙ suc-add n k))

-- between the pieces of a command that began at s₀: `drawn` is what has been written of its body
pub record Wording (t : List ℕ) (s₀ : Spot) (l a b : ℕ) (ws₀ : List ℤ) (s : Spot) (c : Line) (ws : List ℤ) : Type 0 where
  pub fit : Fit t s
  pub from : s₀.at ≤ s.at
  pub drawn : List ℤ
  pub at_is : c.at ≡ 2 + length drawn
  pub at_le : c.at ≤ 2 + s.at
  pub count_le : c.count ≤ s.at
  pub roomy : c.name + byte_unit * c.unit ≤ byte_unit * first_unit
  pub room : ws ≡ sets ws₀ 2 drawn
  pub body : drawn ++ body_of a b l c.word c.count (items_of (stream t s)) ≡ body_of a b l 0 0 (items_of (stream t s₀))
  pub rest : written (stream t s) ≡ written (stream t s₀)
  pub last : last_of c.word (letters (items_of (stream t s))) ≡ last_of 0 (letters (items_of (stream t s₀)))
  pub count : c.count + tally (items_of (stream t s)) ≡ tally (items_of (stream t s₀))
  pub name : c.name + packed_by c.unit (letters (items_of (stream t s))) ≡ packed_by first_unit (letters (items_of (stream t s₀)))
  pub stopping : stops (stream t s) ≡ stops (stream t s₀)
  pub onward : (k : ℕ) → pieces_on t (length (items_of (stream t s)) + k) s ≡ pieces_on t (length (items_of (stream t s₀)) + k) s₀
  pub opened : inside_behind (inside s.state) (items_of (stream t s)) ≡ inside_behind (inside s₀.state) (items_of (stream t s₀))

pub wording_start : (t : List ℕ) (s : Spot) (l a b : ℕ) (ws : List ℤ) → Fit t s → Wording t s l a b ws s (record { at = 2; word = 0; count = 0; unit = first_unit; name = 0 }) ws
wording_start t s l a b ws f = record {
  fit = f;
  from = omega arith;
  drawn = [];
  at_is = refl;
  at_le = omega arith;
  count_le = omega arith;
  roomy = omega arith;
  room = refl;
  body = refl;
  rest = refl;
  last = refl;
  count = zero-add (tally (items_of (stream t s)));
  name = zero-add (packed_by first_unit (letters (items_of (stream t s))));
  stopping = refl;
  onward = λ k. refl;
  opened = refl;
}

-- what a piece of a command that writes the words vs does to the line: nothing is lost or told twice
record Turns (l a b : ℕ) (x : Piece) (xs : List Piece) (c c' : Line) (vs : List ℤ) : Type 0 where
  body : body_of a b l c.word c.count (items_of (x ∷ xs)) ≡ vs ++ body_of a b l c'.word c'.count (items_of xs)
  rest : written (x ∷ xs) ≡ written xs
  listed : length (items_of (x ∷ xs)) ≡ suc (length (items_of xs))
  last : last_of c.word (letters (items_of (x ∷ xs))) ≡ last_of c'.word (letters (items_of xs))
  count : c.count + tally (items_of (x ∷ xs)) ≡ c'.count + tally (items_of xs)
  name : c.name + packed_by c.unit (letters (items_of (x ∷ xs))) ≡ c'.name + packed_by c'.unit (letters (items_of xs))
  stopping : stops (x ∷ xs) ≡ stops xs
  opened : (i : Bool) → inside_behind i (items_of (x ∷ xs)) ≡ inside_behind (inside_after x i) (items_of xs)
  next : c'.at ≡ c.at + length vs
  few : length vs ≤ 1
  counted : c'.count ≤ c.count + 1
  roomy : c'.name + byte_unit * c'.unit ≤ byte_unit * first_unit

number-turns : (l a b p : ℕ) (σ : Bool) (n : ℕ) (xs : List Piece) (c : Line) → c.name + byte_unit * c.unit ≤ byte_unit * first_unit
    → Turns l a b (Number p σ n) xs c (line_number c) (value_of a b l c.word c.count σ n ∷ [])
unfolding body_of items_of letters written tally stops inside_behind
number-turns l a b p σ n xs c h = record {
  listed = refl;
  body = refl;
  rest = refl;
  last = refl;
  count = sym (add_assoc c.count 1 (tally (items_of xs)));
  name = refl;
  stopping = refl;
  opened = λ i. refl;
  next = refl;
  few = omega arith;
  counted = omega arith;
  roomy = h;
}

short : (l x : ℕ) → length (letter_words l x) ≤ 1
unfolding letter_words
short l x = go (eqb l letter_c) (eqb x letter_m)
  where
    go : (y z : Bool) → length (choose y (choose z [] (word false x ∷ [])) []) ≤ 1
    go true true = omega arith
    go true false = omega arith
    go false z = omega arith

word_turns : (l a b x : ℕ) (xs : List Piece) (c : Line) → x < 256 → c.name + byte_unit * c.unit ≤ byte_unit * first_unit
    → Turns l a b (Word x) xs c (line_letter l c x) (letter_words l x)
unfolding body_of items_of letters written tally stops inside_behind last_of packed_by
word_turns l a b x xs c hx h = record {
  listed = refl;
  body = refl;
  rest = refl;
  last = refl;
  count = refl;
  name = sym (add_assoc c.name (x * c.unit) (packed_by (c.unit / byte_unit) (letters (items_of xs))));
  stopping = refl;
  opened = λ i. refl;
  next = refl;
  few = short l x;
  counted = omega arith;
  roomy = name-room x c.unit c.name hx h;
}

-- the second letter of a D command as any other, but that it opens or closes a definition
second_turns : (l a b x : ℕ) (xs : List Piece) (c : Line) → x < 256 → c.name + byte_unit * c.unit ≤ byte_unit * first_unit
    → Turns l a b (Second x) xs c (line_letter l c x) (letter_words l x)
unfolding body_of items_of letters written tally stops inside_behind
second_turns l a b x xs c hx h =
    let w = word_turns l a b x xs c hx h in
    record {
      listed = w.listed;
      body = w.body;
      rest = w.rest;
      last = w.last;
      count = w.count;
      name = w.name;
      stopping = w.stopping;
      opened = λ i. refl;
      next = w.next;
      few = w.few;
      counted = w.counted;
      roomy = w.roomy;
    }

module _ {t : List ℕ} {s₀ : Spot} {l a b : ℕ} {ws₀ : List ℤ} {s : Spot} {c : Line} {ws : List ℤ} (g : Wording t s₀ l a b ws₀ s c ws) where
  pub words_length : length ws ≡ length ws₀
  words_length = ap (λ (z : List ℤ). length z) g.room ∙ length-sets ws₀ 2 g.drawn

  stepped : {to : Spot} {c' : Line} {ws' : List ℤ} {x : Piece} {d : Line} {vs : List ℤ} → Step t s x to → to ≡ piece_end t (begun t s) → Turns l a b x (stream t to) c d vs → Lined ws c.at vs d c' ws' → Wording t s₀ l a b ws₀ to c' ws'
  stepped {to} {c'} {ws'} {x} {d} {vs} st end u w =
      let i : items_of (stream t s) ≡ items_of (x ∷ stream t to) = ap (λ (k : List Piece). items_of k) st.is in
      let h₁ = st.ahead in
      let h₂ = g.from in
      let h₃ = g.at_is in
      let h₄ = g.at_le in
      let h₅ = g.count_le in
      let h₆ = u.next in
      let h₇ = u.few in
      let h₈ = u.counted in
      subst (λ (e : Line). Wording t s₀ l a b ws₀ to e ws') (sym w.line)
      (record {
        fit = st.fit;
        from = omega arith;
        drawn = g.drawn ++ vs;
        at_is = let e = length-append g.drawn vs in omega arith;
        at_le = omega arith;
        count_le = omega arith;
        roomy = u.roomy;
        room =
            w.laid
            ∙ ap (λ (k : ℕ). sets ws k vs) g.at_is
            ∙ ap (λ (z : List ℤ). sets z (2 + length g.drawn) vs) g.room
            ∙ sets_append g.drawn vs ws₀ 2;
        body =
            append_assoc g.drawn vs (body_of a b l d.word d.count (items_of (stream t to)))
            ∙ ap (λ (z : List ℤ). g.drawn ++ z) (sym u.body ∙ ap (λ (k : List Piece). body_of a b l c.word c.count k) (sym i))
            ∙ g.body;
        rest = sym u.rest ∙ ap (λ (k : List Piece). written k) (sym st.is) ∙ g.rest;
        last = sym u.last ∙ ap (λ (k : List Piece). last_of c.word (letters k)) (sym i) ∙ g.last;
        count = sym u.count ∙ ap (λ (k : List Piece). c.count + tally k) (sym i) ∙ g.count;
        name = sym u.name ∙ ap (λ (k : List Piece). c.name + packed_by c.unit (letters k)) (sym i) ∙ g.name;
        onward = λ k. piece_on t s to (length (items_of (stream t to))) (length (items_of (stream t s))) k (ap (λ (z : List Piece). length z) i ∙ u.listed) end ∙ g.onward k;
        stopping = sym u.stopping ∙ ap (λ (k : List Piece). stops k) (sym st.is) ∙ g.stopping;
        opened =
            ap (λ (j : Bool). inside_behind j (items_of (stream t to))) st.crosses
            ∙ sym (u.opened (inside s.state))
            ∙ ap (λ (k : List Piece). inside_behind (inside s.state) k) (sym i)
            ∙ g.opened;
      })

  pub wording_number : {to : Spot} {c' : Line} {ws' : List ℤ} {p : ℕ} {σ : Bool} {n : ℕ} → Step t s (Number p σ n) to → to ≡ piece_end t (begun t s) → Lined ws c.at (value_of a b l c.word c.count σ n ∷ []) (line_number c) c' ws' → Wording t s₀ l a b ws₀ to c' ws'
  wording_number {to} {p} {σ} {n} st end w = stepped st end (number-turns l a b p σ n (stream t to) c g.roomy) w

  pub wording_letter : {to : Spot} {c' : Line} {ws' : List ℤ} {x : ℕ} → Step t s (Second x) to ⊎ Step t s (Word x) to → to ≡ piece_end t (begun t s) → Lined ws c.at (letter_words l x) (line_letter l c x) c' ws' → Wording t s₀ l a b ws₀ to c' ws'
  wording_letter {to} {x} (inl st) end w = stepped st end (second_turns l a b x (stream t to) c st.small g.roomy) w
  wording_letter {to} {x} (inr st) end w = stepped st end (word_turns l a b x (stream t to) c st.small g.roomy) w

  -- the end of the command
  module _ (no_items : items_of (stream t s) ≡ []) (p : ℕ) where
    last_is : last_of 0 (letters (items_of (stream t s₀))) ≡ c.word
    unfolding letters last_of
    last_is = sym g.last ∙ ap (λ (k : List Piece). last_of c.word (letters k)) no_items

    count_is : tally (items_of (stream t s₀)) ≡ c.count
    unfolding tally
    count_is = sym g.count ∙ ap (λ (k : List Piece). c.count + tally k) no_items ∙ add-zero c.count

    name_is : packed_by first_unit (letters (items_of (stream t s₀))) ≡ c.name
    unfolding letters packed_by
    name_is = sym g.name ∙ ap (λ (k : List Piece). c.name + packed_by c.unit (letters k)) no_items ∙ add-zero c.name

    body_is : body_of a b l 0 0 (items_of (stream t s₀)) ≡ g.drawn
    unfolding body_of
    body_is = sym g.body ∙ ap (λ (k : List Piece). g.drawn ++ body_of a b l c.word c.count k) no_items ∙ append-nil g.drawn

    inside_is : inside s.state ≡ inside_behind (inside s₀.state) (items_of (stream t s₀))
    unfolding inside_behind
    inside_is = sym (ap (λ (k : List Piece). inside_behind (inside s.state) k) no_items) ∙ g.opened

    words_are : words_of a b (written_at p l (stream t s₀)) ≡ framed (kind_by l c.word) p (g.drawn ++ closed l c)
    unfolding words_of
    words_are = rw (last_is, count_is, name_is, body_is)

    left_over : (k : ℕ) → pieces_on t (length (items_of (stream t s)) + k) s ≡ pieces_on t k s
    left_over k = ap (λ (z : List Piece). pieces_on t (length z + k) s) no_items ∙ ap (λ (j : ℕ). pieces_on t j s) (zero-add k)

    wording_done : (to : Spot) → to ≡ pieces_on t (one (stops (stream t s))) s → written (stream t s) ≡ written (stream t to) → Fit t to → s.at ≤ to.at → (stops (stream t s) ≡ true → to ≡ behind (inside s.state) to.at)
        → (r : Decoded) (ws' : List ℤ) → Closed ws l p c to r ws' → ReadsItems t s₀ p l a b ws₀ r ws'
    wording_done to end ec f h st r ws' k =
        let D = g.drawn in
        let cl = closed l c in
        let h₂ = g.from in
        let m : c.at + length cl ≡ suc (suc (length (D ++ cl))) = let e = length-append D cl in let i = g.at_is in omega arith in
        let m₂ : c.at + length cl - 2 ≡ length (D ++ cl) = omega arith in
        let front : ℕ → List ℤ = λ n. word false (kind_by l c.word + byte_unit * held n) ∷ word false p ∷ [] in
        let out : ReadsItems t s₀ p l a b ws₀ (record { kind = kind_by l c.word; place = p; end = c.at + length cl; to = to }) ws' = record {
          is = sym g.rest ∙ ec;
          exact = end ∙ sym (left_over (one (stops (stream t s)))) ∙ g.onward (one (stops (stream t s))) ∙ ap (λ (z : Bool). pieces_on t (length (items_of (stream t s₀)) + one z) s₀) g.stopping;
          tells = record {
            kind = ap (λ (w : ℕ). kind_by l w) (sym last_is);
            place = refl;
            count = m ∙ ap (λ (z : List ℤ). length z) (sym words_are);
            laid =
                k.laid
                ∙ ap (λ (n : ℕ). sets (sets ws c.at cl) 0 (front n)) m₂
                ∙ ap (λ (z : List ℤ). sets z 0 (front (length (D ++ cl))))
                (ap (λ (j : ℕ). sets ws j cl) g.at_is ∙ ap (λ (z : List ℤ). sets z (2 + length D) cl) g.room ∙ sets_append D cl ws₀ 2)
                ∙ framing ws₀ (D ++ cl) (word false (kind_by l c.word + byte_unit * held (length (D ++ cl)))) (word false p)
                ∙ ap (λ (z : List ℤ). sets ws₀ 0 z) (sym words_are);
            ends = λ e. st (g.stopping ∙ e) ∙ ap (λ (j : Bool). behind j to.at) inside_is;
          };
          fit = f;
          ahead = omega arith;
        } in
        subst (λ (q : Decoded). ReadsItems t s₀ p l a b ws₀ q ws') (sym k.is) out

  ended : {p : ℕ} {r : Decoded} {ws' : List ℤ} (xs : List Piece) → stream t s ≡ xs → items_of xs ≡ [] → stops xs ≡ false → Closed ws l p c s r ws' → ReadsItems t s₀ p l a b ws₀ r ws'
  unfolding pieces_on
  ended {p} {r} {ws'} xs e i o k =
      wording_done (ap (λ (z : List Piece). items_of z) e ∙ i) p s
      (sym (ap (λ (z : Bool). pieces_on t (one z) s) (ap (λ (z : List Piece). stops z) e ∙ o))) refl g.fit (omega arith) (λ h. absurd (never (sym (ap (λ (z : List Piece). stops z) e ∙ o) ∙ h))) r ws' k

  -- where no piece is left, or before the next command's first letter
  pub wording_ended : {to : Spot} {n p : ℕ} {r : Decoded} {ws' : List ℤ} → Finds t s to n → (n ≡ number lead → ⊥) → n ≤ number head → (n ≡ number stop → ⊥) → Closed ws l p c s r ws' → ReadsItems t s₀ p l a b ws₀ r ws'
  unfolding items_of stops
  wording_ended (none z h) d u e k = ended [] h refl refl k
  wording_ended {to} (some (First q y) z st) d u e k = ended (First q y ∷ stream t to) st.is refl refl k
  wording_ended (some (Second y) z st) d u e k = absurd (omega arith)
  wording_ended (some (Number q σ v) z st) d u e k = absurd (d z)
  wording_ended (some (Word y) z st) d u e k = absurd (omega arith)
  wording_ended (some Stop z st) d u e k = absurd (e z)

  pub wording_stop : {to : Spot} {p : ℕ} {r : Decoded} {ws' : List ℤ} → Step t s Stop to → to ≡ piece_end t (begun t s) → Closed ws l p c to r ws' → ReadsItems t s₀ p l a b ws₀ r ws'
  unfolding items_of written stops pieces_on
  wording_stop {to} {p} {r} {ws'} st end k =
      let h = st.ahead in
      wording_done (ap (λ (z : List Piece). items_of z) st.is) p to
      (end ∙ sym (ap (λ (z : Bool). pieces_on t (one z) s) (ap (λ (z : List Piece). stops z) st.is))) (ap (λ (z : List Piece). written z) st.is) st.fit (omega arith) (λ e. st.stops refl) r ws' k

-- up to a command's first letter
pub record Seeking (t : List ℕ) (s₀ s : Spot) : Type 0 where
  pub fit : Fit t s
  pub from : s₀.at ≤ s.at
  pub is : written (stream t s) ≡ written (stream t s₀)
  pub onward : (k : ℕ) → letters_on t (preceding (stream t s) + k) s ≡ letters_on t (preceding (stream t s₀) + k) s₀
  pub opened : inside_first (inside s.state) (stream t s) ≡ inside_first (inside s₀.state) (stream t s₀)

pub seeking_start : (t : List ℕ) (s : Spot) → Fit t s → Seeking t s s
seeking_start t s f = record { fit = f; from = omega arith; is = refl; onward = λ k. refl; opened = refl }

module _ {t : List ℕ} {s₀ s : Spot} (g : Seeking t s₀ s) where
  pub seeking_ended : stream t s ≡ [] → written (stream t s₀) ≡ []
  unfolding written
  seeking_ended e = sym g.is ∙ ap (λ (z : List Piece). written z) e

  past : {to : Spot} {x : Piece} → Step t s x to → to ≡ (begun t s).to → preceding (x ∷ stream t to) ≡ suc (preceding (stream t to))
      → written (x ∷ stream t to) ≡ written (stream t to)
      → ((i : Bool) → inside_first i (x ∷ stream t to) ≡ inside_first (inside_after x i) (stream t to)) → Seeking t s₀ to
  past {to} {x} st end n e o =
      let h₁ = st.ahead in
      let h₂ = g.from in
      record {
        fit = st.fit;
        from = omega arith;
        is = sym e ∙ ap (λ (z : List Piece). written z) (sym st.is) ∙ g.is;
        onward = λ k. letter_on t s to (preceding (stream t to)) (preceding (stream t s)) k (ap (λ (z : List Piece). preceding z) st.is ∙ n) end ∙ g.onward k;
        opened =
            ap (λ (j : Bool). inside_first j (stream t to)) st.crosses
            ∙ sym (o (inside s.state))
            ∙ ap (λ (z : List Piece). inside_first (inside s.state) z) (sym st.is)
            ∙ g.opened;
      }

  -- a piece that begins no command is passed over
  pub seeking_past : {to : Spot} {n : ℕ} → Finds t s to n → to ≡ (begun t s).to → (n ≡ number skip → ⊥) → (n ≡ number head → ⊥) → Seeking t s₀ to
  unfolding written inside_first preceding
  seeking_past (none z h) end k e = absurd (k z)
  seeking_past (some (First p b) z st) end k e = absurd (e z)
  seeking_past (some (Second b) z st) end k e = past st end refl refl (λ i. refl)
  seeking_past (some (Number p σ v) z st) end k e = past st end refl refl (λ i. refl)
  seeking_past (some (Word b) z st) end k e = past st end refl refl (λ i. refl)
  seeking_past (some Stop z st) end k e = past st end refl refl (λ i. refl)

  open_first : {to : Spot} {p l : ℕ} → Step t s (First p l) to → inside to.state ≡ inside_first (inside s₀.state) (stream t s₀)
  unfolding inside_first
  open_first st = st.crosses ∙ sym (ap (λ (z : List Piece). inside_first (inside s.state) z) st.is) ∙ g.opened

  first_on : {to : Spot} {p l : ℕ} → Step t s (First p l) to → (begun t s).to ≡ letters_on t (preceding (stream t s₀) + 1) s₀
  unfolding preceding letters_on
  first_on st = sym (ap (λ (z : List Piece). letters_on t (preceding z + 1) s) st.is) ∙ g.onward 1

  pub seeking_found : {to : Spot} {p l : ℕ} {ws ws₁ : List ℤ} → Step t s (First p l) to → to ≡ (begun t s).to → ws₁ ≡ ws → (a b : ℕ) (d : Decoded) (ws' : List ℤ) → ReadsItems t to p l a b ws₁ d ws' → ReadsCommand t s₀ a b ws (Some d) ws'
  unfolding written
  seeking_found {to} {p} {l} {ws} st x e a b d ws' r =
      let c = written_at p l (stream t to) in
      let h₁ = st.ahead in
      let h₂ = g.from in
      let h₃ = r.ahead in
      let u : Tells a b c (inside to.state) ws d.kind d.place d.end d.to ws' = subst (λ (z : List ℤ). Tells a b c (inside to.state) z d.kind d.place d.end d.to ws') e r.tells in (
        c,
        record {
          is = sym g.is ∙ ap (λ (z : List Piece). written z) st.is ∙ ap (λ (z : List Written). c ∷ z) r.is;
          exact = r.exact ∙ ap (λ (z : Spot). pieces_on t (length c.items + one c.stopped) z) (x ∙ first_on st);
          tells = subst (λ (i : Bool). Tells a b c i ws d.kind d.place d.end d.to ws') (open_first st) u;
          fit = r.fit;
          ahead = omega arith;
        },
      )
