-- What the code keeps of a command as it goes along comes to what the account says of the whole command: `runs-first`. The refusals of a command
-- form a chain in which the lowest number wins, and of one number the first, so the code needs only the lowest so far.
-- Assumes nothing.
use Rattle.std.specs.Prelude.{Err, Ok, Result}
use mathlib.Core.Path.{◌≡◌, refl, sym, ap, ◌∙◌}
use mathlib.Core.Bool.{Bool, true, false, ◌&&◌}
use mathlib.Core.List.{List, [], ◌∷◌}
use Prim.Native.Nat.{ℕ, suc, ◌+◌, ◌*◌, ◌/◌, ◌≤◌, ◌<◌}
use native.Mathlib.Nat.{add-zero, zero-add, add_assoc}
use native.Mathlib.Omega.{arith}
use borrow.Author.Tests.{le-ltb, ne_eqb, ltb-true, ltb-false, eqb-true}
use lib.Dec.{ltb, eqb}
use lib.ListN.{length}
use Rattle.grammar.specs.Steps.{choose}
use Rattle.definition.specs.Limits.{largest}
use Rattle.definition.specs.declared.Refusal.{Refusal}
use Rattle.pieces.specs.declared.Piece.{Piece}
use Rattle.pieces.specs.declared.Piece.TheVariants.{First, Second, Number, Word, Stop}
use Rattle.rules.specs.Letters.{no_refusal, byte_unit, first_unit}
use Rattle.rules.specs.Written.{Written, items_of, stops, written_at, written, Figure, figures, letters, size_at, last_of, packed_by, one, turning, turns_of}
use Rattle.rules.specs.Rules.{shapely, distance, scaled_by, rounded_by, vital, scaleless, few, bare, many, number_refusal, whole_refusal}
use Rattle.checking.specs.Account.{layer_of, refusal, Blame, blame, when, of_number, of_numbers, of_whole, blames, sooner, foremost, fault_by, scope_by, scope_after, rounded_of, fault_from}
use Rattle.checking.specs.Along.{lower, blamed, kept, fresh, begun, idle, counted, worded, after_doing, finished, onward, runs}
use Rattle.checking.specs.declared.Scope.{Scope}
use Rattle.checking.specs.declared.Doing.{Doing}

-- the sooner of two
module _ (x y z : Blame) where
  assoc_by : (s t u : Bool) → ltb y.no x.no ≡ s → ltb z.no y.no ≡ t → ltb z.no x.no ≡ u → sooner (choose s y x) z ≡ sooner x (choose t z y)
  assoc_by true true true es et eu = rw (et, eu)
  assoc_by true true false es et eu =
      absurd (omega (arith, ltb-true y.no x.no es, ltb-true z.no y.no et, ltb-false z.no x.no eu))
  assoc_by true false u es et eu = rw (es, et)
  assoc_by false true u es et eu = refl
  assoc_by false false true es et eu =
      absurd (omega (arith, ltb-false y.no x.no es, ltb-false z.no y.no et, ltb-true z.no x.no eu))
  assoc_by false false false es et eu = rw (es, eu)

  assoc : sooner (sooner x y) z ≡ sooner x (sooner y z)
  assoc = assoc_by (ltb y.no x.no) (ltb z.no y.no) (ltb z.no x.no) refl refl refl

absorb : (n k p q : ℕ) (r : Blame) → n ≤ k → sooner (blame n p) (sooner (blame k q) r) ≡ sooner (blame n p) r
absorb n k p q r h = sym (assoc (blame n p) (blame k q) r) ∙ ap (λ (x : Blame). sooner x r) one_law
  where
    one_law : sooner (blame n p) (blame k q) ≡ blame n p
    one_law = rw (le-ltb k n h)

absorb_when : (n p : ℕ) (b : Bool) (k q : ℕ) (r : List Blame) → n ≤ k → sooner (blame n p) (foremost (when b k q r)) ≡ sooner (blame n p) (foremost r)
unfolding foremost
absorb_when n p true k q r h = absorb n k p q (foremost r) h
absorb_when n p false k q r h = refl

-- at number k, of a number
abbrev pub wherein : ℕ → ℕ → ℕ → ℕ
wherein k p here = choose (eqb k 7) p here

module _ (p h : ℕ) (r : List Blame) where
  abbrev chain : Bool → Bool → Bool → List Blame
  chain x y z = when x 3 h (when y 6 h (when z 7 p r))

  abbrev chain_no : Bool → Bool → Bool → ℕ
  chain_no x y z = choose x 3 (choose y 6 (choose z 7 no_refusal))

  chained : (a : Blame) → a.no ≤ no_refusal → (x y z : Bool) → sooner a (foremost (chain x y z)) ≡ sooner (sooner a (blame (chain_no x y z) (wherein (chain_no x y z) p h))) (foremost r)
  unfolding foremost
  chained a l true y z =
      ap (λ (b : Blame). sooner a b) (absorb_when 3 h y 6 h (when z 7 p r) (omega arith) ∙ absorb_when 3 h z 7 p r (omega arith))
      ∙ sym (assoc a (blame 3 h) (foremost r))
  chained a l false true z = ap (λ (b : Blame). sooner a b) (absorb_when 6 h z 7 p r (omega arith)) ∙ sym (assoc a (blame 6 h) (foremost r))
  chained a l false false true = sym (assoc a (blame 7 p) (foremost r))
  chained a l false false false = rw (le-ltb no_refusal a.no l)

-- the lowest refusal of a number, as the code comes to it
abbrev no_of : Scope → ℕ → Figure → ℕ
no_of s l f = number_refusal l f.word f.index f.zero f.size (scaled_by s.a s.b l f.word f.index f.size)

number_law : (s : Scope) (p l : ℕ) (f : Figure) (r : List Blame) (a : Blame) → a.no ≤ no_refusal
    → sooner a (foremost (of_number s p l f r)) ≡ sooner (sooner a (blame (no_of s l f) (wherein (no_of s l f) p f.place))) (foremost r)
unfolding number_refusal
number_law s p l f r a h =
    let v = scaled_by s.a s.b l f.word f.index f.size in
    chained p f.place r a h (ltb largest f.size) (ltb largest v) (eqb v 0 && vital l f.word f.index f.zero)

-- of the whole command
module _ (p : ℕ) where
  abbrev whole_chain : Bool → Bool → Bool → Bool → List Blame
  whole_chain x y z w = when x 4 p (when y 7 p (when z 8 p (when w 9 p [])))

  abbrev whole_chain_no : Bool → Bool → Bool → Bool → ℕ
  whole_chain_no x y z w = choose x 4 (choose y 7 (choose z 8 (choose w 9 no_refusal)))

  whole_chained : (x y z w : Bool) → foremost (whole_chain x y z w) ≡ blame (whole_chain_no x y z w) (choose (ltb (whole_chain_no x y z w) no_refusal) p 0)
  unfolding foremost
  whole_chained true y z w = absorb_when 4 p y 7 p (when z 8 p (when w 9 p [])) (omega arith) ∙ absorb_when 4 p z 8 p (when w 9 p []) (omega arith) ∙ absorb_when 4 p w 9 p [] (omega arith)
  whole_chained false true z w = absorb_when 7 p z 8 p (when w 9 p []) (omega arith) ∙ absorb_when 7 p w 9 p [] (omega arith)
  whole_chained false false true w = absorb_when 8 p w 9 p [] (omega arith)
  whole_chained false false false true = refl
  whole_chained false false false false = refl

whole_law : (p l w n t a b y : ℕ) → foremost (of_whole p l w n t a b y) ≡ blame (whole_refusal l w n t a b y) (choose (ltb (whole_refusal l w n t a b y) no_refusal) p 0)
unfolding whole_refusal
whole_law p l w n t a b y = whole_chained p (scaleless l w a b) (few l n) (bare l y) (many l n t)

abbrev so_far : Doing → Blame
so_far c = blame c.no c.at

ended_by : (k q n at : ℕ) (f : Result ℕ Refusal) (s : Scope) (g : Scope → Result ℕ Refusal) → n ≤ no_refusal → g s ≡ f
    → onward g (choose (ltb k n) (Err (refusal k q)) (choose (ltb n no_refusal) (Err (refusal n at)) (Ok s))) ≡ fault_by (sooner (blame n at) (blame k (choose (ltb k no_refusal) q 0))) f
ended_by k q n at f s g h e = go (ltb k n) (ltb n no_refusal) (ltb k no_refusal) refl refl refl
  where
    go : (x y z : Bool) → ltb k n ≡ x → ltb n no_refusal ≡ y → ltb k no_refusal ≡ z
        → onward g (choose x (Err (refusal k q)) (choose y (Err (refusal n at)) (Ok s))) ≡ fault_by (choose x (blame k (choose z q 0)) (blame n at)) f
    go true y true ex ey ez = rw ez
    go true y false ex ey ez = absurd (omega (arith, ltb-true k n ex, ltb-false k no_refusal ez))
    go false true z ex ey ez = rw ey
    go false false z ex ey ez = rw ey e

finish_is : (s : Scope) (c : Doing) (g : Scope → Result ℕ Refusal) → c.busy ≡ true → c.no ≤ no_refusal
    → onward g (finished s c) ≡ fault_by (sooner (so_far c) (foremost (of_whole c.place c.letter c.word c.count c.turns c.a c.b (layer_of s)))) (g (after_doing s c))
unfolding finished
finish_is s c g hb h =
    let k = whole_refusal c.letter c.word c.count c.turns c.a c.b (layer_of s) in
    rw hb (ended_by k c.place c.no c.at (g (after_doing s c)) (after_doing s c) g h refl)
    ∙ ap (λ (x : Blame). fault_by (sooner (so_far c) x) (g (after_doing s c))) (sym (whole_law c.place c.letter c.word c.count c.turns c.a c.b (layer_of s)))

-- from within a command on
said_of : Scope → ℕ → ℕ → Blame → List Figure → ℕ → ℕ → ℕ → ℕ → ℕ → ℕ → ℕ → List Written → Result ℕ Refusal
said_of s p l x ns w n t a b y k cs = fault_by (sooner x (foremost (of_numbers s p l ns (of_whole p l w n t a b (layer_of s))))) (fault_from (scope_by s l w a b y) k cs)

-- how many numbers are rounded after the pieces xs
abbrev rounded_then : Scope → Doing → List Piece → ℕ
rounded_then s c xs = c.rounded + rounded_of s c.letter (figures c.word c.count c.zero xs)

abbrev within : Scope → Doing → List Piece → List Written → Result ℕ Refusal
within s c xs cs =
    let ns = figures c.word c.count c.zero xs in
    let ls = letters xs in
    said_of s c.place c.letter (so_far c) ns (last_of c.word ls) (c.count + length ns) (c.turns + turns_of ls) (size_at c.a ns 1) (size_at c.b ns 2) (c.name + packed_by c.unit ls) (rounded_then s c xs) cs

-- a number past its index is not found
size_at_past : (d : ℕ) (xs : List Piece) (w i : ℕ) (z : Bool) (k : ℕ) → k < i → size_at d (figures w i z xs) k ≡ d
unfolding size_at figures
size_at_past d [] w i z k h = refl
size_at_past d (First p b ∷ xs) w i z k h = size_at_past d xs w i z k h
size_at_past d (Number p σ n ∷ xs) w i z k h = let m : i ≡ k → ⊥ = λ e. omega arith in rw (ne_eqb i k m) (size_at_past d xs w (i + 1) (eqb n 0) k (omega arith))
size_at_past d (Second b ∷ xs) w i z k h = size_at_past d xs b i z k h
size_at_past d (Word b ∷ xs) w i z k h = size_at_past d xs b i z k h
size_at_past d (Stop ∷ xs) w i z k h = size_at_past d xs w i z k h

size_at-kept : (d n k : ℕ) (xs : List Piece) (w i : ℕ) (z : Bool) → size_at (kept i k n d) (figures w (i + 1) z xs) k ≡ choose (eqb i k) n (size_at d (figures w (i + 1) z xs) k)
size_at-kept d n k xs w i z = go (eqb i k) refl
  where
    go : (x : Bool) → eqb i k ≡ x → size_at (choose x n d) (figures w (i + 1) z xs) k ≡ choose x n (size_at d (figures w (i + 1) z xs) k)
    go true e = size_at_past n xs w (i + 1) z k (let f = eqb-true i k e in omega arith)
    go false e = refl

so_far_is : (k n here place at : ℕ) → blame (lower k n) (blamed k n here place at) ≡ sooner (blame n at) (blame k (wherein k place here))
so_far_is k n here place at = go (ltb k n)
  where
    go : (x : Bool) → blame (choose x k n) (choose x (wherein k place here) at) ≡ choose x (blame k (wherein k place here)) (blame n at)
    go true = refl
    go false = refl

said-number : (s : Scope) (p l : ℕ) (x : Blame) (f : Figure) (ns : List Figure) (w n t a b y i : ℕ) (cs : List Written) (k : ℕ) → k ≡ no_of s l f → x.no ≤ no_refusal
    → said_of s p l (sooner x (blame k (wherein k p f.place))) ns w n t a b y i cs ≡ said_of s p l x (f ∷ ns) w n t a b y i cs
unfolding said_of of_numbers
said-number s p l x f ns w n t a b y i cs k e h =
    ap (λ (j : ℕ). fault_by (sooner (sooner x (blame j (wherein j p f.place))) (foremost (of_numbers s p l ns (of_whole p l w n t a b (layer_of s))))) (fault_from (scope_by s l w a b y) i cs)) e
    ∙ ap (λ (z : Blame). fault_by z (fault_from (scope_by s l w a b y) i cs)) (sym (number_law s p l f (of_numbers s p l ns (of_whole p l w n t a b (layer_of s))) x h))

said_same : (s : Scope) (p l : ℕ) (ns : List Figure) (w t y : ℕ) (cs : List Written) (x x' : Blame) (n n' a a' b b' i i' : ℕ) → x ≡ x' → n ≡ n' → a ≡ a' → b ≡ b' → i ≡ i'
    → said_of s p l x ns w n t a b y i cs ≡ said_of s p l x' ns w n' t a' b' y i' cs
said_same s p l ns w t y cs x x' n n' a a' b b' i i' ex en ea eb ei = cc

-- the next number is rounded or not
rounded-next : (s : Scope) (c : Doing) (p : ℕ) (σ : Bool) (n : ℕ) (xs : List Piece) → rounded_then s (counted s c p n) xs ≡ rounded_then s c (Number p σ n ∷ xs)
unfolding counted figures rounded_of
rounded-next s c p σ n xs = add_assoc c.rounded (rounded_by s.a s.b c.letter c.word c.count n) (rounded_of s c.letter (figures c.word (c.count + 1) (eqb n 0) xs))

number_is : (s : Scope) (c : Doing) (p : ℕ) (σ : Bool) (n : ℕ) (xs : List Piece) (cs : List Written) → c.no ≤ no_refusal → within s (counted s c p n) xs cs ≡ within s c (Number p σ n ∷ xs) cs
unfolding counted figures letters size_at
number_is s c p σ n xs cs h =
    let f : Figure = record { place = p; minus = σ; size = n; word = c.word; index = c.count; zero = c.zero } in
    let k = no_of s c.letter f in
    let ns = figures c.word (c.count + 1) (eqb n 0) xs in
    let m : c.count + 1 + length ns ≡ c.count + suc (length ns) = omega arith in
    said_same s c.place c.letter ns _ _ _ cs _ _ _ _ _ _ _ _ _ _ (so_far_is k c.no p c.place c.at) m
    (size_at-kept c.a n 1 xs c.word c.count (eqb n 0))
    (size_at-kept c.b n 2 xs c.word c.count (eqb n 0)) (rounded-next s c p σ n xs)
    ∙ said-number s c.place c.letter (so_far c) f ns _ _ _ _ _ _ _ cs k refl h

letter_is : (s : Scope) (c : Doing) (b : ℕ) (xs : List Piece) (cs : List Written) → within s (worded c b) xs cs ≡ within s c (Word b ∷ xs) cs
unfolding said_of worded figures letters last_of turns_of packed_by
letter_is s c b xs cs = rw (add_assoc c.turns (one (turning b)) (turns_of (letters xs)), add_assoc c.name (b * c.unit) (packed_by (c.unit / byte_unit) (letters xs)))

-- the second letter of a D command is taken as any other
second_is : (s : Scope) (c : Doing) (b : ℕ) (xs : List Piece) (cs : List Written) → within s c (Word b ∷ xs) cs ≡ within s c (Second b ∷ xs) cs
unfolding figures letters
second_is s c b xs cs = refl

none_is : (x : Blame) (f : Result ℕ Refusal) → fault_by (sooner (blame no_refusal 0) x) f ≡ fault_by x f
none_is x f = go (ltb x.no no_refusal) refl
  where
    go : (b : Bool) → ltb x.no no_refusal ≡ b → fault_by (choose b x (blame no_refusal 0)) f ≡ fault_by x f
    go true e = refl
    go false e = rw e

begun_is : (s : Scope) (p l k : ℕ) (xs : List Piece) (z : Bool) (cs : List Written)
    → within s (begun p l k) xs cs ≡ fault_from s k (record { place = p; letter = l; items = xs; stopped = z } ∷ cs)
unfolding said_of fresh fault_from blames scope_after
begun_is s p l k xs z cs =
    let c : Written = record { place = p; letter = l; items = xs; stopped = z } in
    rw (zero-add (length (figures 0 0 false xs)), zero-add (turns_of (letters xs)), zero-add (packed_by first_unit (letters xs)))
    (none_is (foremost (blames s c)) (fault_from (scope_after s c) (k + rounded_of s l (figures 0 0 false xs)) cs))

no_items : (s : Scope) (c : Doing) (cs : List Written) → within s c [] cs ≡ fault_by (sooner (so_far c) (foremost (of_whole c.place c.letter c.word c.count c.turns c.a c.b (layer_of s)))) (fault_from (after_doing s c) c.rounded cs)
unfolding said_of figures letters last_of turns_of packed_by size_at of_numbers rounded_of
no_items s c cs = rw (add-zero c.count, add-zero c.turns, add-zero c.name, add-zero c.rounded)

abbrev target : List Piece → Scope → Doing → Result ℕ Refusal
target ps s c = choose c.busy (within s c (items_of ps) (written ps)) (fault_from s (rounded_then s c (items_of ps)) (written ps))

no_le : (k n : ℕ) → n ≤ no_refusal → lower k n ≤ no_refusal
no_le k n h = go (ltb k n) refl
  where
    go : (b : Bool) → ltb k n ≡ b → choose b k n ≤ no_refusal
    go true e = let l = ltb-true k n e in omega arith
    go false e = h

finish-idle : (s : Scope) (c : Doing) (g : Scope → Result ℕ Refusal) → c.busy ≡ false → onward g (finished s c) ≡ g s
unfolding finished
finish-idle s c g h = rw h

-- the end of a command, whether one was there or not; after it comes what g says
closes : (s : Scope) (c : Doing) (g : Scope → Result ℕ Refusal) (cs : List Written) → c.no ≤ no_refusal → ((t : Scope) → g t ≡ fault_from t c.rounded cs)
    → (b : Bool) → c.busy ≡ b → onward g (finished s c) ≡ choose b (within s c [] cs) (fault_from s (rounded_then s c []) cs)
unfolding figures rounded_of
closes s c g cs h e true hb =
    finish_is s c g hb h
    ∙ ap (λ (f : Result ℕ Refusal). fault_by (sooner (so_far c) (foremost (of_whole c.place c.letter c.word c.count c.turns c.a c.b (layer_of s)))) f) (e (after_doing s c))
    ∙ sym (no_items s c cs)
closes s c g cs h e false hb = finish-idle s c g hb ∙ e s ∙ ap (λ (k : ℕ). fault_from s k cs) (sym (add-zero c.rounded))

none_left : (k : ℕ) (t : Scope) → Ok k ≡ fault_from t k []
unfolding fault_from
none_left k t = refl

-- a piece of a command changes only what is said of that command, and how many numbers are rounded
inner : (b : Bool) (x y f g : Result ℕ Refusal) → x ≡ y → f ≡ g → choose b x f ≡ choose b y g
inner true x y f g e i = e
inner false x y f g e i = i

-- where no command is begun, no number is rounded
none_rounded : (s : Scope) (w i : ℕ) (z : Bool) (xs : List Piece) → rounded_of s 0 (figures w i z xs) ≡ 0
unfolding figures rounded_of distance shapely
none_rounded s w i z [] = refl
none_rounded s w i z (First p b ∷ xs) = none_rounded s w i z xs
none_rounded s w i z (Second b ∷ xs) = none_rounded s b i z xs
none_rounded s w i z (Number p σ n ∷ xs) = let e = none_rounded s w (i + 1) (eqb n 0) xs in omega arith
none_rounded s w i z (Word b ∷ xs) = none_rounded s b i z xs
none_rounded s w i z (Stop ∷ xs) = none_rounded s w i z xs

idle-rounded : (s : Scope) (k : ℕ) (ps : List Piece) → target ps s (idle k) ≡ fault_from s k (written ps)
unfolding fresh
idle-rounded s k ps = ap (λ (j : ℕ). fault_from s j (written ps)) (let e = none_rounded s 0 0 false (items_of ps) in omega arith)

runs_is : (ps : List Piece) (s : Scope) (c : Doing) → c.no ≤ no_refusal → runs ps s c ≡ target ps s c
unfolding runs items_of stops written fresh counted worded figures
runs_is [] s c h = closes s c (λ t. Ok c.rounded) [] h (none_left c.rounded) c.busy refl
runs_is (First p b ∷ xs) s c h =
    closes s c (λ t. runs xs t (begun p b c.rounded)) (written_at p b xs ∷ written xs) h
    (λ t. runs_is xs t (begun p b c.rounded) (omega arith) ∙ begun_is t p b c.rounded (items_of xs) (stops xs) (written xs)) c.busy refl
runs_is (Second b ∷ xs) s c h =
    runs_is xs s (worded c b) h
    ∙ inner c.busy _ _ _ _ (letter_is s c b (items_of xs) (written xs) ∙ second_is s c b (items_of xs) (written xs)) refl
runs_is (Number p σ n ∷ xs) s c h =
    runs_is xs s (counted s c p n) (no_le _ c.no h)
    ∙ inner c.busy _ _ _ _ (number_is s c p σ n (items_of xs) (written xs) h) (ap (λ (k : ℕ). fault_from s k (written xs)) (rounded-next s c p σ n (items_of xs)))
runs_is (Word b ∷ xs) s c h = runs_is xs s (worded c b) h ∙ inner c.busy _ _ _ _ (letter_is s c b (items_of xs) (written xs)) refl
runs_is (Stop ∷ xs) s c h =
    closes s c (λ t. runs xs t (idle c.rounded)) (written xs) h (λ t. runs_is xs t (idle c.rounded) (omega arith) ∙ idle-rounded t c.rounded xs) c.busy refl

pub runs-first : (ps : List Piece) (s : Scope) → runs ps s (idle 0) ≡ fault_from s 0 (written ps)
unfolding fresh
runs-first ps s = runs_is ps s (idle 0) (omega arith) ∙ idle-rounded s 0 ps
