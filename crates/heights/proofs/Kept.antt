-- What is kept beside the rows stays right: a call is refused, known, or its body is gone through with the symbol open, and then its height is known.
-- Assumes nothing.
use mathlib.Core.Path.{◌≡◌, refl, sym, ap, ◌∙◌, subst}
use mathlib.Core.Bool.{true, false}
use mathlib.Core.List.{List, [], ◌∷◌}
use mathlib.Core.Option.{Option, none, some}
use Prim.Native.Nat.{ℕ, zero, suc, ◌+◌, ◌-◌, ◌≤◌, ◌<◌, max}
use native.Mathlib.Nat.{not-suc-le-zero, max-le}
use native.Mathlib.Omega.{arith}
use borrow.Author.Tests.{eq-eqb, ne_eqb}
use lib.Dec.{eqb}
use lib.Bits.{bit_or}
use lib.IntN.{ℤ}
use lib.ListN.{length, set, replicate, length-set}
use lib.Seq.{get_or-set_same, get_or-set_other}
use Rattle.std.specs.Prelude.{Option as Maybe, Some, None, Result, Ok, Err, ok_or}
use Rattle.definition.specs.Limits.{deepest}
use Rattle.definition.specs.declared.Rule.{Rule}
use Rattle.definition.specs.declared.Rule.TheVariants.{UndefinedSymbol, BeingDrawn, TooDeep}
use Rattle.definition.specs.Words.{any}
use Rattle.definition.specs.Table.{Definition}
use Rattle.library.specs.Memory.{most, most_words, symbol_at, body_at, definition_at}
use Rattle.library.specs.Sound.{Stocked}
use Rattle.library.specs.Rows.{Sorted, Finds}
use Rattle.library.proofs.Cases.{by_row, side}
use Rattle.library.proofs.Looking.{found, not_found}
use Rattle.columns.specs.declared.Own.{Own}
use Rattle.columns.specs.Columns.{own_at}
use Rattle.heights.specs.declared.Standing.{Standing}
use Rattle.heights.specs.declared.Next.{Next}
use Rattle.heights.specs.declared.Seen.{Seen}
use Rattle.heights.specs.declared.Seen.TheVariants.{Unknown, Open, Known}
use Rattle.heights.specs.declared.Looked.{Looked}
use Rattle.heights.specs.declared.Looked.TheVariants.{Stands, Fresh}
use Rattle.heights.specs.Calls.{calls_of, Remains, CallNext}
use Rattle.heights.specs.Walk.{Node, Graph, standing, thence, through, raised, enters, among, walk, within, set_from, node_of, graph_in}
use Rattle.heights.specs.Kept.{seen_at, open?, AtRow, Looks, undefined, is_open, too_tall, known, too_deep, fresh, Stood, Leads, Each, Ready, Opened, Inside, Keeps, KeepsIf, Replies, BodyReplies}
use Rattle.heights.proofs.Walking.{is_within, is_beyond, thence_on, thence_bar, one_more, each, enters_on, no_taller, with_more, stands-free, known-answers, leads_on, leads-calls}

-- ---- a look-up

pub not_live : {rows : List ℕ} {live n : ℕ} {seen : List Seen} {left : ℕ} {x : Maybe ℕ} {r : Rule} → Finds rows live n x → x ≡ None → ◌≡◌ {A = Result ℕ Rule} (Err r) (ok_or x UndefinedSymbol)
    → Looks rows live seen n left (Err r)
not_live {rows} {live} {n} {seen} {left} {r = r} h e f =
    let g : ◌≡◌ {A = Result ℕ Rule} (Err r) (Err UndefinedSymbol) = f ∙ ap (λ (y : Maybe ℕ). ok_or y UndefinedSymbol) e in
    let q : UndefinedSymbol ≡ r = cc in
    subst (λ (k : Rule). Looks rows live seen n left (Err k)) q (undefined (subst (Finds rows live n) e h))

pub at_row : (rows : List ℕ) (live n : ℕ) {r : Maybe ℕ} {i : ℕ} → Finds rows live n r → r ≡ Some i → AtRow rows live n i
at_row rows live n h e = record { finds = subst (Finds rows live n) e h }

module _ {rows : List ℕ} {live n i : ℕ} (f : AtRow rows live n i) where
  pub row_live : i < live
  row_live = (found rows [] n live (Some i) i f.finds refl).0

  pub row_low : Sorted rows live → i < most
  row_low s = omega (arith, s.few, row_live)

  symbol_is : symbol_at rows i ≡ n
  unfolding Finds
  symbol_is = f.finds.1

-- two names for what is kept of one symbol
pub no_taller_then : {s : Seen} {left : ℕ} {x y : Standing} → s ≡ Known x → s ≡ Known y → x.height ≤ left → y.height ≤ left
no_taller_then {left = left} {x = x} {y = y} e f l = let same : x ≡ y = cc in subst (λ (z : Standing). z.height ≤ left) same l

-- the call that comes next
pub next_is : (b : List ℤ) {at end : ℕ} {cs : List ℕ} {x : Maybe Next} {c : Next} → CallNext b at end cs x → x ≡ Some c
    → (rest : List ℕ) × (cs ≡ c.symbol ∷ rest) × Remains b c.at end rest × (at < c.at)
unfolding CallNext
next_is b {at} {end} {cs} h e = subst (CallNext b at end cs) e h

-- ---- the graph at a row

set_from_lem : (rows : List ℕ) (own : List Own) (n : ℕ) (d m j i : ℕ) → i ≡ j + d → d < m → ((k : ℕ) → j ≤ k → k < i → symbol_at rows k ≡ n → ⊥) → symbol_at rows i ≡ n → set_from rows own n j m ≡ (own_at own i).layers
unfolding set_from
set_from_lem rows own n d zero j i e l h q = absurd (not-suc-le-zero l)
set_from_lem rows own n zero (suc m) j i e l h q =
    let f : j ≡ i = omega arith in
    subst (λ (x : ℕ). set_from rows own n j (suc m) ≡ (own_at own x).layers) f
    (unfold set_from in rw (eq-eqb (symbol_at rows j) n (subst (λ (x : ℕ). symbol_at rows x ≡ n) (sym f) q)))
set_from_lem rows own n (suc d) (suc m) j i e l h q =
    rw (ne_eqb (symbol_at rows j) n (h j (omega arith) (omega arith)))
    (set_from_lem rows own n d m (j + 1) i (omega arith) (omega arith) (λ k a c. h k (omega arith) c) q)

module _ (rows : List ℕ) (b : List ℤ) (live : ℕ) (own : List Own) where
  abbrev g : Graph
  g = graph_in rows b live own

  abbrev node_from : ℕ → Node
  node_from i = record { calls = calls_of (body_at rows b i); own = (own_at own i).layers }

  node_at : {n i : ℕ} → AtRow rows live n i → g n ≡ some (node_from i)
  unfolding Finds
  node_at {n} {i} r =
      let f = r.finds in
      ap (λ (x : Option Definition). node_of x (set_from rows own n 0 live)) (found rows b n live (Some i) i f refl).1
      ∙ ap (λ (s : ℕ). node_of (some (definition_at rows b i)) s) (set_from_lem rows own n i live 0 i (omega arith) f.0 (λ k a c. f.2 k c) f.1)

  no_node : (n : ℕ) → Finds rows live n None → g n ≡ none
  no_node n f = ap (λ (x : Option Definition). node_of x (set_from rows own n 0 live)) (not_found rows b n live None f refl)

  undefined-bars : (left : ℕ) (o : List ℕ) (n : ℕ) → g n ≡ none → walk g left o n ≡ Err UndefinedSymbol
  unfolding walk enters
  undefined-bars zero o n e = rw e
  undefined-bars (suc left) o n e = rw e

  open_bars : (left : ℕ) (o : List ℕ) (n : ℕ) {d : Node} → g n ≡ some d → among n o ≡ true → walk g left o n ≡ Err BeingDrawn
  unfolding walk enters
  open_bars zero o n e f = rw (e, f)
  open_bars (suc left) o n e f = rw (e, f)

  none_left-bars : (left : ℕ) (o : List ℕ) (n : ℕ) {d : Node} → left ≡ 0 → g n ≡ some d → among n o ≡ false → walk g left o n ≡ Err TooDeep
  unfolding walk
  none_left-bars left o n z e f = ap (λ (k : ℕ). walk g k o n) z ∙ enters_on _ e f

  goes_in : (left : ℕ) (o : List ℕ) (n : ℕ) {d : Node} → 0 < left → g n ≡ some d → among n o ≡ false
      → walk g left o n ≡ raised (through (walk g (left - 1) (n ∷ o)) 0 d.own d.calls)
  unfolding walk
  goes_in zero o n l e f = absurd (not-suc-le-zero l)
  goes_in (suc left) o n {d} l e f =
      let z : left ≡ suc left - 1 = omega arith in
      enters_on _ e f ∙ ap (λ (k : ℕ). raised (through (walk g k (n ∷ o)) 0 d.own d.calls)) z

  -- ---- what is said before a body is gone through

  -- a symbol whose body is still to be gone through
  pub record Untried (seen : List Seen) (n left i : ℕ) : Type 0 where
    pub row : AtRow rows live n i
    pub unknown : seen_at seen i ≡ Unknown
    pub some_left : 0 < left

  abbrev Says : (seen : List Seen) (n left : ℕ) → Result Looked Rule → Type 0
  Says seen n left (Err r) = (o : List ℕ) → Opened rows b live own seen n o → Err r ≡ walk g left o n
  Says seen n left (Ok (Stands x)) = (o : List ℕ) → Opened rows b live own seen n o → Ok x ≡ walk g left o n
  Says seen n left (Ok (Fresh i)) = Untried seen n left i

  module _ {seen : List Seen} {left : ℕ} (ready : Ready rows b live own seen left) where
    open_at : {n i : ℕ} {o : List ℕ} → Opened rows b live own seen n o → AtRow rows live n i → among n o ≡ open? (seen_at seen i)
    open_at {o = o} op f = ap (λ (k : ℕ). among k o) (sym (symbol_is f)) ∙ op.marked _ (row_live f)

    answers : {n i : ℕ} {x : Standing} {o : List ℕ} → Opened rows b live own seen n o → AtRow rows live n i → seen_at seen i ≡ Known x
        → walk g left o n ≡ within left x.height x.layers
    answers {x = x} {o = o} op f e =
        known-answers g o (subst (λ (k : ℕ). Stood g deepest k x.height x.layers) (symbol_is f) (ready.remembered _ (row_live f) x e)) op.leads left

    pub says : {n : ℕ} {r : Result Looked Rule} → Looks rows live seen n left r → Says seen n left r
    says {n} (undefined f) = λ o op. sym (undefined-bars left o n (no_node n f))
    says {n} (is_open f e) = λ o op. sym (open_bars left o n (node_at f) (open_at op f ∙ ap open? e))
    says (too_tall {x = x} f e l) = λ o op. sym (answers op f e ∙ is_beyond x.layers l)
    says (known {x = x} f e l) = λ o op. sym (answers op f e ∙ is_within x.layers l)
    says {n} (too_deep f e z) = λ o op. sym (none_left-bars left o n z (node_at f) (open_at op f ∙ ap open? e))
    says (fresh f e l) = record { row = f; unknown = e; some_left = l }

    pub kept_same : Keeps rows b live own seen seen
    kept_same = record { same_open = λ i l. refl; sized = ready.sized; remembered = ready.remembered }

    module _ {n : ℕ} {r : Result Looked Rule} (looks : Looks rows live seen n left r) where
      it_says : {q : Result Looked Rule} → r ≡ q → Says seen n left q
      it_says e = subst (Says seen n left) e (says looks)

      pub refused_says : {k : Rule} → r ≡ Err k → Replies rows b live own seen n left (Err k) seen
      refused_says e = record { reply = it_says e; keeps = tt }

      pub known-says : {x : Standing} → r ≡ Ok (Stands x) → Replies rows b live own seen n left (Ok x) seen
      known-says e = record { reply = it_says e; keeps = kept_same }

      pub untried : {i : ℕ} → r ≡ Ok (Fresh i) → Untried seen n left i
      untried e = it_says e

    -- ---- the body of row i is gone through, with its symbol open

    module _ {n i : ℕ} (u : Untried seen n left i) where
      abbrev opened : List Seen
      opened = set seen i Open

      here : i < live
      here = row_live u.row

      low : i < length seen
      low = omega (arith, ready.sized, row_low u.row ready.sorted)

      open_here : seen_at opened i ≡ Open
      open_here = get_or-set_same seen i Open Unknown low

      as_before : (k : ℕ) → (k ≡ i → ⊥) → seen_at opened k ≡ seen_at seen k
      as_before k e = get_or-set_other seen i k Open Unknown e

      not_it : (k : ℕ) → k < live → (k ≡ i → ⊥) → eqb n (symbol_at rows k) ≡ false
      not_it k l e =
          let s = symbol_is u.row in
          ne_eqb n (symbol_at rows k)
          (λ q. side ⊥ k i (λ h. omega (arith, q, s, ready.sorted.rising k i h here)) e (λ h. omega (arith, q, s, ready.sorted.rising i k h l)))

      closed : {o : List ℕ} → Opened rows b live own seen n o → among n o ≡ false
      closed op = open_at op u.row ∙ ap open? u.unknown

      pub inside : (o : List ℕ) → Opened rows b live own seen n o → Inside rows b live own opened i (n ∷ o)
      unfolding any
      inside o op = record {
        here = here;
        marked =
            λ k. by_row i (λ k. k < live → among (symbol_at rows k) (n ∷ o) ≡ open? (seen_at opened k)) k
            (λ l. rw (eq-eqb n (symbol_at rows i) (sym (symbol_is u.row))) (sym (ap open? open_here)))
            (λ e l. rw (not_it k l e) (op.marked k l ∙ ap open? (sym (as_before k e))));
        leads =
            one_more (λ m. Each (Leads g m) (calls_of (body_at rows b i))) n o (leads-calls g (node_at u.row))
            (λ m p. each (Leads g n) (Leads g m) (λ c q. leads_on g (op.leads m p) q) (calls_of (body_at rows b i)) (leads-calls g (node_at u.row)));
      }

      pub ready-inside : Ready rows b live own opened (left - 1)
      ready-inside = record {
        sorted = ready.sorted;
        stocked = ready.stocked;
        short = ready.short;
        sized = length-set seen i Open ∙ ready.sized;
        some_left = omega (arith, ready.some_left);
        remembered =
            λ k. by_row i (λ k. k < live → (x : Standing) → seen_at opened k ≡ Known x → Stood g deepest (symbol_at rows k) x.height x.layers) k
            (λ l x q. absurd (let z : Open ≡ Known x = sym open_here ∙ q in cc))
            (λ e l x q. ready.remembered k l x (sym (as_before k e) ∙ q));
      }

      -- what the body gives the symbol gives
      module _ {r : Result Standing Rule} {seen' : List Seen} (body : BodyReplies rows b live own opened i (left - 1) r seen') where
        body-tells : {q : Result Standing Rule} → r ≡ q → (o : List ℕ) → Opened rows b live own seen n o → raised q ≡ walk g left o n
        body-tells e o op = ap raised (sym e ∙ body.reply (n ∷ o) (inside o op)) ∙ sym (goes_in left o n u.some_left (node_at u.row) (closed op))

        pub body_refused : {k : Rule} → r ≡ Err k → Replies rows b live own seen n left (Err k) seen'
        unfolding raised
        body_refused e = record { reply = body-tells e; keeps = tt }

        module _ {x : Standing} (e : r ≡ Ok x) (o : List ℕ) (op : Opened rows b live own seen n o) where
          abbrev y : Standing
          y = record { height = x.height + 1; layers = x.layers }

          it_stands : (o : List ℕ) → Opened rows b live own seen n o → Ok y ≡ walk g left o n
          unfolding raised
          it_stands = body-tells e

          kept : Keeps rows b live own opened seen'
          kept = subst (λ (q : Result Standing Rule). KeepsIf q (Keeps rows b live own opened seen')) e body.keeps

          stood : Stood g left n y.height y.layers
          stood = stands-free g left n y.height y.layers o (sym (it_stands o op))

          pub low-enough : y.height ≤ deepest
          low-enough = omega (arith, no_taller g stood, ready.some_left)

          abbrev after_it : List Seen
          after_it = set seen' i (Known y)

          new_here : seen_at after_it i ≡ Known y
          new_here = get_or-set_same seen' i (Known y) Unknown (omega (arith, kept.sized, ready.sized, low))

          others : (j : ℕ) → (j ≡ i → ⊥) → seen_at after_it j ≡ seen_at seen' j
          others j q = get_or-set_other seen' i j (Known y) Unknown q

          pub kept-after : Keeps rows b live own seen after_it
          kept-after = record {
            same_open =
                λ j. by_row i (λ j. j < live → open? (seen_at after_it j) ≡ open? (seen_at seen j)) j
                (λ l. ap open? new_here ∙ sym (ap open? u.unknown))
                (λ q l. ap open? (others j q) ∙ (kept.same_open j l ∙ ap open? (as_before j q)));
            sized = length-set seen' i (Known y) ∙ kept.sized;
            remembered =
                λ j. by_row i (λ j. j < live → (z : Standing) → seen_at after_it j ≡ Known z → Stood g deepest (symbol_at rows j) z.height z.layers) j
                (λ l z p. its_own z (sym new_here ∙ p))
                (λ q l z p. kept.remembered j l z (sym (others j q) ∙ p));
          }
            where
              its_own : (z : Standing) → Known y ≡ Known z → Stood g deepest (symbol_at rows i) z.height z.layers
              its_own z p =
                  let same : y ≡ z = cc in
                  subst (λ (z : Standing). Stood g deepest (symbol_at rows i) z.height z.layers) same
                  (subst (λ (m : ℕ). Stood g deepest m y.height y.layers) (sym (symbol_is u.row)) (with_more g stood low-enough))

          pub finished : Replies rows b live own seen n left (Ok y) after_it
          finished = record { reply = it_stands; keeps = kept-after }

  -- ---- the calls of a body, one after another

  pub record WalkedSoFar (row left : ℕ) (seen₀ : List Seen) (end : ℕ) (seen : List Seen) (here tallest set : ℕ) : Type 0 where
    pub rest : List ℕ
    pub remains : Remains b here end rest
    pub along : (o : List ℕ) → Inside rows b live own seen₀ row o
        → through (walk g left o) 0 ((own_at own row).layers) (calls_of (body_at rows b row)) ≡ through (walk g left o) tallest set rest
    pub leads : (o : List ℕ) → Inside rows b live own seen₀ row o → (m : ℕ) → among m o ≡ true → Each (Leads g m) rest
    pub low : tallest ≤ left
    pub keeps : Keeps rows b live own seen₀ seen

  pub starts : {row left : ℕ} {seen : List Seen} {end here s : ℕ} → Ready rows b live own seen left → Remains b here end (calls_of (body_at rows b row)) → s ≡ (own_at own row).layers
      → WalkedSoFar row left seen end seen here 0 s
  starts {row} {left} ready r e = record {
    rest = calls_of (body_at rows b row);
    remains = r;
    along = λ o ins. ap (λ (s : ℕ). through (walk g left o) 0 s (calls_of (body_at rows b row))) (sym e);
    leads = λ o ins. ins.leads;
    low = omega arith;
    keeps = kept_same ready;
  }

  module _ {row left : ℕ} {seen₀ : List Seen} {end : ℕ} {seen : List Seen} {here tallest set : ℕ} (w : WalkedSoFar row left seen₀ end seen here tallest set) where
    -- no call is left
    pub all_done : {x : Maybe Next} → CallNext b here end w.rest x → x ≡ None → BodyReplies rows b live own seen₀ row left (standing tallest set) seen
    unfolding CallNext through
    all_done h e = record {
      reply = λ o ins. sym (w.along o ins ∙ ap (through (walk g left o) tallest set) (subst (CallNext b here end w.rest) e h));
      keeps = w.keeps;
    }

    pub ready_on : Ready rows b live own seen₀ left → Ready rows b live own seen left
    ready_on r = record {
      sorted = r.sorted;
      stocked = r.stocked;
      short = r.short;
      sized = w.keeps.sized;
      some_left = r.some_left;
      remembered = w.keeps.remembered;
    }

    module _ {n : ℕ} {rest' : List ℕ} (are : w.rest ≡ n ∷ rest') where
      pub opened_on : (o : List ℕ) → Inside rows b live own seen₀ row o → Opened rows b live own seen n o
      unfolding Each
      opened_on o ins = record {
        marked = λ i l. ins.marked i l ∙ sym (w.keeps.same_open i l);
        leads = λ m p. (subst (Each (Leads g m)) are (w.leads o ins m p)).0;
      }

      module _ {r : Result Standing Rule} {seen' : List Seen} (told : Replies rows b live own seen n left r seen') where
        call_next : (o : List ℕ) → Inside rows b live own seen₀ row o → (q : Result Standing Rule) → r ≡ q
            → through (walk g left o) 0 ((own_at own row).layers) (calls_of (body_at rows b row)) ≡ thence q (λ k u. through (walk g left o) (max tallest k) (bit_or set u) rest')
        unfolding through
        call_next o ins q e =
            w.along o ins
            ∙ (ap (through (walk g left o) tallest set) are
            ∙ ap (λ (x : Result Standing Rule). thence x (λ k u. through (walk g left o) (max tallest k) (bit_or set u) rest')) (sym (told.reply o (opened_on o ins)) ∙ e))

        -- the first bar ends it
        pub barred : {k : Rule} → r ≡ Err k → BodyReplies rows b live own seen₀ row left (Err k) seen'
        barred {k} e = record { reply = λ o ins. sym (call_next o ins (Err k) e ∙ thence_bar _ refl); keeps = tt }

        pub went_on : {x : Standing} {next : ℕ} → r ≡ Ok x → Remains b next end rest' → (o : List ℕ) → Inside rows b live own seen₀ row o → {tallest' : ℕ} → tallest' ≡ max tallest x.height
            → WalkedSoFar row left seen₀ end seen' next tallest' (bit_or set x.layers)
        unfolding Each
        went_on {x} {next} e rem o₀ ins₀ {tallest'} q =
            let k : Keeps rows b live own seen seen' = subst (λ (q : Result Standing Rule). KeepsIf q (Keeps rows b live own seen seen')) e told.keeps in
            let st : Stood g left n x.height x.layers = stands-free g left n x.height x.layers o₀ (sym (told.reply o₀ (opened_on o₀ ins₀)) ∙ e) in
            record {
              rest = rest';
              remains = rem;
              along = λ o ins. call_next o ins (Ok x) e ∙ (thence_on _ refl ∙ ap (λ (h : ℕ). through (walk g left o) h (bit_or set x.layers) rest') (sym q));
              leads = λ o ins m p. (subst (Each (Leads g m)) are (w.leads o ins m p)).1;
              low = subst (λ (x : ℕ). x ≤ left) (sym q) (max-le w.low (no_taller g st));
              keeps = record {
                same_open = λ i l. k.same_open i l ∙ w.keeps.same_open i l;
                sized = k.sized;
                remembered = k.remembered;
              };
            }

  -- ---- nothing known yet, and nothing open

  pub ready-first : {seen : List Seen} → Sorted rows live → Stocked rows b live → length b ≤ most_words → length seen ≡ most → ((i : ℕ) → seen_at seen i ≡ Unknown)
      → {left : ℕ} → left ≤ deepest → Ready rows b live own seen left
  ready-first s k short h none-known deep = record {
    sorted = s;
    stocked = k;
    short = short;
    sized = h;
    some_left = deep;
    remembered = λ i l x p. absurd (let z : Unknown ≡ Known x = sym (none-known i) ∙ p in cc);
  }

  pub none_open : {seen : List Seen} (n : ℕ) → ((i : ℕ) → seen_at seen i ≡ Unknown) → Opened rows b live own seen n []
  unfolding any
  none_open n none-known = record {
    marked = λ i l. sym (ap open? (none-known i));
    leads = λ m e. absurd (let z : ◌≡◌ {A = ℕ} 0 1 = cc in omega arith);
  }

pub all_unknown : (n i : ℕ) → seen_at (replicate n Unknown) i ≡ Unknown
all_unknown zero i = refl
all_unknown (suc n) zero = refl
all_unknown (suc n) (suc i) = all_unknown n i
