-- From the numbers beside the rows and a symbol's reply to what the definition tells of it: the marks of a set are its distinct layers, the lowest is the first in the text, and bodies
-- that are kept lean tell the same.
-- Assumes nothing.
use Rattle.std.specs.Prelude.{Option as Maybe, Some, None, Result, Ok, Err, if◌then◌else◌}
use mathlib.Core.Path.{◌≡◌, refl, sym, ap, ap₂, ◌∙◌, subst}
use mathlib.Core.Bool.{Bool, true, false}
use mathlib.Core.List.{List, [], ◌∷◌, flat_map}
use mathlib.Core.Option.{Option, none, some, map}
use Prim.Native.Nat.{ℕ, zero, suc, ◌+◌, ◌*◌, ◌/◌, ◌%◌, ◌≤◌, ◌<◌}
use native.Mathlib.Omega.{arith}
use lib.Dec.{eqb}
use lib.Count.{ones, count_trailing_zeros, under}
use lib.IntN.{ℤ}
use lib.ListN.{length, get_or}
use Rattle.definition.specs.declared.Refusal.{Refusal}
use Rattle.definition.specs.declared.Summary.{Summary}
use Rattle.definition.specs.Limits.{deepest}
use Rattle.definition.specs.Words.{Placed, those, first}
use Rattle.definition.specs.declared.Rule.{Rule}
use Rattle.definition.specs.declared.Rule.TheVariants.{UndefinedSymbol}
use Rattle.definition.specs.Rules.{number_of}
use Rattle.definition.specs.Commands.{commands}
use Rattle.definition.specs.Table.{Step, Definition, Table, find}
use Rattle.definition.specs.Counts.{End, stopped}
use Rattle.definition.specs.Drawing.{passage_to}
use Rattle.definition.specs.Lean.{lean, lean_definition, lean_table}
use Rattle.definition.specs.Summary.{Names, among, appearing, packed_name, own_shapes, own_calls, own_layers, Reply, bars, stands, reply_by, reply_to, body_found, in_symbol}
use Rattle.definition.specs.Summary.{layer_names, sooner, first_fault_or_name, empty_summary, summary_in, summary_from, summary_of, Summarises, read}
use Rattle.definition.specs.Marks.{set_of_layers}
use Rattle.laws.proofs.Story.Marks.{bit, set_none, set-ones, marked_first, some_mark, set_first}
use Rattle.laws.proofs.Story.Lean.{lean-find}
use Rattle.laws.proofs.Story.LeanReplies.{lean-shapes, lean-calls, lean-layers, lean_replies, lean_found}
use Rattle.names.specs.Names.{name_of, unpacked, packed, packed_by}
use Rattle.library.specs.Memory.{body_at, table_of}
use Rattle.library.specs.Rows.{Finds}
use Rattle.library.proofs.Holding.{held-table}
use Rattle.library.proofs.Looking.{found, not_found}
use Rattle.passing.specs.Passed.{Passed}
use Rattle.marks.specs.declared.Names.{Names as Run}
use Rattle.marks.specs.Noted.{Noted}
use Rattle.columns.specs.declared.Own.{Own}
use Rattle.columns.specs.Columns.{none_own, own_at}
use Rattle.heights.specs.declared.Standing.{Standing}
use Rattle.heights.specs.Walk.{standing}
use Rattle.heights.specs.Replies.{ReplyOf, SymbolReplies}
use Rattle.heights.proofs.Walking.{same_height, same_layers}
use Rattle.summary.specs.Summed.{end_of, table_left, SetIn, OwnIs, Given, TableHeld, KeepsAll, KeepsText, NamedPassed, Starts, Askable, TellsReply, Tells, TellsText}

-- ---- the lowest mark is one of the names

low-within : (k : ℕ) (ns ls : Names) → length ns ≤ k → 0 < set_of_layers ns ls → count_trailing_zeros k (set_of_layers ns ls) < length ns
unfolding set_of_layers count_trailing_zeros
low-within k [] ls h any_mark = absurd (omega (arith, any_mark))
low-within zero (n ∷ ns) ls h any_mark = absurd (omega (arith, h))
low-within (suc k) (n ∷ ns) ls h any_mark = go (among n ls) any_mark (λ l. low-within k ns ls (omega (arith, h)) l)
  where
    x : ℕ
    x = set_of_layers ns ls

    go : (b : Bool) → 0 < x * 2 + bit b → (0 < x → count_trailing_zeros k x < length ns) → under ((x * 2 + bit b) % 2) (count_trailing_zeros k ((x * 2 + bit b) / 2)) < suc (length ns)
    go true any_mark rest = let e : (x * 2 + 1) % 2 ≡ 1 = omega arith in subst (λ (m : ℕ). under m (count_trailing_zeros k ((x * 2 + 1) / 2)) < suc (length ns)) (sym e) (omega arith)
    go false any_mark rest =
        let e : (x * 2 + 0) % 2 ≡ 0 = omega arith in
        let f : (x * 2 + 0) / 2 ≡ x = omega arith in
        let l = rest (omega (arith, any_mark)) in
        subst (λ (m : ℕ). under m (count_trailing_zeros k ((x * 2 + 0) / 2)) < suc (length ns)) (sym e) (subst (λ (y : ℕ). suc (count_trailing_zeros k y) < suc (length ns)) (sym f) (omega (arith, l)))

-- ---- a packed name

short-name : (k n : ℕ) → length (unpacked k n) ≤ k
unfolding unpacked
short-name zero n = omega arith
short-name (suc k) n = go (eqb n 0) (short-name k (n % 16777216 * 256))
  where
    go : (b : Bool) → length (unpacked k (n % 16777216 * 256)) ≤ k → length (if b then [] else (n / 16777216) ∷ unpacked k (n % 16777216 * 256)) ≤ suc k
    go true h = omega arith
    go false h = omega (arith, h)

packed_is : (l : List ℕ) → length l ≤ 4 → packed_name (some l) ≡ packed l
unfolding packed_name packed packed_by
packed_is [] h = refl
packed_is (a ∷ []) h = omega arith
packed_is (a ∷ b ∷ []) h = omega arith
packed_is (a ∷ b ∷ c ∷ []) h = omega arith
packed_is (a ∷ b ∷ c ∷ d ∷ []) h = omega arith
packed_is (a ∷ b ∷ c ∷ d ∷ e ∷ l) h = absurd (omega (arith, h))

name_is : (l : List ℕ) → name_of (packed l) ≡ l → packed_name (some l) ≡ packed l
name_is l e = packed_is l (let z = ap length e in let y = short-name 4 (packed l) in omega (arith, z, y))

module _ {names : List ℕ} {count : ℕ} {ns : Names} (ls : Names) {set : ℕ} (n : Noted names count ns) (e : set ≡ set_of_layers ns ls) where
  few_names : length ns ≤ 64
  few_names = omega (arith, n.many, n.few)

  first_is : first (appearing ns ls) ≡ marked_first ns set (count_trailing_zeros 64 set)
  first_is = set_first 64 ns ls few_names ∙ ap (λ (x : ℕ). marked_first ns x (count_trailing_zeros 64 x)) (sym e)

  -- no mark
  pub no_first : set ≡ 0 → 0 ≡ packed_name (first (appearing ns ls))
  unfolding packed_name
  no_first z = sym (ap packed_name (first_is ∙ ap (λ (x : ℕ). marked_first ns x (count_trailing_zeros 64 x)) z))

  module _ (any_mark : 0 < set) {k : ℕ} (q : k ≡ count_trailing_zeros 64 set) where
    pub mark-within : k < count
    mark-within =
        let z = low-within 64 ns ls few_names (omega (arith, any_mark, e)) in
        let y : count_trailing_zeros 64 set ≡ count_trailing_zeros 64 (set_of_layers ns ls) = ap (count_trailing_zeros 64) e in
        omega (arith, z, y, q, n.many)

    pub the_first : get_or names k 0 ≡ packed_name (first (appearing ns ls))
    the_first =
        n.numbers k mark-within
        ∙ sym (ap packed_name (first_is ∙ (ap (marked_first ns set) (sym q) ∙ some_mark ns set k any_mark)) ∙ name_is (get_or ns k []) (n.known k mark-within).back)

-- ---- a reply and the own numbers

bars_not : {r : Result Standing Rule} {rule : Rule} {h set : ℕ} → r ≡ Err rule → r ≡ standing h set → ⊥
bars_not e f = cc

same_set : {r : Result Standing Rule} {h k set other : ℕ} → r ≡ standing h other → r ≡ standing k set → set ≡ other
same_set e f = same_layers (sym f ∙ e)

is_bars : (ns : Names) (rule : Rule) (r : Result Standing Rule) → ReplyOf ns (bars rule) r → r ≡ Err rule
unfolding ReplyOf
is_bars ns rule r f = f

is_stands : (ns : Names) (h : ℕ) (ls : Names) (r : Result Standing Rule) → ReplyOf ns (stands h ls) r → r ≡ standing h (set_of_layers ns ls)
unfolding ReplyOf
is_stands ns h ls r f = f

module _ {ns : Names} {own : Own} {ss : List (Placed Step)} (o : OwnIs ns own ss) where
  own-layers : ones own.layers ≡ length (appearing ns (own_layers ss))
  own-layers = ap ones o.layers ∙ set-ones ns (own_layers ss)

  pub told-bars : (told : Reply) {reply : Result Standing Rule} {why : Rule} {number many : ℕ} → ReplyOf ns told reply → reply ≡ Err why → number ≡ number_of why → many ≡ ones own.layers → {r : Summary}
      → r ≡ record { number = 0; place = 0; line = 0; column = 0; gives = number; drawn = 0; first = 0; height = 0; shapes = own.shapes; calls = own.calls; layers = many }
      → r ≡ in_symbol ns told ss
  unfolding ReplyOf in_symbol
  told-bars (bars rule) {why = why} f e k m q =
      let same : why ≡ rule = cc in
      q ∙ rw (k ∙ ap number_of same, o.shapes, o.calls, m ∙ own-layers) refl
  told-bars (stands h ls) f e k m q = absurd (bars_not e f)

  pub told-stands : (told : Reply) {reply : Result Standing Rule} {height set name many drawn : ℕ} → ReplyOf ns told reply → reply ≡ standing height set → many ≡ ones own.layers → drawn ≡ ones set
      → ((ls : Names) → set ≡ set_of_layers ns ls → name ≡ packed_name (first (appearing ns ls))) → {r : Summary}
      → r ≡ record { number = 0; place = 0; line = 0; column = 0; gives = 0; drawn = drawn; first = name; height = height; shapes = own.shapes; calls = own.calls; layers = many }
      → r ≡ in_symbol ns told ss
  unfolding ReplyOf in_symbol
  told-stands (bars rule) f e m d g q = absurd (bars_not f e)
  told-stands (stands h ls) {height = height} {set = set} f e m d g q =
      let tall : height ≡ h = same_height (sym e ∙ f) in
      let is : set ≡ set_of_layers ns ls = same_layers (sym e ∙ f) in
      q ∙ rw (tall, d ∙ (ap ones is ∙ set-ones ns ls), g ls is, o.shapes, o.calls, m ∙ own-layers) refl

-- ---- a symbol of the table that memory holds

none_appear : (ns : Names) → length (appearing ns []) ≡ 0
unfolding ones
none_appear ns = sym (set-ones ns []) ∙ ap ones (set_none ns)

no_own : (ns : Names) → OwnIs ns none_own []
unfolding own_shapes own_calls own_layers those flat_map
no_own ns = record { shapes = refl; calls = refl; layers = sym (set_none ns) }

by_none : (n : ℕ) (o : Option Definition) (go : Definition → Reply) → o ≡ none → reply_by (passage_to o deepest [] n) go ≡ bars UndefinedSymbol
unfolding passage_to reply_by
by_none n o go e = ap (λ (x : Option Definition). reply_by (passage_to x deepest [] n) go) e

undefined : (t : Table) (n : ℕ) → find n t ≡ none → reply_to deepest t [] 0 n ≡ bars UndefinedSymbol
unfolding reply_to
undefined t n e = by_none n (find n t) _ e

module _ {rows : List ℕ} {b : List ℤ} {live : ℕ} {names : List ℕ} {count : ℕ} {column : List Own} {t : Table} {ns : Names}
    (n : Noted names count ns) (h : TableHeld rows b live names count column t) (symbol : ℕ) where
  lean-table : table_of rows b live ≡ lean_table t
  lean-table = held-table h.holds

  pub reply_there : (r : Result Standing Rule) → SymbolReplies rows b live column symbol r → ReplyOf ns (reply_to deepest t [] 0 symbol) r
  reply_there r s =
      subst (λ (q : Reply). ReplyOf ns q r) (ap (λ (u : Table). reply_to deepest u [] 0 symbol) lean-table ∙ lean_replies t deepest [] 0 symbol) (s ns (λ i l. (h.afresh.are i l).layers ns n))

  module _ {f : Maybe ℕ} (x : Finds rows live symbol f) {row : ℕ} (e : f ≡ Some row) where
    pub row_within : row < live
    row_within = (found rows b symbol live f row x e).0

    found_body : body_at rows b row ≡ lean (body_found (find symbol t))
    unfolding body_found
    found_body = sym (ap body_found (found rows b symbol live f row x e).1) ∙ (ap (λ (u : Table). body_found (find symbol u)) lean-table ∙ lean_found t symbol)

    pub own_there : {own : Own} → own ≡ own_at column row → OwnIs ns own (body_found (find symbol t))
    own_there q =
        let a = h.afresh.are row row_within in
        record {
          shapes = ap (λ (o : Own). o.shapes) q ∙ (a.shapes ∙ (ap own_shapes found_body ∙ lean-shapes (body_found (find symbol t))));
          calls = ap (λ (o : Own). o.calls) q ∙ (a.calls ∙ (ap own_calls found_body ∙ lean-calls (body_found (find symbol t))));
          layers = ap (λ (o : Own). o.layers) q ∙ (a.layers ns n ∙ ap (set_of_layers ns) (ap own_layers found_body ∙ lean-layers (body_found (find symbol t))));
        }

  -- no row has the number
  pub none_there : {f : Maybe ℕ} → Finds rows live symbol f → f ≡ None → {r : Summary} → TellsReply names (Err UndefinedSymbol) none_own r → r ≡ in_symbol ns (reply_to deepest t [] 0 symbol) (body_found (find symbol t))
  unfolding body_found ReplyOf
  none_there {f} x e {r} tells =
      let lost : find symbol t ≡ none = not_lean (find symbol t) (sym (lean-find symbol t) ∙ (sym (ap (find symbol) lean-table) ∙ not_found rows b symbol live f x e)) in
      subst (λ (q : Reply). r ≡ in_symbol ns q (body_found (find symbol t))) (sym (undefined t symbol lost))
      (subst (λ (o : Option Definition). r ≡ in_symbol ns (bars UndefinedSymbol) (body_found o)) (sym lost) (tells count ns (bars UndefinedSymbol) [] n refl (no_own ns)))
    where
      not_lean : (o : Option Definition) → map lean_definition o ≡ none → o ≡ none
      not_lean none e = refl
      not_lean (some d) e = absurd (let z : ◌≡◌ {A = ℕ} 0 1 = cc in omega arith)

-- ---- what each function hands on

pub not_zero : (n : ℕ) → (n ≡ 0 → ⊥) → 0 < n
not_zero zero h = absurd (h refl)
not_zero (suc n) h = omega arith

pub set_given : {names : List ℕ} {reply : Result Standing Rule} {own : Own} {height set : ℕ} → Given names reply own → reply ≡ standing height set → SetIn names set
set_given {names} {reply} {own} {height} {set} g e = go g.told g.is
  where
    go : (told : Reply) → ReplyOf g.all_names told reply → SetIn names set
    go (bars rule) f = absurd (bars_not (is_bars g.all_names rule reply f) e)
    go (stands h ls) f = record { count = g.count; all_names = g.all_names; layers = ls; noted = g.noted; is = same_set (is_stands g.all_names h ls reply f) e }

pub given_none : {names : List ℕ} {count : ℕ} {ns : Names} → Noted names count ns → Given names (Err UndefinedSymbol) none_own
unfolding ReplyOf
given_none {count = count} {ns = ns} n = record { count = count; all_names = ns; told = bars UndefinedSymbol; body = []; noted = n; is = refl; own_is = no_own ns }

pub given-row : {names : List ℕ} {count : ℕ} {ns : Names} (told : Reply) {ss : List (Placed Step)} {reply : Result Standing Rule} {own : Own} → Noted names count ns → ReplyOf ns told reply → OwnIs ns own ss
    → Given names reply own
given-row {count = count} {ns = ns} told {ss = ss} n f o = record { count = count; all_names = ns; told = told; body = ss; noted = n; is = f; own_is = o }

module _ (t : List ℕ) (w : ℕ) (names : List ℕ) (count : ℕ) {s : Result ℕ Refusal} (rows : List ℕ) (b : List ℤ) (column : List Own) (k : KeepsText t w names count s rows b column) where
  module _ {n : ℕ} (e : s ≡ Ok n) where
    live_kept : (p : Passed t) → KeepsAll w p.letters names count n rows b column
    unfolding KeepsText
    live_kept = subst (λ (x : Result ℕ Refusal). KeepsText t w names count x rows b column) e k

    pub may_ask : NamedPassed t names count → Askable rows b n names column
    may_ask q = record { count = count; all_names = _; table = _; noted = q.noted; held = (live_kept q.passed).held }

    pub text-told : (symbol : ℕ) {r : Summary} → Tells rows b n names column symbol r → TellsText t w names count symbol r
    unfolding summary_in
    text-told symbol x p noted =
        let y = live_kept p in
        x count (layer_names (commands 0 p.letters)) (table_left p.letters) noted y.held
        ∙ sym (ap (λ (o : End). summary_in t o (layer_names (commands 0 p.letters)) (table_left p.letters) symbol) y.ends)

  pub text-refused : (symbol : ℕ) {why : Refusal} → s ≡ Err why → {r : Summary} → r ≡ empty_summary t why → TellsText t w names count symbol r
  unfolding summary_in KeepsText
  text-refused symbol {why} e q p noted =
      let y : end_of w p.letters ≡ stopped why [] = subst (λ (x : Result ℕ Refusal). KeepsText t w names count x rows b column) e k p in
      q ∙ sym (ap (λ (o : End). summary_in t o (layer_names (commands 0 p.letters)) (table_left p.letters) symbol) y)

module _ (t : List ℕ) {g : Result Run Refusal} (s : Starts t g) where
  pub starts-stopped : {why : Refusal} → g ≡ Err why → {r : Summary} → r ≡ empty_summary t why → {words symbol : ℕ} → Summarises t words symbol r
  unfolding Starts
  starts-stopped e q {words} {symbol} = subst (Summarises t words symbol) (sym q) (subst (λ (x : Result Run Refusal). Starts t x) e s words symbol)

  pub starts-named : {run : Run} → g ≡ Ok run → NamedPassed t run.numbers run.count
  unfolding Starts
  starts-named e = subst (λ (x : Result Run Refusal). Starts t x) e s

  pub starts-told : {run : Run} → g ≡ Ok run → {r : Summary} {words symbol : ℕ} → TellsText t words run.numbers run.count symbol r → Summarises t words symbol r
  unfolding summary_of summary_from first_fault_or_name sooner
  starts-told e {r} {words} {symbol} x =
      let q = starts-named e in
      let p = q.passed in
      subst (Summarises t words symbol)
      (ap (λ (o : Option Refusal). summary_from t o (commands 0 p.letters) words symbol) (ap₂ {C = Option Refusal} sooner p.clear q.clear) ∙ sym (x p q.noted))
      (read {m = p.letters} p.short p.marked)
