-- The walk is the definition's `reply_to`: the rule's number, or the height and the set of the layers, where the set beside each row is that of its own layers.
-- Assumes nothing.
use Rattle.std.specs.Prelude.{Result, Err, if◌then◌else◌}
use mathlib.Core.Path.{◌≡◌, refl, sym, ap, ap₂, ◌∙◌}
use mathlib.Core.Bool.{Bool, true, false, ◌||◌}
use mathlib.Core.List.{List, [], ◌∷◌, ◌++◌, flat_map}
use mathlib.Core.Option.{Option, none, some}
use Prim.Native.Nat.{ℕ, zero, suc, ◌+◌, ◌*◌, ◌/◌, ◌%◌, ◌≤◌, ◌<◌, max}
use native.Mathlib.Omega.{arith}
use lib.Arith.{bin_ind}
use lib.Bits.{bit_or, or_step, or_zero_l, or_zero_r, or_comm}
use lib.Dec.{eqb, eqb-suc-zero}
use lib.IntN.{ℤ}
use Rattle.definition.specs.Limits.{deepest}
use Rattle.definition.specs.Words.{Placed, at, any}
use Rattle.definition.specs.declared.Rule.{Rule}
use Rattle.definition.specs.declared.Rule.TheVariants.{TooDeep}
use Rattle.definition.specs.Table.{Step, shape, instance, setting, Definition, Table, find}
use Rattle.definition.specs.Drawing.{Chain, barred, leads, passage_to}
use Rattle.definition.specs.Summary as summary
use Rattle.definition.specs.Summary.{Names, bars, stands, layers_of, own_layers, both_reply, step_reply, body_reply, higher, reply_by, reply_to}
use Rattle.definition.specs.Marks.{set_of_layers}
use Rattle.laws.proofs.Story.Marks.{any-++, set-joined}
use Rattle.library.specs.Memory.{symbol_at, body_at, definition_at, table_from, table_of}
use Rattle.heights.specs.Calls.{call_in, calls_of}
use Rattle.columns.specs.declared.Own.{Own}
use Rattle.columns.specs.Columns.{own_at}
use Rattle.heights.specs.declared.Standing.{Standing}
use Rattle.heights.specs.Walk.{Node, Graph, standing, through, raised, enters, among, walk, set_from, node_of, graph_in}
use Rattle.heights.specs.Replies.{ReplyOf, SymbolReplies}
use Rattle.heights.proofs.Walking.{thence_on, thence_bar}

-- ---- sets joined in any order

low_digit : (a b : ℕ) → max (a % 2) (b % 2) < 2
low_digit a b = omega arith

or_half : (a b : ℕ) → bit_or a b / 2 ≡ bit_or (a / 2) (b / 2)
or_half a b = let m = low_digit a b in ap (λ (x : ℕ). x / 2) (or_step a b) ∙ halved (bit_or (a / 2) (b / 2)) (max (a % 2) (b % 2)) m
  where
    halved : (x m : ℕ) → m < 2 → (x * 2 + m) / 2 ≡ x
    halved x m l = omega arith

or_low : (a b : ℕ) → bit_or a b % 2 ≡ max (a % 2) (b % 2)
or_low a b = let m = low_digit a b in ap (λ (x : ℕ). x % 2) (or_step a b) ∙ left_over (bit_or (a / 2) (b / 2)) (max (a % 2) (b % 2)) m
  where
    left_over : (x m : ℕ) → m < 2 → (x * 2 + m) % 2 ≡ m
    left_over x m l = omega arith

max_assoc : (a b c : ℕ) → max (max a b) c ≡ max a (max b c)
max_assoc a b c = omega arith

pub or_assoc : (a b c : ℕ) → bit_or (bit_or a b) c ≡ bit_or a (bit_or b c)
or_assoc =
    bin_ind (λ a. (b c : ℕ) → bit_or (bit_or a b) c ≡ bit_or a (bit_or b c)) (λ b c. ap (λ (x : ℕ). bit_or x c) (or_zero_l b) ∙ sym (or_zero_l (bit_or b c)))
    (λ a ih b c.
    or_step (bit_or a b) c
    ∙ (ap₂ (λ (x y : ℕ). bit_or x (c / 2) * 2 + max y (c % 2)) (or_half a b) (or_low a b)
    ∙ (ap₂ (λ (x y : ℕ). x * 2 + y) (ih (b / 2) (c / 2)) (max_assoc (a % 2) (b % 2) (c % 2))
    ∙ (ap₂ (λ (x y : ℕ). bit_or (a / 2) x * 2 + max (a % 2) y) (sym (or_half b c)) (sym (or_low b c))
    ∙ sym (or_step a (bit_or b c))))))

-- the two at the left change places
or_swap : (a b c : ℕ) → bit_or a (bit_or b c) ≡ bit_or b (bit_or a c)
or_swap a b c = sym (or_assoc a b c) ∙ (ap (λ (x : ℕ). bit_or x c) (or_comm a b) ∙ or_assoc b a c)

-- ---- a reply as the code has it

module _ (ns : Names) where
  abbrev pub told : summary.Reply → Result Standing Rule
  told (bars rule) = Err rule
  told (stands h ls) = standing h (set_of_layers ns ls)

  pub reply_of : (x : summary.Reply) {r : Result Standing Rule} → r ≡ told x → ReplyOf ns x r
  unfolding ReplyOf
  reply_of (bars rule) e = e
  reply_of (stands h ls) e = e

  -- ---- a body: its calls one after another, from any height and set on

  abbrev own_set : List (Placed Step) → ℕ
  own_set ss = set_of_layers ns (own_layers ss)

  module _ (ask : ℕ → ℕ → summary.Reply) (f : ℕ → Result Standing Rule) (same : (p n : ℕ) → told (ask p n) ≡ f n) where
    -- the callees' layers are this set
    record Gathered (ss : List (Placed Step)) (k : ℕ) (ls : Names) : Type 0 where
      theirs : ℕ
      goes : (h s : ℕ) → through f h s (calls_of ss) ≡ standing (max h k) (bit_or s theirs)
      sets : set_of_layers ns ls ≡ bit_or (own_set ss) theirs

    abbrev Gathers : List (Placed Step) → summary.Reply → Type 0
    Gathers ss (bars rule) = (h s : ℕ) → through f h s (calls_of ss) ≡ Err rule
    Gathers ss (stands k ls) = Gathered ss k ls

    own-more : (s : Placed Step) (ss : List (Placed Step)) → own_set (s ∷ ss) ≡ bit_or (set_of_layers ns (layers_of s.what)) (own_set ss)
    unfolding own_layers flat_map
    own-more s ss = set-joined ns (layers_of s.what) (own_layers ss)

    -- a step that calls nothing
    idle : (s : Placed Step) (ss : List (Placed Step)) → call_in s.what (calls_of ss) ≡ calls_of ss → (x : summary.Reply) → Gathers ss x
        → Gathers (s ∷ ss) (both_reply (stands 0 (layers_of s.what)) x)
    unfolding calls_of both_reply
    idle s ss e (bars rule) g = λ h u. ap (through f h u) e ∙ g h u
    idle s ss e (stands k ls) g = record {
      theirs = g.theirs;
      goes = λ h u. ap (through f h u) e ∙ (g.goes h u ∙ ap (λ (x : ℕ). standing (max h x) (bit_or u g.theirs)) (omega arith));
      sets =
          set-joined ns (layers_of s.what) ls
          ∙ (ap (bit_or (set_of_layers ns (layers_of s.what))) g.sets
          ∙ (sym (or_assoc (set_of_layers ns (layers_of s.what)) (own_set ss) g.theirs) ∙ ap (λ (x : ℕ). bit_or x g.theirs) (sym (own-more s ss))));
    }

    -- a call, with its reply
    calls : (p n : ℕ) (ts : List _) (ss : List (Placed Step)) (a : summary.Reply) → told a ≡ f n → (x : summary.Reply) → Gathers ss x
        → Gathers (at p (instance n ts) ∷ ss) (both_reply a x)
    unfolding calls_of call_in both_reply through
    calls p n ts ss (bars rule) e x g = λ h u. thence_bar _ (sym e)
    calls p n ts ss (stands k ls) e (bars rule) g = λ h u. thence_on _ (sym e) ∙ g (max h k) (bit_or u (set_of_layers ns ls))
    calls p n ts ss (stands k ls) e (stands m ms) g = record {
      theirs = bit_or (set_of_layers ns ls) g.theirs;
      goes =
          λ h u. thence_on _ (sym e)
          ∙ (g.goes (max h k) (bit_or u (set_of_layers ns ls))
          ∙ ap₂ standing (max_assoc h k m) (or_assoc u (set_of_layers ns ls) g.theirs));
      sets =
          set-joined ns ls ms
          ∙ (ap (bit_or (set_of_layers ns ls)) g.sets
          ∙ (or_swap (set_of_layers ns ls) (own_set ss) g.theirs
          ∙ ap (λ (x : ℕ). bit_or x (bit_or (set_of_layers ns ls) g.theirs)) (sym (none_own p n ts ss))));
    }
      where
        none_own : (p n : ℕ) (ts : List _) (ss : List (Placed Step)) → own_set (at p (instance n ts) ∷ ss) ≡ own_set ss
        none_own p n ts ss = unfold own_layers flat_map layers_of in refl

    one_step : (p : ℕ) (x : Step) (ss : List (Placed Step)) (r : summary.Reply) → Gathers ss r → Gathers (at p x ∷ ss) (both_reply (step_reply ask p x) r)
    unfolding step_reply layers_of call_in
    one_step p (shape l k) ss r g = idle (at p (shape l k)) ss refl r g
    one_step p (instance n ts) ss r g = calls p n ts ss (ask p n) (same p n) r g
    one_step p (setting l) ss r g = idle (at p (setting l)) ss refl r g

    gathers : (ss : List (Placed Step)) → Gathers ss (body_reply ask ss)
    unfolding body_reply calls_of through own_layers flat_map
    gathers [] = record {
      theirs = 0;
      goes = λ h u. ap₂ standing (omega arith) (sym (or_zero_r u));
      sets = sym (or_zero_r (set_of_layers ns []));
    }
    gathers (s ∷ ss) = one_step s.place s.what ss (body_reply ask ss) (gathers ss)

    pub body-told : (ss : List (Placed Step)) → told (higher (body_reply ask ss)) ≡ raised (through f 0 (own_set ss) (calls_of ss))
    unfolding higher raised
    body-told ss = go (body_reply ask ss) (gathers ss)
      where
        go : (x : summary.Reply) → Gathers ss x → told (higher x) ≡ raised (through f 0 (own_set ss) (calls_of ss))
        go (bars rule) g = sym (ap raised (g 0 (own_set ss)))
        go (stands k ls) g = ap₂ (λ (x y : ℕ). standing (x + 1) y) (omega arith) g.sets ∙ sym (ap raised (g.goes 0 (own_set ss)))

  -- ---- a symbol

  -- the symbols of the open calls
  abbrev SameOpen : Chain → List ℕ → Type 0
  SameOpen chain o = (m : ℕ) → any (λ c. eqb c.what m) chain ≡ among m o

  open_more : (chain : Chain) (o : List ℕ) (p n : ℕ) → SameOpen chain o → SameOpen (chain ++ (at p n ∷ [])) (n ∷ o)
  unfolding any
  open_more chain o p n h m = any-++ (λ c. eqb c.what m) chain (at p n ∷ []) ∙ (ap (λ (x : Bool). x || (eqb n m || false)) (h m) ∙ turned (among m o) (eqb n m))
    where
      turned : (x y : Bool) → (x || (y || false)) ≡ (y || x)
      turned true true = refl
      turned true false = refl
      turned false true = refl
      turned false false = refl

  node_for : Definition → Node
  node_for d = record { calls = calls_of d.body; own = own_set d.body }

  nodes_for : Option Definition → Option Node
  nodes_for none = none
  nodes_for (some d) = some (node_for d)

  -- what bars a call there bars it here
  entered : (left : ℕ) (chain : Chain) (n : ℕ) (busy : Bool) → any (λ c. eqb c.what n) chain ≡ busy → (x : Option Definition) (ask : Definition → summary.Reply) (go : Node → Result Standing Rule)
      → ((d : Definition) → told (if eqb left 0 then bars TooDeep else higher (ask d)) ≡ go (node_for d))
      → told (reply_by (passage_to x left chain n) ask) ≡ enters (nodes_for x) busy go
  unfolding passage_to reply_by enters nodes_for
  entered left chain n busy e none ask go f = refl
  entered left chain n true e (some d) ask go f = rw e
  entered left chain n false e (some d) ask go f = rw e (by_test (eqb left 0) ∙ f d)
    where
      by_test : (z : Bool) → told (reply_by (if z then barred TooDeep else leads d) ask) ≡ told (if z then bars TooDeep else higher (ask d))
      by_test true = refl
      by_test false = refl

  module _ (t : Table) (g : Graph) (nodes : (n : ℕ) → g n ≡ nodes_for (find n t)) where
    agrees : (left : ℕ) (chain : Chain) (o : List ℕ) (p n : ℕ) → SameOpen chain o → told (reply_to left t chain p n) ≡ walk g left o n
    unfolding reply_to walk
    agrees zero chain o p n h =
        entered 0 chain n (among n o) (h n) (find n t) (λ d. stands 0 []) (λ d. Err TooDeep) (λ d. refl)
        ∙ sym (ap (λ (y : Option Node). enters y (among n o) (λ d. Err TooDeep)) (nodes n))
    agrees (suc left) chain o p n h =
        let deeper : Chain = chain ++ (at p n ∷ []) in
        let ask : Definition → summary.Reply = λ d. body_reply (reply_to left t deeper) d.body in
        let go : Node → (Result Standing Rule) = λ d. raised (through (walk g left (n ∷ o)) 0 d.own d.calls) in
        entered (suc left) chain n (among n o) (h n) (find n t) ask go
        (λ d. ap (λ (z : Bool). told (if z then bars TooDeep else higher (ask d))) (eqb-suc-zero left)
        ∙ (body-told (reply_to left t deeper) (walk g left (n ∷ o)) (λ q m. agrees left deeper (n ∷ o) q m (open_more chain o p n h)) d.body ∙ node_parts left n o d))
        ∙ sym (ap (λ (y : Option Node). enters y (among n o) go) (nodes n))
      where
        node_parts : (left n : ℕ) (o : List ℕ) (d : Definition) → raised (through (walk g left (n ∷ o)) 0 (own_set d.body) (calls_of d.body)) ≡ raised (through (walk g left (n ∷ o)) 0 (node_for d).own (node_for d).calls)
        node_parts left n o d = unfold node_for in refl

  -- ---- the table that memory holds

  nodes_from : (rows : List ℕ) (b : List ℤ) (own : List Own) (n m j : ℕ) → ((i : ℕ) → j ≤ i → i < j + m → (own_at own i).layers ≡ own_set (body_at rows b i))
      → node_of (find n (table_from rows b j m)) (set_from rows own n j m) ≡ nodes_for (find n (table_from rows b j m))
  unfolding find table_from set_from nodes_for node_for
  nodes_from rows b own n zero j h = refl
  nodes_from rows b own n (suc m) j h = go (eqb (symbol_at rows j) n) (nodes_from rows b own n m (j + 1) (λ i l k. h i (omega arith) (omega arith)))
    where
      go : (z : Bool) → node_of (find n (table_from rows b (j + 1) m)) (set_from rows own n (j + 1) m) ≡ nodes_for (find n (table_from rows b (j + 1) m))
          → node_of (if z then some (definition_at rows b j) else find n (table_from rows b (j + 1) m)) (if z then (own_at own j).layers else set_from rows own n (j + 1) m)
          ≡ nodes_for (if z then some (definition_at rows b j) else find n (table_from rows b (j + 1) m))
      go true later = ap (λ (s : ℕ). node_of (some (definition_at rows b j)) s) (h j (omega arith) (omega arith))
      go false later = later

pub is_told : (rows : List ℕ) (b : List ℤ) (live : ℕ) (own : List Own) (n : ℕ) {r : Result Standing Rule} → r ≡ walk (graph_in rows b live own) deepest [] n → SymbolReplies rows b live own n r
unfolding any
is_told rows b live own n e ns sets =
    reply_of ns (reply_to deepest (table_of rows b live) [] 0 n)
    (e ∙ sym (agrees ns (table_of rows b live) (graph_in rows b live own) (λ m. nodes_from ns rows b own m live 0 (λ i l k. sets i (omega arith))) deepest [] [] 0 n (λ m. refl)))
