-- The laws of a walk over calls: a known height answers for any allowance, whatever is open, as long as every open symbol leads to the one asked for.
-- Assumes nothing.
use mathlib.Core.Path.{◌≡◌, refl, sym, ap, ◌∙◌, subst}
use mathlib.Core.Bool.{Bool, true, false, ◌||◌}
use mathlib.Core.List.{List, [], ◌∷◌}
use mathlib.Core.Option.{Option, none, some}
use Prim.Native.Nat.{ℕ, zero, suc, ◌+◌, ◌-◌, ◌≤◌, ◌<◌, max}
use native.Mathlib.Nat.{le-max_left, le-max_right, max-le}
use native.Mathlib.Numerals.{add-one}
use native.Mathlib.Omega.{arith}
use borrow.Author.Tests.{lt-ltb, le-ltb, eqb-true}
use lib.Dec.{eqb}
use lib.Bits.{bit_or}
use Rattle.std.specs.Prelude.{Result, Ok, Err}
use Rattle.definition.specs.declared.Rule.{Rule}
use Rattle.definition.specs.declared.Rule.TheVariants.{TooDeep}
use Rattle.definition.specs.Words.{any}
use Rattle.library.proofs.Cases.{by_place}
use Rattle.heights.specs.declared.Standing.{Standing}
use Rattle.heights.specs.Walk.{Node, Graph, standing, thence, through, raised, enters, among, walk, free, within}
use Rattle.heights.specs.Kept.{Stood, NotAt, Leads, Each}

pub no_bar : {r : Rule} {h s : ℕ} → Err r ≡ standing h s → ⊥
no_bar e = cc

height_in : Result Standing Rule → ℕ
height_in (Err r) = 0
height_in (Ok x) = x.height

layers_in : Result Standing Rule → ℕ
layers_in (Err r) = 0
layers_in (Ok x) = x.layers

pub same_height : {h s k u : ℕ} → standing h s ≡ standing k u → h ≡ k
unfolding height_in
same_height e = ap height_in e

pub same_layers : {h s k u : ℕ} → standing h s ≡ standing k u → s ≡ u
unfolding layers_in
same_layers e = ap layers_in e

-- ---- within an allowance

pub is_within : {left h : ℕ} (s : ℕ) → h ≤ left → within left h s ≡ standing h s
is_within {left} {h} s l = rw (le-ltb left h l)

pub is_beyond : {left h : ℕ} (s : ℕ) → left < h → within left h s ≡ Err TooDeep
is_beyond {left} {h} s l = rw (lt-ltb left h l)

within_low : (left h s : ℕ) {k u : ℕ} → within left h s ≡ standing k u → h ≤ left
within_low left h s e = by_place (h ≤ left) left h (λ l. absurd (no_bar (sym (is_beyond s l) ∙ e))) (λ l. l)

-- ---- calls one after another

-- a reply that stands, and what followed
thence-stands : (r : Result Standing Rule) (go : ℕ → ℕ → Result Standing Rule) {m u : ℕ} → thence r go ≡ standing m u → (k : ℕ) × (w : ℕ) × (r ≡ standing k w) × (go k w ≡ standing m u)
unfolding thence
thence-stands (Err r) go e = absurd (no_bar e)
thence-stands (Ok x) go e = (x.height, x.layers, refl, e)

pub thence_on : {r : Result Standing Rule} {k w : ℕ} (go : ℕ → ℕ → Result Standing Rule) → r ≡ standing k w → thence r go ≡ go k w
unfolding thence
thence_on go e = ap (λ (x : Result Standing Rule). thence x go) e

pub thence_bar : {x : Result Standing Rule} {r : Rule} (go : ℕ → ℕ → Result Standing Rule) → x ≡ Err r → thence x go ≡ Err r
unfolding thence
thence_bar go e = ap (λ (x : Result Standing Rule). thence x go) e

-- the whole is as tall as every call passed
above : (f : ℕ → Result Standing Rule) (h s : ℕ) (cs : List ℕ) {m u : ℕ} → through f h s cs ≡ standing m u → h ≤ m
unfolding through
above f h s [] e = omega (arith, same_height e)
above f h s (c ∷ cs) e =
    let (k, w, p, q) = thence-stands (f c) _ e in
    omega (arith, above f (max h k) (bit_or s w) cs q, le-max_left h k)

-- functions that agree on calls no taller than the whole give the same
module _ (e f g : ℕ → Result Standing Rule) (m u : ℕ) (same : (c k w : ℕ) → e c ≡ standing k w → k ≤ m → f c ≡ g c) where
  agree : (h s h' s' : ℕ) (cs : List ℕ) → through e h' s' cs ≡ standing m u → through f h s cs ≡ through g h s cs
  unfolding through
  agree h s h' s' [] p = refl
  agree h s h' s' (c ∷ cs) p =
      let (k, w, q, r) = thence-stands (e c) _ p in
      let a = above e (max h' k) (bit_or s' w) cs r in
      let fg : f c ≡ g c = same c k w q (omega (arith, a, le-max_right h' k)) in
      ap (λ (x : Result Standing Rule). thence x (λ k u. through f (max h k) (bit_or s u) cs)) fg ∙ go (g c) (λ i v. agree (max h i) (bit_or s v) (max h' k) (bit_or s' w) cs r)
    where
      go : (x : Result Standing Rule) → ((k u : ℕ) → through f (max h k) (bit_or s u) cs ≡ through g (max h k) (bit_or s u) cs)
          → thence x (λ k u. through f (max h k) (bit_or s u) cs) ≡ thence x (λ k u. through g (max h k) (bit_or s u) cs)
      go (Err b) r = unfold thence in refl
      go (Ok x) r = unfold thence in r x.height x.layers

-- with an allowance instead, the first call that is too tall bars
module _ (f g : ℕ → Result Standing Rule) (left : ℕ) (cut : (c k w : ℕ) → f c ≡ standing k w → g c ≡ within left k w) where
  cut-through : (h s : ℕ) (cs : List ℕ) {m u : ℕ} → h ≤ left → through f h s cs ≡ standing m u → through g h s cs ≡ within left m u
  unfolding through
  cut-through h s [] {m} {u} l e = sym (is_within {left = left} {h = m} u (omega (arith, same_height e)) ∙ sym e)
  cut-through h s (c ∷ cs) {m} {u} l e =
      let (k, w, p, q) = thence-stands (f c) _ e in
      let a = above f (max h k) (bit_or s w) cs q in
      by_place (thence (g c) (λ k u. through g (max h k) (bit_or s u) cs) ≡ within left m u) left k
      (λ low. thence_bar _ (cut c k w p ∙ is_beyond w low) ∙ sym (is_beyond {left = left} {h = m} u (omega (arith, a, le-max_right h k))))
      (λ high. thence_on _ (cut c k w p ∙ is_within w high) ∙ cut-through (max h k) (bit_or s w) cs (max-le l high) q)

-- of a symbol and of those that were open
pub one_more : (P : ℕ → Type 0) (n : ℕ) (o : List ℕ) → P n → ((m : ℕ) → among m o ≡ true → P m) → (m : ℕ) → among m (n ∷ o) ≡ true → P m
unfolding any
one_more P n o here rest m p = go (eqb n m) refl p
  where
    go : (x : Bool) → eqb n m ≡ x → (x || among m o) ≡ true → P m
    go true q z = subst P (eqb-true n m q) here
    go false q z = rest m z

-- of each call
pub each : (P : ℕ → Type 0) (Q : ℕ → Type 0) → ((c : ℕ) → P c → Q c) → (cs : List ℕ) → Each P cs → Each Q cs
unfolding Each
each P Q f [] h = tt
each P Q f (c ∷ cs) h = (f c h.0, each P Q f cs h.1)

swap : (I : Type 0) (P : I → ℕ → Type 0) (cs : List ℕ) → ((i : I) → Each (P i) cs) → Each (λ c. (i : I) → P i c) cs
unfolding Each
swap I P [] f = tt
swap I P (c ∷ cs) f = (λ i. (f i).0, swap I P cs (λ i. (f i).1))

-- ---- a symbol

raised-stands : (x : Result Standing Rule) {h s : ℕ} → raised x ≡ standing h s → (k : ℕ) × (x ≡ standing k s) × (h ≡ k + 1)
unfolding raised
raised-stands (Err r) e = absurd (no_bar e)
raised-stands (Ok x) e = (x.height, ap (standing x.height) (same_layers e), sym (same_height e))

raised-within : (left m u : ℕ) → raised (within left m u) ≡ within (suc left) (m + 1) u
unfolding raised
raised-within left m u =
    by_place (raised (within left m u) ≡ within (suc left) (m + 1) u) left m
    (λ l. ap raised (is_beyond u l) ∙ sym (is_beyond {left = suc left} {h = m + 1} u (omega arith)))
    (λ l. ap raised (is_within u l) ∙ sym (is_within {left = suc left} {h = m + 1} u (omega arith)))

enters-stands : (x : Option Node) (busy : Bool) (go : Node → Result Standing Rule) {h s : ℕ} → enters x busy go ≡ standing h s
    → (d : Node) × (x ≡ some d) × (busy ≡ false) × (go d ≡ standing h s)
unfolding enters
enters-stands none busy go e = absurd (no_bar e)
enters-stands (some d) true go e = absurd (no_bar e)
enters-stands (some d) false go e = (d, refl, refl, e)

pub enters_on : {x : Option Node} {busy : Bool} {d : Node} (go : Node → Result Standing Rule) → x ≡ some d → busy ≡ false → enters x busy go ≡ go d
unfolding enters
enters_on {busy = busy} {d = d} go e f = ap (λ (y : Option Node). enters y busy go) e ∙ ap (λ (t : Bool). enters (some d) t go) f

module _ (g : Graph) where
  -- what a symbol that stands has: a definition, whose calls stand one level down
  pub record Footing (n h s : ℕ) : Type 0 where
    pub node : Node
    pub defined : g n ≡ some node
    pub below : ℕ
    pub tallest : ℕ
    pub body : through (free g below) 0 node.own node.calls ≡ standing tallest s
    pub taller : h ≡ tallest + 1

  footing : {a n h s : ℕ} → Stood g a n h s → Footing n h s
  unfolding free
  footing {a} {n} {h} {s} e = go a e.is
    where
      go : (a : ℕ) → free g a n ≡ standing h s → Footing n h s
      go zero p = let (d, x, t, y) = enters-stands (g n) false _ p in absurd (no_bar y)
      go (suc a) p =
          let (d, x, t, y) = enters-stands (g n) false _ p in
          let (k, z, q) = raised-stands (through (free g a) 0 d.own d.calls) y in
          record { node = d; defined = x; below = a; tallest = k; body = z; taller = q }

  pub some_height : {a n h s : ℕ} → Stood g a n h s → 0 < h
  some_height e = let st = footing e in omega (arith, st.taller)

  free_none_left : (n : ℕ) {d : Node} → g n ≡ some d → free g 0 n ≡ Err TooDeep
  unfolding free
  free_none_left n x = enters_on _ x refl

  free-below : (left n : ℕ) {d : Node} → g n ≡ some d → free g (suc left) n ≡ raised (through (free g left) 0 d.own d.calls)
  unfolding free
  free-below left n x = enters_on _ x refl

  -- a height that is known for one allowance is known for all
  for_all : (a n h s : ℕ) → free g a n ≡ standing h s → (left : ℕ) → free g left n ≡ within left h s
  unfolding free
  for_all zero n h s e left = let (d, x, t, y) = enters-stands (g n) false _ e in absurd (no_bar y)
  for_all (suc a) n h s e zero =
      let (d, x, t, y) = enters-stands (g n) false _ e in
      let (k, z, q) = raised-stands (through (free g a) 0 d.own d.calls) y in
      free_none_left n x ∙ sym (is_beyond {left = 0} {h = h} s (omega arith))
  for_all (suc a) n h s e (suc left) =
      let (d, x, t, y) = enters-stands (g n) false _ e in
      let (k, z, q) = raised-stands (through (free g a) 0 d.own d.calls) y in
      free-below left n x
      ∙ (ap raised (cut-through (free g a) (free g left) left (λ c k w p. for_all a c k w p left) 0 d.own d.calls (omega arith) z)
      ∙ (raised-within left k s ∙ ap (λ (i : ℕ). within (suc left) i s) (sym q)))

  pub any_allowance : {a n h s : ℕ} → Stood g a n h s → (left : ℕ) → free g left n ≡ within left h s
  any_allowance {a} {n} {h} {s} e left = for_all a n h s e.is left

  pub no_taller : {left n h s : ℕ} → Stood g left n h s → h ≤ left
  no_taller {left} {n} {h} {s} e = within_low left h s (sym (any_allowance e left) ∙ e.is)

  -- with more levels left it stands too, and with fewer than its height it does not
  pub with_more : {a n h s left : ℕ} → Stood g a n h s → h ≤ left → Stood g left n h s
  with_more {s = s} e l = record { is = any_allowance e _ ∙ is_within s l }

  with_less : {a n h s left : ℕ} → Stood g a n h s → left < h → NotAt g left n
  with_less {s = s} e l k u p = no_bar (sym (any_allowance e _ ∙ is_beyond s l) ∙ p.is)

  lower : {a b n : ℕ} → a ≤ b → NotAt g b n → NotAt g a n
  lower l no-b h s p = no-b h s (with_more p (omega (arith, l, no_taller p)))

  -- none of the open symbols stands at this height
  record Tall (h : ℕ) (o : List ℕ) : Type 0 where
    none_stands : (m : ℕ) → among m o ≡ true → NotAt g h m

  not_open : {n h s : ℕ} {o : List ℕ} → Tall h o → Stood g h n h s → among n o ≡ false
  not_open {n} {h} {s} {o} t e = go (among n o) refl
    where
      go : (x : Bool) → among n o ≡ x → among n o ≡ false
      go true p = absurd (t.none_stands n p h s e)
      go false p = p

  tall_more : {n h k : ℕ} {o : List ℕ} → Tall h o → k ≤ h → NotAt g k n → Tall k (n ∷ o)
  tall_more {n} {h} {k} {o} t l no-n = record { none_stands = one_more (NotAt g k) n o no-n (λ m p. lower l (t.none_stands m p)) }

  -- what is open bars nothing below a symbol that stands
  as_free : (a : ℕ) {A n h s : ℕ} {o : List ℕ} → Stood g A n h s → Tall h o → walk g a o n ≡ free g a n
  unfolding walk
  as_free zero {n = n} e t =
      let st = footing e in enters_on _ st.defined (not_open t (with_more e (omega arith))) ∙ sym (free_none_left n st.defined)
  as_free (suc a) {n = n} {h} {s} {o} e t =
      let st = footing e in
      let d = st.node in
      enters_on _ st.defined (not_open t (with_more e (omega arith)))
      ∙ (ap raised (agree (free g st.below) (walk g a (n ∷ o)) (free g a) st.tallest s
      (λ c k w p l. let q : k < h = omega (arith, l, st.taller) in as_free a (record { is = p }) (tall_more t (omega arith) (with_less e q))) 0 d.own 0 d.own d.calls st.body)
      ∙ sym (free-below a n st.defined))

  -- a symbol that stands while others are open stands without them
  free_too : (a n h s : ℕ) (o : List ℕ) → walk g a o n ≡ standing h s → free g a n ≡ standing h s
  unfolding walk
  free_too zero n h s o e = let (d, x, f, y) = enters-stands (g n) (among n o) _ e in absurd (no_bar y)
  free_too (suc a) n h s o e =
      let (d, x, f, y) = enters-stands (g n) (among n o) _ e in
      let (k, z, q) = raised-stands (through (walk g a (n ∷ o)) 0 d.own d.calls) y in
      free-below a n x
      ∙ (ap raised (agree (walk g a (n ∷ o)) (free g a) (walk g a (n ∷ o)) k s (λ c i w p l. free_too a c i w (n ∷ o) p ∙ sym p) 0 d.own 0 d.own d.calls z)
      ∙ y)

  pub stands-free : (a n h s : ℕ) (o : List ℕ) → walk g a o n ≡ standing h s → Stood g a n h s
  stands-free a n h s o e = record { is = free_too a n h s o e }

  -- every open symbol leads to one that stands, so none stands at its height
  tall_enough : {A n h s : ℕ} {o : List ℕ} → Stood g A n h s → ((m : ℕ) → among m o ≡ true → Leads g m n) → Tall h o
  tall_enough {h = h} e leads =
      let l = some_height e in
      let z : h - 1 + 1 ≡ h = omega arith in
      record { none_stands = λ m p. subst (λ (k : ℕ). NotAt g k m) z ((leads m p).needs (h - 1) (with_less e (omega arith))) }

  -- and so a known height answers for any allowance, whatever is open
  pub known-answers : {A n h s : ℕ} (o : List ℕ) → Stood g A n h s → ((m : ℕ) → among m o ≡ true → Leads g m n) → (left : ℕ) → walk g left o n ≡ within left h s
  known-answers o e leads left = as_free left {o = o} e (tall_enough e leads) ∙ any_allowance e left

  -- ---- a symbol leads to those that it calls, and to those that they lead to

  -- a call of a body that stands stands too
  calls_stand : (left h s : ℕ) (cs : List ℕ) {m u : ℕ} → through (free g left) h s cs ≡ standing m u → Each (λ c. NotAt g left c → ⊥) cs
  unfolding through Each
  calls_stand left h s [] e = tt
  calls_stand left h s (c ∷ cs) e =
      let (k, w, p, q) = thence-stands (free g left c) _ e in
      (λ no_c. no_c k w (record { is = p }), calls_stand left (max h k) (bit_or s w) cs q)

  pub leads_on : {m n c : ℕ} → Leads g m n → Leads g n c → Leads g m c
  leads_on f e = record { needs = λ left no_c. lower (omega arith) (f.needs (left + 1) (e.needs left no_c)) }

  pub leads-calls : {m : ℕ} {d : Node} → g m ≡ some d → Each (Leads g m) d.calls
  leads-calls {m} {d} x =
      each _ (Leads g m) (λ c f. record { needs = λ left no_c h s e. f (left, h, s, e) no_c }) d.calls
      (swap ((left : ℕ) × (h : ℕ) × (s : ℕ) × Stood g (left + 1) m h s) (λ i c. NotAt g i.0 c → ⊥) d.calls
      (λ i. calls_stand i.0 0 d.own d.calls
      (raised-stands (through (free g i.0) 0 d.own d.calls) (sym (free-below i.0 m x) ∙ (ap (λ (k : ℕ). free g k m) (sym (add-one i.0)) ∙ i.3.is))).1))
