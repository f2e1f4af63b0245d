-- The account's rules agree with the definition's: of every grammatical text the first of refusals 3 to 9, and its place.
-- Assumes nothing.
use Rattle.std.specs.Prelude.{Result, Err, if◌then◌else◌}
use mathlib.Core.Path.{◌≡◌, refl, sym, ap, ap₂, ◌∙◌, subst}
use mathlib.Core.Bool.{Bool, true, false, not, ◌&&◌, ◌||◌, and-false}
use mathlib.Core.List.{List, [], ◌∷◌, ◌++◌, flat_map}
use mathlib.Core.Option.{Option, none, some}
use Prim.Native.Nat.{ℕ, ◌+◌, ◌*◌, ◌%◌, ◌≤◌, ◌<◌}
use native.Mathlib.Nat.{zero-add}
use native.Mathlib.Omega.{arith}
use borrow.Author.Tests.{lt-ltb, ltb-false, eqb-false}
use lib.Dec.{ltb, eqb}
use lib.IntN.{ℤ, pos, nat_abs}
use lib.ListN.{length}
use Rattle.grammar.specs.Notation.{Letter}
use Rattle.grammar.specs.Viable.{Marked}
use Rattle.definition.specs.Limits.{largest}
use Rattle.definition.specs.declared.Refusal.{Refusal}
use Rattle.definition.specs.declared.Rule.{Rule}
use Rattle.definition.specs.declared.Rule.TheVariants.{NumberTooLarge, ZeroFactor, ScaledTooLarge, DegenerateCommand, NoLayer, TooManyParts}
use Rattle.definition.specs.Rules.{number_of, refuse}
use Rattle.definition.specs.Words.{Placed, at, any, those, first}
use Rattle.definition.specs.Commands.{Number, Command, start, finish, layer, commands}
use Rattle.definition.specs.Standing.{Standing, outside, after, nearest, scaled, whole}
use Rattle.definition.specs.Rounded.{ragged, rounded_from, rounded}
use Rattle.definition.proofs.Nearest.{abs_scaled}
use Rattle.definition.specs.Faults.{beyond, zero?, parts_of, distances, numbers_of, zero_scale, degenerate, layerless, has_too_many, at_numbers, at_command, faults, all_faults, first_fault}
use Rattle.laws.proofs.Lists.Range.{All, all-++}
use Rattle.laws.proofs.Commands.Made.{Name}
use Rattle.laws.proofs.Commands.Ordered.{Allowed, Ordered, after-inside, ordered, two_bits}
use Rattle.laws.proofs.Commands.Sizes.{nil-left, nil-right, all_map, at_numbers_lem}
use Rattle.pieces.specs.Pieces.{capped}
use Rattle.rules.specs.Letters.{first_unit}
use Rattle.rules.specs.Written.{Written, numbers, letters, figures, last_of, last_letter, size_at, packed_by, turns_of}
use Rattle.rules.specs.Rules.{rule_of, scaleless, few, bare, many}
use Rattle.checking.specs.Account.{layer_of, Blame, blame, of_numbers, of_whole, blames, foremost, fault_by, scope_after, rounded_of, fault_from, at_start, fault_of}
use Rattle.reading.specs.Refusal.{fault_said}
use Rattle.checking.specs.declared.Scope.{Scope}
use Rattle.laws.proofs.FlatFile.Said.{or_first, or_second}
use Rattle.commands.specs.Words.{signed}
use Rattle.reading.proofs.Says.{tells, Says, a_polygon, a_box, a_turned_box, a_flash, a_wire, a_layer, a_call, a_start, a_scaled-start, a_finish, a_deletion, a_nothing, AllSay, none_said, one_said}
use Rattle.reading.proofs.AllSay.{all_say}
use Rattle.reading.proofs.Foremost.{pick, chosen, find, foremost_is, head_of, along, found, head_numbers, head_command, alike, Numbered}
use Rattle.reading.proofs.Marks.{Mark, along_marks, found_by, one_place, marks_of, all_marks, far_marks, far_counted, weighty_at, few_points, weights}
use Rattle.reading.proofs.Blames.{capped-exact, sees_none, sees-3, sees-6, sees-7, sees_rounded, all_of_numbers, Wholly, of_whole_lem}
use Rattle.reading.proofs.Facing.{abs_signed, letters_words, Faces, faces}
use Rattle.reading.proofs.Packed.{packed, packed_none}

-- ---- what stands

-- the account's scale a, b is the definition's x, y, which refusals 3 and 4 let pass
pub record Scales (a b x y : ℕ) : Type 0 where
  pub same_a : a ≡ x
  pub same_b : b ≡ y
  pub some_a : 0 < x
  pub some_b : 0 < y
  pub most_a : x ≤ largest
  pub most-b : y ≤ largest

pub unscaled : Scales 1 1 1 1
unscaled = record { same_a = refl; same_b = refl; some_a = omega arith; some_b = omega arith; most_a = omega arith; most-b = omega arith }

-- the account's scope is the definition's standing, where no fault was found so far
pub record Fits (s : Scope) (σ : Standing) : Type 0 where
  pub inside : s.inside ≡ σ.inside
  pub scale : Scales s.a s.b σ.a σ.b
  pub set : layer_of s ≡ packed σ.layer_set
  pub set-name : Name σ.layer_set
  pub kept : σ.inside ≡ true → s.outer ≡ packed σ.layer_outside
  pub kept-name : Name σ.layer_outside

-- ---- found nowhere

unless_some : (b : Bool) (p : ℕ) (x : Option ℕ) → (if b then some p else x) ≡ none → (b ≡ false) × (x ≡ none)
unless_some true p x e = absurd (let z : ◌≡◌ {A = ℕ} 0 1 = cc in omega arith)
unless_some false p x e = (refl, e)

by_none : (h : Mark → Bool) (ms : List Mark) → found_by h ms none ≡ none → All (λ m. h m ≡ false) ms
unfolding along_marks All
by_none h [] e = tt
by_none h (m ∷ ms) e = let r = unless_some (h m) _ _ e in (r.0, by_none h ms r.1)

none_found : (t : ℤ → Bool) (zs : List Number) → All (λ z. t z.what ≡ false) zs → found t zs none ≡ none
unfolding along All
none_found t [] a = refl
none_found t (z ∷ zs) a = rw a.0 (none_found t zs a.1)

by_same : (h g : Mark → Bool) → ((m : Mark) → h m ≡ g m) → (ms : List Mark) (x : Option ℕ) → found_by h ms x ≡ found_by g ms x
unfolding along_marks
by_same h g e [] x = refl
by_same h g e (m ∷ ms) x = ap₂ {C = Option ℕ} (λ (b : Bool) (y : Option ℕ). if b then some m.number.place else y) (e m) (by_same h g e ms x)

by_count : (h g : Mark → Bool) → ((m : Mark) → h m ≡ g m) → (ms : List Mark) → along_marks one_place h ms 0 ≡ along_marks one_place g ms 0
unfolding along_marks
by_count h g e [] = refl
by_count h g e (m ∷ ms) = ap₂ {C = ℕ} (λ (b : Bool) (n : ℕ). (if b then 1 else 0) + n) (e m) (by_count h g e ms)

any_const : {A : Type 0} (b : Bool) (l : List A) → (any (λ x. true) l && b) ≡ any (λ x. b) l
unfolding any
any_const b [] = refl
any_const true (x ∷ l) = refl
any_const false (x ∷ l) = sym (and-false (any (λ y. true) l)) ∙ any_const false l

-- what no fault says
pub record Faultless (σ : Standing) (d : Placed Command) : Type 0 where
  pub near : All (λ (z : Number). beyond z.what ≡ false) (numbers_of d.what)
  pub scale : zero_scale d.what ≡ false
  pub near-distances : All (λ (z : Number). beyond (scaled σ z.what) ≡ false) (distances d.what)
  pub not_many : has_too_many d.what ≡ false

-- ---- one command

module _ (s : Scope) (σ : Standing) (g : Fits s σ) (c : Written) (d : Placed Command) (k : Faces c d) where
  abbrev l : ℕ
  l = c.letter

  abbrev p : ℕ
  p = c.place

  abbrev wholly : List Blame
  wholly = of_whole p l (last_letter c) (length (numbers c)) (turns_of (letters c.items)) (size_at 1 (numbers c) 1) (size_at 1 (numbers c) 2) (layer_of s)

  abbrev all : List Blame
  all = of_numbers s p l (numbers c) wholly

  abbrev ms : List Mark
  ms = marks_of d.what

  abbrev if_place : Bool → Option ℕ
  if_place b = if b then some d.place else none

  abbrev wh : Wholly p (scaleless l (last_letter c) (size_at 1 (numbers c) 1) (size_at 1 (numbers c) 2)) (few l (length (numbers c))) (bare l (layer_of s)) (many l (length (numbers c)) (turns_of (letters c.items))) wholly
  wh = of_whole_lem p l (last_letter c) (length (numbers c)) (turns_of (letters c.items)) (size_at 1 (numbers c) 1) (size_at 1 (numbers c) 2) (layer_of s)

  three : find 3 all ≡ found beyond (numbers_of d.what) none
  three =
      sees-3 s p l wholly k.sees ∙ (ap (found_by (λ m. beyond m.number.what) ms) (wh.none_else 3 refl refl refl refl) ∙ all_marks beyond d.what none)

  near : find 3 all ≡ none → All (λ m. beyond m.number.what ≡ false) ms
  near e = by_none (λ m. beyond m.number.what) ms (all_marks beyond d.what none ∙ (sym three ∙ e))

  four : find 4 all ≡ if_place (zero_scale d.what)
  four =
      sees_none s p l wholly 4 refl refl refl (numbers c)
      ∙ (wh.four
      ∙ ap₂ {C = Option ℕ} (λ (b : Bool) (q : ℕ). if b then some q else none) k.scale k.place)

  six : find 3 all ≡ none → find 6 all ≡ found (λ z. beyond (scaled σ z)) (distances d.what) none
  six e =
      sees-6 s p l wholly k.sees (near e)
      ∙ (ap (found_by (λ m. m.far && ltb largest (nearest (s.a * nat_abs m.number.what) s.b)) ms) (wh.none_else 6 refl refl refl refl)
      ∙ (by_same (λ m. m.far && ltb largest (nearest (s.a * nat_abs m.number.what) s.b)) (λ m. m.far && beyond (scaled σ m.number.what))
      (λ m. ap₂ {C = Bool} (λ (a b : ℕ). m.far && ltb largest (nearest (a * nat_abs m.number.what) b)) g.scale.same_a g.scale.same_b
      ∙ ap (λ (n : ℕ). m.far && ltb largest n) (sym (abs_scaled σ m.number.what)) ∙ unfold beyond in refl) ms none
      ∙ far_marks (λ z. beyond (scaled σ z)) d.what none))

  seven : find 3 all ≡ none → find 7 all ≡ if_place (degenerate σ d.what)
  seven e₃ =
      sees-7 s p l wholly k.sees (near e₃)
      ∙ (ap (λ (y : Option ℕ). if any heavy ms then some p else y) (wh.seven ∙ ap (λ (b : Bool). if b then some p else none) k.few-points)
      ∙ (nest (any heavy ms) (few_points d.what) ∙ ap₂ {C = Option ℕ} (λ (b : Bool) (q : ℕ). if b then some q else none) weighed k.place))
    where
      heavy : Mark → Bool
      heavy m = weighty_at s.a s.b m

      weighed : (any heavy ms || few_points d.what) ≡ degenerate σ d.what
      weighed =
          ap₂ {C = Bool} (λ (a b : ℕ). any (λ m. weighty_at a b m) ms || few_points d.what) g.scale.same_a g.scale.same_b ∙ weights σ d.what

      nest : (a b : Bool) → (if a then some p else (if b then some p else none)) ≡ (if a || b then some p else none)
      nest true b = refl
      nest false b = refl

  five : find 5 all ≡ none
  five = sees_none s p l wholly 5 refl refl refl (numbers c) ∙ wh.none_else 5 refl refl refl refl

  eight : find 8 all ≡ if_place (layerless σ d.what)
  eight =
      sees_none s p l wholly 8 refl refl refl (numbers c)
      ∙ (wh.eight
      ∙ ap₂ {C = Option ℕ} (λ (b : Bool) (q : ℕ). if b then some q else none) layers k.place)
    where
      layers : bare l (layer_of s) ≡ layerless σ d.what
      layers = unfold bare layerless in (
          ap₂ {C = Bool} (λ (a b : Bool). a && b) k.shape (ap (λ (n : ℕ). eqb n 0) g.set ∙ packed_none σ.layer_set g.set-name)
          ∙ any_const (eqb (length σ.layer_set) 0) (parts_of d.what).shapes)

  nine : find 9 all ≡ if_place (has_too_many d.what)
  nine =
      sees_none s p l wholly 9 refl refl refl (numbers c)
      ∙ (wh.nine
      ∙ ap₂ {C = Option ℕ} (λ (b : Bool) (q : ℕ). if b then some q else none) k.too_many k.place)

  faults_head : head_of (faults σ d)
      ≡ pick (found beyond (numbers_of d.what) none) 3
      (pick (if_place (zero_scale d.what)) 4
      (pick (found (λ z. beyond (scaled σ z)) (distances d.what) none) 6
      (pick (if_place (degenerate σ d.what)) 7 (pick (if_place (layerless σ d.what)) 8 (pick (if_place (has_too_many d.what)) 9 (blame 10 0))))))
  unfolding faults
  faults_head =
      head_numbers NumberTooLarge beyond (numbers_of d.what) _
      ∙ ap (pick (found beyond (numbers_of d.what) none) 3)
      (head_command ZeroFactor (zero_scale d.what) d.place _
      ∙ ap (pick (if_place (zero_scale d.what)) 4)
      (head_numbers ScaledTooLarge (λ z. beyond (scaled σ z)) (distances d.what) _
      ∙ ap (pick (found (λ z. beyond (scaled σ z)) (distances d.what) none) 6)
      (head_command DegenerateCommand (degenerate σ d.what) d.place _
      ∙ ap (pick (if_place (degenerate σ d.what)) 7)
      (head_command NoLayer (layerless σ d.what) d.place _ ∙ ap (pick (if_place (layerless σ d.what)) 8) (last (has_too_many d.what))))))
    where
      last : (b : Bool) → head_of (at_command TooManyParts b d.place) ≡ pick (if_place b) 9 (blame 10 0)
      last true = refl
      last false = refl

  all_numbered : All Numbered all
  all_numbered =
      all_of_numbers s p l wholly (numbers c) wh.numbered

  pub agreed : foremost (blames s c) ≡ head_of (faults σ d)
  unfolding blames chosen
  agreed =
      foremost_is all all_numbered
      ∙ (alike _ _ 3 _ _ three
      (λ e₃. alike _ _ 4 _ _ four
      (λ e₄. alike _ _ 5 _ _ five
      (λ e₅. alike _ _ 6 _ _ (six e₃)
      (λ e₆. alike _ _ 7 _ _ (seven e₃)
      (λ e₇. alike _ _ 8 _ _ eight
      (λ e₈. alike _ _ 9 _ _ nine (λ e₉. refl)))))))
      ∙ sym faults_head)

  -- and as many of its numbers are rounded
  pub rounded_agreed : Faultless σ d → rounded_of s l (numbers c) ≡ length (ragged σ d.what)
  unfolding ragged
  rounded_agreed f =
      sees_rounded s l k.sees (near_marks f.near)
      ∙ (by_count (λ m. m.far && not (eqb (s.a * nat_abs m.number.what % s.b) 0)) (λ m. m.far && not (whole σ m.number.what))
      (λ m. ap₂ {C = Bool} (λ (a b : ℕ). m.far && not (eqb (a * nat_abs m.number.what % b) 0)) g.scale.same_a g.scale.same_b ∙ unfold whole in refl) ms
      ∙ far_counted (λ z. not (whole σ z)) d.what)
    where
      near_marks : All (λ (z : Number). beyond z.what ≡ false) (numbers_of d.what) → All (λ m. beyond m.number.what ≡ false) ms
      near_marks h = by_none (λ m. beyond m.number.what) ms (all_marks beyond d.what none ∙ none_found beyond (numbers_of d.what) h)

-- ---- what stands behind it

no_at_command : (n : Rule) (b : Bool) (p : ℕ) → at_command n b p ≡ [] → b ≡ false
no_at_command n true p e = absurd (let z : ◌≡◌ {A = ℕ} 0 1 = cc in omega arith)
no_at_command n false p e = refl

pub faultless : (σ : Standing) (d : Placed Command) → faults σ d ≡ [] → Faultless σ d
unfolding faults
faultless σ d e =
    let f₃ = at_numbers NumberTooLarge beyond (numbers_of d.what) in
    let f₄ = at_command ZeroFactor (zero_scale d.what) d.place in
    let f₆ = at_numbers ScaledTooLarge (λ z. beyond (scaled σ z)) (distances d.what) in
    let f₇ = at_command DegenerateCommand (degenerate σ d.what) d.place in
    let f₈ = at_command NoLayer (layerless σ d.what) d.place in
    let e₄ = nil-right f₃ _ e in
    let e₆ = nil-right f₄ _ e₄ in
    record {
      near = at_numbers_lem NumberTooLarge beyond (numbers_of d.what) (nil-left f₃ _ e);
      scale = no_at_command ZeroFactor (zero_scale d.what) d.place (nil-left f₄ _ e₄);
      near-distances = at_numbers_lem ScaledTooLarge (λ z. beyond (scaled σ z)) (distances d.what) (nil-left f₆ _ e₆);
      not_many = no_at_command TooManyParts (has_too_many d.what) d.place (nil-right f₈ _ (nil-right f₇ _ (nil-right f₆ _ e₆)));
    }

-- a number that is not beyond is told exactly
near-exact : (σ : Bool) (v : ℕ) → beyond (signed σ v) ≡ false → capped v ≡ nat_abs (signed σ v)
unfolding beyond
near-exact σ v e = capped-exact v (ap (λ (n : ℕ). ltb largest n) (sym (abs_signed σ v)) ∙ e) ∙ sym (abs_signed σ v)

pub near-most : (z : ℤ) → beyond z ≡ false → nat_abs z ≤ largest
unfolding beyond
near-most z e = ltb-false largest (nat_abs z) e

pub not_zero : (n : ℕ) → eqb n 0 ≡ false → 0 < n
not_zero n e = let h = eqb-false n 0 e in omega arith

-- a name that is set
abbrev named-scope : Scope → ℕ → Scope
named-scope s n =
    if s.inside then record { inside = true; a = s.a; b = s.b; outer = s.outer; inner = n } else record { inside = false; a = s.a; b = s.b; outer = n; inner = s.inner }

named-fits : (s : Scope) (σ : Standing) (l : List ℕ) → Fits s σ → Name l → (i : Bool) → s.inside ≡ i → Fits (named-scope s (packed l)) (after (layer l) σ)
unfolding after
named-fits s σ l g n true e = rw e (record {
  inside = sym e ∙ g.inside;
  scale = g.scale;
  set = refl;
  set-name = n;
  kept = g.kept;
  kept-name = g.kept-name;
})
named-fits s σ l g n false e = rw e (record {
  inside = sym e ∙ g.inside;
  scale = g.scale;
  set = refl;
  set-name = n;
  kept = λ h. absurd (two_bits h (sym g.inside ∙ e));
  kept-name = g.kept-name;
})

no_name : Name []
unfolding All
no_name = record { short = omega arith; chars = tt }

-- a definition that starts, with the scale x, y
module _ (s : Scope) (σ : Standing) (g : Fits s σ) (h : σ.inside ≡ false) where
  pub start_fits : (n a b : Number) (x y : ℕ) → Scales x y (nat_abs a.what) (nat_abs b.what)
      → Fits (record { inside = true; a = x; b = y; outer = s.outer; inner = 0 }) (after (start n a b) σ)
  unfolding after packed_by
  start_fits n a b x y k = record {
    inside = refl;
    scale = k;
    set = refl;
    set-name = no_name;
    kept = λ i. outer s.inside (g.inside ∙ h) ∙ g.set;
    kept-name = g.set-name;
  }
    where
      outer : (i : Bool) → i ≡ false → s.outer ≡ (if i then s.inner else s.outer)
      outer i e = rw e refl

finish-fits : (s : Scope) (σ : Standing) → Fits s σ → σ.inside ≡ true → Fits (record { inside = false; a = 1; b = 1; outer = s.outer; inner = 0 }) (after finish σ)
unfolding after
finish-fits s σ g h = record {
  inside = refl;
  scale = unscaled;
  set = g.kept h;
  set-name = g.kept-name;
  kept = λ i. absurd (two_bits i refl);
  kept-name = no_name;
}

pub fits_after : (s : Scope) (σ : Standing) {c : Written} {d : Placed Command} → Fits s σ → Says c d → Allowed σ.inside d.what → Faultless σ d
    → Fits (scope_after s c) (after d.what σ)
unfolding scope_after figures letters last_of size_at Allowed numbers_of parts_of zero_scale any flat_map All
fits_after s σ g (a_polygon x h) o f = unfold after in g
fits_after s σ g (a_box (tells i α v) (tells j τ w) (tells k υ x) (tells m φ y)) o f = unfold after in g
fits_after s σ g (a_turned_box (tells i α v) (tells j τ w) (tells k υ x) (tells m φ y) (tells n ψ t) (tells q ω u)) o f = unfold after in g
fits_after s σ g (a_flash (tells i α v) (tells j τ w) (tells k υ x)) o f = unfold after in g
fits_after s σ g (a_wire (tells i α v) x h) o f = unfold after in g
fits_after s σ g (a_layer {l = l} h n) o f = subst (λ (ws : List ℕ). Fits (named-scope s (packed_by first_unit ws)) (after (layer l) σ)) (sym (letters_words l)) (named-fits s σ l g n s.inside refl)
fits_after s σ g (a_call (tells i α v) t) o f = unfold after in g
fits_after s σ g (a_start {p} (tells i α v)) o f = start_fits s σ g o (at i (signed α v)) (at p (pos 1)) (at p (pos 1)) 1 1 unscaled
fits_after s σ g (a_scaled-start (tells i α v) (tells j τ w) (tells k υ x)) o f =
    start_fits s σ g o (at i (signed α v)) (at j (signed τ w)) (at k (signed υ x)) (capped w) (capped x) (record {
      same_a = near-exact τ w f.near.1.0;
      same_b = near-exact υ x f.near.1.1.0;
      some_a = not_zero (nat_abs (signed τ w)) (or_first _ _ f.scale);
      some_b = not_zero (nat_abs (signed υ x)) (or_first _ _ (or_second (zero? (signed τ w)) _ f.scale));
      most_a = near-most (signed τ w) f.near.1.0;
      most-b = near-most (signed υ x) f.near.1.1.0;
    })
fits_after s σ g a_finish o f = finish-fits s σ g o
fits_after s σ g (a_deletion (tells i α v)) o f = unfold after in g
fits_after s σ g (a_nothing i) o f = unfold after in (rw (i.not_D, i.not_L) g)

-- ---- the whole text

-- a refusal that a command can meet: of such a rule the account keeps the number, and `rule_of` gives the rule again
abbrev Low : Refusal → Type 0
Low r = (number_of r.rule < 10) × (rule_of (number_of r.rule) ≡ r.rule)

all_same : {P : Type 0} → P → (zs : List Number) → All (λ (z : Number). P) zs
unfolding All
all_same h [] = tt
all_same h (z ∷ zs) = (h, all_same h zs)

low-numbers : (n : Rule) → Low (refuse n 0) → (t : ℤ → Bool) (zs : List Number) → All Low (at_numbers n t zs)
unfolding at_numbers
low-numbers n h t zs = all_map Low (λ d. refuse n d.place) (those (λ d. t d.what) zs) (all_same h (those (λ d. t d.what) zs))

low-command : (n : Rule) → Low (refuse n 0) → (b : Bool) (p : ℕ) → All Low (at_command n b p)
unfolding All
low-command n h true p = (h, tt)
low-command n h false p = tt

low : (σ : Standing) (d : Placed Command) → All Low (faults σ d)
unfolding faults rule_of
low σ d =
    all-++ Low _ _ (low-numbers NumberTooLarge (omega arith, refl) beyond (numbers_of d.what))
    (all-++ Low _ _ (low-command ZeroFactor (omega arith, refl) (zero_scale d.what) d.place)
    (all-++ Low _ _ (low-numbers ScaledTooLarge (omega arith, refl) (λ z. beyond (scaled σ z)) (distances d.what))
    (all-++ Low _ _ (low-command DegenerateCommand (omega arith, refl) (degenerate σ d.what) d.place)
    (all-++ Low _ _ (low-command NoLayer (omega arith, refl) (layerless σ d.what) d.place) (low-command TooManyParts (omega arith, refl) (has_too_many d.what) d.place)))))

-- the first of a command's, or of those behind it
said : (f : Result ℕ Refusal) (rs more : List Refusal) (n : ℕ) → All Low rs → (rs ≡ [] → f ≡ fault_said (first more) n) → fault_by (head_of rs) f ≡ fault_said (first (rs ++ more)) n
unfolding first All
said f [] more n h k = k refl
said f (r ∷ rs) more n h k = rw (lt-ltb (number_of r.rule) 10 h.0.0) (ap (λ (n : Rule). Err (refuse n r.place)) h.0.1)

pub fault_from_lem : {cs : List Written} {ds : List (Placed Command)} → AllSay cs ds → (s : Scope) (σ : Standing) → Fits s σ → Ordered σ.inside ds → (n : ℕ)
    → fault_from s n cs ≡ fault_said (first (all_faults σ ds)) (n + rounded_from σ ds)
unfolding fault_from all_faults Ordered rounded_from
fault_from_lem none_said s σ g o n = unfold first in ap (λ (k : ℕ). fault_said none k) (omega arith)
fault_from_lem (one_said {c} {d} {cs} {ds} x xs) s σ g o n =
    ap (λ (b : Blame). fault_by b (fault_from (scope_after s c) n' cs)) (agreed s σ g c d (faces x))
    ∙ said (fault_from (scope_after s c) n' cs) (faults σ d) (all_faults (after d.what σ) ds) (n + (length (ragged σ d.what) + rest)) (low σ d)
    (λ e. let f = faultless σ d e in
    fault_from_lem xs (scope_after s c) (after d.what σ) (fits_after s σ g x o.0 f) (subst (λ (i : Bool). Ordered i ds) (sym (after-inside d.what σ)) o.1) n'
    ∙ ap (fault_said (first (all_faults (after d.what σ) ds))) (sum (rounded_agreed s σ g c d (faces x) f)))
  where
    n' : ℕ
    n' = n + rounded_of s c.letter (numbers c)

    rest : ℕ
    rest = rounded_from (after d.what σ) ds

    sum : rounded_of s c.letter (numbers c) ≡ length (ragged σ d.what) → n' + rest ≡ n + (length (ragged σ d.what) + rest)
    sum e = omega arith

pub fits-start : Fits at_start (outside [])
unfolding packed_by
fits-start = record {
  inside = refl;
  scale = unscaled;
  set = refl;
  set-name = no_name;
  kept = λ h. absurd (two_bits h refl);
  kept-name = no_name;
}

-- the account's first fault of a grammatical text is the definition's
pub fault_is : {t : List ℕ} {m : List Letter} → Marked t m → fault_of m ≡ fault_said (first_fault (commands 0 m)) (rounded (commands 0 m))
unfolding first_fault rounded
fault_is {m = m} k =
    fault_from_lem (all_say k) at_start (outside []) fits-start (ordered k 0) 0 ∙ ap (fault_said (first_fault (commands 0 m))) (zero-add (rounded_from (outside []) (commands 0 m)))
