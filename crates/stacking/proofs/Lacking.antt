-- Where too few records are lent, a story ends as it did, or it is stopped by 21 at the first call that needs one more, if nothing stops it before.
-- Assumes nothing.
use Rattle.std.specs.Prelude.{if◌then◌else◌}
use mathlib.Core.Path.{◌≡◌, refl, sym, ap, ap₂, ◌∙◌, subst}
use mathlib.Core.Bool.{Bool, true, false}
use mathlib.Core.List.{List, [], ◌∷◌, ◌++◌, map, map-append, nil≢cons, head-eq_of_cons-eq, tail-eq_of_cons-eq}
use Prim.Native.Nat.{ℕ, ◌≤◌, ◌<◌}
use native.Mathlib.Omega.{arith}
use borrow.Author.Tests.{le-leb, leb-true, leb-false}
use lib.Dec.{leb}
use lib.ListN.{length}
use Rattle.definition.specs.declared.Rule.TheVariants.{TooFewRecords}
use Rattle.definition.specs.Rules.{refuse}
use Rattle.definition.specs.Table.{Definition}
use Rattle.definition.specs.Drawing.{Chain, Event, called, drew, entered, removed, refused}
use Rattle.definition.specs.Counts.{Counts, End, finished, stopped, counted, go_on, ending}
use Rattle.definition.specs.Records.{stacked_to}
use Rattle.laws.proofs.Lists.Joined.{ending-++}
use Rattle.laws.proofs.Lists.Range.{All}
use Rattle.laws.proofs.Story.Counting.{not_finished}
use Rattle.stacking.proofs.Stacked.{Fits, stacked_one, stacked_all}

-- the first call of es that needs a record more than were lent; from the counts c on nothing before it stops the counting
pub record Lacks (records : ℕ) (c : Counts) (es : List Event) : Type 0 where
  pub before : List Event
  pub place : ℕ
  pub chain : Chain
  pub found : Definition
  pub after : List Event
  pub reached : Counts
  pub parted : es ≡ before ++ called place chain found ∷ after
  pub enough-before : All (Fits records) before
  pub counted_so_far : ending c before ≡ finished reached
  pub one_more : records ≤ length chain

pub lacking_stops : (records : ℕ) (c : Counts) (es : List Event) (f : Lacks records c es) → ending c (map (stacked_to records) es) ≡ stopped (refuse TooFewRecords f.place) f.chain
unfolding stacked_to ending go_on counted
lacking_stops records c es f =
    let after = map (stacked_to records) f.after in
    let here = refused (refuse TooFewRecords f.place) f.chain ∷ after in
    ap (λ (x : List Event). ending c (map (stacked_to records) x)) f.parted
    ∙ ap (ending c) (map-append (stacked_to records) f.before (called f.place f.chain f.found ∷ f.after))
    ∙ ap₂ {C = End} (λ (x : List Event) (b : Bool). ending c (x ++ (if b then refused (refuse TooFewRecords f.place) f.chain else called f.place f.chain f.found) ∷ after))
    (stacked_all records f.before f.enough-before) (le-leb records (length f.chain) f.one_more)
    ∙ ending-++ c f.before here
    ∙ ap (λ (x : End). go_on x (λ c'. ending c' here)) f.counted_so_far

-- how it ends: as it did, where no such call is come to; or by 21 at that call
pub data EndsStacked (records : ℕ) (c : Counts) (es : List Event) : End → Type 0 where
  as_before : (Lacks records c es → ⊥) → EndsStacked records c es (ending c es)
  by_records : (f : Lacks records c es) → EndsStacked records c es (stopped (refuse TooFewRecords f.place) f.chain)

-- an event that has its record, and a call that has none
data One (records : ℕ) : Event → Type 0 where
  enough : {e : Event} → Fits records e → One records e
  short : {p : ℕ} {chain : Chain} {d : Definition} → records ≤ length chain → One records (called p chain d)

one : (records : ℕ) (e : Event) → One records e
one records (called p chain d) = go (leb records (length chain)) refl
  where
    go : (b : Bool) → leb records (length chain) ≡ b → One records (called p chain d)
    go true h = short (leb-true records (length chain) h)
    go false h = enough {e = called p chain d} (leb-false records (length chain) h)
one records (drew d) = enough {e = drew d} tt
one records (entered d before) = enough {e = entered d before} tt
one records (removed n before) = enough {e = removed n before} tt
one records (refused r chain) = enough {e = refused r chain} tt

ending-more : (c : Counts) (e : Event) (next : Counts) (es : List Event) → counted c e ≡ finished next → ending c (e ∷ es) ≡ ending next es
unfolding ending go_on
ending-more c e next es h = rw h

ending-stops : (c : Counts) (e : Event) (es : List Event) {r : _} {chain : Chain} → counted c e ≡ stopped r chain → ending c (e ∷ es) ≡ stopped r chain
unfolding ending go_on
ending-stops c e es h = rw h

module _ (records : ℕ) (c : Counts) (es : List Event) where
  here : {p : ℕ} {chain : Chain} {d : Definition} → records ≤ length chain → Lacks records c (called p chain d ∷ es)
  unfolding All ending
  here {p} {chain} {d} h = record { before = []; place = p; chain = chain; found = d; after = es; reached = c; parted = refl; enough-before = tt; counted_so_far = refl; one_more = h }

  later : (e : Event) (next : Counts) → Fits records e → counted c e ≡ finished next → Lacks records next es → Lacks records c (e ∷ es)
  unfolding All
  later e next h g f = record {
    before = e ∷ f.before;
    place = f.place;
    chain = f.chain;
    found = f.found;
    after = f.after;
    reached = f.reached;
    parted = ap (λ (x : List Event). e ∷ x) f.parted;
    enough-before = (h, f.enough-before);
    counted_so_far = ending-more c e next f.before g ∙ f.counted_so_far;
    one_more = f.one_more;
  }

  -- a call of e ∷ es that lacks one is e, or one of es where e is counted
  not_first : (e : Event) → Fits records e → (f : Lacks records c (e ∷ es)) → ((next : Counts) → counted c e ≡ finished next → Lacks records next es → ⊥) → ⊥
  unfolding All
  not_first e h f never = go f.before refl
    where
      go : (b : List Event) → f.before ≡ b → ⊥
      go [] q =
          let same : e ≡ called f.place f.chain f.found = head-eq_of_cons-eq (f.parted ∙ ap (λ (x : List Event). x ++ called f.place f.chain f.found ∷ f.after) q) in
          let fits : length f.chain < records = subst (Fits records) same h in
          omega (arith, fits, f.one_more)
      go (x ∷ b) q =
          let parts : e ∷ es ≡ x ∷ (b ++ called f.place f.chain f.found ∷ f.after) = f.parted ∙ ap (λ (y : List Event). y ++ called f.place f.chain f.found ∷ f.after) q in
          let first : e ≡ x = head-eq_of_cons-eq parts in
          let rest : es ≡ b ++ called f.place f.chain f.found ∷ f.after = tail-eq_of_cons-eq parts in
          let fits : Fits records x × All (Fits records) b = subst (All (Fits records)) q f.enough-before in
          counts (counted c e) refl b first rest fits.1 q
        where
          counts : (o : End) → counted c e ≡ o → (b : List Event) → e ≡ x → es ≡ b ++ called f.place f.chain f.found ∷ f.after → All (Fits records) b → f.before ≡ x ∷ b → ⊥
          counts (finished next) g b first rest fits q =
              never next g (record {
                before = b;
                place = f.place;
                chain = f.chain;
                found = f.found;
                after = f.after;
                reached = f.reached;
                parted = rest;
                enough-before = fits;
                counted_so_far =
                    sym (ending-more c e next b g) ∙ ap (λ (y : Event). ending c (y ∷ b)) first ∙ ap (ending c) (sym q) ∙ f.counted_so_far;
                one_more = f.one_more;
              })
          counts (stopped r chain) g b first rest fits q =
              not_finished (sym (ap (ending c) q ∙ ap (λ (y : Event). ending c (y ∷ b)) (sym first) ∙ ending-stops c e b g) ∙ f.counted_so_far)

  module _ (further : (next : Counts) → EndsStacked records next es (ending next (map (stacked_to records) es))) where
    after : (e : Event) (next : Counts) → Fits records e → counted c e ≡ finished next → {o : End} → EndsStacked records next es o → EndsStacked records c (e ∷ es) o
    unfolding later
    after e next h g (as_before never) =
        subst (EndsStacked records c (e ∷ es)) (ending-more c e next es g)
        (as_before (λ f. not_first e h f (λ next' g' f'. never (subst (λ (x : Counts). Lacks records x es) (same_counts next' next (sym g' ∙ g)) f'))))
      where
        same_counts : (a b : Counts) → finished a ≡ finished b → a ≡ b
        same_counts a b q = cc
    after e next h g (by_records f) = by_records (later e next h g f)

    by_one : {e : Event} → One records e → EndsStacked records c (e ∷ es) (ending c (map (stacked_to records) (e ∷ es)))
    by_one (short {p} {chain} {d} h) =
        let f : Lacks records c (called p chain d ∷ es) = here h in
        subst (EndsStacked records c (called p chain d ∷ es)) (sym (lacking_stops records c (called p chain d ∷ es) f)) (by_records f)
    by_one (enough {e} h) =
        subst (λ (x : Event). EndsStacked records c (e ∷ es) (ending c (x ∷ map (stacked_to records) es))) (sym (stacked_one records e h)) (by_count (counted c e) refl)
      where
        by_count : (o : End) → counted c e ≡ o → EndsStacked records c (e ∷ es) (ending c (e ∷ map (stacked_to records) es))
        by_count (finished next) g =
            subst (EndsStacked records c (e ∷ es)) (sym (ending-more c e next (map (stacked_to records) es) g)) (after e next h g (further next))
        by_count (stopped r chain) g =
            subst (EndsStacked records c (e ∷ es)) (ending-stops c e es g ∙ sym (ending-stops c e (map (stacked_to records) es) g))
            (as_before (λ f. not_first e h f (λ next g' f'. not_finished (sym g ∙ g'))))

none_lacks : (records : ℕ) (c : Counts) → Lacks records c [] → ⊥
none_lacks records c f = go f.before f.parted
  where
    go : (b : List Event) → [] ≡ b ++ called f.place f.chain f.found ∷ f.after → ⊥
    go [] q = nil≢cons q
    go (x ∷ b) q = nil≢cons q

pub stacked_ends : (records : ℕ) (c : Counts) (es : List Event) → EndsStacked records c es (ending c (map (stacked_to records) es))
stacked_ends records c [] = as_before (none_lacks records c)
stacked_ends records c (e ∷ es) = by_one records c es (λ next. stacked_ends records next es) (one records e)
