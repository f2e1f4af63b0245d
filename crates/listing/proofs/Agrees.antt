-- The account is the definition's listing, for the answer and the flat file of every text; and it is short.
-- Assumes nothing.
use Rattle.std.specs.Prelude.{Option, None}
use mathlib.Core.Path.{◌≡◌, refl, sym, ap, ap₂, ◌∙◌, subst}
use mathlib.Core.Bool.{Bool, true, false}
use mathlib.Core.List.{List, [], ◌∷◌, ◌++◌, map, flat_map}
use Prim.Native.Nat.{ℕ, ◌+◌, ◌-◌, ◌*◌, ◌≤◌, ◌<◌}
use native.Mathlib.Omega.{arith}
use borrow.Author.Tests.{lt-ltb, le-ltb, ltb-false, eq-eqb, ne_eqb, eqb-true}
use lib.Dec.{ltb, eqb}
use lib.ListN.{length, length-append, length-map, take, replicate}
use lib.Seq.{take_at}
use Rattle.definition.specs.Rules.{number_of}
use Rattle.definition.specs.Words.{Placed, bytes_of}
use Rattle.definition.specs.declared.Refusal.{Refusal}
use Rattle.definition.specs.Commands.{Command}
use Rattle.definition.specs.Drawing.{Drawn, Chain, Event}
use Rattle.definition.specs.Counts.{Counts, counts, shapes_of}
use Rattle.definition.specs.Flat.{flat}
use Rattle.definition.specs.declared.Answer.{Answer}
use Rattle.definition.specs.Answer.{Outcome, accepted, rejected, flat_file, success, failure, given_back, Answers}
use Rattle.definition.specs.Limits.{deepest}
use Rattle.definition.specs.Position.{line_of, column_of, places_of, chain_told}
use Rattle.definition.specs.Warnings.{warning_lines}
use Rattle.definition.specs.Window
use Rattle.definition.specs.Listing.{shape_lines, window_line, listing}
use Rattle.laws.proofs.Lists.Range.{All}
use Rattle.laws.proofs.FlatFile.Sound.{Sound, all_sound}
use Rattle.laws.proofs.FlatFile.Flattened.{reading, within_limit, shapes-counted}
use Rattle.laws.proofs.Demands.Demand1.{located}
use Rattle.digits.specs.Writes.{Writes}
use Rattle.pen.specs.Names.{packed_by, packed}
use Rattle.digits.proofs.Writing.{nothing, both, same_bytes, one_outcome}
use Rattle.lines.specs.Followed.{fresh}
use Rattle.lines.specs.declared.Axis.TheVariants.{X, Y}
use Rattle.lines.specs.declared.Span.{Span}
use Rattle.warning.specs.Warned.{WarnedAny, WarnsAny}
use Rattle.warning.proofs.Any.{one_any, accepted_any}
use Rattle.listing.specs.Account.{printed, window_along, total_line, window_of, tabbed, refused_line, account, ending}
use Rattle.listing.specs.Listed.{Walks, Along, Listed}
use Rattle.listing.specs.declared.Walked.{Walked}
use Rattle.listing.proofs.Lines.{lines-printed}
use Rattle.listing.proofs.Window.{across, upward, along-x, along-y, lines-taken, window_is}
use Rattle.listing.proofs.Places.{tabbed-fields}
use Rattle.listing.proofs.Short.{lines-short}

-- ---- shapes

shapes-printed : (ds : List Drawn) → All Sound ds → printed (fresh 1 0) (flat ds) ≡ shape_lines 1 ds
unfolding flat packed packed_by
shapes-printed ds h = lines-printed 1 [] ds h

window_printed : (ds : List Drawn) → All Sound ds → window_of (window_along (flat ds)) ≡ window_line (Window.window_of (map (λ (d : Drawn). d.itself) ds))
unfolding flat packed packed_by
window_printed ds h =
    ap₂ (λ (v w : Option Span). window_of (record { xs = v; ys = w })) (lines-taken X across (λ p. p.x) along-x 1 [] ds None h) (lines-taken Y upward (λ p. p.y) along-y 1 [] ds None h)
    ∙ window_is (flat_map Window.windows (map (λ (d : Drawn). d.itself) ds))

-- ---- outcomes

accepted_is : {t : List ℕ} {words room : ℕ} (cs : List (Placed Command)) (c : Counts) (es : List Event) → Answers t words room (accepted cs c es)
    → account (given_back t (accepted cs c es)) (warning_lines es) (flat_file (accepted cs c es)) ≡ listing t (accepted cs c es)
unfolding account given_back success flat_file listing total_line bytes_of
accepted_is cs c es k =
    let ds = shapes_of es in
    let s = all_sound k in
    rw (le-ltb 16777216 (length (flat ds)) (within_limit (reading k).as_read))
    (ap₂ (λ (x y : List ℕ). x ++ (warning_lines es ++ (total_line c.shapes c.calls c.redefinitions ++ y))) (shapes-printed ds s) (window_printed ds s))

told_places : (chain : Chain) → take (length chain) (chain_told chain) ≡ places_of chain
told_places chain = take_at (places_of chain) (replicate (deepest - length chain) 0) (length chain) (length-map chain (λ (c : Placed ℕ). c.place))

rejected_is : {t : List ℕ} {words room : ℕ} (r : Refusal) (chain : Chain) (w : List ℕ) → Answers t words room (rejected r chain)
    → account (given_back t (rejected r chain)) w (flat_file (rejected r chain)) ≡ listing t (rejected r chain)
unfolding account given_back failure flat_file listing refused_line
rejected_is {t} r chain w k =
    let h = (located k).first-number in
    let told : List ℕ → List ℕ = λ places. number_of r.rule ∷ r.place ∷ line_of t r.place ∷ column_of t r.place ∷ places in
    rw (ne_eqb (number_of r.rule) 0 (λ e. omega (arith, h, e)))
    (ap (λ (places : List ℕ). bytes_of "refused" ++ (tabbed (told places) ++ (10 ∷ []))) (told_places chain)
    ∙ ap (λ (l : List ℕ). bytes_of "refused" ++ l) (tabbed-fields (told (places_of chain))))

-- the warnings are those of the text
account_is : {t : List ℕ} {words room : ℕ} (o : Outcome) → Answers t words room o → {a : Answer} {f w : List ℕ} → a ≡ given_back t o → f ≡ flat_file o
    → (length f ≤ 16777216 → a.number ≡ 0 → WarnedAny t words w) → account a w f ≡ listing t o
unfolding given_back success flat_file
account_is {t} (accepted cs c es) k {a} {f} {w} e g due =
    let fits : length f ≤ 16777216 = subst (λ (x : List ℕ). length x ≤ 16777216) (sym g) (within_limit (reading k).as_read) in
    let is : w ≡ warning_lines es = accepted_any k (due fits (ap (λ (x : Answer). x.number) e)) in
    ap (λ (x : Answer). account x w f) e
    ∙ (ap₂ {C = List ℕ} (λ (x y : List ℕ). account (given_back t (accepted cs c es)) x y) is g ∙ accepted_is cs c es k)
account_is {t} (rejected r chain) k {f = f} {w} e g due =
    ap (λ (x : Answer). account x w f) e ∙ (ap (account (given_back t (rejected r chain)) w) g ∙ rejected_is r chain w k)

-- ---- how long it is

shapes-short : {t : List ℕ} {words room : ℕ} (o : Outcome) → Answers t words room o → length (printed (fresh 1 0) (flat_file o)) ≤ 4 * length (flat_file o)
unfolding flat_file flat printed
shapes-short (rejected r chain) k = omega arith
shapes-short (accepted cs c es) k =
    let ds = shapes_of es in
    let n = shapes-counted (counts 0 0 0) es c (omega arith) (reading k).as_read.ended in
    let e = ap length (shapes-printed ds (all_sound k)) in
    let q = lines-short 1 [] ds (all_sound k) (let i = n.is in let l = n.limit in omega (arith, i, l)) in
    simp length-append (omega (arith, e, q))

-- ---- the contract of `list`

-- what is written settles it, if there is not much behind the shapes' lines and the warnings
pub listed : {t : List ℕ} {words : ℕ} {a : Answer} {f old new : List ℕ} {r : ℕ} → Along t words a f old new r → r ≤ length (printed (fresh 1 0) f) + 15 * length t + 1024
    → Listed t words a f old new r
listed {t} {words} {a} {f} w h = record {
  is = λ {room} {o} k e g. same_bytes (account_is o k e g w.due) w.writes;
  short = λ {room} {o} k e g.
      let q : length (printed (fresh 1 0) f) ≤ 4 * length f = subst (λ (x : List ℕ). length (printed (fresh 1 0) x) ≤ 4 * length x) (sym g) (shapes-short o k) in
      omega (arith, q, h);
  along = w;
}

pub nothing-listed : (t : List ℕ) (words : ℕ) (a : Answer) (f room : List ℕ) → 16777216 < length f → Listed t words a f room room 0
unfolding account
nothing-listed t words a f room h =
    listed (record { warnings = []; due = λ l n. absurd (omega (arith, l, h)); writes = rw (lt-ltb 16777216 (length f) h) (nothing room 0) }) (omega arith)

pub refusal-listed : (t : List ℕ) (words : ℕ) {a : Answer} {f old new : List ℕ} {r : ℕ} → length f ≤ 16777216 → (a.number ≡ 0 → ⊥) → Writes old new 0 r (refused_line a)
    → r ≤ 764 → Listed t words a f old new r
unfolding account
refusal-listed t words {a} {f} h n w s =
    listed (record { warnings = []; due = λ l e. absurd (n e); writes = rw (le-ltb 16777216 (length f) h, ne_eqb a.number 0 n) w }) (omega arith)

pub shapes-listed : {t : List ℕ} {words : ℕ} {a : Answer} {f r₀ r₁ r₂ r₃ : List ℕ} {j k : ℕ} (v : Walked) → length f ≤ 16777216 → a.number ≡ 0 → Walks f r₀ r₁ v
    → WarnsAny t words r₁ r₂ v.at j → Writes r₂ r₃ j k (ending a v.window) → k ≤ j + 160 → Listed t words a f r₀ r₃ k
unfolding account
shapes-listed {a = a} {f} v h n g w x q =
    let e = g.writes.ends in
    let p = w.near in
    let all = both g.writes (both w.writes x) in
    listed
    (record { warnings = w.bytes; due = λ l i. w.warned; writes = rw (le-ltb 16777216 (length f) h, eq-eqb a.number 0 n) (rw g.window_is at all) })
    (omega (arith, e, p, q))

-- ---- two outcomes that the contract allows are one, whatever the bytes

same-account : {t : List ℕ} {words : ℕ} {a : Answer} {f old new new' : List ℕ} {r r' : ℕ} (p : Along t words a f old new r) (q : Along t words a f old new' r')
    → account a p.warnings f ≡ account a q.warnings f
unfolding account
same-account {a = a} {f} p q = go (ltb 16777216 (length f)) (eqb a.number 0) refl refl
  where
    go : (x y : Bool) → ltb 16777216 (length f) ≡ x → eqb a.number 0 ≡ y → account a p.warnings f ≡ account a q.warnings f
    go true y e g = rw e
    go false true e g =
        let l = ltb-false 16777216 (length f) e in
        let n = eqb-true a.number 0 g in
        ap (λ (w : List ℕ). account a w f) (one_any (p.due l n) (q.due l n))
    go false false e g = rw (e, g)

pub one_listing : {t : List ℕ} {words : ℕ} {a : Answer} {f old new new' : List ℕ} {r r' : ℕ} → Listed t words a f old new r → Listed t words a f old new' r' → (new ≡ new') × (r ≡ r')
one_listing h k = one_outcome (same_bytes (same-account h.along k.along) h.along.writes) k.along.writes
