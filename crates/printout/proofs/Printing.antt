-- From the reader's promise and the listing's to what the program prints: the flat file stands at the start of the room, the listing at the start of its
-- own, which holds every listing.
-- Assumes nothing.
use mathlib.Core.Path.{◌≡◌, refl, sym, ap, ◌∙◌, subst}
use mathlib.Core.List.{List, []}
use Prim.Native.Nat.{ℕ, ◌+◌, ◌*◌, ◌≤◌, ◌<◌}
use native.Mathlib.Omega.{arith}
use lib.IntN.{ℤ, pos}
use lib.ListN.{length, take, drop, length-append, length-drop, length-replicate}
use lib.Seq.{take_at}
use Rattle.definition.specs.Counts.{shapes_of}
use Rattle.definition.specs.Words.{bytes_of, those}
use Rattle.definition.specs.Position.{line_of, column_of, since_line_end}
use Rattle.definition.specs.declared.Rule.TheVariants.{TextTooLong}
use Rattle.definition.specs.Rules.{refuse}
use Rattle.definition.specs.Flat.{digits, decimal, flat}
use Rattle.definition.specs.declared.Answer.{Answer}
use Rattle.definition.specs.Answer.{Outcome, accepted, rejected, flat_file, success, failure, given_back, Answers, Promised}
use Rattle.definition.specs.Listing.{fields, listing, Lists, over, within}
use Rattle.definition.proofs.Right.{unique}
use Rattle.laws.proofs.Demands.Demand1.{refusal-holds, success-holds}
use Rattle.digits.specs.Writes.{Writes}
use Rattle.digits.proofs.Writing.{begins, same_bytes, one_outcome}
use Rattle.listing.specs.Account.{account, tabbed, refused_line}
use Rattle.listing.specs.Listed.{Listed}
use Rattle.printout.specs.Prints.{Lays, Prints, words_lent, room_length, listing_length}

-- ---- the flat file at the start of the room

given-length : (t : List ℕ) (o : Outcome) → (given_back t o).length ≡ length (flat_file o)
unfolding given_back success failure flat_file
given-length t (accepted cs c es) = refl
given-length t (rejected r chain) = refl

pub record Flat (left f : List ℕ) (n : ℕ) : Type 0 where
  pub size : length f ≡ n
  pub fits : n ≤ length left
  pub is : take n left ≡ f

pub flat-left : {t room left : List ℕ} {words words' : List ℤ} {r : Answer} (p : Promised t words room r words' left) → Flat left (flat_file p.outcome) r.length
flat-left {t} {room} {left} {r = r} p =
    let f = flat_file p.outcome in
    let e : length f ≡ r.length = sym (ap (λ (a : Answer). a.length) p.given ∙ given-length t p.outcome) in
    let q : length left ≡ length f + length (drop (length f) room) = ap length p.kept ∙ length-append f (drop (length f) room) in
    record { size = e; fits = omega (arith, e, q); is = ap (take r.length) p.kept ∙ take_at f (drop (length f) room) r.length e }

-- the room is as long as it was
left-length : {t room left : List ℕ} {words words' : List ℤ} {r : Answer} → Promised t words room r words' left → length left ≡ length room
left-length {t} {room} {left} p = go p.outcome refl
  where
    go : (o : Outcome) → p.outcome ≡ o → length left ≡ length room
    go (accepted cs c es) e =
        let h = success-holds p e in
        let f = flat (shapes_of es) in
        let q : length left ≡ length f + length (drop (length f) room) = ap length h.room-holds ∙ length-append f (drop (length f) room) in
        let n = length-drop (length f) room in
        let k = h.fits in
        omega (arith, q, n, k)
    go (rejected why chain) e = ap length (refusal-holds p e).0.room-kept

-- ---- the listing at the start of its room

lays : {old new bytes : List ℕ} {r : ℕ} → Writes old new 0 r bytes → r ≤ length old → Lays old new r bytes
lays {old} {new} {bytes} {r} w h =
    let e : length bytes ≡ r = let s = w.ends in omega (arith, s) in
    let k = w.kept in
    let l : take r new ≡ bytes = ap (take r) (begins w (omega (arith, e, h))) ∙ take_at bytes (drop (length bytes) old) r e in
    record { writes = w; fits = omega (arith, k, h); part = sym (ap length l ∙ e); is = l }

pub printed : {t room left old new : List ℕ} {words words' : List ℤ} {a : Answer} {r : ℕ} → length t ≤ 32768 → length words ≡ words_lent → length room ≡ room_length → length old ≡ listing_length
    → Promised t words room a words' left → Listed t (length words') a (take a.length left) old new r → Prints t old new r
printed {t} {room} {left} {old} {new} {words} {words'} {a} {r} h w n m p list =
    let same : length words' ≡ length words = ap length p.cleared ∙ length-replicate (length words) (pos 0) in
    let l : Listed t (length words) a (take a.length left) old new r = subst (λ (k : ℕ). Listed t k a (take a.length left) old new r) same list in
    let f = flat-left p in
    let k = left-length p in
    let short : r ≤ 4 * length (take a.length left) + 15 * length t + 1024 = l.short p.answers p.given f.is in
    let size : length (take a.length left) ≡ a.length = ap length f.is ∙ f.size in
    let inside = f.fits in
    record {
      bytes = listing t p.outcome;
      lists = within h (subst (λ (x : ℕ). Answers t words_lent x p.outcome) n (subst (λ (x : ℕ). Answers t x (length room) p.outcome) w p.answers));
      lays = lays (l.is p.answers p.given f.is) (omega (arith, short, size, inside, h, k, n, m));
    }

-- ---- a text that is longer than the program takes

abbrev too_long : List ℕ → List ℕ
too_long t = listing t (rejected (refuse TextTooLong 0) [])

refusal_is : (t w : List ℕ) → account (failure t (refuse TextTooLong 0) []) w [] ≡ too_long t
unfolding account listing refused_line failure tabbed fields bytes_of decimal digits line_of column_of those since_line_end
refusal_is t w = refl

refusal-length : (t : List ℕ) → length (too_long t) ≡ 16
unfolding listing fields bytes_of decimal digits line_of column_of those since_line_end
refusal-length t = refl

pub refusal-laid : (t : List ℕ) {old new : List ℕ} {r : ℕ} {a : Answer} → length old ≡ listing_length → a ≡ failure t (refuse TextTooLong 0) [] → Listed t 0 a [] old new r
    → Lays old new r (listing t (rejected (refuse TextTooLong 0) []))
refusal-laid t {old} {new} {r} m is l =
    let w : Writes old new 0 r (too_long t) = subst (Writes old new 0 r) (ap (λ (a : Answer). account a l.along.warnings []) is ∙ refusal_is t l.along.warnings) l.along.writes in
    let e = w.ends in
    let k = refusal-length t in
    lays w (omega (arith, e, k, m))

pub over-printed : {t old new : List ℕ} {r : ℕ} → 32768 < length t → Lays old new r (listing t (rejected (refuse TextTooLong 0) [])) → Prints t old new r
over-printed {t} h l = record { bytes = too_long t; lists = over h; lays = l }

-- ---- two outcomes that the contract allows are one

one_list : {t p q : List ℕ} → Lists t p → Lists t q → p ≡ q
one_list (over h) (over k) = refl
one_list (over h) (within k b) = absurd (omega (arith, h, k))
one_list (within h a) (over k) = absurd (omega (arith, h, k))
one_list {t} (within h a) (within k b) = ap (listing t) (unique a b)

pub one_printout : {t old new new' : List ℕ} {r r' : ℕ} → Prints t old new r → Prints t old new' r' → (new ≡ new') × (r ≡ r')
one_printout p q = one_outcome (same_bytes (one_list p.lists q.lists) p.lays.writes) q.lays.writes
