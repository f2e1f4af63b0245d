-- A part of the words and of the room is lent on: what is lent is what the contracts name, and what comes back stands in its place.
-- Assumes nothing.
use Rattle.std.specs.Prelude.{if◌then◌else◌, Result}
use mathlib.Core.Path.{◌≡◌, refl, sym, ap, ◌∙◌, subst}
use mathlib.Core.Bool.{Bool, true, false}
use mathlib.Core.List.{List, [], ◌∷◌, ◌++◌, append-nil}
use Prim.Native.Nat.{ℕ, zero, suc, ◌+◌, ◌-◌, ◌*◌, ◌^◌, ◌≤◌}
use native.Mathlib.Omega.{arith}
use lib.IntN.{ℤ}
use lib.ListN.{length, take, drop, length-append}
use lib.Seq.{take_all, drop-length, take-append_seam, length-take-le}
use borrow.Author.Tests.{ltb-false}
use lib.Dec.{ltb}
use Rattle.definition.specs.Limits.{deepest}
use Rattle.turns.specs.Nets.{Near}
use Rattle.library.specs.Memory.{most_words}
use Rattle.chain.specs.Chain.{open_calls}
use Rattle.passing.specs.Passed.{lent_of}
use Rattle.stretch.specs.declared.Here.{Here}
use Rattle.stretch.specs.Bodies.{Rests, Poised, BodyComes, Grows}
use Rattle.between.specs.Texts.{Paused, Pausing, TextBy, TextComes, TextGrows}
use Rattle.machine.specs.declared.Course.{Course}
use Rattle.machine.specs.States.{cut, seen_of, onto, Spares, open_in, StandsIn, Stretches, Passes}
use Rattle.stretch.specs.declared.Body.{Body}
use Rattle.definition.specs.declared.Refusal.{Refusal}
use Rattle.between.specs.declared.Text.{Text}

-- ---- the room

no_bytes : (p : List ℕ) → length p ≡ 0 → p ≡ []
no_bytes [] h = refl
no_bytes (x ∷ p) h = absurd (omega (arith, h))

pub seen_in : (writing : Bool) (n : ℕ) {r : ℕ} → r ≡ seen_of writing n → r ≤ n
seen_in true n e = omega (arith, e)
seen_in false n e = omega (arith, e)

pub part-onto : (writing : Bool) (room : List ℕ) {r : ℕ} → r ≡ seen_of writing (length room) → take (r - 0) room ≡ onto writing room
part-onto true room {r} e = take_all (r - 0) room (omega (arith, e))
part-onto false room {r} e = let z : r - 0 ≡ 0 = omega (arith, e) in ap (λ (k : ℕ). take k room) z

pub back-onto : (writing : Bool) (room : List ℕ) {r : ℕ} → r ≡ seen_of writing (length room) → (p : List ℕ) → length p ≡ length (take (r - 0) room)
    → (onto writing (p ++ drop (r - 0) room) ≡ p) × Spares writing room (p ++ drop (r - 0) room)
unfolding Spares
back-onto true room {r} e p l =
    let z : r - 0 ≡ length room = omega (arith, e) in
    (ap (λ (k : ℕ). p ++ drop k room) z ∙ (ap (λ (x : List ℕ). p ++ x) (drop-length room) ∙ append-nil p), tt)
back-onto false room {r} e p l =
    let z : r - 0 ≡ 0 = omega (arith, e) in
    let none : p ≡ [] = no_bytes p (l ∙ ap (λ (k : ℕ). length (take k room)) z) in
    (sym none, ap (λ (x : List ℕ). x ++ drop (r - 0) room) none ∙ ap (λ (k : ℕ). drop k room) z)

-- ---- the words

lent_in : (n : ℕ) → lent_of n ≤ n
lent_in n = go (ltb n most_words) refl
  where
    go : (b : Bool) → ltb n most_words ≡ b → (if b then n else most_words) ≤ n
    go true e = omega arith
    go false e = let h = ltb-false n most_words e in omega (arith, h)

pub lent-within : (b : List ℤ) {l : ℕ} → l ≡ lent_of (length b) → l ≤ length b
lent-within b e = omega (arith, e, lent_in (length b))

pub part_cut : (b : List ℤ) {l : ℕ} → l ≡ lent_of (length b) → take (l - 0) b ≡ cut b
part_cut b {l} e = let z : l - 0 ≡ lent_of (length b) = omega (arith, e) in ap (λ (k : ℕ). take k b) z

dropped : (n : ℕ) (b : List ℤ) → n ≤ length b → length (drop n b) + n ≡ length b
dropped zero b h = omega arith
dropped (suc n) [] h = absurd (omega (arith, h))
dropped (suc n) (x ∷ b) h = let e = dropped n b (omega (arith, h)) in omega (arith, e)

pub back_cut : (b : List ℤ) {l : ℕ} → l ≡ lent_of (length b) → (p : List ℤ) → length p ≡ length (take (l - 0) b) → (cut (p ++ drop (l - 0) b) ≡ p) × (length (p ++ drop (l - 0) b) ≡ length b)
back_cut b {l} e p q =
    let le = lent-within b e in
    let long : length p ≡ l - 0 = q ∙ length-take-le (l - 0) b (omega (arith, le)) in
    let whole : length (p ++ drop (l - 0) b) ≡ length b = omega (arith, length-append p (drop (l - 0) b), long, dropped (l - 0) b (omega (arith, le))) in
    let so : lent_of (length (p ++ drop (l - 0) b)) ≡ length p = ap lent_of whole ∙ (sym e ∙ omega (arith, long)) in
    (ap (λ (k : ℕ). take k (p ++ drop (l - 0) b)) so ∙ take-append_seam p (drop (l - 0) b), whole)

-- ---- the open body

module _ (rows : List ℕ) (b : List ℤ) (c : Course) (here : Here) {l : ℕ} (e : l ≡ lent_of (length b)) (s : StandsIn rows (cut b) c here) where
  level_back : deepest - (32 - c.level) ≡ c.level
  level_back = omega (arith, s.low)

  pub body_asked : Poised rows (take (l - 0) b) c.stand.stock.live c.run (32 - c.level) c.ink × Near ((deepest - (32 - c.level)) * 2 ^ 36) here.net × Rests (take (l - 0) b) here
  body_asked = (
    subst (λ (x : List ℤ). Poised rows x c.stand.stock.live c.run (32 - c.level) c.ink) (sym (part_cut b e)) s.poised,
    subst (λ (k : ℕ). Near (k * 2 ^ 36) here.net) (sym level_back) s.near,
    subst (λ (x : List ℤ). Rests x here) (sym (part_cut b e)) s.rests,
  )

  pub stretched : (room : List ℕ) {n : ℕ} → n ≡ seen_of c.writing (length room) → (r : Result Body Refusal) (p : List ℕ) → length p ≡ length (take (n - 0) room)
      → BodyComes c.records rows (take (l - 0) b) c.stand.stock.live (open_calls c.run (deepest - (32 - c.level))) (32 - c.level) here c.ink (take (n - 0) room) r p
      → Grows c.ink r → Stretches rows (cut b) c here room r (p ++ drop (n - 0) room)
  stretched room {n} q r p k x g =
      let back = back-onto c.writing room q p k in
      let y = subst (λ (z : List ℤ). BodyComes c.records rows z c.stand.stock.live (open_calls c.run (deepest - (32 - c.level))) (32 - c.level) here c.ink (take (n - 0) room) r p) (part_cut b e) x in
      let u = subst (λ (z : ℕ). BodyComes c.records rows (cut b) c.stand.stock.live (open_calls c.run z) (32 - c.level) here c.ink (take (n - 0) room) r p) level_back y in
      let v = subst (λ (z : List ℕ). BodyComes c.records rows (cut b) c.stand.stock.live (open_in c) (32 - c.level) here c.ink z r p) (part-onto c.writing room q) u in
      record {
        comes = subst (λ (z : List ℕ). BodyComes c.records rows (cut b) c.stand.stock.live (open_in c) (32 - c.level) here c.ink (onto c.writing room) r z) (sym back.0) v;
        grows = g;
        spares = back.1;
      }

-- ---- the text

module _ (t rows : List ℕ) (b : List ℤ) (c : Course) (room : List ℕ) {l n : ℕ} (e : l ≡ lent_of (length b)) (q : n ≡ seen_of c.writing (length room)) where
  pub text_asked : Pausing t c.records rows (cut b) c.stand c.ink (onto c.writing room) → Pausing t c.records rows (take (l - 0) b) c.stand c.ink (take (n - 0) room)
  text_asked x =
      subst (λ (z : List ℤ). Pausing t c.records rows z c.stand c.ink (take (n - 0) room)) (sym (part_cut b e))
      (subst (λ (z : List ℕ). Pausing t c.records rows (cut b) c.stand c.ink z) (sym (part-onto c.writing room q)) x)

  pub text-passed : (r : Result Text Refusal) (rows' : List ℕ) (p : List ℤ) (o : List ℕ) → length p ≡ length (take (l - 0) b) → length o ≡ length (take (n - 0) room)
      → TextComes t c.records rows (take (l - 0) b) c.stand c.ink (take (n - 0) room) r rows' p o → TextGrows c.ink r
      → Passes t rows b c room r rows' (p ++ drop (l - 0) b) (o ++ drop (n - 0) room)
  text-passed r rows' p o j k x g =
      let words = back_cut b e p j in
      let bytes = back-onto c.writing room q o k in
      record {
        comes = λ w all r₀ y.
            subst (λ (z : List ℤ). TextBy t w c.records all r₀ r rows' z (onto c.writing (o ++ drop (n - 0) room))) (sym words.0)
            (subst (λ (z : List ℕ). TextBy t w c.records all r₀ r rows' p z) (sym bytes.0)
            (x w all r₀
            (subst (λ (z : List ℤ). Paused t w c.records all r₀ rows z c.stand c.ink (take (n - 0) room)) (sym (part_cut b e))
            (subst (λ (z : List ℕ). Paused t w c.records all r₀ rows (cut b) c.stand c.ink z) (sym (part-onto c.writing room q)) y))));
        grows = g;
        spares = bytes.1;
        same_words = words.1;
      }
