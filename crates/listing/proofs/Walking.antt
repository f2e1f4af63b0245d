-- The loop over the flat file: what is written and what is left to write, what the window has and what it will have. `next` keeps it from byte to byte.
-- Assumes nothing.
use Rattle.std.specs.Prelude.{Option}
use mathlib.Core.Path.{◌≡◌, refl, sym, ap, ap₂, ◌∙◌}
use mathlib.Core.List.{List, ◌++◌}
use Prim.Native.Nat.{ℕ, ◌+◌, ◌*◌, ◌≤◌, ◌<◌}
use native.Mathlib.Omega.{arith}
use lib.ListN.{length, get_or, drop}
use Rattle.digits.specs.Writes.{Writes}
use Rattle.digits.proofs.Writing.{WrittenSoFar, begun, goes_on, over, next-byte, no_byte}
use Rattle.lines.specs.Followed.{fresh, line_after, numeral_after, lead_after, span_after, Fits, unread, seen_after}
use Rattle.lines.specs.declared.Axis.{Axis}
use Rattle.lines.specs.declared.Axis.TheVariants.{X, Y}
use Rattle.lines.specs.declared.Line.{Line}
use Rattle.lines.specs.declared.Numeral.{Numeral}
use Rattle.lines.specs.declared.Lead.{Lead}
use Rattle.lines.specs.declared.Span.{Span}
use Rattle.lines.specs.declared.Seen.{Seen}
use Rattle.lines.proofs.Kept.{line_kept, index_kept}
use Rattle.listing.specs.Account.{wrote, printed, spanned, window_along}
use Rattle.listing.specs.Listed.{Walks}

-- i bytes of f are read
pub record Walking (f old new : List ℕ) (at : ℕ) (s : Seen) (i : ℕ) : Type 0 where
  pub within : i ≤ length f
  pub going : WrittenSoFar old new 0 at (printed (fresh 1 0) f) (printed s.line (drop i f))
  pub xs-left : spanned X s.line s.number s.lead s.window.xs (drop i f) ≡ (window_along f).xs
  pub ys-left : spanned Y s.line s.number s.lead s.window.ys (drop i f) ≡ (window_along f).ys
  pub near : at ≤ 64 * i
  pub few : s.line.count ≤ i + 1
  pub name : s.line.layer + 256 * s.line.unit ≤ 4294967296
  pub index : s.number.index ≤ i

pub first : (f room : List ℕ) {s : Seen} → s ≡ unread → Walking f room room 0 s 0
first f room e = rw e (record {
  within = omega arith;
  going = begun room 0 (printed (fresh 1 0) f);
  xs-left = refl;
  ys-left = refl;
  near = omega arith;
  few = omega arith;
  name = omega arith;
  index = omega arith;
})

printed-next : (s : Line) (f : List ℕ) (i : ℕ) → i < length f → printed s (drop i f) ≡ wrote s (get_or f i 0) ++ printed (line_after s (get_or f i 0)) (drop (i + 1) f)
unfolding printed
printed-next s f i h = ap (printed s) (next-byte f i h)

spanned-next : (axis : Axis) (s : Line) (n : Numeral) (l : Lead) (w : Option Span) (f : List ℕ) (i : ℕ) → i < length f
    → let b = get_or f i 0 in spanned axis s n l w (drop i f) ≡ spanned axis (line_after s b) (numeral_after n b) (lead_after l n b) (span_after axis w s.letter l n b) (drop (i + 1) f)
unfolding spanned
spanned-next axis s n l w f i h = ap (spanned axis s n l w) (next-byte f i h)

pub next : {f r₀ r₁ r₂ : List ℕ} {at at' : ℕ} {s s' : Seen} {i : ℕ} → Walking f r₀ r₁ at s i → i < length f → get_or f i 0 < 256
    → Writes r₁ r₂ at at' (wrote s.line (get_or f i 0)) → at' ≤ at + 34 → s' ≡ seen_after s (get_or f i 0) → Walking f r₀ r₂ at' s' (i + 1)
unfolding seen_after
next {f} {r₀} {r₁} {r₂} {at} {at'} {s} {s'} {i} g h byte w more e =
    let b = get_or f i 0 in
    let k = line_kept s.line b byte g.name in
    rw e (record {
      within = omega arith;
      going = goes_on (wrote s.line b) g.going (printed-next s.line f i h) w;
      xs-left = sym (spanned-next X s.line s.number s.lead s.window.xs f i h) ∙ g.xs-left;
      ys-left = sym (spanned-next Y s.line s.number s.lead s.window.ys f i h) ∙ g.ys-left;
      near = let a = g.near in omega (arith, a, more);
      few = let a = g.few in let c = k.few in omega (arith, a, c);
      name = k.name;
      index = let a = g.index in omega (arith, a, index_kept s.number b);
    })

pub fits : {f old new : List ℕ} {at : ℕ} {s : Seen} {i : ℕ} → Walking f old new at s i → length f ≤ 16777216 → Fits s.line
fits g h = record { few = let a = g.few in let c = g.within in omega (arith, a, c, h); name = g.name }

pub all_walked : {f old new : List ℕ} {at : ℕ} {s : Seen} {i : ℕ} → Walking f old new at s i → length f ≤ i
    → Walks f old new (record { at = at; window = s.window })
unfolding printed spanned
all_walked {f} {s = s} {i} g h = record {
  writes = over g.going (ap (printed s.line) (no_byte f i h));
  window_is = ap₂ (λ (v w : Option Span). record { xs = v; ys = w })
      (sym (ap (spanned X s.line s.number s.lead s.window.xs) (no_byte f i h)) ∙ g.xs-left)
      (sym (ap (spanned Y s.line s.number s.lead s.window.ys) (no_byte f i h)) ∙ g.ys-left);
  near = let a = g.near in let c = g.within in omega (arith, a, c, h);
}
