-- A call's words as `read_call` takes them apart: the symbol in front, and after it a list that crates/turns reads.
-- Assumes nothing.
use mathlib.Core.Path.{◌≡◌, refl, sym, ap, ◌∙◌}
use mathlib.Core.List.{List}
use Prim.Native.Nat.{ℕ, ◌^◌, ◌<◌}
use native.Mathlib.Omega.{arith}
use lib.IntN.{ℤ, pos, nat_abs}
use lib.ListN.{length, drop, get_or, length-drop}
use lib.Seq.{get_or-drop, drop-drop}
use Rattle.turns.specs.Nets.{Composed, Written, IsListed}
use Rattle.turns.specs.declared.Net.{Net}
use Rattle.turns.specs.declared.Listed.{Listed}
use Rattle.turns.proofs.Nets.{carries-both}
use Rattle.opening.specs.Calls.{CalledAt, ReadsCall}

module _ {words : List ℤ} {end : ℕ} (h : CalledAt words end) where
  pub symbol_there : 2 < length words
  symbol_there = omega (arith, length-drop 2 words, ap length h.are)

  symbol_word : get_or words 2 (pos 0) ≡ h.symbol
  symbol_word = sym (get_or-drop 2 words 0 (pos 0)) ∙ ap (λ (l : List ℤ). get_or l 0 (pos 0)) h.are

  abbrev pub call_list : Written words 3 end
  call_list = record {
    turns = h.turns;
    rest = h.rest;
    are = sym (drop-drop 1 2 words) ∙ ap (drop 1) h.are;
    ends = sym h.ends;
    few = h.few;
  }

  pub call-read : {list : Listed} {outer both : Net} {n place : ℕ} → IsListed h.turns list → Composed list.net outer both → n ≡ nat_abs (get_or words 2 (pos 0))
      → ReadsCall h.symbol h.turns outer place (record { symbol = n; askew = list.askew; net = both; place = place })
  call-read {list} {outer} {both} is c e = record {
    symbol = e ∙ ap nat_abs symbol_word;
    askew = is.askew;
    at_place = refl;
    carries = λ before b. carries-both h.turns before list.net outer both is.carries b c;
    near = λ most b. c.near (2 ^ 36) most is.near b;
  }
