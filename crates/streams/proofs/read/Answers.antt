-- What one read filled stands after what the earlier ones did.
use Rattle.std.proofs.Common.{◌≡◌, ℕ, ◌+◌, ◌-◌, ◌≤◌, List, ◌++◌, refl, Result, Ok, Err, MatchResult, rules, arith, length, take, slice_range, sym, ap, ◌∙◌, subst, le_refl, drop_at, length-take-le}
use Rattle.std.proofs.lemmas.Slice.{take-put_mid_below}
use Rattle.std.specs.declared.option.Option.{Option}
use Rattle.std.specs.Io.{ReadsAtMost}
use Rattle.std.specs.Io.KnownBytes.{Consumes, ReadConsumes}
use Rattle.std.proofs.KnownBytes.{Consumes-trans}
use borrow.Rule.Slice.PartMut.{put_mid, post_of}
use lib.Seq.{take-add, take-append-le}
use Rattle.streams.proofs.read.Goals as goal

take_split : (a b : ℕ) (old new : List ℕ) → a ≤ b → take a new ≡ take a old → take a old ++ slice_range new a b ≡ take b new
take_split a b old new h front =
    let same : a + (b - a) ≡ b = omega arith in
    ap (λ l. l ++ slice_range new a b) (sym front) ∙ sym (take-add a (b - a) new) ∙ ap (λ n. take n new) same

slice_range-put_mid : (a k n : ℕ) (xs ys : List ℕ) → a ≤ length xs → n ≤ length ys → slice_range (put_mid a k xs ys) a (a + n) ≡ take n ys
slice_range-put_mid a k n xs ys within fits =
    let same : (a + n) - a ≡ n = omega arith in
    let after = post_of a k xs in
    ap (take ((a + n) - a)) (drop_at (take a xs) (ys ++ after) a (length-take-le a xs within)) ∙ ap (λ m. take m (ys ++ after)) same ∙ take-append-le n ys after fits

-- what a read did that gave n bytes
data_read : {E D : Type 0} (a b : Option (List ℕ)) (r : Result ℕ E) (s : Result ℕ D) (n : ℕ) (xs : List ℕ) → s ≡ Ok n → ReadsAtMost r xs → ReadConsumes a b r xs
    → MatchResult r (λ x. s ≡ Ok x) (λ _. ⊥) → (n ≤ length xs) × Consumes a b (take n xs)
data_read a b (Ok x) s n xs is bound bytes e =
    let same : n ≡ x = cc in
    rw same (bound.0, bytes.0)
data_read a b (Err e) s n xs is bound bytes h = absurd h

pub loop-done-preserved : goal.loop-done-preserved
loop-done-preserved g c =
    let from = c.loop-done.done in
    let room = length c.loop-done.buffer - from in
    let within = c.loop-done.invariant.within in
    let n = c.in_ok-more.more in
    let read = data_read _ _ c.read.result _ n c.read.new.buf refl c.read.ensures.bound c.read.ensures.bytes c.in_ok-more.ensures.cases in
    let part = slice_range-put_mid from room n c.loop-done.buffer c.read.new.buf within read.0 in
    let joined = take_split from (from + n) c.loop-done.buffer (put_mid from room c.loop-done.buffer c.read.new.buf) (omega arith) (take-put_mid_below _ _ _ _ _ (le_refl _) within) in
    record {
      lasts = search rules;
      within = search rules;
      filled = subst (Consumes _ _) (ap (λ l. take from c.loop-done.buffer ++ l) (sym part) ∙ joined) (Consumes-trans _ _ _ _ _ c.loop-done.invariant.filled read.1);
    }
