-- Two texts made one: the first is cut at its E, and the second follows. Behind any number of commands with their semicolons a text may begin, so the
-- result is always grammatical, and its commands are those of the two, the second's with their places moved on.
-- Assumes nothing.
use mathlib.Core.Path.{◌≡◌, refl, sym, ap, ap₂, ◌∙◌, subst}
use mathlib.Core.Bool.{Bool, true, false, not, ◌||◌}
use mathlib.Core.List.{List, [], ◌∷◌, ◌++◌, append_assoc, append-nil, map, flat_map}
use mathlib.Core.Logic.{◌⊎◌, inl, inr}
use Prim.Native.Nat.{ℕ, ◌+◌}
use native.Mathlib.Omega.{arith}
use borrow.Author.Tests.{eqb-true}
use lib.Dec.{T}
use lib.ListN.{length, take, length-append}
use Rattle.grammar.specs.Notation.{Class, Role, Role-discrete, Letter, Expression, Match, dec, has, head, stop, 'E'}
use Rattle.grammar.specs.Notation.{is as matches}
use Rattle.grammar.specs.Notation.{many, char, both, none, more}
use Rattle.grammar.specs.Productions.{blank, semi, command, cif_file}
use Rattle.grammar.specs.Tables.{letter}
use Rattle.grammar.specs.Viable.{bytes, Marked}
use Rattle.grammar.proofs.Tests.{or_cases}
use Rattle.definition.specs.Words.{Placed, at, any, those}
use Rattle.definition.specs.Commands.{Command, nothing, ◌is◌, command_at, commands}
use Rattle.definition.specs.Standing.{Standing, outside, after}
use Rattle.definition.specs.declared.Refusal.{Refusal}
use Rattle.definition.specs.Faults.{parts_of, distances, numbers_of, at_numbers, zero_scale, degenerate, layerless, has_too_many, faults, all_faults}
use Rattle.definition.specs.Drawing.{Deed, deed_of, deeds, Event, story}
use Rattle.definition.specs.Answer.{drawing_of}
use Rattle.laws.proofs.Lists.Range.{All}
use Rattle.laws.proofs.FlatFile.Again.{bytes-++}
use Rattle.laws.proofs.Lists.Joined.{standing, table_then, standing-outside, all_faults-++, deeds-++, story-++, commands-++}
use Rattle.laws.proofs.Commands.Ordered.{Quiet, everywhere, match_all, role_of, byte_of, true_of, all_quiet, item_of, other, two_bits, inside_then, opens, Ordered, ordered, ordered_behind, standing-inside, quiet_not, quiet-commands, head_commands}
use Rattle.joining.proofs.Places.{shift_refusal, shifted, commands_shift, all_faults_shift}
use Rattle.joining.proofs.Relocated.{relocate_deed, deeds_shift}

-- commands with their semicolons
abbrev pub items : Expression
items = many (item_of command)

-- ---- where a text is cut

abbrev pub NotE : Letter → Type 0
NotE l = (l is 'E') ≡ false

-- the E of a text, before which only such stand, and behind which only blanks
pub record Ending (m : List Letter) : Type 0 where
  pub before : List Letter
  pub last : Letter
  pub blanks : List Letter
  pub splits : m ≡ before ++ last ∷ blanks
  pub rule : Match items before
  pub role : last.role ≡ head
  pub byte : (last is 'E') ≡ true
  pub quiet : All Quiet blanks
  pub no_letter_E : All NotE blanks

not_E-is : (ρ : Role) (c : Class) (a : Letter) → T (not (has c 69)) → T (matches ρ c a) → NotE a
unfolding has
not_E-is ρ c a t h = other c a.byte 69 t (byte_of ρ c a h)

pub ending_of : {m : List Letter} → Match cif_file m → Ending m
unfolding everywhere Rattle.laws.proofs.Commands.Ordered.quiet has
ending_of (both u v k (both p q (char {a = a} h) n f) e) = record {
  before = u;
  last = a;
  blanks = q;
  splits = e ∙ ap (λ (x : List Letter). u ++ x) f;
  rule = k;
  role = role_of head 'E' a h;
  byte = true_of _ (byte_of head 'E' a h);
  quiet = all_quiet n tt;
  no_letter_E = match_all (λ ρ c. not (has c 69)) NotE not_E-is n tt;
}

-- no E before, none behind
NoEnd : Letter → Type 0
NoEnd l = l.role ≡ head → (l is 'E') ≡ true → ⊥

no_end : Role → Class → Bool
no_end ρ c = not (dec (Role-discrete ρ head)) || not (has c 69)

no_end_is : (ρ : Role) (c : Class) (a : Letter) → T (no_end ρ c) → T (matches ρ c a) → NoEnd a
unfolding no_end NoEnd has
no_end_is ρ c a t h e f = go (or_cases (not (dec (Role-discrete ρ head))) (not (has c 69)) t)
  where
    go : T (not (dec (Role-discrete ρ head))) ⊎ T (not (has c 69)) → ⊥
    go (inl x) = unfold dec in (rw (sym (role_of ρ c a h) ∙ e) at x)
    go (inr x) = two_bits f (other c a.byte 69 x (byte_of ρ c a h))

items_no_end : {u : List Letter} → Match items u → All NoEnd u
unfolding everywhere no_end dec has
items_no_end k = match_all no_end NoEnd no_end_is k tt

quiet_no_end : (w : List Letter) → All Quiet w → All NoEnd w
unfolding All NoEnd dec
quiet_no_end [] h = tt
quiet_no_end (l ∷ w) h = ((λ e f. two_bits (rw e) (quiet_not l.role h.0).0), quiet_no_end w h.1)

holds_not : (u : List Letter) (l : Letter) (w : List Letter) → All NoEnd (u ++ l ∷ w) → NoEnd l
unfolding All
holds_not [] l w h = h.0
holds_not (a ∷ u) l w h = holds_not u l w h.1

-- so a text is cut at its E in one way only
one_cut : (x u : List Letter) (a l : Letter) (y w : List Letter) → x ++ a ∷ y ≡ u ++ l ∷ w → All NoEnd x → All NoEnd y → l.role ≡ head → (l is 'E') ≡ true → x ≡ u
unfolding All NoEnd
one_cut [] [] a l y w e h k r b = refl
one_cut [] (c ∷ u) a l y w e h k r b =
    let f : y ≡ u ++ l ∷ w = cc in
    absurd (holds_not u l w (subst (All NoEnd) f k) r b)
one_cut (c ∷ x) [] a l y w e h k r b =
    let f : c ≡ l = cc in
    absurd (subst NoEnd f h.0 r b)
one_cut (c ∷ x) (d ∷ u) a l y w e h k r b =
    let f : c ≡ d = cc in
    let g : x ++ a ∷ y ≡ u ++ l ∷ w = cc in
    ap₂ {C = List Letter} (λ (p : Letter) (q : List Letter). p ∷ q) f (one_cut x u a l y w g h.1 k r b)

pub before_end : {t : List ℕ} (u : List Letter) (l : Letter) (w : List Letter) → Marked t (u ++ l ∷ w) → l.role ≡ head → (l is 'E') ≡ true → Match items u
before_end u l w k r b =
    let x = ending_of k.rule in
    subst (Match items) (one_cut x.before u x.last l x.blanks w (sym x.splits) (items_no_end x.rule) (quiet_no_end x.blanks x.quiet) r b) x.rule

-- ---- the text that is made

pub many-++ : {r : Expression} {u v : List Letter} → Match (many r) u → Match (many r) v → Match (many r) (u ++ v)
many-++ none k = k
many-++ {v = v} (more x y m n e) k = more x (y ++ v) m (many-++ n k) (ap (λ (w : List Letter). w ++ v) e ∙ append_assoc x y v)

pub file_joined : {u m : List Letter} → Match items u → Match cif_file m → Match cif_file (u ++ m)
file_joined {u} k (both x y n l e) = both (u ++ x) y (many-++ k n) l (ap (λ (w : List Letter). u ++ w) e ∙ sym (append_assoc u x y))

pub taken : (u m : List Letter) → take (length u) (bytes (u ++ m)) ≡ bytes u
taken [] m = refl
taken (l ∷ u) m = ap (λ (x : List ℕ). l.byte ∷ x) (taken u m)

-- a text before its E, and another one: no condition on either
pub marked-joined : {t₁ t₂ : List ℕ} (u : List Letter) (l : Letter) (w m : List Letter) → Marked t₁ (u ++ l ∷ w) → l.role ≡ head → (l is 'E') ≡ true
    → Marked t₂ m → Marked (take (length u) t₁ ++ t₂) (u ++ m)
marked-joined u l w m k r b n = record {
  reads = bytes-++ u m ∙ ap₂ {C = List ℕ} (λ (x y : List ℕ). x ++ y) (sym (taken u (l ∷ w)) ∙ ap (take (length u)) k.reads) n.reads;
  rule = file_joined (before_end u l w k r b) n.rule;
}

-- blanks may stand between them if the first is not empty: they belong to its last semicolon
semi_blanks : {w b : List Letter} → Match semi w → Match (many blank) b → Match semi (w ++ b)
semi_blanks {b = b} (both x y k (both p q n l f) e) s =
    both x (y ++ b) k (both p (q ++ b) n (many-++ l s) (ap (λ (v : List Letter). v ++ b) f ∙ append_assoc p q b)) (ap (λ (v : List Letter). v ++ b) e ∙ append_assoc x y b)

item_blanks : {r : Expression} {w b : List Letter} → Match (item_of r) w → Match (many blank) b → Match (item_of r) (w ++ b)
item_blanks {b = b} (both x y k (both p q n l f) e) s =
    both x (y ++ b) k (both p (q ++ b) n (semi_blanks l s) (ap (λ (v : List Letter). v ++ b) f ∙ append_assoc p q b)) (ap (λ (v : List Letter). v ++ b) e ∙ append_assoc x y b)

items_blanks : {r : Expression} {u v w b : List Letter} → Match (item_of r) u → Match (many (item_of r)) v → w ≡ u ++ v → Match (many blank) b → Match (many (item_of r)) (w ++ b)
items_blanks {u = u} {b = b} k none e s =
    more (u ++ b) [] (item_blanks k s) none (ap (λ (x : List Letter). x ++ b) (e ∙ append-nil u) ∙ sym (append-nil (u ++ b)))
items_blanks {u = u} {v = v} {b = b} k (more x y n l f) e s =
    more u (v ++ b) k (items_blanks n l f s) (ap (λ (z : List Letter). z ++ b) e ∙ append_assoc u v b)

pub blanks_between : {u b : List Letter} → Match items u → (u ≡ [] → ⊥) → Match (many blank) b → Match items (u ++ b)
blanks_between none h s = absurd (h refl)
blanks_between (more x y k n e) h s = items_blanks k n e s

-- ---- its commands

-- such letters end with a semicolon and blanks
record Tail (u : List Letter) : Type 0 where
  front : List Letter
  semicolon : Letter
  blanks : List Letter
  splits : u ≡ front ++ semicolon ∷ blanks
  role : semicolon.role ≡ stop
  quiet : All Quiet blanks

behind_more : {v w : List Letter} (x : List Letter) → Tail v → w ≡ x ++ v → Tail w
behind_more x t e = record {
  front = x ++ t.front;
  semicolon = t.semicolon;
  blanks = t.blanks;
  splits = e ∙ (ap (λ (y : List Letter). x ++ y) t.splits ∙ sym (append_assoc x t.front (t.semicolon ∷ t.blanks)));
  role = t.role;
  quiet = t.quiet;
}

semi_tail : {w : List Letter} → Match semi w → Tail w
unfolding everywhere Rattle.laws.proofs.Commands.Ordered.quiet
semi_tail (both x y k (both p q (char {ρ} {c} {a} h) l f) e) =
    behind_more x (record { front = []; semicolon = a; blanks = q; splits = f; role = role_of ρ c a h; quiet = all_quiet l tt }) e

items_tail : {r : Expression} {w : List Letter} → Match (many (item_of r)) w → (w ≡ []) ⊎ Tail w
items_tail none = inl refl
items_tail {w = w} (more x y (both p q k (both i j n l f) e) rest d) = go (items_tail rest)
  where
    own : Tail x
    own = behind_more p (behind_more i (semi_tail l) f) e

    go : (y ≡ []) ⊎ Tail y → (w ≡ []) ⊎ Tail w
    go (inl g) = inr (subst Tail (sym (d ∙ (ap (λ (z : List Letter). x ++ z) g ∙ append-nil x))) own)
    go (inr t) = inr (behind_more x t d)

quiet-over : (n : ℕ) (b m : List Letter) → All Quiet b → commands n (b ++ m) ≡ commands (n + length b) m
unfolding All
quiet-over n [] m h = ap (λ (k : ℕ). commands k m) (omega arith)
quiet-over n (l ∷ b) m h = quiet-commands n l (b ++ m) h.0 ∙ (quiet-over (n + 1) b m h.1 ∙ ap (λ (k : ℕ). commands k m) (omega arith))

quiet_none : (n : ℕ) (b : List Letter) → All Quiet b → commands n b ≡ []
quiet_none n b h = ap (commands n) (sym (append-nil b)) ∙ (quiet-over n b [] h ∙ unfold commands in refl)

module _ (n : ℕ) (m : List Letter) where
  tail_seam : (u : List Letter) → Tail u → commands n (u ++ m) ≡ commands n u ++ commands (n + length u) m
  tail_seam u t =
      let f = t.front in
      let l = t.semicolon in
      let b = t.blanks in
      let own = commands n (f ++ l ∷ []) in
      let place : n + (length f + 1) + length b ≡ n + length u = omega (arith, ap length t.splits, simp length-append at (ap length t.splits)) in
      let alone : commands n u ≡ own = ap (commands n) t.splits ∙ (commands-++ l t.role b n f ∙ (ap (λ (x : List (Placed Command)). own ++ x) (quiet_none (n + (length f + 1)) b t.quiet) ∙ append-nil own)) in
      ap (λ (x : List Letter). commands n (x ++ m)) t.splits
      ∙ (ap (commands n) (append_assoc f (l ∷ b) m)
      ∙ (commands-++ l t.role (b ++ m) n f
      ∙ ap₂ {C = List (Placed Command)} (λ (x y : List (Placed Command)). x ++ y) (sym alone)
      (quiet-over (n + (length f + 1)) b m t.quiet ∙ ap (λ (k : ℕ). commands k m) place)))

  pub commands_seam : {r : Expression} {u : List Letter} → Match (many (item_of r)) u → commands n (u ++ m) ≡ commands n u ++ commands (n + length u) m
  commands_seam {u = u} k = go (items_tail k)
    where
      empty : (f : ℕ → List (Placed Command)) → f n ≡ commands n [] ++ f (n + 0)
      empty f = unfold commands in ap f (omega arith)

      go : (u ≡ []) ⊎ Tail u → commands n (u ++ m) ≡ commands n u ++ commands (n + length u) m
      go (inl e) = subst (λ (x : List Letter). commands n (x ++ m) ≡ commands n x ++ commands (n + length x) m) (sym e) (empty (λ k. commands k m))
      go (inr t) = tail_seam u t

-- E does nothing
end_at : (n b : ℕ) (ρ : Role) (m : List Letter) → b ≡ 69 → command_at n (letter b ρ) m ≡ nothing
unfolding command_at has
end_at n b ρ m e = rw e

no_fault : (s : Standing) (p : ℕ) → all_faults s (at p nothing ∷ []) ≡ []
no_fault s p = unfold all_faults faults after at_numbers those numbers_of distances parts_of flat_map zero_scale degenerate layerless has_too_many any in refl

no_deed : (s : Standing) (p : ℕ) → deeds s (at p nothing ∷ []) ≡ []
no_deed s p = unfold deeds deed_of after in refl

-- a text cut at its E
module _ {t : List ℕ} (u : List Letter) (l : Letter) (w : List Letter) (k : Marked t (u ++ l ∷ w)) (r : l.role ≡ head) (b : (l is 'E') ≡ true) where
  pub commands-before_end : (n : ℕ) → commands n (u ++ l ∷ w) ≡ commands n u ++ (at (n + length u) nothing ∷ [])
  unfolding has
  commands-before_end n =
      let p = n + length u in
      let last = Rattle.laws.proofs.Commands.Ordered.at_end u l w k r b in
      commands_seam n (l ∷ w) (before_end u l w k r b)
      ∙ ap (λ (x : List (Placed Command)). commands n u ++ x)
      (head_commands p l w r
      ∙ ap₂ {C = List (Placed Command)} (λ (c : Command) (x : List (Placed Command)). at p c ∷ x) (end_at p l.byte l.role w (eqb-true l.byte 69 b)) (quiet_none (p + 1) w last.quiet))

  -- what stands there: only the layer
  pub outside-before_end : (n : ℕ) → inside_then false (commands n u) ≡ false
  unfolding Ordered opens
  outside-before_end n =
      (ordered_behind false (commands n u) (at (n + length u) nothing ∷ []) (subst (Ordered false) (commands-before_end n) (ordered k n))).1

  pub standing-before_end : (n : ℕ) (o : List ℕ) → standing (outside o) (commands n u) ≡ outside (standing (outside o) (commands n u)).layer_set
  standing-before_end n o = standing-outside o (commands n u) (standing-inside (outside o) (commands n u) ∙ outside-before_end n)

  -- without its E it means the same
  pub faults-before_end : (n : ℕ) (s : Standing) → all_faults s (commands n (u ++ l ∷ w)) ≡ all_faults s (commands n u)
  faults-before_end n s =
      let us = commands n u in
      ap (all_faults s) (commands-before_end n)
      ∙ (all_faults-++ s us (at (n + length u) nothing ∷ []) ∙ (ap (λ (x : List Refusal). all_faults s us ++ x) (no_fault (standing s us) (n + length u)) ∙ append-nil (all_faults s us)))

  pub deeds-before_end : (n : ℕ) (o : List ℕ) → deeds (outside o) (commands n (u ++ l ∷ w)) ≡ deeds (outside o) (commands n u)
  deeds-before_end n o =
      let us = commands n u in
      let s = standing (outside o) us in
      ap (deeds (outside o)) (commands-before_end n)
      ∙ (deeds-++ (outside o) us (at (n + length u) nothing ∷ []) (standing-inside (outside o) us ∙ outside-before_end n)
      ∙ (ap (λ (x : List Deed). deeds (outside o) us ++ x) (no_deed s (n + length u)) ∙ append-nil (deeds (outside o) us)))

  -- followed by the letters of another one
  module _ (m : List Letter) where
    -- by the layer that stands at the seam
    abbrev layer_then : List ℕ → List ℕ
    layer_then o = (standing (outside o) (commands 0 u)).layer_set

    pub commands-joined : commands 0 (u ++ m) ≡ commands 0 u ++ map (shifted (length u)) (commands 0 m)
    commands-joined =
        commands_seam 0 m (before_end u l w k r b)
        ∙ ap (λ (x : List (Placed Command)). commands 0 u ++ x)
        (ap (λ (p : ℕ). commands p m) (omega arith) ∙ commands_shift (length u) 0 m)

    pub faults-joined : (o : List ℕ) → all_faults (outside o) (commands 0 (u ++ m))
        ≡ all_faults (outside o) (commands 0 u) ++ map (shift_refusal (length u)) (all_faults (outside (layer_then o)) (commands 0 m))
    faults-joined o =
        ap (all_faults (outside o)) commands-joined
        ∙ (all_faults-++ (outside o) (commands 0 u) (map (shifted (length u)) (commands 0 m))
        ∙ ap (λ (x : List Refusal). all_faults (outside o) (commands 0 u) ++ x)
        (ap (λ (s : Standing). all_faults s (map (shifted (length u)) (commands 0 m))) (standing-before_end 0 o) ∙ all_faults_shift (length u) (outside (layer_then o)) (commands 0 m)))

    pub deeds-joined : (o : List ℕ) → deeds (outside o) (commands 0 (u ++ m))
        ≡ deeds (outside o) (commands 0 u) ++ map (relocate_deed (λ p. length u + p)) (deeds (outside (layer_then o)) (commands 0 m))
    deeds-joined o =
        ap (deeds (outside o)) commands-joined
        ∙ (deeds-++ (outside o) (commands 0 u) (map (shifted (length u)) (commands 0 m)) (standing-inside (outside o) (commands 0 u) ∙ outside-before_end 0)
        ∙ ap (λ (x : List Deed). deeds (outside o) (commands 0 u) ++ x)
        (ap (λ (s : Standing). deeds s (map (shifted (length u)) (commands 0 m))) (standing-before_end 0 o) ∙ deeds_shift (length u) (outside (layer_then o)) (commands 0 m)))

    -- the drawing of the first, and then the second's with the definitions that the first left
    pub drawing_joined : drawing_of (commands 0 (u ++ m))
        ≡ drawing_of (commands 0 (u ++ l ∷ w))
        ++ story (table_then [] (deeds (outside []) (commands 0 u))) (map (relocate_deed (λ p. length u + p)) (deeds (outside (layer_then [])) (commands 0 m)))
    drawing_joined =
        ap (story []) (deeds-joined [])
        ∙ (story-++ [] (deeds (outside []) (commands 0 u)) (map (relocate_deed (λ p. length u + p)) (deeds (outside (layer_then [])) (commands 0 m)))
        ∙ ap (λ (x : List Event). x ++ story (table_then [] (deeds (outside []) (commands 0 u))) (map (relocate_deed (λ p. length u + p)) (deeds (outside (layer_then [])) (commands 0 m))))
        (ap (story []) (sym (deeds-before_end 0 []))))
