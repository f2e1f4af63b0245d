-- A body read alone means what it means in its text: it ends at its own DF, and what it draws depends on its own commands, on the a and b of its DS and
-- on nothing else. So the crates above may keep a place and read a body again from there.
-- Assumes nothing.
use Rattle.std.specs.Prelude.{if◌then◌else◌}
use mathlib.Core.Path.{◌≡◌, refl, sym, ap, ap₂, ◌∙◌, subst}
use mathlib.Core.Bool.{Bool, true, false}
use mathlib.Core.List.{List, [], ◌∷◌, ◌++◌, append_assoc, append-nil, map}
use Prim.Native.Nat.{ℕ, suc, ◌+◌}
use native.Mathlib.Numerals.{add-one}
use native.Mathlib.Omega.{arith}
use lib.IntN.{ℤ, pos, negsuc, nat_abs}
use lib.ListN.{length, drop}
use Rattle.grammar.specs.Notation.{Letter, stop}
use Rattle.grammar.specs.Tables.{inside_state}
use Rattle.grammar.specs.Steps.{marked}
use Rattle.grammar.specs.Viable.{bytes, Marked}
use Rattle.grammar.proofs.Fitting.{state_behind}
use Rattle.grammar.proofs.Boundaries.{inside_after, resumed}
use Rattle.definition.specs.Words.{Placed, at, point}
use Rattle.definition.specs.Commands.{Number, shape_of, Turn, translate, mirror_x, mirror_y, rotate, Command, draw, layer, call, start, finish, delete, nothing, commands}
use Rattle.definition.specs.Standing.{Standing, outside, after, given, scaled, scaled_shape, scaled_turn}
use Rattle.definition.specs.Table.{Step, shape, instance, Definition}
use Rattle.definition.specs.Drawing.{step_of, retained, Deed, define, deed_of, deeds}
use Rattle.laws.proofs.Lists.Range.{All}
use Rattle.laws.proofs.Lists.Joined.{standing, commands-++, deeds-++, retained_out}
use Rattle.laws.proofs.Commands.Ordered.{Plain, opens, inside_then, Allowed, Ordered, plain-opens, after-inside, standing-inside, ordered, ordered_behind, ordered_resumed, inside-commands, two_bits}

-- ---- a body ends at its own DF

abbrev pub Plains : List (Placed Command) → Type 0
Plains cs = All (λ c. Plain c.what) cs

-- the commands behind a DS: its own, its DF, and the rest
pub record Body (cs : List (Placed Command)) : Type 0 where
  pub own : List (Placed Command)
  pub place : ℕ
  pub rest : List (Placed Command)
  pub splits : cs ≡ own ++ (at place finish ∷ rest)
  pub plain : Plains own
  pub further : Ordered false rest

longer : (p : ℕ) (c : Command) (cs : List (Placed Command)) → Plain c → Body cs → Body (at p c ∷ cs)
unfolding All
longer p c cs h b =
    record { own = at p c ∷ b.own; place = b.place; rest = b.rest; splits = ap (λ (x : List (Placed Command)). at p c ∷ x) b.splits; plain = (h, b.plain); further = b.further }

pub body_of : (cs : List (Placed Command)) → Ordered true cs → Body cs
unfolding Ordered
body_of [] o = absurd (two_bits refl o)
body_of (c ∷ cs) o = go c.what o.0 o.1 (body_of cs)
  where
    go : (w : Command) → Allowed true w → Ordered (opens w true) cs → (Ordered true cs → Body cs) → Body (at c.place w ∷ cs)
    go (draw k) h p f = unfold opens Plain in longer c.place (draw k) cs tt (f p)
    go (layer l) h p f = unfold opens Plain in longer c.place (layer l) cs tt (f p)
    go (call n ts) h p f = unfold opens Plain in longer c.place (call n ts) cs tt (f p)
    go nothing h p f = unfold opens Plain in longer c.place nothing cs tt (f p)
    go (start n a b) h p f = unfold Allowed in absurd (two_bits refl h)
    go (delete n) h p f = unfold Allowed in absurd (two_bits refl h)
    go finish h p f = unfold opens All in record { own = []; place = c.place; rest = cs; splits = refl; plain = tt; further = p }

-- ---- what a body draws

-- it may be taken up again anywhere before its DF
abbrev pub Unfinished : List (Placed Command) → Type 0
Unfinished cs = All (λ c. opens c.what true ≡ true) cs

pub retained-split : (s : Standing) (us vs : List (Placed Command)) → s.inside ≡ true → Unfinished us → retained s (us ++ vs) ≡ retained s us ++ retained (standing s us) vs
unfolding retained standing All
retained-split s [] vs e h = refl
retained-split s (c ∷ us) vs e h =
    go s.inside e _ _ _ (retained-split (after c.what s) us vs (after-inside c.what s ∙ (ap (opens c.what) e ∙ h.0)) h.1)
  where
    own : List (Placed Step)
    own = map (at c.place) (step_of s c.what)

    go : (b : Bool) → b ≡ true → (x y z : List (Placed Step)) → x ≡ y ++ z → (if b then own ++ x else []) ≡ (if b then own ++ y else []) ++ z
    go true f x y z g = ap (λ (w : List (Placed Step)). own ++ w) g ∙ sym (append_assoc own y z)
    go false f x y z g = absurd (two_bits f refl)

-- and goes up to its DF, and no further
pub retained-own : (s : Standing) (us : List (Placed Command)) (p : ℕ) (vs : List (Placed Command)) → s.inside ≡ true
    → Unfinished us → retained s (us ++ (at p finish ∷ vs)) ≡ retained s us
retained-own s us p vs e h =
    retained-split s us (at p finish ∷ vs) e h ∙ (ap (λ (x : List (Placed Step)). retained s us ++ x) (closed (standing s us)) ∙ append-nil (retained s us))
  where
    none_of : (s : Standing) (b : Bool) → (if b then map (at p) (step_of s finish) ++ retained (after finish s) vs else []) ≡ []
    none_of s true = unfold step_of after in retained_out (outside s.layer_outside) vs refl
    none_of s false = refl

    closed : (s : Standing) → retained s (at p finish ∷ vs) ≡ []
    closed s = unfold retained in none_of s s.inside

-- the standing behind a DS, as far as its body can tell
abbrev pub in_body : (a b : Number) → Standing
in_body a b = record { inside = true; a = nat_abs a.what; b = nat_abs b.what; layer_set = []; layer_outside = [] }

abbrev stand : Bool → ℕ → ℕ → List ℕ → List ℕ → Standing
stand i a b l o = record { inside = i; a = a; b = b; layer_set = l; layer_outside = o }

-- the layer outside does not matter to it
module _ (i : Bool) (a b : ℕ) (o o' : List ℕ) where
  module _ (l : List ℕ) where
    scaled-layers : (z : ℤ) → scaled (stand i a b l o) z ≡ scaled (stand i a b l o') z
    unfolding scaled
    scaled-layers (pos d) = refl
    scaled-layers (negsuc d) = refl

    turn-layers : (t : Turn Number) → scaled_turn (stand i a b l o) t ≡ scaled_turn (stand i a b l o') t
    unfolding scaled_turn
    turn-layers (translate p) = λ j. translate (point (scaled-layers p.x.what j) (scaled-layers p.y.what j))
    turn-layers mirror_x = refl
    turn-layers mirror_y = refl
    turn-layers (rotate d) = refl

    steps-layers : (c : Command) → step_of (stand i a b l o) c ≡ step_of (stand i a b l o') c
    unfolding step_of scaled_shape
    steps-layers (draw k) =
        λ j. shape l (shape_of k.kind (map (λ d. scaled-layers d.what j) k.sizes)
        (map (λ p. point (scaled-layers p.x.what j) (scaled-layers p.y.what j)) k.points) (map given k.directions)) ∷ []
    steps-layers (call n ts) = λ j. instance (nat_abs n.what) (map (λ t. turn-layers t j) ts) ∷ []
    steps-layers (layer k) = refl
    steps-layers (start n x y) = refl
    steps-layers finish = refl
    steps-layers (delete n) = refl
    steps-layers nothing = refl

  retained-layers : (l : List ℕ) (us : List (Placed Command)) → Plains us → retained (stand i a b l o) us ≡ retained (stand i a b l o') us
  unfolding retained All
  retained-layers l [] h = refl
  retained-layers l (c ∷ us) h =
      ap₂ {C = List (Placed Step)} (λ (x : List Step) (y : List (Placed Step)). if i then map (at c.place) x ++ y else []) (steps-layers l c.what)
      (go c.what h.0 (λ k. retained-layers k us h.1))
    where
      go : (w : Command) → Plain w → ((k : List ℕ) → retained (stand i a b k o) us ≡ retained (stand i a b k o') us)
          → retained (after w (stand i a b l o)) us ≡ retained (after w (stand i a b l o')) us
      go (draw k) p f = unfold after in f l
      go (layer k) p f = unfold after in f k
      go (call n ts) p f = unfold after in f l
      go nothing p f = unfold after in f l
      go (start n x y) p f = unfold Plain in absurd p
      go finish p f = unfold Plain in absurd p
      go (delete n) p f = unfold Plain in absurd p

pub retained-body : (s : Standing) (n a b : Number) (us : List (Placed Command)) → Plains us → retained (after (start n a b) s) us ≡ retained (in_body a b) us
unfolding after
retained-body s n a b us h = retained-layers true (nat_abs a.what) (nat_abs b.what) s.layer_set [] [] us h

-- ---- what a definition is

-- of the commands behind its DS it takes its own
abbrev pub definition_of : ℕ → (n a b : Number) → List (Placed Command) → Definition
definition_of p n a b cs = record { symbol = nat_abs n.what; place = p; body = retained (in_body a b) cs }

pub plain_stay : (us : List (Placed Command)) → Plains us → Unfinished us
unfolding All
plain_stay [] h = tt
plain_stay (c ∷ us) h = (plain-opens true c.what h.0, plain_stay us h.1)

module _ (p : ℕ) (n a b : Number) {cs : List (Placed Command)} (x : Body cs) where
  own-steps : (s : Standing) → s.inside ≡ true → retained s cs ≡ retained s x.own
  own-steps s e = ap (retained s) x.splits ∙ retained-own s x.own x.place x.rest e (plain_stay x.own x.plain)

  -- what follows its DF does not matter
  pub definition_own : definition_of p n a b cs ≡ definition_of p n a b x.own
  definition_own = ap (λ (y : List (Placed Step)). record { symbol = nat_abs n.what; place = p; body = y }) (own-steps (in_body a b) refl)

  pub start_deed : (s : Standing) → deed_of s p (start n a b) cs ≡ define (definition_of p n a b x.own) ∷ []
  unfolding deed_of
  start_deed s =
      ap (λ (y : List (Placed Step)). define (record { symbol = nat_abs n.what; place = p; body = y }) ∷ [])
      (own-steps (after (start n a b) s) (unfold after in refl) ∙ retained-body s n a b x.own x.plain)

-- its commands do nothing else, and behind its DF stands what stood before its DS
through : {A : Type 0} (f : Standing → List (Placed Command) → A) (silent : (s : Standing) (c : Placed Command) (cs : List (Placed Command)) → s.inside ≡ true → Plain c.what → f s (c ∷ cs) ≡ f (after c.what s) cs)
    → (a b : ℕ) (l o : List ℕ) (us : List (Placed Command)) (vs : List (Placed Command)) → Plains us
    → (l' : List ℕ) × (f (stand true a b l o) (us ++ vs) ≡ f (stand true a b l' o) vs)
unfolding All
through f silent a b l o [] vs h = (l, refl)
through f silent a b l o (c ∷ us) vs h =
    go c.what h.0 (λ k. through f silent a b k o us vs h.1) (silent (stand true a b l o) c (us ++ vs) refl h.0)
  where
    go : (w : Command) → Plain w → ((k : List ℕ) → (l' : List ℕ) × (f (stand true a b k o) (us ++ vs) ≡ f (stand true a b l' o) vs))
        → f (stand true a b l o) (c ∷ (us ++ vs)) ≡ f (after w (stand true a b l o)) (us ++ vs)
        → (l' : List ℕ) × (f (stand true a b l o) (c ∷ (us ++ vs)) ≡ f (stand true a b l' o) vs)
    go (draw k) p r e = unfold after in ((r l).0, e ∙ (r l).1)
    go (layer k) p r e = unfold after in ((r k).0, e ∙ (r k).1)
    go (call n ts) p r e = unfold after in ((r l).0, e ∙ (r l).1)
    go nothing p r e = unfold after in ((r l).0, e ∙ (r l).1)
    go (start n x y) p r e = unfold Plain in absurd p
    go finish p r e = unfold Plain in absurd p
    go (delete n) p r e = unfold Plain in absurd p

no_deed : (s : Standing) (p : ℕ) (c : Command) (cs : List (Placed Command)) → s.inside ≡ true → Plain c → deed_of s p c cs ≡ []
unfolding deed_of
no_deed s p (draw k) cs e h = rw e
no_deed s p (call n ts) cs e h = rw e
no_deed s p (layer l) cs e h = refl
no_deed s p nothing cs e h = refl
no_deed s p finish cs e h = refl
no_deed s p (start n a b) cs e h = unfold Plain in absurd h
no_deed s p (delete n) cs e h = unfold Plain in absurd h

deeds_silent : (s : Standing) (c : Placed Command) (cs : List (Placed Command)) → s.inside ≡ true → Plain c.what → deeds s (c ∷ cs) ≡ deeds (after c.what s) cs
unfolding deeds
deeds_silent s c cs e h = ap (λ (x : List Deed). x ++ deeds (after c.what s) cs) (no_deed s c.place c.what cs e h)

module _ (s : Standing) (p : ℕ) (n a b : Number) {cs : List (Placed Command)} (x : Body cs) where
  abbrev then_rest : {A : Type 0} → (Standing → List (Placed Command) → A) → Type 0
  then_rest f = f (after (start n a b) s) cs ≡ f (outside s.layer_set) x.rest

  over-body : {A : Type 0} (f : Standing → List (Placed Command) → A)
      → ((t : Standing) (c : Placed Command) (vs : List (Placed Command)) → t.inside ≡ true → Plain c.what → f t (c ∷ vs) ≡ f (after c.what t) vs)
      → ((t : Standing) (q : ℕ) (vs : List (Placed Command)) → f t (at q finish ∷ vs) ≡ f (after finish t) vs) → then_rest f
  unfolding after
  over-body f silent close =
      let o = s.layer_set in
      let r = through f silent (nat_abs a.what) (nat_abs b.what) [] o x.own (at x.place finish ∷ x.rest) x.plain in
      ap (f (stand true (nat_abs a.what) (nat_abs b.what) [] o)) x.splits ∙ (r.1 ∙ close (stand true (nat_abs a.what) (nat_abs b.what) r.0 o) x.place x.rest)

  pub deeds_definition : deeds s (at p (start n a b) ∷ cs) ≡ define (definition_of p n a b x.own) ∷ deeds (outside s.layer_set) x.rest
  unfolding deeds
  deeds_definition =
      ap₂ {C = List Deed} (λ (y z : List Deed). y ++ z) (start_deed p n a b x s)
      (over-body deeds deeds_silent (λ t q vs. unfold deeds deed_of in refl))

  pub standing_definition : standing s (at p (start n a b) ∷ cs) ≡ standing (outside s.layer_set) x.rest
  unfolding standing
  standing_definition = over-body standing (λ t c vs e h. unfold standing in refl) (λ t q vs. unfold standing in refl)

-- ---- in a text

module _ {t : List ℕ} {m : List Letter} (marks : Marked t m) (k : ℕ) (us vs : List (Placed Command)) (p : ℕ) (n a b : Number)
    (met : commands k m ≡ us ++ (at p (start n a b) ∷ vs)) where
  from_start : Ordered (inside_then false us) (at p (start n a b) ∷ vs)
  from_start = ordered_behind false us (at p (start n a b) ∷ vs) (subst (Ordered false) met (ordered marks k))

  -- a DS stands outside, and has its DF
  pub text-outside : inside_then false us ≡ false
  unfolding Ordered Allowed
  text-outside = from_start.0

  pub text-body : Body vs
  unfolding Ordered opens
  text-body = body_of vs from_start.1

  -- so the text enters a definition of its own commands, and goes on behind its DF with the layer that stood before
  pub text-deeds : (l : List ℕ) → deeds (outside l) (commands k m)
      ≡ deeds (outside l) us ++ (define (definition_of p n a b text-body.own) ∷ deeds (outside (standing (outside l) us).layer_set) text-body.rest)
  text-deeds l =
      ap (deeds (outside l)) met
      ∙ (deeds-++ (outside l) us (at p (start n a b) ∷ vs) (standing-inside (outside l) us ∙ text-outside)
      ∙ ap (λ (x : List Deed). deeds (outside l) us ++ x) (deeds_definition (standing (outside l) us) p n a b text-body))

-- ---- read again

behind-bytes : (u : List Letter) (l : Letter) (v : List Letter) → drop (length u + 1) (bytes (u ++ l ∷ v)) ≡ bytes v
behind-bytes u l v = rw (add-one (length u)) (go u)
  where
    go : (u : List Letter) → drop (suc (length u)) (bytes (u ++ l ∷ v)) ≡ bytes v
    go [] = refl
    go (a ∷ u) = go u

opened-last : (i : Bool) (us : List (Placed Command)) (p : ℕ) (n a b : Number) → inside_then i (us ++ (at p (start n a b) ∷ [])) ≡ true
unfolding inside_then opens
opened-last i [] p n a b = refl
opened-last i (c ∷ us) p n a b = opened-last (opens c.what i) us p n a b

module _ {t : List ℕ} (u : List Letter) (l : Letter) (v : List Letter) (marks : Marked t (u ++ l ∷ v)) (e : l.role ≡ stop) where
  -- the bytes behind a semicolon give its commands again, by the place alone
  pub commands-again : commands (length u + 1) (marked (state_behind (inside_after false u)) 0 (drop (length u + 1) t)) ≡ commands (length u + 1) v
  commands-again =
      ap (λ (w : List ℕ). commands (length u + 1) (marked (state_behind (inside_after false u)) 0 w)) (ap (drop (length u + 1)) (sym marks.reads) ∙ behind-bytes u l v)
      ∙ ap (commands (length u + 1)) (sym (resumed u l v marks e))

  pub commands-cut : commands 0 (u ++ l ∷ v) ≡ commands 0 (u ++ l ∷ []) ++ commands (length u + 1) v
  commands-cut = commands-++ l e v 0 u ∙ ap (λ (k : ℕ). commands 0 (u ++ l ∷ []) ++ commands k v) (omega arith)

  -- and so the body of a DS that ends there
  pub definition_again : (us : List (Placed Command)) (p : ℕ) (n a b : Number) → commands 0 (u ++ l ∷ []) ≡ us ++ (at p (start n a b) ∷ [])
      → (s : Standing) → deed_of s p (start n a b) (commands (length u + 1) v)
      ≡ define (definition_of p n a b (commands (length u + 1) (marked inside_state 0 (drop (length u + 1) t)))) ∷ []
  definition_again us p n a b h s =
      let at_place = length u + 1 in
      let opened : inside_after false u ≡ true = sym (inside-commands u l v marks e 0) ∙ (ap (inside_then false) h ∙ opened-last false us p n a b) in
      let x : Body (commands at_place v) = body_of (commands at_place v) (subst (λ (i : Bool). Ordered i (commands at_place v)) opened (ordered_resumed u l v marks e at_place)) in
      let again = subst (λ (i : Bool). commands at_place (marked (state_behind i) 0 (drop at_place t)) ≡ commands at_place v) opened commands-again in
      start_deed p n a b x s ∙ ap (λ (d : Definition). define d ∷ []) (sym (definition_own p n a b x) ∙ ap (definition_of p n a b) (sym again))
