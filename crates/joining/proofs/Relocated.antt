-- The drawing does not look at places: where every place p becomes f p, the same things happen, at the places so changed. So a text that stands k places
-- further on, where f adds k, draws the same shapes, and its flat file is the same.
-- Assumes nothing.
use Rattle.std.specs.Prelude.{if◌then◌else◌}
use mathlib.Core.Path.{◌≡◌, refl, sym, ap, ap₂, ◌∙◌}
use mathlib.Core.Bool.{Bool, true, false}
use mathlib.Core.List.{List, [], ◌∷◌, ◌++◌, map, map-map, map-append}
use mathlib.Core.Option
use mathlib.Core.Option.{Option, none, some}
use Prim.Native.Nat.{ℕ, zero, suc, ◌+◌, max}
use lib.Dec.{ltb, eqb}
use lib.IntN.{ℤ, nat_abs}
use lib.ListN.{length, length-map}
use Rattle.definition.specs.declared.Refusal.{Refusal}
use Rattle.definition.specs.Limits.{most_definitions, deepest, most_calls, most_shapes}
use Rattle.definition.specs.declared.Rule.TheVariants.{TooManyDefinitions, OffTheAxes, BeingDrawn, TooDeep}
use Rattle.definition.specs.Rules.{refuse}
use Rattle.definition.specs.Words.{Placed, at, any, none?}
use Rattle.definition.specs.Commands.{Shape, Turn, Command, draw, layer, call, start, finish, delete, nothing}
use Rattle.definition.specs.Standing.{Standing, after}
use Rattle.definition.specs.Faults.{beyond}
use Rattle.definition.specs.Turns.{moved, off_axes}
use Rattle.definition.specs.Table.{Step, shape, instance, setting, Definition, Table, find, enter, forget}
use Rattle.definition.specs.Drawing.{step_of, retained, Deed, output, define, remove, deed_of, deeds, Chain, Drawn, Event, called, drew, entered, removed, refused}
use Rattle.definition.specs.Drawing.{drawn_shape, drawn_step, drawn_body, Passage, barred, leads, passage_to, passage_of, through, drawn_call, happens, table_after, story}
use Rattle.definition.specs.Counts.{Counts, End, finished, stopped, counted, go_on, ending, shapes_of}
use Rattle.definition.specs.Flat.{said, lines}
use Rattle.definition.specs.Held.{words_of_step, words_of_body, words_in, words_after, words_needed}
use Rattle.laws.proofs.Lists.Joined.{table_then}
use Rattle.laws.proofs.Story.Tables.{chosen, find-map, enter-map, forget-map}
use Rattle.joining.proofs.Places.{shift, shift_command, shifted, any_map, after_shift, step_of_shift}

module _ (f : ℕ → ℕ) where
  abbrev pub relocate : {A : Type 0} → Placed A → Placed A
  relocate p = at (f p.place) p.what

  abbrev pub relocate_definition : Definition → Definition
  relocate_definition d = record { symbol = d.symbol; place = f d.place; body = map relocate d.body }

  unfoldable pub relocate_deed : Deed → Deed
  relocate_deed (output s) = output (relocate s)
  relocate_deed (define d) = define (relocate_definition d)
  relocate_deed (remove n) = remove (relocate n)

  abbrev pub relocate_drawn : Drawn → Drawn
  relocate_drawn d = record { place = f d.place; chain = map relocate d.chain; net = d.net; layer_of = d.layer_of; itself = d.itself }

  abbrev pub relocate_refusal : Refusal → Refusal
  relocate_refusal r = record { rule = r.rule; place = f r.place }

  unfoldable pub relocate_event : Event → Event
  relocate_event (called p chain d) = called (f p) (map relocate chain) (relocate_definition d)
  relocate_event (drew d) = drew (relocate_drawn d)
  relocate_event (entered d before) = entered (relocate_definition d) (map relocate_definition before)
  relocate_event (removed n before) = removed (relocate n) (map relocate_definition before)
  relocate_event (refused r chain) = refused (relocate_refusal r) (map relocate chain)

  -- ---- the table

  find_relocated : (n : ℕ) (t : Table) → find n (map relocate_definition t) ≡ Option.map relocate_definition (find n t)
  find_relocated n t = find-map relocate_definition (λ d. refl) n t

  enter_relocated : (d : Definition) (t : Table) → enter (relocate_definition d) (map relocate_definition t) ≡ map relocate_definition (enter d t)
  enter_relocated d t = enter-map relocate_definition (λ d. refl) d t

  forget_relocated : (n : ℕ) (t : Table) → forget n (map relocate_definition t) ≡ map relocate_definition (forget n t)
  forget_relocated n t = forget-map relocate_definition (λ d. refl) n t

  pub table_after_relocated : (t : Table) (d : Deed) → table_after (map relocate_definition t) (relocate_deed d) ≡ map relocate_definition (table_after t d)
  unfolding table_after relocate_deed
  table_after_relocated t (output s) = refl
  table_after_relocated t (define d) = enter_relocated d t
  table_after_relocated t (remove n) = forget_relocated n.what t

  -- ---- what happens

  shape_relocated : (chain : Chain) (net : List (Turn ℤ)) (p : ℕ) (l : List ℕ) (k : Shape ℤ)
      → drawn_shape (map relocate chain) net (f p) l k ≡ relocate_event (drawn_shape chain net p l k)
  unfolding drawn_shape relocate_event
  shape_relocated chain net p l k =
      chosen relocate_event (any (λ q. beyond q.x) (moved net k).points) refl
      (chosen relocate_event (any (λ q. beyond q.y) (moved net k).points) refl refl)

  -- calls that draw the same, with places changed
  abbrev Alike : (ℕ → ℕ → List (Turn ℤ) → List Event) → (ℕ → ℕ → List (Turn ℤ) → List Event) → Type 0
  Alike g h = (p n : ℕ) (ts : List (Turn ℤ)) → h (f p) n ts ≡ map relocate_event (g p n ts)

  module _ (g h : ℕ → ℕ → List (Turn ℤ) → List Event) (alike : Alike g h) (chain : Chain) (net : List (Turn ℤ)) where
    step_relocated : (p : ℕ) (s : Step) → drawn_step h (map relocate chain) net (f p) s ≡ map relocate_event (drawn_step g chain net p s)
    unfolding drawn_step
    step_relocated p (shape l k) = ap (λ (e : Event). e ∷ []) (shape_relocated chain net p l k)
    step_relocated p (instance n ts) = alike p n ts
    step_relocated p (setting l) = refl

    body_relocated : (b : List (Placed Step)) → drawn_body h (map relocate chain) net (map relocate b) ≡ map relocate_event (drawn_body g chain net b)
    unfolding drawn_body
    body_relocated [] = refl
    body_relocated (s ∷ b) =
        ap₂ {C = List Event} (λ (x y : List Event). x ++ y) (step_relocated s.place s.what) (body_relocated b)
        ∙ sym (map-append relocate_event (drawn_step g chain net s.place s.what) (drawn_body g chain net b))

  none_relocated : (o : Option Definition) → none? (Option.map relocate_definition o) ≡ none? o
  none_relocated none = refl
  none_relocated (some d) = refl

  abbrev relocate_passage : Passage → Passage
  relocate_passage (barred r) = barred r
  relocate_passage (leads d) = leads (relocate_definition d)

  passage_relocated : (left : ℕ) (t : Table) (chain : Chain) (n : ℕ) (ts : List (Turn ℤ))
      → passage_of left (map relocate_definition t) (map relocate chain) n ts ≡ relocate_passage (passage_of left t chain n ts)
  unfolding passage_of passage_to
  passage_relocated left t chain n ts = rw (find_relocated n t) (go (off_axes ts) (find n t))
    where
      chosen_so : (x y : Bool) (d : Definition)
          → (if x then barred BeingDrawn else if y then barred TooDeep else leads (relocate_definition d))
          ≡ relocate_passage (if x then barred BeingDrawn else if y then barred TooDeep else leads d)
      chosen_so true y d = refl
      chosen_so false true d = refl
      chosen_so false false d = refl

      go : (a : Bool) (found : Option Definition)
          → (if a then barred OffTheAxes else passage_to (Option.map relocate_definition found) left (map relocate chain) n)
          ≡ relocate_passage (if a then barred OffTheAxes else passage_to found left chain n)
      go true found = refl
      go false none = refl
      go false (some d) =
          ap (λ (x : Bool). if x then barred BeingDrawn else if eqb left 0 then barred TooDeep else leads (relocate_definition d))
          (any_map (λ (c : Placed ℕ). eqb c.what n) relocate (λ c. refl) chain)
          ∙ chosen_so (any (λ c. eqb c.what n) chain) (eqb left 0) d

  through_relocated : (o : Passage) (p : ℕ) (chain : Chain) (g h : Definition → List Event)
      → ((d : Definition) → h (relocate_definition d) ≡ map relocate_event (g d))
      → through (relocate_passage o) (f p) (map relocate chain) h ≡ map relocate_event (through o p chain g)
  unfolding through relocate_event
  through_relocated (barred r) p chain g h e = refl
  through_relocated (leads d) p chain g h e = ap (λ (x : List Event). called (f p) (map relocate chain) (relocate_definition d) ∷ x) (e d)

  module _ (t : Table) where
    -- what a call leads to, by what its body leads to
    call_by : (left p n : ℕ) (chain : Chain) (ts : List (Turn ℤ)) (g h : Definition → List Event) → ((d : Definition) → h (relocate_definition d) ≡ map relocate_event (g d))
        → through (passage_of left (map relocate_definition t) (map relocate chain) n ts) (f p) (map relocate chain) h
        ≡ map relocate_event (through (passage_of left t chain n ts) p chain g)
    call_by left p n chain ts g h e = rw (passage_relocated left t chain n ts) (through_relocated (passage_of left t chain n ts) p chain g h e)

    call_relocated : (left : ℕ) (chain : Chain) (net : List (Turn ℤ)) → Alike (drawn_call left t chain net) (drawn_call left (map relocate_definition t) (map relocate chain) net)
    unfolding drawn_call
    call_relocated zero chain net p n ts = call_by 0 p n chain ts (λ d. []) (λ d. []) (λ d. refl)
    call_relocated (suc left) chain net p n ts =
        let deeper : Chain = chain ++ (at p n ∷ []) in
        let deeper' : Chain = map relocate chain ++ (at (f p) n ∷ []) in
        let same-chain : deeper' ≡ map relocate deeper = sym (map-append relocate chain (at p n ∷ [])) in
        call_by (suc left) p n chain ts (λ d. drawn_body (drawn_call left t deeper (ts ++ net)) deeper (ts ++ net) d.body)
        (λ d. drawn_body (drawn_call left (map relocate_definition t) deeper' (ts ++ net)) deeper' (ts ++ net) d.body)
        (λ d. ap (λ (c : Chain). drawn_body (drawn_call left (map relocate_definition t) c (ts ++ net)) c (ts ++ net) (map relocate d.body)) same-chain
        ∙ body_relocated (drawn_call left t deeper (ts ++ net)) (drawn_call left (map relocate_definition t) (map relocate deeper) (ts ++ net))
        (call_relocated left deeper (ts ++ net)) deeper (ts ++ net) d.body)

    pub happens_relocated : (d : Deed) → happens (map relocate_definition t) (relocate_deed d) ≡ map relocate_event (happens t d)
    unfolding happens relocate_deed relocate_event
    happens_relocated (output s) =
        step_relocated (drawn_call deepest t [] []) (drawn_call deepest (map relocate_definition t) [] []) (call_relocated deepest [] []) [] [] s.place s.what
    happens_relocated (define d) =
        ap (λ (e : Event). e ∷ [])
        (ap (λ (n : ℕ). if ltb most_definitions n then refused (refuse TooManyDefinitions (f d.place)) [] else entered (relocate_definition d) (map relocate_definition t))
        (ap length (enter_relocated d t) ∙ length-map (enter d t) relocate_definition)
        ∙ chosen relocate_event (ltb most_definitions (length (enter d t))) refl refl)
    happens_relocated (remove n) = refl

  pub story_relocated : (t : Table) (ds : List Deed) → story (map relocate_definition t) (map relocate_deed ds) ≡ map relocate_event (story t ds)
  unfolding story
  story_relocated t [] = refl
  story_relocated t (d ∷ ds) =
      ap₂ {C = List Event} (λ (x y : List Event). x ++ y) (happens_relocated t d)
      (ap (λ (x : Table). story x (map relocate_deed ds)) (table_after_relocated t d) ∙ story_relocated (table_after t d) ds)
      ∙ sym (map-append relocate_event (happens t d) (story (table_after t d) ds))

  pub table_then_relocated : (t : Table) (ds : List Deed) → table_then (map relocate_definition t) (map relocate_deed ds) ≡ map relocate_definition (table_then t ds)
  unfolding table_then
  table_then_relocated t [] = refl
  table_then_relocated t (d ∷ ds) = ap (λ (x : Table). table_then x (map relocate_deed ds)) (table_after_relocated t d) ∙ table_then_relocated (table_after t d) ds

  -- ---- how it ends, and its shapes

  unfoldable pub relocate_end : End → End
  relocate_end (finished c) = finished c
  relocate_end (stopped r chain) = stopped (relocate_refusal r) (map relocate chain)

  counted_relocated : (c : Counts) (e : Event) → counted c (relocate_event e) ≡ relocate_end (counted c e)
  unfolding counted relocate_event relocate_end
  counted_relocated c (called p chain d) = chosen relocate_end (ltb c.calls most_calls) refl refl
  counted_relocated c (drew d) = chosen relocate_end (ltb c.shapes most_shapes) refl refl
  counted_relocated c (entered d before) =
      ap (λ (b : Bool). finished (record { calls = c.calls; shapes = c.shapes; redefinitions = if b then c.redefinitions else c.redefinitions + 1 }))
      (ap (λ (o : Option Definition). none? o) (find_relocated d.symbol before) ∙ none_relocated (find d.symbol before))
  counted_relocated c (removed n before) = refl
  counted_relocated c (refused r chain) = refl

  go_on_relocated : (e : End) (g h : Counts → End) → ((c : Counts) → h c ≡ relocate_end (g c)) → go_on (relocate_end e) h ≡ relocate_end (go_on e g)
  unfolding go_on relocate_end
  go_on_relocated (finished c) g h k = k c
  go_on_relocated (stopped r chain) g h k = refl

  pub ending_relocated : (c : Counts) (es : List Event) → ending c (map relocate_event es) ≡ relocate_end (ending c es)
  unfolding ending
  ending_relocated c [] = unfold relocate_end in refl
  ending_relocated c (e ∷ es) =
      ap (λ (x : End). go_on x (λ c'. ending c' (map relocate_event es))) (counted_relocated c e)
      ∙ go_on_relocated (counted c e) (λ c'. ending c' es) (λ c'. ending c' (map relocate_event es)) (λ c'. ending_relocated c' es)

  pub shapes_relocated : (es : List Event) → shapes_of (map relocate_event es) ≡ map relocate_drawn (shapes_of es)
  unfolding shapes_of relocate_event
  shapes_relocated [] = refl
  shapes_relocated (drew d ∷ es) = ap (λ (x : List Drawn). relocate_drawn d ∷ x) (shapes_relocated es)
  shapes_relocated (called p chain d ∷ es) = shapes_relocated es
  shapes_relocated (entered d before ∷ es) = shapes_relocated es
  shapes_relocated (removed n before ∷ es) = shapes_relocated es
  shapes_relocated (refused r chain ∷ es) = shapes_relocated es

  pub lines_relocated : (before : List ℕ) (ds : List Drawn) → lines before (map relocate_drawn ds) ≡ lines before ds
  unfolding lines said
  lines_relocated before [] = refl
  lines_relocated before (d ∷ ds) = ap (λ (x : List ℕ). said before d ++ x) (lines_relocated d.layer_of ds)

  -- ---- the words that bodies need

  body_words : (b : List (Placed Step)) → words_of_body (map relocate b) ≡ words_of_body b
  unfolding words_of_body
  body_words [] = refl
  body_words (s ∷ b) = ap (λ (n : ℕ). words_of_step s.what + n) (body_words b)

  table_words : (t : Table) → words_in (map relocate_definition t) ≡ words_in t
  unfolding words_in
  table_words [] = refl
  table_words (d ∷ t) = ap₂ {C = ℕ} (λ (m n : ℕ). m + n) (body_words d.body) (table_words t)

  event_words : (e : Event) → words_after (relocate_event e) ≡ words_after e
  unfolding words_after relocate_event
  event_words (entered d before) = ap words_in (enter_relocated d before) ∙ table_words (enter d before)
  event_words (called p chain d) = refl
  event_words (drew d) = refl
  event_words (removed n before) = refl
  event_words (refused r chain) = refl

  pub needed_relocated : (es : List Event) → words_needed (map relocate_event es) ≡ words_needed es
  unfolding words_needed
  needed_relocated [] = refl
  needed_relocated (e ∷ es) = ap₂ {C = ℕ} (λ (m n : ℕ). max m n) (event_words e) (needed_relocated es)

-- ---- the commands of a text that stands k places further on

module _ (k : ℕ) where
  abbrev on : ℕ → ℕ
  on p = k + p

  pub retained_shift : (s : Standing) (cs : List (Placed Command)) → retained s (map (shifted k) cs) ≡ map (shift k) (retained s cs)
  unfolding retained
  retained_shift s [] = refl
  retained_shift s (c ∷ cs) =
      chosen (map (shift k)) s.inside
      (ap₂ {C = List (Placed Step)} (λ (x : List Step) (y : List (Placed Step)). map (at (k + c.place)) x ++ y) (step_of_shift k s c.what)
      (ap (λ (x : Standing). retained x (map (shifted k) cs)) (after_shift k c.what s) ∙ retained_shift (after c.what s) cs)
      ∙ ap (λ (x : List (Placed Step)). x ++ map (shift k) (retained (after c.what s) cs)) (sym (map-map (shift k) (at c.place) (step_of s c.what)))
      ∙ sym (map-append (shift k) (map (at c.place) (step_of s c.what)) (retained (after c.what s) cs)))
      refl

  outputs_shift : (s : Standing) (p : ℕ) (c : Command)
      → (if s.inside then [] else map (λ x. output (at (k + p) x)) (step_of s (shift_command k c)))
      ≡ map (relocate_deed on) (if s.inside then [] else map (λ x. output (at p x)) (step_of s c))
  unfolding relocate_deed
  outputs_shift s p c =
      chosen (map (relocate_deed on)) s.inside refl
      (ap (map (λ x. output (at (k + p) x))) (step_of_shift k s c) ∙ sym (map-map (relocate_deed on) (λ (x : Step). output (at p x)) (step_of s c)))

  deed_shift : (s : Standing) (p : ℕ) (c : Command) (cs : List (Placed Command))
      → deed_of s (k + p) (shift_command k c) (map (shifted k) cs) ≡ map (relocate_deed on) (deed_of s p c cs)
  unfolding deed_of shift_command relocate_deed
  deed_shift s p (draw w) cs = outputs_shift s p (draw w)
  deed_shift s p (call n ts) cs = outputs_shift s p (call n ts)
  deed_shift s p (start n a b) cs =
      ap (λ (x : List (Placed Step)). define (record { symbol = nat_abs n.what; place = k + p; body = x }) ∷ [])
      (ap (λ (x : Standing). retained x (map (shifted k) cs)) (after_shift k (start n a b) s) ∙ retained_shift (after (start n a b) s) cs)
  deed_shift s p (delete n) cs = refl
  deed_shift s p (layer l) cs = refl
  deed_shift s p finish cs = refl
  deed_shift s p nothing cs = refl

  pub deeds_shift : (s : Standing) (cs : List (Placed Command)) → deeds s (map (shifted k) cs) ≡ map (relocate_deed on) (deeds s cs)
  unfolding deeds
  deeds_shift s [] = refl
  deeds_shift s (c ∷ cs) =
      ap₂ {C = List Deed} (λ (x y : List Deed). x ++ y) (deed_shift s c.place c.what cs)
      (ap (λ (x : Standing). deeds x (map (shifted k) cs)) (after_shift k c.what s) ∙ deeds_shift (after c.what s) cs)
      ∙ sym (map-append (relocate_deed on) (deed_of s c.place c.what cs) (deeds (after c.what s) cs))

  -- the drawing of such a text
  pub drawing_shift : (s : Standing) (t : Table) (cs : List (Placed Command))
      → story (map (relocate_definition on) t) (deeds s (map (shifted k) cs)) ≡ map (relocate_event on) (story t (deeds s cs))
  drawing_shift s t cs = ap (story (map (relocate_definition on) t)) (deeds_shift s cs) ∙ story_relocated on t (deeds s cs)
