-- The way to the letter that begins the next piece: letters that begin none are passed over, and what the letter is says the rest.
-- Assumes nothing.
use mathlib.Core.Path.{◌≡◌, refl, sym, ap, ◌∙◌, subst}
use mathlib.Core.Bool.{Bool, true, false}
use mathlib.Core.List.{List, [], ◌∷◌}
use mathlib.Core.Logic.{◌⊎◌, inl, inr}
use Prim.Native.Nat.{ℕ, ◌+◌, ◌-◌, ◌/◌, ◌%◌, ◌≤◌, ◌<◌}
use native.Mathlib.Omega.{arith}
use native.Mathlib.Numerals.{add-one}
use borrow.Author.Tests.{eqb-true, eqb-false, lt-ltb, le-ltb, eq-eqb, ne_eqb}
use lib.Dec.{eqb}
use lib.ListN.{length, get_or, drop, drop_of_length-le}
use lib.Seq.{drop-cons}
use Rattle.grammar.specs.Notation.{Role, Letter, has, skip, head, second, turn, axis, sign, lead, later, name, stop}
use Rattle.grammar.specs.Tables.{state_count, role_unit, stuck, deep, roles, letter}
use Rattle.grammar.specs.Steps.{kind_of, entry_of, next_of, mark_of, number, inside, Moved}
use Rattle.grammar.specs.declared.Move.{Move}
use Rattle.grammar.proofs.Automaton.{number-mark}
use Rattle.grammar.proofs.Ahead.{next_is, mark_is, plain_is, stuck_is, deep_is}
use Rattle.grammar.proofs.Numerals.{Numeral, comment_head, lead-numeral}
use Rattle.pieces.specs.Pieces.{pieces, left, stream, spot, behind, inside_after, place_beyond, ended, closed_at, begun_by, begun, Fit, Small, Step, Led, Begins, Closes}
use Rattle.pieces.specs.declared.Spot.{Spot}
use Rattle.pieces.specs.declared.Begun.{Begun}
use Rattle.pieces.specs.declared.Piece.{Piece}
use Rattle.pieces.specs.declared.Piece.TheVariants.{First, Second, Word, Stop}
use Rattle.pieces.proofs.Lexing.{role, pieces_none, left_ended, left-stuck, left-next, role_is, next-state, next-inside, still_inside, next-stop}

-- before a piece; a number that begins right here has place p
pub record Seeking (t : List ℕ) (q₀ i₀ q i p : ℕ) : Type 0 where
  pub fit : Fit t (spot i q)
  pub from : i₀ ≤ i
  pub on : stream t (spot i₀ q₀) ≡ pieces i p (left t q 0 i)
  pub same : inside q ≡ inside q₀
  pub exact : begun t (spot i₀ q₀) ≡ begun_by q i p (drop i t)

pub seek_start : (t : List ℕ) (q i : ℕ) → Fit t (spot i q) → Seeking t q i q i i
seek_start t q i f = record { fit = f; from = omega arith; on = refl; same = refl; exact = refl }

-- there is none
begins_none : {t : List ℕ} {s : Spot} (m : Begun) → stream t s ≡ [] → m.mark ≡ number skip → m ≡ begun t s → Begins t s m
unfolding number
begins_none m e k x = record {
  exact = x;
  none = λ _. e;
  some = λ n. absurd (n k);
  led = λ h. absurd (omega arith);
  stop = λ h. absurd (omega arith);
  first = λ h. absurd (omega arith);
  letter = λ h. absurd (omega arith);
}

-- one byte of the account by bytes
module _ (q i p b : ℕ) (l : List ℕ) (e : ℕ) (ee : e ≡ entry_of q (kind_of b)) where
  by_stuck : e % role_unit ≡ stuck → begun_by q i p (b ∷ l) ≡ ended i q
  unfolding begun_by
  by_stuck s = rw (← ee, le-ltb (e % role_unit) deep (omega arith), eq-eqb (e % role_unit) stuck s)

  by_next : e % role_unit < deep → e / role_unit < number lead → begun_by q i p (b ∷ l) ≡ begun_by (e % role_unit) (i + 1) (place_beyond (e / role_unit) i) l
  unfolding begun_by number
  by_next s h = rw (← ee, lt-ltb (e % role_unit) deep s, lt-ltb (e / role_unit) (number lead) h)

  by_letter : e % role_unit < deep → number lead ≤ e / role_unit
      → begun_by q i p (b ∷ l) ≡ record { mark = e / role_unit; byte = b; at = i; place = p; to = spot (i + 1) (e % role_unit) }
  unfolding begun_by number
  by_letter s h = rw (← ee, lt-ltb (e % role_unit) deep s, le-ltb (e / role_unit) (number lead) h)

  by_comment : deep ≤ e % role_unit → (e % role_unit ≡ stuck → ⊥)
      → begun_by q i p (b ∷ l)
      ≡ record { mark = e / role_unit; byte = b; at = i; place = i; to = spot (closed_at (e % role_unit - deep) 1 (i + 1) l) (e % role_unit - deep) }
  unfolding begun_by
  by_comment s n = rw (← ee, le-ltb (e % role_unit) deep s, ne_eqb (e % role_unit) stuck n)

-- a letter that begins no piece
at_none : (i p b : ℕ) (L : List Letter) (ρ : Role) → number ρ < number lead → pieces i p (letter b ρ ∷ L) ≡ pieces (i + 1) (place_beyond (number ρ) i) L
unfolding number place_beyond pieces
at_none i p b L skip h = refl
at_none i p b L sign h = refl
at_none i p b L later h = refl
at_none i p b L lead h = absurd (omega arith)
at_none i p b L head h = absurd (omega arith)
at_none i p b L stop h = absurd (omega arith)
at_none i p b L second h = absurd (omega arith)
at_none i p b L turn h = absurd (omega arith)
at_none i p b L axis h = absurd (omega arith)
at_none i p b L name h = absurd (omega arith)

-- a further letter
at_further : (i p b : ℕ) (L : List Letter) (ρ : Role) → number second < number ρ → pieces i p (letter b ρ ∷ L) ≡ Word b ∷ pieces (i + 1) (i + 1) L
unfolding number pieces
at_further i p b L turn h = refl
at_further i p b L axis h = refl
at_further i p b L name h = refl
at_further i p b L skip h = absurd (omega arith)
at_further i p b L sign h = absurd (omega arith)
at_further i p b L later h = absurd (omega arith)
at_further i p b L lead h = absurd (omega arith)
at_further i p b L stop h = absurd (omega arith)
at_further i p b L head h = absurd (omega arith)
at_further i p b L second h = absurd (omega arith)

module _ (t : List ℕ) (q₀ i₀ q i p : ℕ) (g : Seeking t q₀ i₀ q i p) where
  pub seek_ended : length t ≤ i → (m : Begun) → m ≡ ended (length t) q → Begins t (spot i₀ q₀) m
  unfolding begun_by number
  seek_ended h m k =
      let w = g.fit.within in
      let e : length t ≡ i = omega arith in
      begins_none m (g.on ∙ ap (λ (l : List Letter). pieces i p l) (left_ended t q 0 i h) ∙ pieces_none i p) (ap (λ (x : Begun). x.mark) k)
      (k ∙ ap (λ (n : ℕ). ended n q) e ∙ sym (g.exact ∙ ap (λ (l : List ℕ). begun_by q i p l) (drop_of_length-le t h)))

  module _ (hi : i < length t) (hb : get_or t i 0 < 256) (e : ℕ) (ee : e ≡ entry_of q (kind_of (get_or t i 0))) where
    abbrev b : ℕ
    b = get_or t i 0

    leads : e % role_unit ≡ next_of q (kind_of b)
    leads = next_is q b e ee

    marks : e / role_unit ≡ mark_of q 0 b
    marks = mark_is q b e ee

    -- the next byte, for the account by bytes
    here : begun t (spot i₀ q₀) ≡ begun_by q i p (b ∷ drop (i + 1) t)
    here = g.exact ∙ ap (λ (l : List ℕ). begun_by q i p l) (drop-cons t i 0 hi ∙ ap (λ (k : ℕ). b ∷ drop k t) (sym (add-one i)))

    pub seek_stuck : e % role_unit ≡ stuck → (m : Begun) → m ≡ ended i q → Begins t (spot i₀ q₀) m
    unfolding number
    seek_stuck s m k =
        let r : Move = record { state = stuck; depth = 0; mark = e / role_unit } in
        let mv : Moved q 0 b r = record { goes = stuck_is q b (e % role_unit) leads s; mark = marks } in
        begins_none m (g.on ∙ ap (λ (l : List Letter). pieces i p l) (left-stuck t q 0 i hi hb r mv refl) ∙ pieces_none i p) (ap (λ (x : Begun). x.mark) k)
        (k ∙ sym (here ∙ by_stuck q i p b (drop (i + 1) t) e ee s))

    -- a step on, to a state and into a comment or not
    module _ (r : Move) (mv : Moved q 0 b r) (n : r.state ≡ stuck → ⊥) where
      abbrev rest : List Letter
      rest = left t r.state r.depth (i + 1)

      on_next : stream t (spot i₀ q₀) ≡ pieces i p (letter b (role r) ∷ rest)
      on_next = g.on ∙ ap (λ (k : List Letter). pieces i p k) (left-next t q 0 i hi hb r mv g.fit.state n)

      on_role : (ρ : Role) → r.mark ≡ number ρ → stream t (spot i₀ q₀) ≡ pieces i p (letter b ρ ∷ rest)
      on_role ρ m = on_next ∙ ap (λ (σ : Role). pieces i p (letter b σ ∷ rest)) (ap (λ (k : ℕ). get_or roles k skip) m ∙ number-mark ρ)

      stays : (r.mark ≡ number second → ⊥) → inside r.state ≡ inside q₀
      stays k = still_inside t q 0 i hi hb r mv g.fit.state n k ∙ g.same

      below : r.state < state_count
      below = next-state t q 0 i hi hb r mv g.fit.state n

    -- an entry that leads to a state
    module _ (l : e % role_unit < deep) where
      abbrev r : Move
      r = record { state = e % role_unit; depth = 0; mark = e / role_unit }

      mv : Moved q 0 b r
      mv = record { goes = plain_is q 0 b (e % role_unit) refl leads l; mark = marks }

      live : r.state ≡ stuck → ⊥
      live s = omega arith

      abbrev to : Spot
      to = spot (i + 1) (e % role_unit)

      fits : Fit t to
      fits = record { within = omega arith; state = below r mv live }

      pub seek_next : e / role_unit < number lead → (p' : ℕ) → p' ≡ place_beyond (e / role_unit) i → Seeking t q₀ i₀ (e % role_unit) (i + 1) p'
      unfolding number
      seek_next h p' ep =
          let f = g.from in
          let ρ = role_is t q 0 i hi hb r mv g.fit.state live in
          record {
            fit = fits;
            from = omega arith;
            on =
                on_next r mv live
                ∙ at_none i p b (rest r mv live) (role r) (subst (λ (k : ℕ). k < number lead) (sym ρ) h)
                ∙ ap (λ (x : ℕ). pieces (i + 1) x (rest r mv live)) (ap (λ (k : ℕ). place_beyond k i) ρ ∙ sym ep);
            same = stays r mv live (λ k. omega arith);
            exact = here ∙ by_next q i p b (drop (i + 1) t) e ee l h ∙ ap (λ (x : ℕ). begun_by (e % role_unit) (i + 1) x (drop (i + 1) t)) (sym ep);
          }

      got : (x : Piece) → stream t (spot i₀ q₀) ≡ x ∷ stream t to → Small x → inside (e % role_unit) ≡ inside_after x (inside q₀) → (x ≡ Stop → to ≡ behind (inside q₀) (i + 1))
          → Step t (spot i₀ q₀) x to
      got x k s c z = let h = g.from in record { is = k; small = s; ahead = omega arith; fit = fits; crosses = c; stops = z }

      abbrev found : Begun
      found = record { mark = e / role_unit; byte = b; at = i; place = p; to = to }

      found_led : e / role_unit ≡ number lead → Led t (spot i₀ q₀) found
      unfolding pieces number
      found_led m =
          let h = g.from in
          record {
            is = on_role r mv live lead m;
            small = hb;
            ahead = omega arith;
            fit = fits;
            same = stays r mv live (λ k. omega arith);
            numeral = subst Numeral (sym leads) (lead-numeral q b g.fit.state hb (sym marks ∙ m));
          }

      found_stop : e / role_unit ≡ number stop → Step t (spot i₀ q₀) Stop to
      unfolding pieces number
      found_stop m =
          got Stop (on_role r mv live stop m) (omega arith) (stays r mv live (λ k. omega arith))
          (λ z. next-stop t q 0 i hi hb r mv g.fit.state live m ∙ ap (λ (x : Bool). behind x (i + 1)) g.same)

      found_first : e / role_unit ≡ number head → Step t (spot i₀ q₀) (First i b) to
      unfolding pieces number
      found_first m =
          got (First i b) (on_role r mv live head m) hb (stays r mv live (λ k. omega arith)) (λ z. absurd (let y : ◌≡◌ {A = ℕ} 0 1 = cc in omega arith))

      found_letter : number head < e / role_unit → Step t (spot i₀ q₀) (Second b) to ⊎ Step t (spot i₀ q₀) (Word b) to
      unfolding pieces number has
      found_letter m = go (eqb (e / role_unit) (number second)) refl
        where
          go : (y : Bool) → eqb (e / role_unit) (number second) ≡ y → Step t (spot i₀ q₀) (Second b) to ⊎ Step t (spot i₀ q₀) (Word b) to
          go true ey =
              let k = eqb-true (e / role_unit) (number second) ey in
              inl (got (Second b) (on_role r mv live second k) hb
              (next-inside t q 0 i hi hb r mv g.fit.state live ∙ rw (ey, g.same))
              (λ z. absurd (let y : ◌≡◌ {A = ℕ} 0 1 = cc in omega arith)))
          go false ey =
              let k = eqb-false (e / role_unit) (number second) ey in
              let ρ = role_is t q 0 i hi hb r mv g.fit.state live in
              let h : number second < number (role r) = subst (λ (x : ℕ). number second < x) (sym ρ) (omega arith) in
              inr (got (Word b) (on_next r mv live ∙ at_further i p b (rest r mv live) (role r) h) hb (stays r mv live k)
              (λ z. absurd (let y : ◌≡◌ {A = ℕ} 0 1 = cc in omega arith)))

      pub seek_found : number lead ≤ e / role_unit → Begins t (spot i₀ q₀) found
      unfolding number
      seek_found h = record {
        exact = sym (here ∙ by_letter q i p b (drop (i + 1) t) e ee l h);
        none = λ k. absurd (omega arith);
        some = λ k. h;
        led = found_led;
        stop = found_stop;
        first = found_first;
        letter = found_letter;
      }

    -- an entry that begins a comment, which is a command
    module _ (l : deep ≤ e % role_unit) (n : e % role_unit ≡ stuck → ⊥) where
      abbrev r'' : Move
      r'' = record { state = e % role_unit - deep; depth = 1; mark = e / role_unit }

      deep_mv : Moved q 0 b r''
      deep_mv = record { goes = deep_is q b (e % role_unit) leads l n; mark = marks }

      is_head : e / role_unit ≡ number head
      is_head = marks ∙ comment_head q b g.fit.state hb (subst (λ (x : ℕ). deep ≤ x) leads l) (λ k. n (leads ∙ k))

      ranged : e % role_unit < 256
      ranged = omega arith

      deep_live : r''.state ≡ stuck → ⊥
      deep_live k = let h = ranged in omega arith

      pub comment_state : e % role_unit - deep < state_count
      comment_state = below r'' deep_mv deep_live

      abbrev commented : ℕ → Begun
      commented j = record { mark = e / role_unit; byte = b; at = i; place = i; to = spot j (e % role_unit - deep) }

      pub seek_comment : (j : ℕ) → Closes t (e % role_unit - deep) (i + 1) j → Begins t (spot i₀ q₀) (commented j)
      unfolding number pieces
      seek_comment j c =
          let m = is_head in
          let f = g.from in
          let a = c.ahead in
          record {
            exact = sym (here ∙ by_comment q i p b (drop (i + 1) t) e ee l n ∙ ap (λ (k : ℕ). commented k) (sym c.exact));
            none = λ k. absurd (omega arith);
            some = λ k. omega arith;
            led = λ k. absurd (omega arith);
            stop = λ k. absurd (omega arith);
            letter = λ k. absurd (omega arith);
            first = λ k. record {
              is = on_role r'' deep_mv deep_live head m ∙ ap (λ (xs : List Piece). First i b ∷ xs) c.on;
              small = hb;
              ahead = omega arith;
              fit = record { within = c.within; state = comment_state };
              crosses = stays r'' deep_mv deep_live (λ z. omega arith);
              stops = λ z. absurd (let y : ◌≡◌ {A = ℕ} 0 1 = cc in omega arith);
            };
          }
