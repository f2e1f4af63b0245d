-- The recogniser's verdict is right: from any state, and so from the start.
-- Assumes nothing.
use mathlib.Core.Path.{◌≡◌, refl, sym, ap, ◌∙◌, subst}
use mathlib.Core.Bool.{Bool, true, false, ◌&&◌}
use mathlib.Core.List.{List, [], ◌∷◌, ◌++◌, append_assoc}
use Prim.Native.Nat.{ℕ, zero, suc, ◌+◌, ◌≤◌, ◌<◌, zero-le, suc-le-suc}
use native.Mathlib.Nat.{not-suc-le-zero, le_of_suc-le-suc}
use native.Mathlib.Omega.{arith}
use borrow.Author.Tests.{eqb-true, eqb-false}
use lib.Dec.{T, eqb, eqb-suc-zero}
use lib.ListN.{length, get_or, take, drop, take-append-drop}
use lib.Seq.{take-take}
use Rattle.grammar.specs.Notation.{Letter}
use Rattle.grammar.specs.Tables.{state_count, stuck, accepting, letter}
use Rattle.grammar.specs.Steps.{choose, mode_after, role_of, verdict_of}
use Rattle.grammar.specs.Viable.{bytes, Grammatical, Viable, Judged}
use Rattle.grammar.proofs.Tests.{and_left, and_right, and_both}
use Rattle.grammar.proofs.Derivatives.{Choice, Items}
use Rattle.grammar.proofs.Items.{final, final_sound, final_complete}
use Rattle.grammar.proofs.Fitting.{deepen}
use Rattle.grammar.proofs.Automaton.{label, Lang, step_to, step_back, step_range, accepts, deepen_zero, live, start_to, start_back}
use Rattle.std.specs.Prelude.{Err, Ok, Result}

byte-nil : {a : ℕ} {w : List ℕ} → ◌≡◌ {A = List ℕ} [] (a ∷ w) → ⊥
byte-nil e = let z : ◌≡◌ {A = ℕ} 0 1 = cc in omega arith

byte_head : {a b : ℕ} {u v : List ℕ} → ◌≡◌ {A = List ℕ} (a ∷ u) (b ∷ v) → a ≡ b
byte_head e = cc

byte_tail : {a b : ℕ} {u v : List ℕ} → ◌≡◌ {A = List ℕ} (a ∷ u) (b ∷ v) → u ≡ v
byte_tail e = cc

nil_of : (m : List Letter) → bytes m ≡ [] → m ≡ []
nil_of [] e = refl
nil_of (l ∷ m) e = absurd (byte-nil (sym e))

-- the bytes of a state and a depth: those that some roles make its letters
abbrev pub Plain : ℕ → ℕ → List ℕ → Type 0
Plain q d w = (m : List Letter) × (bytes m ≡ w) × Lang q d m

module _ (q a : ℕ) (hq : q < state_count) (ha : a < 256) (d : ℕ) (x : List ℕ) where
  abbrev Next : ℕ → Type 0
  Next b = ((mode_after q d b).state < state_count) × Plain (mode_after q d b).state (mode_after q d b).depth x

  pub plain_to : Plain q d (a ∷ x) → Next a
  plain_to p = go p.0 p.1 p.2
    where
      go : (m : List Letter) → bytes m ≡ a ∷ x → Lang q d m → Next a
      go [] e k = absurd (byte-nil e)
      go (l ∷ m) e k =
          let n = step_to q l.byte hq (subst (λ (b : ℕ). b < 256) (sym (byte_head e)) ha) d l.role k in
          let out : Next l.byte = (n.state, (m, byte_tail e, n.texts)) in
          subst Next (byte_head e) out

  pub plain_back : ((mode_after q d a).state ≡ stuck → ⊥) → Plain (mode_after q d a).state (mode_after q d a).depth x → Plain q d (a ∷ x)
  plain_back n p = (letter a (role_of q d a) ∷ p.0, ap (λ (w : List ℕ). a ∷ w) p.1, step_back q a hq ha d n p.2)

pub plain_live : (q d : ℕ) → q < state_count → (z : List ℕ) × Plain q d z
plain_live q d h = let p = live q d h in (bytes p.0, (p.0, refl, p.1))

pub plain-start : {w : List ℕ} → Grammatical w → Plain 0 0 w
plain-start g = (g.0, g.1.reads, start_to g.1.rule)

pub plain_end : {w : List ℕ} → Plain 0 0 w → Grammatical w
plain_end p = (p.0, record { reads = p.1; rule = start_back p.2 })

pub plain-nil : (q d : ℕ) → Lang q d [] → Plain q d []
plain-nil q d m = ([], refl, m)

pub plain-nil-back : (q d : ℕ) → Plain q d [] → Lang q d []
plain-nil-back q d p = subst (λ (m : List Letter). Lang q d m) (nil_of p.0 p.1) p.2

-- a text of bytes
abbrev pub Bytes : List ℕ → Type 0
Bytes w = (i : ℕ) → get_or w i 0 < 256

-- from state q and depth d, at place n, the text w goes on for j bytes to place m and no further
pub record Stuck (q d : ℕ) (w : List ℕ) (n m : ℕ) : Type 0 where
  pub far : ℕ
  pub place : m ≡ n + far
  pub within : far ≤ length w
  pub fails : Plain q d w → ⊥
  pub viable : (z : List ℕ) × Plain q d (take far w ++ z)
  pub longest : far < length w → (z : List ℕ) → Plain q d (take (suc far) w ++ z) → ⊥

abbrev pub Right : ℕ → ℕ → List ℕ → ℕ → Result Unit ℕ → Type 0
Right q d w n (Ok _) = Plain q d w
Right q d w n (Err m) = Stuck q d w n m

pub final_deep : (e : ℕ) (is : Choice) → T (final (deepen (suc e) is)) → ⊥
final_deep e [] t = t
final_deep e (i ∷ is) t = final_deep e is t

-- at the end of the text
ended : (q d n : ℕ) → q < state_count → (b : Bool) → (T b → Plain q d []) → (Plain q d [] → T b) → Right q d [] n (choose b (Ok tt) (Err n))
ended q d n h true f g = f tt
ended q d n h false f g = record {
  far = 0;
  place = omega arith;
  within = zero-le;
  fails = g;
  viable = plain_live q d h;
  longest = λ l. absurd (not-suc-le-zero l);
}

-- at a byte that no text has there
stopped : (q d n a : ℕ) (w : List ℕ) → q < state_count → a < 256 → (mode_after q d a).state ≡ stuck → Stuck q d (a ∷ w) n n
stopped q d n a w hq ha e =
    let dead : (x : List ℕ) → Plain q d (a ∷ x) → ⊥ = λ x m. let p = plain_to q a hq ha d x m in omega (arith, p.0) in
    record { far = 0; place = omega arith; within = zero-le; fails = dead w; viable = plain_live q d hq; longest = λ l z m. dead z m }

-- at a byte that goes on
moved : (q d n a : ℕ) (w : List ℕ) → q < state_count → a < 256 → ((mode_after q d a).state ≡ stuck → ⊥) → (v : Result Unit ℕ)
    → Right (mode_after q d a).state (mode_after q d a).depth w (n + 1) v → Right q d (a ∷ w) n v
moved q d n a w hq ha e (Ok _) m = plain_back q a hq ha d _ e m
moved q d n a w hq ha e (Err m) s = record {
  far = suc s.far;
  place = omega (arith, s.place);
  within = suc-le-suc s.within;
  fails = λ k. s.fails (plain_to q a hq ha d _ k).1;
  viable = (s.viable.0, plain_back q a hq ha d _ e s.viable.1);
  longest = λ l z k. s.longest (le_of_suc-le-suc l) z (plain_to q a hq ha d _ k).1;
}

at_end : (q d n : ℕ) → q < state_count → Right q d [] n (choose (eqb q accepting && eqb d 0) (Ok tt) (Err n))
at_end q zero n h =
    ended q 0 n h (eqb q accepting && true)
    (λ t. plain-nil q 0 (subst (λ (is : Choice). Items is []) (sym (deepen_zero (label q))) (final_sound (label q) (subst T (sym (accepts q h)) (and_left (eqb q accepting) true t)))))
    (λ m. and_both (eqb q accepting) true (subst T (accepts q h) (final_complete (subst (λ (is : Choice). Items is []) (deepen_zero (label q)) (plain-nil-back q 0 m)))) tt)
at_end q (suc e) n h =
    ended q (suc e) n h (eqb q accepting && eqb (suc e) 0) (λ t. absurd (subst T (eqb-suc-zero e) (and_right (eqb q accepting) (eqb (suc e) 0) t)))
    (λ m. absurd (final_deep e (label q) (final_complete (plain-nil-back q (suc e) m))))

at_byte : (q d n a : ℕ) (w : List ℕ) → q < state_count → a < 256 → (v : Result Unit ℕ)
    → (((mode_after q d a).state ≡ stuck → ⊥) → Right (mode_after q d a).state (mode_after q d a).depth w (n + 1) v)
    → (b : Bool) → eqb (mode_after q d a).state stuck ≡ b → Right q d (a ∷ w) n (choose b (Err n) v)
at_byte q d n a w hq ha v f true e = stopped q d n a w hq ha (eqb-true _ stuck e)
at_byte q d n a w hq ha v f false e = moved q d n a w hq ha (eqb-false _ stuck e) v (f (eqb-false _ stuck e))

pub right : (w : List ℕ) (q d n : ℕ) → q < state_count → Bytes w → Right q d w n (verdict_of q d n w)
unfolding verdict_of
right [] q d n h b = at_end q d n h
right (a ∷ w) q d n h b =
    at_byte q d n a w h (b 0) (verdict_of (mode_after q d a).state (mode_after q d a).depth (n + 1) w)
    (λ e. right w (mode_after q d a).state (mode_after q d a).depth (n + 1) (step_range q a h (b 0) d e) (λ i. b (suc i)))
    (eqb (mode_after q d a).state stuck)
    refl

-- a prefix of a viable text is viable
pub shorter : (t : List ℕ) (k m : ℕ) → k ≤ m → Viable (take m t) → Viable (take k t)
shorter t k m h v =
    let rest = drop k (take m t) in
    let e : take m t ≡ take k t ++ rest = sym (take-append-drop k (take m t)) ∙ ap (λ (l : List ℕ). l ++ rest) (take-take k m t h) in
    (rest ++ v.0, subst Grammatical (ap (λ (l : List ℕ). l ++ v.0) e ∙ append_assoc (take k t) rest v.0) v.1)

answer : (t : List ℕ) (v : Result Unit ℕ) → Right 0 0 t 0 v → Judged t v
answer t (Ok _) m = plain_end m
answer t (Err m) s =
    let e : s.far ≡ m = omega (arith, s.place) in
    let over : (k : ℕ) → m < k → k ≤ length t → Viable (take k t) → ⊥ = λ k l h v.
    let g = shorter t (suc s.far) k (omega arith) v in s.longest (omega arith) g.0 (plain-start g.1)
    in (
      λ g. s.fails (plain-start g),
      record {
        within = subst (λ (j : ℕ). j ≤ length t) e s.within;
        viable = subst (λ (j : ℕ). Viable (take j t)) e (s.viable.0, plain_end s.viable.1);
        longest = λ k h v. let n : ¬ (m < k) = λ l. over k l h v in omega arith;
      },
    )

pub judged : (t : List ℕ) → Bytes t → Judged t (verdict_of 0 0 0 t)
judged t b = answer t (verdict_of 0 0 0 t) (right t 0 0 0 (omega arith) b)

pub settled : (t : List ℕ) → Bytes t → (v w : Result Unit ℕ) → w ≡ v → w ≡ verdict_of 0 0 0 t → Judged t v
settled t b v w e f = subst (Judged t) (sym f ∙ e) (judged t b)
