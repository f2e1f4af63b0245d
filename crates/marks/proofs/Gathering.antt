-- The pass of `gather`: what each command brings, told from what is written of it, whatever else is wrong with it; so 19 is found in text order.
-- Assumes nothing.
use Rattle.std.specs.Prelude.{Option, Some, None, Result, Ok, Err}
use mathlib.Core.Path.{◌≡◌, refl, sym, ap, ◌∙◌, subst}
use mathlib.Core.Bool.{Bool, true, false}
use mathlib.Core.List.{List, [], ◌∷◌, map}
use mathlib.Core.Option.{none, some}
use Prim.Native.Nat.{ℕ, ◌≤◌, ◌<◌}
use native.Mathlib.Omega.{arith}
use borrow.Author.Tests.{lt-ltb, le-ltb, eqb-false}
use lib.IntN.{ℤ, pos, nat_abs}
use lib.ListN.{length, get_or}
use lib.Seq.{sets, length-sets}
use Rattle.grammar.specs.Notation.{Letter}
use Rattle.grammar.specs.Viable.{Marked}
use Rattle.grammar.proofs.Markings.{one_marking}
use Rattle.definition.specs.Limits.{most_layers}
use Rattle.definition.specs.Words.{Placed, at}
use Rattle.definition.specs.declared.Rule.TheVariants.{TooManyLayers}
use Rattle.definition.specs.Rules.{refuse}
use Rattle.definition.specs.Commands.{Command, layer, commands}
use Rattle.definition.specs.Summary.{Names, names_after, names_from, layer_names, too_many_from}
use Rattle.names.specs.Names.{packed}
use Rattle.pen.proofs.Names.{a_name, name_back}
use Rattle.pieces.specs.Pieces.{stream, Fit}
use Rattle.pieces.specs.Pieces.{start as text_start}
use Rattle.pieces.specs.declared.Spot.{Spot}
use Rattle.pieces.specs.declared.Piece.{Piece}
use Rattle.pieces.specs.declared.Piece.TheVariants.{Word}
use Rattle.pieces.proofs.Spots.{start-pieces}
use Rattle.rules.specs.Letters.{letter_l, first_unit}
use Rattle.rules.specs.Written.{Written, written, letters, last_of, last_letter, packed_by}
use Rattle.commands.specs.declared.Decoded.{Decoded}
use Rattle.commands.specs.Words.{widest, held, word, letter_words, body_of, closing, words_of, kind_by, DecodedOne, ReadsCommand}
use Rattle.reading.proofs.Says.{tells, Says, a_polygon, a_box, a_turned_box, a_flash, a_wire, a_layer, a_call, a_start, a_scaled-start, a_finish, a_deletion, a_nothing, AllSay, none_said, one_said}
use Rattle.reading.proofs.AllSay.{all_say}
use Rattle.reading.proofs.Packed.{packed-most}
use Rattle.marks.specs.declared.Names.{Names as Run}
use Rattle.marks.specs.Noted.{Known, Noted, Notes, Gathers}
use Rattle.marks.proofs.Marking.{noted-after, one_too_many}

-- ---- one command

-- the kind of a command is L where it is an L command, and else it brings no name
pub record Layer (c : Written) (d : Placed Command) : Type 0 where
  pub name : List ℕ
  pub known : Known name
  pub is : d ≡ at c.place (layer name)
  pub third : (ws : List ℤ) → 3 ≤ length ws → get_or (sets ws 0 (words_of 1 1 c)) 2 (pos 0) ≡ pos (packed name)

third_set : (ws : List ℤ) (x y z : ℤ) → 3 ≤ length ws → get_or (sets ws 0 (x ∷ y ∷ z ∷ [])) 2 (pos 0) ≡ z
third_set [] x y z h = absurd (omega arith)
third_set (a ∷ []) x y z h = absurd (omega arith)
third_set (a ∷ b ∷ []) x y z h = absurd (omega arith)
third_set (a ∷ b ∷ d ∷ ws) x y z h = refl

letters_of : (l : List ℕ) → letters (map Word l) ≡ l
unfolding letters
letters_of [] = refl
letters_of (b ∷ l) = ap (λ (m : List ℕ). b ∷ m) (letters_of l)

no_body : (l : List ℕ) (w : ℕ) → body_of 1 1 letter_l w 0 (map Word l) ≡ []
unfolding body_of letter_words
no_body [] w = refl
no_body (b ∷ l) w = no_body l b

fits_word : (n : ℕ) → n ≤ widest → word false n ≡ pos n
unfolding word held
fits_word n h = rw (le-ltb widest n h) refl

pub is_named : {c : Written} {d : Placed Command} → Says c d → kind_by c.letter (last_letter c) ≡ letter_l → Layer c d
unfolding letters last_of
is_named (a_layer {p} {l} letter n) e = record {
  name = l;
  known = record { some_letter = letter; back = name_back l (a_name l n.short n.chars) };
  is = refl;
  third = λ ws h. third ws h;
}
  where
    w : Written
    w = record { place = p; letter = letter_l; items = map Word l; stopped = true }

    last : packed_by first_unit (letters (map Word l)) ≡ packed l
    last = unfold packed in ap (packed_by first_unit) (letters_of l)

    third : (ws : List ℤ) → 3 ≤ length ws → get_or (sets ws 0 (words_of 1 1 w)) 2 (pos 0) ≡ pos (packed l)
    third ws h = unfold words_of closing in
        rw (no_body l 0) (third_set ws _ _ (word false (packed_by first_unit (letters (map Word l)))) h ∙ (ap (word false) last ∙ fits_word (packed l) (unfold packed in packed-most l n)))
is_named (a_polygon g h) e = absurd (omega (arith, e))
is_named (a_box x y z w) e = absurd (omega (arith, e))
is_named (a_turned_box x y z w u v) e = absurd (omega (arith, e))
is_named (a_flash x y z) e = absurd (omega (arith, e))
is_named (a_wire x g h) e = absurd (omega (arith, e))
is_named (a_call x g) e = absurd (omega (arith, e))
is_named (a_start (tells i α v)) e = absurd (omega (arith, e))
is_named (a_scaled-start (tells i α v) (tells j τ w) (tells k υ x)) e = absurd (omega (arith, e))
is_named a_finish e = absurd (omega (arith, e))
is_named (a_deletion (tells i α v)) e = absurd (omega (arith, e))
is_named (a_nothing {b = b} i) e = absurd (eqb-false b letter_l i.not_L (sym (rw i.not_D refl) ∙ e))

pub not_named : {c : Written} {d : Placed Command} → Says c d → (kind_by c.letter (last_letter c) ≡ letter_l → ⊥) → (ns : Names) → names_after ns d.what ≡ ns
unfolding names_after
not_named (a_layer letter n) e ns = absurd (e refl)
not_named (a_polygon g h) e ns = refl
not_named (a_box x y z w) e ns = refl
not_named (a_turned_box x y z w u v) e ns = refl
not_named (a_flash x y z) e ns = refl
not_named (a_wire x g h) e ns = refl
not_named (a_call x g) e ns = refl
not_named (a_start x) e ns = refl
not_named (a_scaled-start x y z) e ns = refl
not_named a_finish e ns = refl
not_named (a_deletion x) e ns = refl
not_named (a_nothing i) e ns = refl

-- what `read_command` answers
pub read_as : {t : List ℕ} {spot : Spot} {a b : ℕ} {ws ws' : List ℤ} {r : Option Decoded} → ReadsCommand t spot a b ws r ws' → {d : Decoded} → r ≡ Some d
    → (c : Written) × DecodedOne t spot a b c ws d.kind d.place d.end d.to ws'
read_as {t} {spot} {a} {b} {ws} {ws'} x e = subst (λ (r : Option Decoded). ReadsCommand t spot a b ws r ws') e x

-- ---- between two commands

pub record Gathering (t : List ℕ) (run : Run) (words : List ℤ) (spot : Spot) : Type 0 where
  pub letters : List Letter
  pub is_marked : Marked t letters
  pub names : Names
  pub rest : List (Placed Command)
  pub say : AllSay (written (stream t spot)) rest
  pub noted : Noted run.numbers run.count names
  pub names_left : names_from names rest ≡ layer_names (commands 0 letters)
  pub stop-left : too_many_from names rest ≡ too_many_from [] (commands 0 letters)
  pub fit : Fit t spot
  pub three : length words ≡ 3

none_noted : (run : List ℕ) → length run ≡ most_layers → Noted run 0 []
none_noted run e = record {
  sized = e;
  many = refl;
  few = omega arith;
  numbers = λ i h. absurd (omega (arith, h));
  known = λ i h. absurd (omega (arith, h));
  apart = λ i j h. absurd (omega (arith, h));
}

pub gather_begin : {t : List ℕ} {m : List Letter} (run : List ℕ) (words : List ℤ) → Marked t m → length run ≡ most_layers → length words ≡ 3
    → Gathering t (record { numbers = run; count = 0 }) words text_start
gather_begin {t} {m} run words k e h = record {
  letters = m;
  is_marked = k;
  names = [];
  rest = commands 0 m;
  say = subst (λ (xs : List Piece). AllSay (written xs) (commands 0 m)) (sym (start-pieces k)) (all_say k);
  noted = none_noted run e;
  names_left = refl;
  stop-left = refl;
  fit = record { within = omega arith; state = omega arith };
  three = h;
}

record First (c : Written) (cs : List Written) (ds : List (Placed Command)) : Type 0 where
  command : Placed Command
  rest : List (Placed Command)
  are : ds ≡ command ∷ rest
  says : Says c command
  later : AllSay cs rest

first_said : {c : Written} {cs : List Written} {ds : List (Placed Command)} → AllSay (c ∷ cs) ds → First c cs ds
first_said (one_said {d = d} {ds = ds} s r) = record { command = d; rest = ds; are = refl; says = s; later = r }

none_left : {ds : List (Placed Command)} → AllSay [] ds → ds ≡ []
none_left none_said = refl

from_next : (ns : Names) (d : Placed Command) (ds : List (Placed Command)) → names_from ns (d ∷ ds) ≡ names_from (names_after ns d.what) ds
unfolding names_from
from_next ns d ds = refl

from_end : (ns : Names) → names_from ns [] ≡ ns
unfolding names_from
from_end ns = refl

stop_end : (ns : Names) → too_many_from ns [] ≡ none
unfolding too_many_from
stop_end ns = refl

-- a command that goes by, and one that brings a 65th name
stop-next : (ns : Names) (d : Placed Command) (ds : List (Placed Command)) → length (names_after ns d.what) ≤ most_layers → too_many_from ns (d ∷ ds) ≡ too_many_from (names_after ns d.what) ds
unfolding too_many_from
stop-next ns d ds h = rw (le-ltb most_layers (length (names_after ns d.what)) h) refl

stop-here : (ns : Names) (d : Placed Command) (ds : List (Placed Command)) → most_layers < length (names_after ns d.what) → too_many_from ns (d ∷ ds) ≡ some (refuse TooManyLayers d.place)
unfolding too_many_from
stop-here ns d ds h = rw (lt-ltb most_layers (length (names_after ns d.what)) h) refl

module _ {t : List ℕ} {run : Run} {words : List ℤ} {spot : Spot} (u : Gathering t run words spot) where
  -- no command is left
  pub gather_out : (r : Option Decoded) (words' : List ℤ) → ReadsCommand t spot 1 1 words r words' → r ≡ None → Gathers (commands 0 u.letters) (Ok run)
  unfolding Gathers
  gather_out r words' x e =
      let none_written : written (stream t spot) ≡ [] = (subst (λ (r : Option Decoded). ReadsCommand t spot 1 1 words r words') e x).0 in
      let over : u.rest ≡ [] = none_left (subst (λ (cs : List Written). AllSay cs u.rest) none_written u.say) in (
        subst (Noted run.numbers run.count) (sym (ap (names_from u.names) over ∙ from_end u.names) ∙ u.names_left) u.noted,
        sym u.stop-left ∙ (ap (too_many_from u.names) over ∙ stop_end u.names),
      )

  module _ {c : Written} {kind place n : ℕ} {to : Spot} {words' : List ℤ} (r : DecodedOne t spot 1 1 c words kind place n to words') where
    abbrev first : First c (written (stream t to)) u.rest
    first = first_said (subst (λ (cs : List Written). AllSay cs u.rest) r.is u.say)

    three_then : length words' ≡ 3
    three_then = ap length r.tells.laid ∙ (length-sets words 0 (words_of 1 1 c) ∙ u.three)

    -- what is left after it
    goes_on : {run' : Run} → Noted run'.numbers run'.count (names_after u.names first.command.what) → Gathering t run' words' to
    goes_on x = record {
      letters = u.letters;
      is_marked = u.is_marked;
      names = names_after u.names first.command.what;
      rest = first.rest;
      say = first.later;
      noted = x;
      names_left = sym (ap (names_from u.names) first.are ∙ from_next u.names first.command first.rest) ∙ u.names_left;
      stop-left =
          sym (ap (too_many_from u.names) first.are ∙ stop-next u.names first.command first.rest (omega (arith, x.many, x.few)))
          ∙ u.stop-left;
      fit = r.fit;
      three = three_then;
    }

    pub gather_other : (kind ≡ letter_l → ⊥) → Gathering t run words' to
    gather_other e = goes_on (subst (Noted run.numbers run.count) (sym (not_named first.says (λ f. e (r.tells.kind ∙ f)) u.names)) u.noted)

    module _ (e : kind ≡ letter_l) where
      abbrev layered : Layer c first.command
      layered = is_named first.says (sym r.tells.kind ∙ e)

      third_is : nat_abs (get_or words' 2 (pos 0)) ≡ packed layered.name
      third_is = ap nat_abs (ap (λ (ws : List ℤ). get_or ws 2 (pos 0)) r.tells.laid ∙ layered.third words (omega (arith, u.three)))

      is_layer : first.command.what ≡ layer layered.name
      is_layer = ap (λ (d : Placed Command). d.what) layered.is

      module _ {v : ℕ} (q : v ≡ nat_abs (get_or words' 2 (pos 0))) {had : Bool} {run' : Run} (x : Notes run v had run') where
        pub gather_layer : had ≡ true → Gathering t run' words' to
        gather_layer h =
            goes_on (subst (λ (d : Command). Noted run'.numbers run'.count (names_after u.names d)) (sym is_layer) (noted-after u.noted layered.known.back (q ∙ third_is) layered.known.some_letter x h))

        pub gather_over : had ≡ false → Gathers (commands 0 u.letters) (Err place)
        unfolding Gathers
        gather_over h =
            sym u.stop-left
            ∙ (ap (too_many_from u.names) first.are
            ∙ (stop-here u.names first.command first.rest
            (subst (λ (d : Command). most_layers < length (names_after u.names d)) (sym is_layer) (one_too_many u.noted layered.known.back (q ∙ third_is) x h))
            ∙ ap (λ (p : ℕ). some (refuse TooManyLayers p)) (ap (λ (d : Placed Command). d.place) layered.is ∙ sym r.tells.place)))

-- whatever letters the text is read as, they are these
pub any_marking : {t : List ℕ} {m : List Letter} (g : Result Run ℕ) → Marked t m → Gathers (commands 0 m) g → (n : List Letter) → Marked t n → Gathers (commands 0 n) g
any_marking g k h n j = subst (λ (x : List Letter). Gathers (commands 0 x) g) (one_marking k j) h
