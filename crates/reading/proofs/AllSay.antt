-- Every command of a grammatical text says the definition's: command by command, from the productions.
-- Assumes nothing.
use Rattle.std.specs.Prelude.{if◌then◌else◌}
use mathlib.Core.Path.{◌≡◌, refl, sym, ap, subst}
use mathlib.Core.Bool.{Bool, true, false, not}
use mathlib.Core.List.{List, [], ◌∷◌, ◌++◌, map, append-nil}
use Prim.Native.Nat.{ℕ, ◌+◌, ◌≤◌, ◌<◌}
use native.Mathlib.Omega.{arith}
use lib.Dec.{T, eqb, eqb→eq, leb, leb→le}
use lib.ListN.{length}
use Rattle.grammar.specs.Notation.{Class, Role, Letter, Expression, Match, has, Digit, lpar, rpar, 'B', 'C', 'D', 'E', 'F', 'L', 'P', 'R', 'S', 'W', comment_text, dec, Role-discrete}
use Rattle.grammar.specs.Notation.{is as matches}
use Rattle.grammar.specs.Notation.{skip, head, second, turn, axis, sign, lead, later, name, stop}
use Rattle.grammar.specs.Notation.{one, ◌▹◌, many, option, char, both, left, right, none, more, absent, present}
use Rattle.grammar.specs.Productions.{blank, sep, semi, shortname, integer, path, transformation, prim_command, def_delete_command, def_finish_command, def_start_command, command, cif_file, comment_command, user_text}
use Rattle.grammar.specs.Productions.{point as point_rule}
use Rattle.grammar.specs.Viable.{Marked}
use Rattle.grammar.proofs.Tests.{and_right}
use Rattle.definition.specs.Words.{Placed, at}
use Rattle.definition.specs.Commands.{Command}
use Rattle.definition.specs.Commands.{worth, paired, command_at, commands}
use Rattle.laws.proofs.Lists.Range.{All}
use Rattle.laws.proofs.FlatFile.Spelling.{NameChar}
use Rattle.laws.proofs.Commands.Ordered.{everywhere, role_of, byte_of, other, item_of}
use Rattle.pieces.specs.Pieces.{digit_of, place_after, with_piece, pieces}
use Rattle.pieces.specs.declared.Piece.{Piece}
use Rattle.pieces.specs.declared.Piece.TheVariants.{Word}
use Rattle.rules.specs.Written.{Written, written, written_at}
use Rattle.reading.proofs.Tokens.{Token, figure, seconded, tokens, ByRole, Closed, pieces_of, items_are, stops_are}
use Rattle.reading.proofs.Tokens.{figures_of, names_of, seek, turn_by, turns_of, command_by, command_of, command_is}
use Rattle.reading.proofs.Says.{tells, Points, no_points, a_point, Turns, no_turns, a_shift, a_mirror_x, a_mirror_y, a_rotation, Idle, wrote, Says, a_polygon, a_box, a_turned_box, a_flash, a_wire, a_layer, a_call, a_start, a_scaled-start, a_finish, a_deletion, a_nothing, AllSay, none_said, one_said}
use Rattle.reading.proofs.Productions.{Then, then_number, End, Pairs, no_pairs, a_pair, Transformed, unturned, shifted, flipped_x, flipped_y, rotated, Spelt, no_name, a_name, Layered, layered, Boxed, straight, aimed, Seconds, seconds, pairs_of, Reaches, in_turn, a_letter, silent, by_role, passing, blanks, integer_on, sep_on, sep-integer, point_on, sep-point, path_on, byte_is, transformation_on, shortname_on}

-- ---- tokens say a command

abbrev whole : ℕ → ℕ → List Token → Written
whole n b ts = wrote n b (pieces_of ts) true

abbrev Saying : ℕ → ℕ → List Token → Type 0
Saying n b ts = Says (whole n b ts) (at n (command_of n b ts))

paired-says : {ts : List Token} → Pairs ts → Points (pieces_of ts) (paired (figures_of ts))
unfolding figures_of paired
paired-says no_pairs = no_points
paired-says (a_pair p σ v q τ w r) = a_point (tells p σ v) (tells q τ w) (paired-says r)

paired_some : {ts : List Token} → Then (Then Pairs) ts → 0 < length (paired (figures_of ts))
unfolding figures_of paired
paired_some (then_number p σ v (then_number q τ w r)) = omega arith

turns_say : {ts : List Token} → Transformed ts → Turns (pieces_of ts) (turns_of ts)
unfolding figures_of turns_of turn_by seek has Rattle.grammar.specs.Notation.dec
turns_say unturned = no_turns
turns_say (shifted n p σ v q τ w r) = a_shift (tells p σ v) (tells q τ w) (turns_say r)
turns_say (flipped_x n r) = a_mirror_x (turns_say r)
turns_say (flipped_y n r) = a_mirror_y (turns_say r)
turns_say (rotated n p σ v q τ w r) = a_rotation (tells p σ v) (tells q τ w) (turns_say r)

record Spelling (k : ℕ) (ts : List Token) : Type 0 where
  words : pieces_of ts ≡ map Word (names_of ts)
  short : length (names_of ts) ≤ k
  chars : All NameChar (names_of ts)

spelling : {k : ℕ} {ts : List Token} → Spelt k ts → Spelling k ts
unfolding names_of All
spelling no_name = record { words = refl; short = omega arith; chars = tt }
spelling (a_name {k} {b} h s) =
    let r = spelling s in
    record { words = ap (λ (x : List Piece). Word b ∷ x) r.words; short = omega (arith, r.short); chars = (h, r.chars) }

-- by the first letter
module _ (n : ℕ) where
  polygon_says : (ts : List Token) → Then (Then Pairs) ts → Saying n 80 ts
  unfolding command_by has
  polygon_says ts k = a_polygon (paired-says (pairs_of k)) (paired_some k)

  box_says : (ts : List Token) → Then (Then (Then (Then Boxed))) ts → Saying n 66 ts
  unfolding command_by figures_of has
  box_says ts (then_number p σ v (then_number q τ w (then_number r υ x (then_number s φ y k)))) = go k
    where
      go : {us : List Token} → Boxed us → Saying n 66 (figure p σ v ∷ figure q τ w ∷ figure r υ x ∷ figure s φ y ∷ us)
      go (straight e) = rw e (a_box (tells p σ v) (tells q τ w) (tells r υ x) (tells s φ y))
      go (aimed (then_number i α a (then_number j β b e))) =
          rw e (a_turned_box (tells p σ v) (tells q τ w) (tells r υ x) (tells s φ y) (tells i α a) (tells j β b))

  flash_says : (ts : List Token) → Then (Then (Then End)) ts → Saying n 82 ts
  unfolding command_by figures_of has
  flash_says ts (then_number p σ v (then_number q τ w (then_number r υ x e))) = rw e (a_flash (tells p σ v) (tells q τ w) (tells r υ x))

  wire_says : (ts : List Token) → Then (Then (Then Pairs)) ts → Saying n 87 ts
  unfolding command_by figures_of has
  wire_says ts (then_number p σ v k) = a_wire (tells p σ v) (paired-says (pairs_of k)) (paired_some k)

  layer-says : (ts : List Token) → Layered ts → Saying n 76 ts
  unfolding command_by names_of has All
  layer-says ts (layered {b} {ts = us} h s) =
      let r = spelling s in
      rw r.words (a_layer {l = b ∷ names_of us} (omega arith) (record { short = omega (arith, r.short); chars = (h, r.chars) }))

  call-says : (ts : List Token) → Then Transformed ts → Saying n 67 ts
  unfolding command_by figures_of turns_of has
  call-says ts (then_number p σ v k) = a_call (tells p σ v) (turns_say k)

  start-says : (ts : List Token) → Seconds 83 (Then Boxed) ts → Saying n 68 ts
  unfolding command_by figures_of seek has Rattle.grammar.specs.Notation.dec
  start-says ts (seconds (then_number p σ v k)) = go k
    where
      go : {us : List Token} → Boxed us → Saying n 68 (seconded 83 ∷ figure p σ v ∷ us)
      go (straight e) = rw e (a_start (tells p σ v))
      go (aimed (then_number i α a (then_number j β b e))) = rw e (a_scaled-start (tells p σ v) (tells i α a) (tells j β b))

  finish-says : (ts : List Token) → Seconds 70 End ts → Saying n 68 ts
  unfolding command_by figures_of seek has Rattle.grammar.specs.Notation.dec
  finish-says ts (seconds e) = rw e a_finish

  deletion_says : (ts : List Token) → Seconds 68 (Then End) ts → Saying n 68 ts
  unfolding command_by figures_of seek has Rattle.grammar.specs.Notation.dec
  deletion_says ts (seconds (then_number p σ v e)) = rw e (a_deletion (tells p σ v))

  nothing-says : (b : ℕ) → Idle b → (ts : List Token) → End ts → Saying n b ts
  unfolding command_by has
  nothing-says b i ts e = rw (e, i.not_P, i.not_B, i.not_R, i.not_W, i.not_L, i.not_C, i.not_D) (a_nothing i)

-- ---- every command of a text says the definition's

-- a semicolon stands next, but for blanks
data Tail : List Letter → Type 0 where
  here : {l : Letter} {m : List Letter} → l.role ≡ stop → l.byte ≡ 59 → Tail (l ∷ m)
  past : {l : Letter} {m : List Letter} → l.role ≡ skip → Tail m → Tail (l ∷ m)

tail_closed : {m : List Letter} → Tail m → Closed m
unfolding Closed
tail_closed (here e b) = rw e b
tail_closed (past e t) = rw e (tail_closed t)

tail_ends : {m : List Letter} → Tail m → Reaches End m
unfolding tokens
tail_ends (here e b) n = rw e refl
tail_ends (past e t) n = rw e (tail_ends t (n + 1))

-- letters that neither begin nor end a command
calm : Role → Bool
calm skip = true
calm second = true
calm turn = true
calm axis = true
calm sign = true
calm lead = true
calm later = true
calm name = true
calm head = false
calm stop = false

abbrev Calm : Letter → Type 0
Calm l = T (calm l.role)

calm_by : (A B X : Type 0) (ρ : Role) → T (calm ρ) → X → ByRole ρ A B X
unfolding calm
calm_by A B X skip h x = x
calm_by A B X second h x = x
calm_by A B X turn h x = x
calm_by A B X axis h x = x
calm_by A B X sign h x = x
calm_by A B X lead h x = x
calm_by A B X later h x = x
calm_by A B X name h x = x
calm_by A B X head h x = absurd h
calm_by A B X stop h x = absurd h

calm_closed : (w m : List Letter) → All Calm w → Closed m → Closed (w ++ m)
unfolding All Closed
calm_closed [] m h k = k
calm_closed (l ∷ w) m h k = calm_by ⊥ (l.byte ≡ 59) (Closed (w ++ m)) l.role h.0 (calm_closed w m h.1 k)

-- each first letter has this
Opens : Letter → List Letter → Type 0
Opens l m = (n : ℕ) → Says (written_at n l.byte (pieces (n + 1) (n + 1) m)) (at n (command_at n l m))

abbrev HeadsBy : Role → Type 0 → Type 0 → Type 0
HeadsBy ρ X Y = ByRole ρ (X × Y) Y Y

Heads : List Letter → Type 0
Heads [] = Unit {0}
Heads (l ∷ m) = HeadsBy l.role (Opens l m) (Heads m)

begins : (l : Letter) (m : List Letter) → l.role ≡ head → Opens l m → Heads m → Heads (l ∷ m)
unfolding Heads
begins l m e o h = subst (λ (ρ : Role). HeadsBy ρ (Opens l m) (Heads m)) (sym e) (o, h)

ends : (l : Letter) (m : List Letter) → l.role ≡ stop → Heads m → Heads (l ∷ m)
unfolding Heads
ends l m e h = subst (λ (ρ : Role). HeadsBy ρ (Opens l m) (Heads m)) (sym e) h

heads_over : (w m : List Letter) → All Calm w → Heads m → Heads (w ++ m)
unfolding All Heads
heads_over [] m h k = k
heads_over (l ∷ w) m h k = calm_by (Opens l (w ++ m) × Heads (w ++ m)) (Heads (w ++ m)) (Heads (w ++ m)) l.role h.0 (heads_over w m h.1 k)

-- a command's first letter, before letters that say what Q says
opens : (l : Letter) (m : List Letter) → Closed m → ((n : ℕ) → Saying n l.byte (tokens (n + 1) (n + 1) m)) → Opens l m
unfolding Opens
opens l m k f n = rw (items_are m (n + 1) (n + 1), stops_are m k (n + 1) (n + 1), command_is n l m k) (f n)

-- commands that a class of first letters begins
module _ (k : Class) (r : Expression) (Q : List Token → Type 0) (t : T (everywhere (λ ρ c. calm ρ) r))
    (body : (w m : List Letter) → Match r w → Reaches End m → Reaches Q (w ++ m))
    (says : (n b : ℕ) (ts : List Token) → T (has k b) → Q ts → Saying n b ts) where
  headed : (w m : List Letter) → Match (one head k ▹ r) w → Tail m → Heads m → Heads (w ++ m)
  headed w m (both u v (char {a = a} h) n e) s g =
      let quiet : All Calm v = by_role calm n t in
      in_turn Heads u v m e
      (begins a (v ++ m) (role_of head k a h)
      (opens a (v ++ m) (calm_closed v m quiet (tail_closed s)) (λ i. says i a.byte _ (byte_of head k a h) (body v m n (tail_ends s) (i + 1))))
      (heads_over v m quiet g))

abbrev Tailed : Expression → Type 0
Tailed r = (w m : List Letter) → Match r w → Tail m → Heads m → Heads (w ++ m)

literal : (k : Class) (b : ℕ) (Q : List Token → Type 0) → ((x : ℕ) → T (has k x) → T (eqb x b)) → ((n : ℕ) (ts : List Token) → Q ts → Saying n b ts)
    → (n x : ℕ) (ts : List Token) → T (has k x) → Q ts → Saying n x ts
literal k b Q f g n x ts h q = subst (λ (y : ℕ). Saying n y ts) (sym (eqb→eq x b (f x h))) (g n ts q)

idle_of : (k : Class) → T (not (has k 80)) → T (not (has k 66)) → T (not (has k 82)) → T (not (has k 87)) → T (not (has k 76)) → T (not (has k 67)) → T (not (has k 68)) → T (not (has k 83)) → T (not (has k 70))
    → ((b : ℕ) → T (has k b) → b < 256) → (b : ℕ) → T (has k b) → Idle b
idle_of k p b r w l c d e f s x h = record {
  not_P = other k x 80 p h;
  not_B = other k x 66 b h;
  not_R = other k x 82 r h;
  not_W = other k x 87 w h;
  not_L = other k x 76 l h;
  not_C = other k x 67 c h;
  not_D = other k x 68 d h;
  not_S = other k x 83 e h;
  not_F = other k x 70 f h;
  small = s x h;
}

polygon_heads : Tailed (one head 'P' ▹ path)
unfolding everywhere calm has
polygon_heads = headed 'P' path (Then (Then Pairs)) tt (λ w m k f. path_on m (λ n. rw (f n) no_pairs) k) (literal 'P' 80 (Then (Then Pairs)) (λ x t. t) polygon_says)

boxed_on : (m : List Letter) → Reaches End m → {w : List Letter} → Match (option (sep ▹ point_rule)) w → Reaches Boxed (w ++ m)
boxed_on m f absent n = straight (f n)
boxed_on m f (present k) n = aimed (sep-point End m f k n)

box_body : (w m : List Letter) → Match (integer ▹ sep ▹ integer ▹ sep ▹ point_rule ▹ option (sep ▹ point_rule)) w → Reaches End m → Reaches (Then (Then (Then (Then Boxed)))) (w ++ m)
box_body w m (both u v k (both u₁ v₁ s (both u₂ v₂ k₂ (both u₃ v₃ s₃ (both u₄ v₄ k₄ o e₄) e₃) e₂) e₁) e) f =
    let B₂ = Then (Then Boxed) in
    let B₃ = Then B₂ in
    in_turn (Reaches (Then B₃)) u v m e (integer_on B₃ (v ++ m)
    (in_turn (Reaches B₃) u₁ v₁ m e₁ (sep_on B₃ (v₁ ++ m)
    (in_turn (Reaches B₃) u₂ v₂ m e₂ (integer_on B₂ (v₂ ++ m)
    (in_turn (Reaches B₂) u₃ v₃ m e₃ (sep_on B₂ (v₃ ++ m)
    (in_turn (Reaches B₂) u₄ v₄ m e₄ (point_on Boxed (v₄ ++ m) (boxed_on m f o) k₄)) s₃)) k₂)) s)) k)

box_heads : Tailed (one head 'B' ▹ integer ▹ sep ▹ integer ▹ sep ▹ point_rule ▹ option (sep ▹ point_rule))
unfolding everywhere calm has
box_heads = headed 'B' _ (Then (Then (Then (Then Boxed)))) tt box_body (literal 'B' 66 (Then (Then (Then (Then Boxed)))) (λ x t. t) box_says)

flash_heads : Tailed (one head 'R' ▹ integer ▹ sep ▹ point_rule)
unfolding everywhere calm has
flash_heads = headed 'R' _ (Then (Then (Then End))) tt body (literal 'R' 82 (Then (Then (Then End))) (λ x t. t) flash_says)
  where
    body : (w m : List Letter) → Match (integer ▹ sep ▹ point_rule) w → Reaches End m → Reaches (Then (Then (Then End))) (w ++ m)
    body w m (both u v k l e) f = in_turn (Reaches (Then (Then (Then End)))) u v m e (integer_on (Then (Then End)) (v ++ m) (sep-point End m f l) k)

wire_heads : Tailed (one head 'W' ▹ integer ▹ sep ▹ path)
unfolding everywhere calm has
wire_heads = headed 'W' _ (Then (Then (Then Pairs))) tt body (literal 'W' 87 (Then (Then (Then Pairs))) (λ x t. t) wire_says)
  where
    body : (w m : List Letter) → Match (integer ▹ sep ▹ path) w → Reaches End m → Reaches (Then (Then (Then Pairs))) (w ++ m)
    body w m (both u v k (both x y s l i) e) f =
        let P₂ = Then (Then Pairs) in
        in_turn (Reaches (Then P₂)) u v m e (integer_on P₂ (v ++ m) (in_turn (Reaches P₂) x y m i (sep_on P₂ (y ++ m) (path_on m (λ n. rw (f n) no_pairs) l) s)) k)

layer_heads : Tailed (one head 'L' ▹ many blank ▹ shortname)
unfolding everywhere calm has
layer_heads = headed 'L' _ Layered tt body (literal 'L' 76 Layered (λ x t. t) layer-says)
  where
    body : (w m : List Letter) → Match (many blank ▹ shortname) w → Reaches End m → Reaches Layered (w ++ m)
    body w m (both u v k l e) f = in_turn (Reaches Layered) u v m e (blanks Layered (v ++ m) (shortname_on m (λ n. rw (f n) no_name) l) k)

call_heads : Tailed (one head 'C' ▹ integer ▹ transformation)
unfolding everywhere calm has
call_heads = headed 'C' _ (Then Transformed) tt body (literal 'C' 67 (Then Transformed) (λ x t. t) call-says)
  where
    body : (w m : List Letter) → Match (integer ▹ transformation) w → Reaches End m → Reaches (Then Transformed) (w ++ m)
    body w m (both u v k l e) f = in_turn (Reaches (Then Transformed)) u v m e (integer_on Transformed (v ++ m) (transformation_on m (λ n. rw (f n) unturned) l) k)

-- a comment or a user extension
idle_heads : (k : Class) (r : Expression) → T (everywhere (λ ρ c. silent ρ) r) → T (everywhere (λ ρ c. calm ρ) r) → ((b : ℕ) → T (has k b) → Idle b) → Tailed (one head k ▹ r)
idle_heads k r t s i = headed k r End s (λ w m n f. passing End m f t n) (λ n b ts h q. nothing-says n b (i b h) ts q)

user_heads : Tailed (one head Digit ▹ user_text)
unfolding everywhere silent calm has
user_heads = idle_heads Digit user_text tt tt (idle_of Digit tt tt tt tt tt tt tt tt tt (λ b h. let l = leb→le b 57 (and_right (leb 48 b) (leb b 57) h) in omega arith))

comment_heads : Tailed comment_command
unfolding everywhere silent calm has
comment_heads = idle_heads lpar (comment_text ▹ one skip rpar) tt tt (idle_of lpar tt tt tt tt tt tt tt tt tt (λ b h. let e = eqb→eq b 40 h in omega arith))

prim_heads : Tailed prim_command
prim_heads w m (left k) = polygon_heads w m k
prim_heads w m (right (left k)) = box_heads w m k
prim_heads w m (right (right (left k))) = flash_heads w m k
prim_heads w m (right (right (right (left k)))) = wire_heads w m k
prim_heads w m (right (right (right (right (left k))))) = layer_heads w m k
prim_heads w m (right (right (right (right (right (left k)))))) = call_heads w m k
prim_heads w m (right (right (right (right (right (right (left k))))))) = user_heads w m k
prim_heads w m (right (right (right (right (right (right (right k))))))) = comment_heads w m k

-- D commands
second_on : (k : Class) (b : ℕ) (Q : List Token → Type 0) (m : List Letter) → ((x : ℕ) → T (has k x) → T (eqb x b)) → Reaches Q m → {w : List Letter} → Match (one second k) w → Reaches (Seconds b Q) (w ++ m)
second_on k b Q m g f (char {a = a} h) n = rw (a_letter second k a h m n n, byte_is second k b a g h) (seconds (f (n + 1)))

delete_heads : Tailed def_delete_command
unfolding everywhere calm has
delete_heads = headed 'D' _ (Seconds 68 (Then End)) tt body (literal 'D' 68 (Seconds 68 (Then End)) (λ x t. t) deletion_says)
  where
    body : (w m : List Letter) → Match (many blank ▹ one second 'D' ▹ integer) w → Reaches End m → Reaches (Seconds 68 (Then End)) (w ++ m)
    body w m (both u v k (both x y s l i) e) f =
        let S = Seconds 68 (Then End) in
        in_turn (Reaches S) u v m e (blanks S (v ++ m) (in_turn (Reaches S) x y m i (second_on 'D' 68 (Then End) (y ++ m) (λ x t. t) (integer_on End m f l) s)) k)

finish_heads : Tailed def_finish_command
unfolding everywhere calm has
finish_heads = headed 'D' _ (Seconds 70 End) tt body (literal 'D' 68 (Seconds 70 End) (λ x t. t) finish-says)
  where
    body : (w m : List Letter) → Match (many blank ▹ one second 'F') w → Reaches End m → Reaches (Seconds 70 End) (w ++ m)
    body w m (both u v k s e) f =
        let S = Seconds 70 End in
        in_turn (Reaches S) u v m e (blanks S (v ++ m) (second_on 'F' 70 End m (λ x t. t) f s) k)

scale_on : (m : List Letter) → Reaches End m → {w : List Letter} → Match (option (sep ▹ integer ▹ sep ▹ integer)) w → Reaches Boxed (w ++ m)
scale_on m f absent n = straight (f n)
scale_on m f (present (both u v s (both x y k l i) e)) n =
    aimed (in_turn (Reaches (Then (Then End))) u v m e (sep_on (Then (Then End)) (v ++ m) (in_turn (Reaches (Then (Then End))) x y m i (integer_on (Then End) (y ++ m) (sep-integer End m f l) k)) s) n)

start_heads : Tailed def_start_command
unfolding everywhere calm has
start_heads = headed 'D' _ (Seconds 83 (Then Boxed)) tt body (literal 'D' 68 (Seconds 83 (Then Boxed)) (λ x t. t) start-says)
  where
    body : (w m : List Letter) → Match (many blank ▹ one second 'S' ▹ integer ▹ option (sep ▹ integer ▹ sep ▹ integer)) w → Reaches End m → Reaches (Seconds 83 (Then Boxed)) (w ++ m)
    body w m (both u v k (both x y s (both x₁ y₁ l o i₁) i) e) f =
        let S = Seconds 83 (Then Boxed) in
        in_turn (Reaches S) u v m e
        (blanks S (v ++ m)
        (in_turn (Reaches S) x y m i
        (second_on 'S' 83 (Then Boxed) (y ++ m) (λ x t. t) (in_turn (Reaches (Then Boxed)) x₁ y₁ m i₁ (integer_on Boxed (y₁ ++ m) (scale_on m f o) l)) s)) k)

-- semicolons, and any number of commands
blank_tail : {w : List Letter} (m : List Letter) → Match (many blank) w → Tail m → Tail (w ++ m)
blank_tail m none t = t
blank_tail m (more u v (char {a = a} h) k e) t = in_turn Tail u v m e (past (role_of skip _ a h) (blank_tail m k t))

semi_tail : {w : List Letter} (m : List Letter) → Match semi w → Tail (w ++ m)
unfolding has
semi_tail m (both u v k (both x y (char {a = a} h) l i) e) =
    in_turn Tail u v m e (blank_tail (v ++ m) k (in_turn Tail x y m i (here (role_of stop _ a h) (byte_is stop _ 59 a (λ x t. t) h))))

blank_heads : {w : List Letter} (m : List Letter) → Match (many blank) w → Heads m → Heads (w ++ m)
unfolding everywhere calm
blank_heads {w} m k h = heads_over w m (by_role calm k tt) h

semi_heads : {w : List Letter} (m : List Letter) → Match semi w → Heads m → Heads (w ++ m)
semi_heads m (both u v k (both x y (char {a = a} h) l i) e) g =
    in_turn Heads u v m e (blank_heads (v ++ m) k (in_turn Heads x y m i (ends a (y ++ m) (role_of stop _ a h) (blank_heads m l g))))

module _ (r : Expression) (reads : Tailed r) where
  item_heads : {w : List Letter} (m : List Letter) → Match (item_of r) w → Heads m → Heads (w ++ m)
  item_heads m (both u v k (both x y absent l i) e) h = in_turn Heads u v m e (blank_heads (v ++ m) k (in_turn Heads x y m i (semi_heads m l h)))
  item_heads m (both u v k (both x y (present o) l i) e) h =
      in_turn Heads u v m e (blank_heads (v ++ m) k (in_turn Heads x y m i (reads x (y ++ m) o (semi_tail m l) (semi_heads m l h))))

  items_heads : {w : List Letter} (m : List Letter) → Match (many (item_of r)) w → Heads m → Heads (w ++ m)
  items_heads m none h = h
  items_heads m (more u v k l e) h = in_turn Heads u v m e (item_heads (v ++ m) k (items_heads m l h))

command_heads : Tailed command
command_heads w m (left k) t h = prim_heads w m k t h
command_heads w m (right (left k)) t h = delete_heads w m k t h
command_heads w m (right (right (both u v k (both x y s (both p q i f d) j) e))) t h =
    in_turn Heads u v m e
    (start_heads u (v ++ m) k (in_turn Tail x y m j (semi_tail (y ++ m) s))
    (in_turn Heads x y m j (semi_heads (y ++ m) s (in_turn Heads p q m d (items_heads prim_command prim_heads (q ++ m) i (finish_heads q m f t h))))))

-- E, and only blanks behind it
end_opens : (a : Letter) (m : List Letter) → T (matches head 'E' a) → Match (many blank) m → Opens a m
unfolding Opens has command_at everywhere silent
end_opens a m h k n =
    let i = idle_of 'E' tt tt tt tt tt tt tt tt tt (λ b h. let e = eqb→eq b 69 h in omega arith) a.byte (byte_of head 'E' a h) in
    rw (items_are m (n + 1) (n + 1), over, i.not_P, i.not_B, i.not_R, i.not_W, i.not_L, i.not_C, i.not_D) (a_nothing i)
  where
    over : tokens (n + 1) (n + 1) m ≡ []
    over = subst (λ (x : List Letter). tokens (n + 1) (n + 1) x ≡ []) (append-nil m) (blanks End [] (λ j. unfold tokens in refl) k (n + 1))

file_heads : {m : List Letter} → Match cif_file m → Heads m
unfolding Heads
file_heads {m} (both u v k (both x y (char {a = a} h) l i) e) =
    subst Heads (sym e) (items_heads command command_heads v k (subst Heads (sym i) (begins a y (role_of head 'E' a h) (end_opens a y h l) (subst Heads (append-nil y) (blank_heads [] l tt)))))

-- ---- so all say it

heads_say : (m : List Letter) → Heads m → (n p : ℕ) → AllSay (written (pieces n p m)) (commands n m)
unfolding Heads Opens written pieces commands Rattle.grammar.specs.Notation.dec
heads_say [] h n p = none_said
heads_say (l ∷ m) h n p = go l.role h (λ g. heads_say m g (n + 1) (place_after l.role n))
  where
    v : ℕ
    v = worth (digit_of l.byte) m

    ds : List (Placed Command)
    ds = commands (n + 1) m

    go : (ρ : Role) → HeadsBy ρ (Opens l m) (Heads m) → (Heads m → AllSay (written (pieces (n + 1) (place_after ρ n) m)) ds)
        → AllSay (written (with_piece ρ n p l.byte v (pieces (n + 1) (place_after ρ n) m))) (if dec (Role-discrete ρ head) then at n (command_at n l m) ∷ ds else ds)
    go head h f = one_said (h.0 n) (f h.1)
    go skip h f = f h
    go second h f = f h
    go turn h f = f h
    go axis h f = f h
    go sign h f = f h
    go lead h f = f h
    go later h f = f h
    go name h f = f h
    go stop h f = f h

heads_behind : (u v : List Letter) → Heads (u ++ v) → Heads v
unfolding Heads
heads_behind [] v h = h
heads_behind (l ∷ u) v h = heads_behind u v (go l.role h)
  where
    go : (ρ : Role) → HeadsBy ρ (Opens l (u ++ v)) (Heads (u ++ v)) → Heads (u ++ v)
    go head h = h.1
    go skip h = h
    go second h = h
    go turn h = h
    go axis h = h
    go sign h = h
    go lead h = h
    go later h = h
    go name h = h
    go stop h = h

-- the account's commands of a text, one by one, say the definition's; and so wherever a text is cut
pub all_say_behind : {t : List ℕ} (u v : List Letter) → Marked t (u ++ v) → (n p : ℕ) → AllSay (written (pieces n p v)) (commands n v)
all_say_behind u v k n p = heads_say v (heads_behind u v (file_heads k.rule)) n p

pub all_say : {t : List ℕ} {m : List Letter} → Marked t m → AllSay (written (pieces 0 0 m)) (commands 0 m)
all_say {m = m} k = all_say_behind [] m k 0 0
