-- `single_at` meets its contract: the letter and the numbers that stand there tell the transformation whose words they begin (`single_read`).
use mathlib.Core.Path.{refl}
use native.Mathlib.Omega.{arith}
use Prim.Native.Nat.{◌+◌}
use lib.IntN.{pos}
use lib.ListN.{get_or}
use borrow.Author.Rules.{rules}
use Rattle.definition.specs.Words.{any, point}
use Rattle.definition.specs.Commands.{translate, mirror_x, mirror_y, rotate}
use Rattle.definition.specs.Faults.{bearings}
use Rattle.definition.specs.Turns.{off_axes}
use Rattle.turns.specs.Words.{turn_words}
use Rattle.turns.proofs.Lists.{decode, is_rotation, with_words, room, single_read, long}
use Rattle.turns.proofs.Nets.{single, one_carried, near-more}
use Rattle.turns.proofs.single_at.Goals as goal

pub offset_bounds-words-at : goal.offset_bounds-words-at
offset_bounds-words-at c = omega (arith, room _ _ c.requires, with_words c.requires.turn)

pub bounds-words-at : goal.bounds-words-at
bounds-words-at c = omega (arith, room _ _ c.requires, with_words c.requires.turn)

pub overflow_add-result : goal.overflow_add-result
overflow_add-result c = omega (arith, room _ _ c.requires, with_words c.requires.turn)

pub returns-then-letter-eq-LETTER_X : goal.returns-then-letter-eq-LETTER_X
unfolding decode single off_axes any bearings turn_words
returns-then-letter-eq-LETTER_X c = λ h. single_read _ _ h mirror_x 1 _ (rw c.if-letter-eq-LETTER_X.true) (one_carried mirror_x _ c.oriented.ensures) (rw c.oriented.ensures (record { across = omega arith; up = omega arith })) refl refl refl

pub overflow_add-result-then-letter-eq-LETTER_Y : goal.overflow_add-result-then-letter-eq-LETTER_Y
overflow_add-result-then-letter-eq-LETTER_Y c = omega (arith, room _ _ c.requires, with_words c.requires.turn)

pub returns-then-letter-eq-LETTER_Y : goal.returns-then-letter-eq-LETTER_Y
unfolding decode single off_axes any bearings turn_words
returns-then-letter-eq-LETTER_Y c = λ h. single_read _ _ h mirror_y 1 _ (rw c.if-letter-eq-LETTER_Y.true) (one_carried mirror_y _ c.oriented-then-letter-eq-LETTER_Y.ensures) (rw c.oriented-then-letter-eq-LETTER_Y.ensures (record { across = omega arith; up = omega arith })) refl refl refl

pub overflow_add-i : goal.overflow_add-i
overflow_add-i c = omega (arith, room _ _ c.requires, with_words c.requires.turn)

pub overflow_add-j : goal.overflow_add-j
overflow_add-j c = omega (arith, room _ _ c.requires, long c.args.words.now c.args.at c.requires c.if-letter-eq-LETTER_X.false c.if-letter-eq-LETTER_Y.false)

pub offset_bounds-words-i : goal.offset_bounds-words-i
offset_bounds-words-i c = omega (arith, long c.args.words.now c.args.at c.requires c.if-letter-eq-LETTER_X.false c.if-letter-eq-LETTER_Y.false)

pub bounds-words-i : goal.bounds-words-i
bounds-words-i c = omega (arith, long c.args.words.now c.args.at c.requires c.if-letter-eq-LETTER_X.false c.if-letter-eq-LETTER_Y.false)

pub offset_bounds-words-j : goal.offset_bounds-words-j
offset_bounds-words-j c = omega (arith, long c.args.words.now c.args.at c.requires c.if-letter-eq-LETTER_X.false c.if-letter-eq-LETTER_Y.false)

pub bounds-words-j : goal.bounds-words-j
bounds-words-j c = omega (arith, long c.args.words.now c.args.at c.requires c.if-letter-eq-LETTER_X.false c.if-letter-eq-LETTER_Y.false)

pub overflow_add-result-then-letter-eq-LETTER_T : goal.overflow_add-result-then-letter-eq-LETTER_T
overflow_add-result-then-letter-eq-LETTER_T c = omega (arith, long c.args.words.now c.args.at c.requires c.if-letter-eq-LETTER_X.false c.if-letter-eq-LETTER_Y.false)

pub returns-then-letter-eq-LETTER_T : goal.returns-then-letter-eq-LETTER_T
unfolding decode off_axes any bearings turn_words
returns-then-letter-eq-LETTER_T c = λ h.
    single_read _ _ h (translate (point (get_or c.args.words.now (c.args.at + 1) (pos 0)) (get_or c.args.words.now (c.args.at + 2) (pos 0)))) 3 _ (rw c.if-letter-eq-LETTER_T.true) (search rules) c.translation.ensures.1 refl refl refl

pub overflow_add-result-2 : goal.overflow_add-result-2
overflow_add-result-2 c = omega (arith, long c.args.words.now c.args.at c.requires c.if-letter-eq-LETTER_X.false c.if-letter-eq-LETTER_Y.false)

pub returns : goal.returns
unfolding turn_words
returns c = λ h.
    let no_x = c.if-letter-eq-LETTER_X.false in
    let no_y = c.if-letter-eq-LETTER_Y.false in
    single_read _ _ h (rotate _) 3 _ (is_rotation _ _ _ no_x no_y c.if-letter-eq-LETTER_T.false) (search rules)
    (near-more (omega arith) c.rotation.ensures.1) (search rules) refl refl
