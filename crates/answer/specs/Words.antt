-- An answer as a host is told it: 64 words, each with a meaning that is fixed for good. include/cif.h has the same positions for programs in C.
--   0 the refusal's number, 0 for an accepted text; 1 its place; 2 how long the flat file is; 3, 4 and 5 how many shapes, calls and redefinitions; 6 how
--     many rounded distances
--   7 and 8 line and column of the place; 9 how many calls are open there; 10 in which of two texts it is, 1 or 2, and 0 where there is one text or neither
--     is to blame; 11 which of several texts is refused: 0, since it is not told yet
--   16 to 47 the places of the open calls, the outermost first, and zeros after them
--   48 to 54 what is told of a symbol, and 0 elsewhere: what drawing it gives, 12, 13, 14 or 0; how many layers it draws; the first of them in the text, its
--     letters as one number, the first highest, 0 for none; its height; its own shapes, calls and layers. Or what is told of a shape, with its calls in 9 and 16 to 47:
--     the place of its command; a, b, c and d of the net transformation; its tx and ty
--   12 to 15 and 55 to 63 are free, and 0
use Rattle.std.specs.Prelude.{List, [], ◌∷◌, ◌++◌, ℕ, zero, suc, ◌-◌, ℤ, pos, negsuc, get_or, replicate}
use Rattle.definition.specs.declared.Answer.{Answer}
use Rattle.definition.specs.declared.Summary.{Summary}
use Rattle.definition.specs.declared.Why.{Why}

abbrev pub zeros : ℕ → List ℕ
zeros n = replicate n 0

abbrev pub first_words : Answer → List ℕ  -- 0 to 9
first_words a =
    a.number ∷ a.place ∷ a.length ∷ a.shapes ∷ a.calls ∷ a.redefinitions ∷ a.rounded ∷ a.line ∷ a.column ∷ a.opened ∷ []

abbrev pub answer_words : Answer → List ℕ  -- 0 to 9, 10 and 11, 12 to 15, 16 to 47, 48 to 63
answer_words a = first_words a ++ (zeros 2 ++ (zeros 4 ++ (a.chain ++ zeros 16)))

abbrev pub words_about : Answer → (text : ℕ) → List ℕ  -- the same of an answer about one of two texts
words_about a text = first_words a ++ (text ∷ (zeros 1 ++ (zeros 4 ++ (a.chain ++ zeros 16))))

abbrev pub summary_words : Summary → List ℕ  -- of what is told of a symbol: 0 and 1, 7 and 8, 48 to 54
summary_words s =
    s.number ∷ s.place ∷ (zeros 5 ++ (s.line ∷ s.column ∷ (zeros 39
    ++ (s.gives ∷ s.drawn ∷ s.first ∷ s.height ∷ s.shapes ∷ s.calls ∷ s.layers ∷ zeros 9))))

abbrev pub why_answer : Why → Answer  -- of what is told of a shape: a refusal and the calls, as an answer has them
why_answer y = record {
  number = y.number;
  place = y.place;
  length = 0;
  shapes = 0;
  calls = 0;
  redefinitions = 0;
  rounded = 0;
  line = y.line;
  column = y.column;
  opened = y.opened;
  chain = y.chain;
}

abbrev pub signed_word : ℤ → ℕ  -- two's complement of 64 bits: -1 is the highest word
signed_word (pos n) = n
signed_word (negsuc n) = 18446744073709551615 - n

abbrev pub why_words : Why → List ℕ  -- 0 to 9, 10 to 15, 16 to 47, 48 to 54, 55 to 63
why_words y =
    first_words (why_answer y) ++ (zeros 6 ++ (y.chain
    ++ (y.shape ∷ signed_word y.a ∷ signed_word y.b ∷ signed_word y.c ∷ signed_word y.d ∷ signed_word y.tx ∷ signed_word y.ty ∷ zeros 9)))

unfoldable pub words_from : (first many : ℕ) → List ℕ → List ℕ  -- so many words, from one on
words_from i zero w = []
words_from i (suc n) w = get_or w i 0 ∷ words_from (suc i) n w

abbrev pub chain_by : List ℕ → List ℕ
chain_by w = words_from 16 32 w

abbrev pub answer_by : List ℕ → Answer  -- the answer that a host's words say, whatever stands in those that an answer leaves 0
answer_by w = record {
  number = get_or w 0 0;
  place = get_or w 1 0;
  length = get_or w 2 0;
  shapes = get_or w 3 0;
  calls = get_or w 4 0;
  redefinitions = get_or w 5 0;
  rounded = get_or w 6 0;
  line = get_or w 7 0;
  column = get_or w 8 0;
  opened = get_or w 9 0;
  chain = chain_by w;
}
