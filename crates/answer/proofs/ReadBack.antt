-- The words of an answer are 64, and they say the whole answer: it is read back from them.
-- Assumes nothing.
use mathlib.Core.Path.{◌≡◌, refl, sym, ap, ◌∙◌}
use mathlib.Core.List.{List, [], ◌∷◌, ◌++◌}
use Prim.Native.Nat.{ℕ, suc}
use native.Mathlib.Omega.{arith}
use lib.ListN.{length, length-append}
use lib.Seq.{get_or-append_seam, append_snoc}
use Rattle.definition.specs.declared.Answer.{Answer}
use Rattle.answer.specs.Words.{zeros, first_words, answer_words, words_from, chain_by, answer_by}

pub as_many : (a : Answer) → length a.chain ≡ 32 → length (answer_words a) ≡ 64
as_many a many = omega (arith, length-append a.chain (zeros 16), many)

run-read : (p l q : List ℕ) → words_from (length p) (length l) (p ++ (l ++ q)) ≡ l
unfolding words_from
run-read p [] q = refl
run-read p (n ∷ l) q =
    let next : length (p ++ (n ∷ [])) ≡ suc (length p) = omega (arith, length-append p (n ∷ [])) in
    let rest : words_from (suc (length p)) (length l) (p ++ (n ∷ (l ++ q))) ≡ l =
    ap (λ (i : ℕ). words_from i (length l) (p ++ (n ∷ (l ++ q)))) (sym next)
    ∙ (ap (words_from (length (p ++ (n ∷ []))) (length l)) (sym (append_snoc p n (l ++ q))) ∙ run-read (p ++ (n ∷ [])) l q) in
    λ i. get_or-append_seam p n (l ++ q) 0 i ∷ rest i

pub read_back : (a : Answer) → length a.chain ≡ 32 → answer_by (answer_words a) ≡ a
read_back a many =
    let chain_is : chain_by (answer_words a) ≡ a.chain =
    ap (λ (n : ℕ). words_from 16 n (answer_words a)) (sym many) ∙ run-read (first_words a ++ zeros 6) a.chain (zeros 16) in
    ap
    (λ (l : List ℕ). record {
      number = a.number;
      place = a.place;
      length = a.length;
      shapes = a.shapes;
      calls = a.calls;
      redefinitions = a.redefinitions;
      rounded = a.rounded;
      line = a.line;
      column = a.column;
      opened = a.opened;
      chain = l;
    })
    chain_is
