-- What a host is told by each function, in the words of crate answer: the contracts of the exported functions cite it.
use Rattle.std.specs.Prelude.{◌≡◌, List, [], ℕ, ℤ, length, Err, Ok, Result}
use Rattle.grammar.specs.Viable.{Judged}
use Rattle.definition.specs.declared.Answer.{Answer}
use Rattle.definition.specs.declared.Refusal.{Refusal}
use Rattle.definition.specs.declared.Summary.{Summary}
use Rattle.definition.specs.declared.Why.{Why}
use Rattle.definition.specs.declared.Rule.TheVariants.{NotInGrammar}
use Rattle.definition.specs.Rules.{refuse}
use Rattle.definition.specs.Counts.{counts}
use Rattle.definition.specs.Answer.{success, failure, zeros, Promised}
use Rattle.definition.specs.Records.{PromisedWith}
use Rattle.definition.specs.Summary.{Summarised}
use Rattle.definition.specs.Why.{PromisedWhy}
use Rattle.reading.specs.Refusal.{Refuses}
use Rattle.answer.specs.Words.{answer_words, words_about, summary_words, why_words, answer_by}
use Rattle.machine.specs.States.{no_frame}
use Rattle.machine.specs.declared.Frame.{Frame}
use Rattle.listing.specs.Listed.{Listed}
use Rattle.join.specs.Made.{Made}
use Rattle.join.specs.declared.NotJoined.{NotJoined}
use Rattle.join.specs.declared.Which.{Which}
use Rattle.join.specs.declared.Which.TheVariants.{Neither, First, Second}

-- where nothing is drawn there is no length, no counts, no rounded distances, and no call is open
abbrev pub clean : Answer
clean = success 0 (counts 0 0 0) 0

abbrev pub answer_of_fault : List ℕ → Result ℕ Refusal → Answer  -- of a text
answer_of_fault t (Ok k) = clean
answer_of_fault t (Err r) = failure t r []

abbrev pub answer_of_verdict : List ℕ → Result Unit ℕ → Answer  -- RULES 12, refusal 2: "not in the grammar"
answer_of_verdict t (Ok _) = clean
answer_of_verdict t (Err n) = failure t (refuse NotInGrammar n) []

-- `cif_flatten`: the promised answer, and the room and the words lent that go with it
pub record FlattenTold (t : List ℕ) (lent : List ℤ) (room words : List ℕ) (lent' : List ℤ) (left : List ℕ) : Type 0 where
  pub given : Answer
  pub promised : Promised t lent room given lent' left
  pub said : words ≡ answer_words given

-- `cif_flatten_stacked`: the promised answer, and the room, the words and the records lent that go with it
pub record StackedTold (t : List ℕ) (lent : List ℤ) (room : List ℕ) (records : List Frame) (words : List ℕ) (lent' : List ℤ) (left : List ℕ) (records' : List Frame) : Type 0 where
  pub given : Answer
  pub promised : PromisedWith no_frame t lent room records given lent' left records'
  pub said : words ≡ answer_words given

-- `cif_list`: the listing of the text and the answer that the words say, with so many words lent, which are all zero afterwards
pub record ListTold (t : List ℕ) (lent : List ℤ) (words f old : List ℕ) (lent' : List ℤ) (new : List ℕ) (r : ℕ) : Type 0 where
  pub given : Answer
  pub read : given ≡ answer_by words
  pub listed : Listed t (length lent) given f old new r
  pub cleared : lent' ≡ zeros lent

pub record RefusalTold (t words : List ℕ) : Type 0 where  -- `cif_refusal`: the first of refusals 2 to 9
  pub fault : Result ℕ Refusal
  pub refuses : Refuses t fault
  pub given : Answer
  pub is : given ≡ answer_of_fault t fault
  pub said : words ≡ answer_words given

pub record VerdictTold (t words : List ℕ) : Type 0 where  -- `cif_recognise`: refusal 2
  pub verdict : Result Unit ℕ
  pub judged : Judged t verdict
  pub given : Answer
  pub is : given ≡ answer_of_verdict t verdict
  pub said : words ≡ answer_words given

-- which of two texts, as word 10 tells it
abbrev pub which_word : Which → ℕ
which_word Neither = 0
which_word First = 1
which_word Second = 2

-- 18 is about neither, and its place 0 is on line 1 in column 1 of any text
abbrev pub which_text : (first second : List ℕ) → Which → List ℕ
which_text first second Neither = first
which_text first second First = first
which_text first second Second = second

-- a refusal of two texts that are joined, in the text that it is about
abbrev pub refused_in : (first second : List ℕ) → NotJoined → List ℕ
refused_in first second r = words_about (failure (which_text first second r.text) r.refusal []) (which_word r.text)

abbrev pub words_of_join : (first second : List ℕ) → Result ℕ NotJoined → List ℕ
words_of_join first second (Ok length) = answer_words (success length (counts 0 0 0) 0)
words_of_join first second (Err r) = refused_in first second r

pub record JoinTold (first second room words left : List ℕ) : Type 0 where  -- `cif_join`: the joined text in the room, and its length; or a refusal
  pub answer : Result ℕ NotJoined
  pub made : Made first second room answer left
  pub said : words ≡ words_of_join first second answer

-- `cif_summary`: what is in a symbol of a text, with so many words lent, which are all zero afterwards
pub record SummaryTold (t : List ℕ) (lent : List ℤ) (symbol : ℕ) (words : List ℕ) (lent' : List ℤ) : Type 0 where
  pub given : Summary
  pub summarised : Summarised t lent symbol given lent'
  pub said : words ≡ summary_words given

-- `cif_why`: why the shape with a count is here, with so many words lent, which are all zero afterwards
pub record WhyTold (t : List ℕ) (lent : List ℤ) (count : ℕ) (words : List ℕ) (lent' : List ℤ) : Type 0 where
  pub given : Why
  pub promised : PromisedWhy t lent count given lent'
  pub said : words ≡ why_words given
