-- What a host is told is settled: of one text, one run of words and one room, two outcomes that a contract allows are equal, word for word and byte for byte.
-- Assumes nothing.
use mathlib.Core.Path.{◌≡◌, sym, ap, ◌∙◌, subst}
use mathlib.Core.List.{List}
use Prim.Native.Nat.{ℕ, ◌≤◌}
use lib.IntN.{ℤ}
use lib.ListN.{length}
use Rattle.grammar.proofs.Unique.{one_verdict}
use Rattle.definition.specs.declared.Answer.{Answer}
use Rattle.definition.specs.declared.Summary.{Summary}
use Rattle.definition.specs.declared.Why.{Why}
use Rattle.definition.specs.Limits.{deepest}
use Rattle.definition.proofs.Right.{one_answer}
use Rattle.definition.proofs.Summed.{one_summary}
use Rattle.definition.proofs.Reasons.{one_why}
use Rattle.reading.proofs.Unique.{one_refusal}
use Rattle.answer.specs.Words.{answer_words, summary_words, why_words}
use Rattle.listing.specs.Listed.{Listed}
use Rattle.listing.proofs.Agrees.{one_listing}
use Rattle.machine.specs.declared.Frame.{Frame}
use Rattle.stacking.proofs.Engines.{one_answer_with, engines_agree}
use Rattle.join.proofs.Once.{made_once}
use Rattle.cif.specs.Told.{FlattenTold, StackedTold, ListTold, RefusalTold, VerdictTold, JoinTold, SummaryTold, WhyTold, answer_of_fault, answer_of_verdict, words_of_join}
use Rattle.std.specs.Prelude.{Result}
use Rattle.definition.specs.declared.Refusal.{Refusal}
use Rattle.join.specs.declared.NotJoined.{NotJoined}

-- words that say one answer are one list
same_words : {words words' : List ℕ} {a a' : Answer} → words ≡ answer_words a → words' ≡ answer_words a' → a ≡ a' → words ≡ words'
same_words s s' e = s ∙ ap (λ (a : Answer). answer_words a) e ∙ sym s'

pub flatten_told_once : {t room words words' left left' : List ℕ} {lent lent' lent'' : List ℤ} → FlattenTold t lent room words lent' left
    → FlattenTold t lent room words' lent'' left' → (words ≡ words') × (left ≡ left') × (lent' ≡ lent'')
flatten_told_once a b = let one = one_answer a.promised b.promised in (same_words a.said b.said one.0, one.1, one.2)

pub stacked_told_once : {t room words words' left left' : List ℕ} {lent lent' lent'' : List ℤ} {records records' records'' : List Frame} → StackedTold t lent room records words lent' left records'
    → StackedTold t lent room records words' lent'' left' records'' → (words ≡ words') × (left ≡ left') × (lent' ≡ lent'') × (records' ≡ records'')
stacked_told_once a b = let one = one_answer_with a.promised b.promised in (same_words a.said b.said one.0, one.1, one.2, one.3)

-- with at least 32 records the host is told the same by both engines, and finds the same in the room and in the words
pub both_engines : {t room words words' left left' : List ℕ} {lent lent' lent'' : List ℤ} {records records' : List Frame} → deepest ≤ length records → StackedTold t lent room records words lent' left records'
    → FlattenTold t lent room words' lent'' left' → (words ≡ words') × (left ≡ left') × (lent' ≡ lent'')
both_engines many a b = let same = engines_agree many a.promised b.promised in (same_words a.said b.said same.0, same.1, same.2)

pub list_told_once : {t words f old new new' : List ℕ} {lent lent' lent'' : List ℤ} {r r' : ℕ} → ListTold t lent words f old lent' new r
    → ListTold t lent words f old lent'' new' r' → (new ≡ new') × (r ≡ r') × (lent' ≡ lent'')
list_told_once {t} {f = f} {old} {new' = new'} {lent} {r' = r'} a b =
    let one = one_listing a.listed (subst (λ (x : Answer). Listed t (length lent) x f old new' r') (b.read ∙ sym a.read) b.listed) in
    (one.0, one.1, a.cleared ∙ sym b.cleared)

pub refusal-told_once : {t words words' : List ℕ} → RefusalTold t words → RefusalTold t words' → words ≡ words'
refusal-told_once {t} a b =
    let one = ap (λ (f : Result ℕ Refusal). answer_of_fault t f) (one_refusal t a.fault b.fault a.refuses b.refuses) in
    same_words a.said b.said (a.is ∙ one ∙ sym b.is)

pub verdict-told_once : {t words words' : List ℕ} → VerdictTold t words → VerdictTold t words' → words ≡ words'
verdict-told_once {t} a b =
    let one = ap (λ (v : Result Unit ℕ). answer_of_verdict t v) (one_verdict t a.verdict b.verdict a.judged b.judged) in
    same_words a.said b.said (a.is ∙ one ∙ sym b.is)

pub join-told_once : {first second room words words' left left' : List ℕ} → JoinTold first second room words left → JoinTold first second room words' left'
    → (words ≡ words') × (left ≡ left')
join-told_once {first} {second} a b =
    let one = made_once a.made b.made in
    (a.said ∙ (ap (λ (x : Result ℕ NotJoined). words_of_join first second x) one.0 ∙ sym b.said), one.1)

pub summary_told_once : {t words words' : List ℕ} {lent lent' lent'' : List ℤ} {symbol : ℕ} → SummaryTold t lent symbol words lent' → SummaryTold t lent symbol words' lent''
    → (words ≡ words') × (lent' ≡ lent'')
summary_told_once a b =
    let one = one_summary a.summarised b.summarised in
    (a.said ∙ (ap (λ (x : Summary). summary_words x) one.0 ∙ sym b.said), one.1)

pub why_told_once : {t words words' : List ℕ} {lent lent' lent'' : List ℤ} {count : ℕ} → WhyTold t lent count words lent' → WhyTold t lent count words' lent''
    → (words ≡ words') × (lent' ≡ lent'')
why_told_once a b =
    let one = one_why a.promised b.promised in
    (a.said ∙ (ap (λ (x : Why). why_words x) one.0 ∙ sym b.said), one.1)
