-- The generators of an answer spell the same words in the next answer, and each new generator spells the word of its source,
-- in the words of the generators before.
use Rattle.std.proofs.Common.{◌≡◌, ℕ, zero, suc, ◌+◌, ◌<◌, ℤ, List, [], ◌++◌, get_or, length, map, ap, sym, ◌∙◌, arith}
use Rattle.std.specs.List.{All}
use Rattle.std.proofs.lemmas.List.{get_or_append_left, get_or-append-add, get_or-map}
use Rattle.pq_base.specs.Answer.{Answer, Definition as Source, IsAnswer, spelled, spellings, spell}
use Rattle.pq_base.specs.Answer.Definition.{image, commutator, power}
use Rattle.pq_base.specs.EntryWords.{IsSourceOf, spelling_words}
use Rattle.pq_base.proofs.words.SpelledLists.{RefersBefore, spellings-append, spellings-beside}
use Rattle.p_cover.specs.RowedAnswer.{RowedAnswer}
use Rattle.cover_quotient.specs.NextAnswer.{next_answer}
use Rattle.cover_quotient.proofs.fitting.FitsStart.{length-spelling_words}

module _ (A : Answer) (is : IsAnswer A) where
  source-refers : (d : Source) → IsSourceOf A d → RefersBefore (length (spelling_words A)) d
  source-refers (image i) s = tt
  source-refers (commutator zero i) s = absurd s
  source-refers (commutator (suc j) zero) s = absurd s
  source-refers (commutator (suc j) (suc i)) s =
      let c = length-spelling_words A is in
      let l : j < A.presentation.rank = s.0 in
      let m : i < j = s.1 in
      (omega arith, omega arith)
  source-refers (power zero) s = absurd s
  source-refers (power (suc j)) s = let c = length-spelling_words A is in let l : j < A.presentation.rank = s in omega arith

  -- sources of the answer spell beside its generators
  pub spellings-next : (ds : List Source) → All (IsSourceOf A) ds
      → spellings A.presentation.prime [] (A.definitions ++ ds)
      ≡ spelling_words A ++ map (spelled A.presentation.prime (spelling_words A)) ds
  spellings-next ds all =
      spellings-append A.presentation.prime [] A.definitions ds
      ∙ spellings-beside A.presentation.prime (spelling_words A) ds (λ i d l. source-refers (get_or ds i d) (all i d l))

module _ (Y : RowedAnswer) (is : IsAnswer Y.answer) (sources : List Source) (all : All (IsSourceOf Y.answer) sources) where
  abbrev S : List (List ℤ)
  S = spelling_words Y.answer

  abbrev words : List (List ℤ)
  words = map (spelled Y.answer.presentation.prime (spelling_words Y.answer)) sources

  pub old-spelling : (k : ℕ) → k < Y.answer.presentation.rank → spell (next_answer Y sources) k ≡ spell Y.answer k
  old-spelling k l =
      let long = length-spelling_words Y.answer is in
      ap (λ (ws : List (List ℤ)). get_or ws k []) (spellings-next Y.answer is sources all) ∙ get_or_append_left S words [] k (omega arith)

  pub new-spelling : (t : ℕ) → t < length sources
      → spell (next_answer Y sources) (Y.answer.presentation.rank + t)
      ≡ spelled Y.answer.presentation.prime (spelling_words Y.answer) (get_or sources t (image 0))
  new-spelling t l =
      ap (λ (ws : List (List ℤ)). get_or ws (Y.answer.presentation.rank + t) []) (spellings-next Y.answer is sources all)
      ∙ ap (λ (k : ℕ). get_or (S ++ words) (k + t) []) (sym (length-spelling_words Y.answer is))
      ∙ get_or-append-add S words t []
      ∙ get_or-map (spelled Y.answer.presentation.prime S) sources t (image 0) [] l
