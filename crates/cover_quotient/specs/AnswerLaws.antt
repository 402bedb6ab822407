-- What is proved of the next answer. Each statement is the contract of a function of `laws_of_answers`.
-- From: one step of Newman and O'Brien's p-quotient method.
use Rattle.std.specs.Prelude.{◌≡◌, ◌<◌, ◌≤◌, ◌+◌, ℕ, suc, ℤ, List, [], get_or, length}
use Rattle.pq_base.specs.Limits.{max_class}
use Rattle.pq_base.specs.SignedWord.{sub, HasLetters}
use Rattle.pq_base.specs.LPresentation.{LPresentation, IsLPresentation, IsRelator}
use Rattle.pq_base.specs.Joined.{Joined, IsConsistent}
use Rattle.pq_base.specs.Series.{HasClass}
use Rattle.pq_base.specs.Prime.{IsOffered}
use Rattle.pq_base.specs.Answer.{Answer, IsAnswer, class_of, image_words, spelled, spell}
use Rattle.pq_base.specs.Answer.Definition.{image}
use Rattle.pq_base.specs.Largest.{Kills}
use Rattle.pq_base.specs.Canonical.{up_to_class}
use Rattle.fp_echelon.specs.Span.{InSpan}
use Rattle.fp_echelon.specs.Reduced.{BasisRow, rows_of, IsReduced}
use Rattle.pc_presentation.specs.Rowed.{flat}
use Rattle.pc_presentation.specs.Collection.{State}
use Rattle.pc_presentation.specs.Arithmetic.{IsMeaning}
use Rattle.p_cover.specs.RowedAnswer.{IsRowedAnswer, rowed, rowed_images, tails_word}
use Rattle.p_cover.specs.Covers.{CoverOf, IsCover, rowed_cover}
use Rattle.pq_base.specs.EntryWords.{spelling_words}
use Rattle.cover_quotient.specs.Kept.{kept_columns, kept_rows}
use Rattle.cover_quotient.specs.NextAnswer.{kept_sources, cover_modulo, eliminated}
use Rattle.cover_quotient.specs.OverlapRows.{SpanOverlaps}
use Rattle.cover_quotient.specs.SpanLaws.{carried_letters}
use Rattle.cover_quotient.specs.Defining.{KeptMayBeKept}

-- how many tails are kept
abbrev pub kept_count : CoverOf → List BasisRow → ℕ
kept_count C bs = length (kept_columns (length C.sources) bs)

-- a reduced basis of rows over the tails of a cover
pub record IsBasisOver (C : CoverOf) (bs : List BasisRow) : Type 0 where
  pub cover : IsCover C
  pub prime : IsOffered C.answer.presentation.prime
  pub reduced : IsReduced C.answer.presentation.prime (length C.sources) bs

-- over a consistent answer, such a basis whose span holds the overlap rows
pub record HoldsOverlaps (C : CoverOf) (bs : List BasisRow) (push : State → ℕ → State) : Type 0 where
  pub over : IsBasisOver C bs
  pub consistent : IsConsistent C.answer.presentation
  pub meaning : IsMeaning (rowed (rowed_cover C)) push
  pub overlaps : SpanOverlaps (rowed (rowed_cover C)) push (rows_of bs)

-- a cover modulo the span of a basis is an answer with rows
abbrev pub QuotientsAreRowedAnswers : Type 0
QuotientsAreRowedAnswers = (C : CoverOf) (bs : List BasisRow) → IsBasisOver C bs → IsRowedAnswer (cover_modulo C bs)

-- an answer of the next class, which cut to the class before is the answer that was covered
pub record IsNextAnswer (A N : Answer) : Type 0 where
  pub answer : IsAnswer N
  pub class : class_of N ≡ suc (class_of A)
  pub restricts : up_to_class N (class_of A) ≡ A

-- where a tail is kept, and each kept one may be
abbrev pub NextAnswersAreAnswers : Type 0
NextAnswersAreAnswers = (C : CoverOf) (bs : List BasisRow) → IsBasisOver C bs → KeptMayBeKept C bs → class_of C.answer < max_class
    → 1 ≤ kept_count C bs → IsNextAnswer C.answer (eliminated C bs)

-- so the next answer restricts to the same answers of the classes before
abbrev pub NextAnswersKeepTheClassesBefore : Type 0
NextAnswersKeepTheClassesBefore = (A N : Answer) → IsNextAnswer A N → (j : ℕ) → j ≤ class_of A → up_to_class N j ≡ up_to_class A j

-- where no tail is kept, the answer stays the same
abbrev pub NothingKeptChangesNothing : Type 0
NothingKeptChangesNothing = (C : CoverOf) (bs : List BasisRow) → IsBasisOver C bs → kept_columns (length C.sources) bs ≡ []
    → eliminated C bs ≡ C.answer

-- the class of the next answer's presentation is at most one more
abbrev pub NextAnswersHaveTheNextClass : Type 0
NextAnswersHaveTheNextClass = (C : CoverOf) (bs : List BasisRow) → IsBasisOver C bs → (c : ℕ) → HasClass C.answer.presentation c
    → HasClass (eliminated C bs).presentation (suc c)

-- over a consistent answer, where the span holds the overlap rows, it is consistent
abbrev pub NextAnswersAreConsistent : Type 0
NextAnswersAreConsistent = (C : CoverOf) (bs : List BasisRow) (push : State → ℕ → State) → HoldsOverlaps C bs push
    → IsConsistent (eliminated C bs).presentation

-- the value of a word over the given generators is that in the cover, with the tails replaced by what they become
abbrev pub ValuesAreCarried : Type 0
ValuesAreCarried = (C : CoverOf) (bs : List BasisRow) → IsBasisOver C bs → (w : List ℤ) → HasLetters (length C.answer.names) w
    → Joined (eliminated C bs).presentation (sub w (image_words (eliminated C bs)))
    (sub (sub w (rowed_images (rowed_cover C)))
    (carried_letters C.answer.presentation.rank (kept_rows C.answer.presentation.prime (length C.sources) bs)))

-- so a word whose value in the cover is the word of a row of the span is trivial in the next answer
abbrev pub WordsOfTheSpanDie : Type 0
WordsOfTheSpanDie = (C : CoverOf) (bs : List BasisRow) → IsBasisOver C bs → (w : List ℤ) (x : List ℕ) → HasLetters (length C.answer.names) w
    → InSpan C.answer.presentation.prime (length C.sources) (rows_of bs) x
    → Joined (flat (rowed (rowed_cover C))) (sub w (rowed_images (rowed_cover C))) (tails_word (rowed_cover C) x)
    → Joined (eliminated C bs).presentation (sub w (image_words (eliminated C bs))) []

-- a row of a span whose word is joined to the value of a word in the cover
pub record HasRowOf (C : CoverOf) (rows : List (List ℕ)) (w : List ℤ) : Type 0 where
  pub row : List ℕ
  pub span : InSpan C.answer.presentation.prime (length C.sources) rows row
  pub joined : Joined (flat (rowed (rowed_cover C))) (sub w (rowed_images (rowed_cover C))) (tails_word (rowed_cover C) row)

-- so where each relator of an L-presentation has such a row, the next answer kills them all
abbrev pub NextAnswersKill : Type 0
NextAnswersKill = (C : CoverOf) (bs : List BasisRow) (L : LPresentation) → IsBasisOver C bs → IsLPresentation L → L.names ≡ C.answer.names
    → ((r : List ℤ) → IsRelator L r → HasRowOf C (rows_of bs) r) → Kills L (eliminated C bs)

-- generators spell what they did, and each new one what its source spells in the words of the generators before
pub record SpellsOn (C : CoverOf) (bs : List BasisRow) : Type 0 where
  pub old : (k : ℕ) → k < C.answer.presentation.rank → spell (eliminated C bs) k ≡ spell C.answer k
  pub new : (t : ℕ) → t < kept_count C bs → spell (eliminated C bs) (C.answer.presentation.rank + t)
      ≡ spelled C.answer.presentation.prime (spelling_words C.answer) (get_or (kept_sources C bs) t (image 0))

abbrev pub SpellingsArePreserved : Type 0
SpellingsArePreserved = (C : CoverOf) (bs : List BasisRow) → IsBasisOver C bs → SpellsOn C bs
