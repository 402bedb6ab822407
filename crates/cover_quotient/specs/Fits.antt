-- Elements of a group table that fit an answer up to a level of its series: what maps of the given generators into finite
-- groups come to, class by class.
-- From: the universal property of the p-covering group, one term of the lower exponent-p series after the other.
use Rattle.std.specs.Prelude.{◌≡◌, ◌⊎◌, ◌<◌, ℕ, suc, ℤ, None, List, [], ◌++◌, get_or, length, map}
use Rattle.pq_base.specs.SignedWord.{sub}
use Rattle.pq_base.specs.Table.{Table, InLevel, times, inverse, value}
use Rattle.pq_base.specs.Presentation.{IsRelatorOf}
use Rattle.pq_base.specs.Joined.{Joined}
use Rattle.pq_base.specs.Answer.{Answer, Definition as Source, image_words}
use Rattle.pc_presentation.specs.Rowed.{flat}
use Rattle.p_cover.specs.RowedAnswer.{RowedAnswer, rowed, rowed_images, tails_word}
use Rattle.p_cover.specs.Covers.{CoverOf}
use Rattle.pq_base.specs.EntryWords.{IsSourceOf, spelling_words, entry_word}
use Rattle.p_cover.specs.Sources.{place_in}

-- what the generators of an answer spell, at elements for the given generators
abbrev pub spelled_elements : Table → List ℕ → Answer → List ℕ
spelled_elements T f A = map (value T f) (spelling_words A)

-- up to level c of the series each relation of the answer holds at these elements, and each image is the element given
pub record Fits (T : Table) (f : List ℕ) (c : ℕ) (A : Answer) : Type 0 where
  pub relators : (r : List ℤ) → IsRelatorOf A.presentation r → InLevel T A.presentation.prime c (value T (spelled_elements T f A) r)
  pub images : (i : ℕ) → i < length A.images
      → InLevel T A.presentation.prime c
      (times T (inverse T (value T (spelled_elements T f A) (get_or (image_words A) i []))) (get_or f i 0))

-- what a relation or an image fails by
abbrev pub tail_element : Table → List ℕ → Answer → Source → ℕ
tail_element T f A d = value T f (entry_word A d)

-- elements for the generators and the tails of a cover
abbrev pub cover_elements : Table → List ℕ → CoverOf → List ℕ
cover_elements T f C = spelled_elements T f C.answer ++ map (tail_element T f C.answer) C.sources

-- up to the next level, what carries no tail in the cover holds; a full cover leaves out definitions alone, which do
abbrev pub LeftOutFit : Table → List ℕ → ℕ → CoverOf → Type 0
LeftOutFit T f c C = (d : Source) → IsSourceOf C.answer d → place_in C.sources d ≡ None
    → InLevel T C.answer.presentation.prime (suc c) (tail_element T f C.answer d)

-- the word of a row, as a word over the given generators of value 0
pub record IsWordOfValueZero (X : RowedAnswer) (T : Table) (f : List ℕ) (x : List ℕ) : Type 0 where
  pub word : List ℤ
  pub joined : Joined (flat (rowed X)) (tails_word X x) (sub word (rowed_images X))
  pub zero : value T f word ≡ 0

-- why a row is to be trivial: its word is joined to the empty word, or to a word over the images that has value 0
abbrev pub IsJustified : RowedAnswer → Table → List ℕ → List ℕ → Type 0
IsJustified X T f x = Joined (flat (rowed X)) (tails_word X x) [] ⊎ IsWordOfValueZero X T f x
