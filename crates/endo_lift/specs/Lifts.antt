-- Endomorphisms of the free group on the given generators, carried to the tails of covers: the matrix of an endomorphism takes the
-- row of a word to the row of the word's image.
-- From: the endomorphisms induced on the p-covering groups of L-presented groups, L. Bartholdi, B. Eick and R. Hartung, A nilpotent
-- quotient algorithm for certain infinitely presented groups and its applications, 2008.
use Rattle.std.specs.Prelude.{◌≡◌, ◌<◌, None, ℕ, ℤ, List, [], get_or, length}
use Rattle.pq_base.specs.SignedWord.{sub}
use Rattle.pq_base.specs.Joined.{Joined}
use Rattle.pq_base.specs.Answer.{Answer, Definition as Source, image_words}
use Rattle.pq_base.specs.Answer.Definition.{image}
use Rattle.pq_base.specs.EntryWords.{IsSourceOf, entry_word}
use Rattle.fp_rows.specs.Rows.{IsRow}
use Rattle.fp_echelon.specs.Matrix.{PrimeMatrix, IsMatrix, times_matrix}
use Rattle.pc_presentation.specs.Rowed.{flat}
use Rattle.p_cover.specs.RowedAnswer.{rowed, row_at, rowed_images, tails_word}
use Rattle.p_cover.specs.Sources.{place_in}
use Rattle.p_cover.specs.Covers.{CoverOf, rowed_cover}
use Rattle.cover_quotient.specs.Stages.{full_cover_of}

-- the endomorphism induces one of the answer: the image of a word that dies, dies
abbrev pub Induces : Answer → List (List ℤ) → Type 0
Induces A endo = (w : List ℤ) → Joined A.presentation (sub w (image_words A)) []
    → Joined A.presentation (sub (sub w endo) (image_words A)) []

-- words are joined in the cover
abbrev pub AreJoinedIn : CoverOf → List ℤ → List ℤ → Type 0
AreJoinedIn C u v = Joined (flat (rowed (rowed_cover C))) u v

-- the value of a word over the given generators is the word of a row
abbrev pub HasRow : CoverOf → List ℤ → List ℕ → Type 0
HasRow C w x = AreJoinedIn C (sub w (rowed_images (rowed_cover C))) (tails_word (rowed_cover C) x)

-- the row of each relation and image that the cover leaves out is trivial in the full cover
abbrev pub LeavesOutTrivial : CoverOf → Type 0
LeavesOutTrivial C = (d : Source) → IsSourceOf C.answer d → place_in C.sources d ≡ None
    → AreJoinedIn (full_cover_of C.answer)
    (tails_word (rowed_cover (full_cover_of C.answer)) (row_at (rowed_cover (full_cover_of C.answer)) d)) []

-- each row of the matrix is the value of the image of the word that its tail stands for
abbrev pub AreImageRows : CoverOf → List (List ℤ) → List (List ℕ) → Type 0
AreImageRows C endo rows = (t : ℕ) → t < length C.sources
    → HasRow C (sub (entry_word C.answer (get_or C.sources t (image 0))) endo) (get_or rows t [])

-- rows times the matrix are the rows of the words' images
abbrev pub CarriesRows : CoverOf → List (List ℤ) → List (List ℕ) → Type 0
CarriesRows C endo rows = (w : List ℤ) (x : List ℕ) → IsRow C.answer.presentation.prime (length C.sources) x → HasRow C w x
    → HasRow C (sub w endo) (times_matrix C.answer.presentation.prime (length C.sources) rows x)

-- a matrix over the tails of a cover
pub record IsMatrixOver (C : CoverOf) (m : PrimeMatrix) : Type 0 where
  pub matrix : IsMatrix m
  pub prime : m.prime ≡ C.answer.presentation.prime
  pub width : m.width ≡ length C.sources
