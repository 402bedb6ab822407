-- What is proved of the rows of relators. Where the value of a word in a cover has no exponent, the word has a row: the tails
-- of its value. Each statement is the contract of a function of `laws`.
-- From: the p-covering groups of Newman and O'Brien's method, in which the relators are enforced by linear algebra.
use Rattle.std.specs.Prelude.{◌≡◌, ◌↔◌, ℕ, ℤ, List, [], length}
use Rattle.pq_base.specs.SignedWord.{sub, HasLetters}
use Rattle.pq_base.specs.Joined.{Joined, IsConsistent}
use Rattle.pq_base.specs.Answer.{image_words}
use Rattle.pq_base.specs.Elementary.{zeros}
use Rattle.pc_presentation.specs.Rowed.{flat}
use Rattle.pc_presentation.specs.Collection.{State}
use Rattle.pc_presentation.specs.Arithmetic.{IsMeaning}
use Rattle.pc_presentation.specs.Tailed.{rowed_presentation}
use Rattle.p_cover.specs.RowedAnswer.{tails_word}
use Rattle.p_cover.specs.Covers.{CoverOf, IsCover, cover_presentation, rowed_cover}
use Rattle.p_cover.specs.Images.{ImagesOf, AreLifted}
use Rattle.p_cover.specs.ImageValues.{value_under}

-- over a consistent answer a word has a row exactly where the answer kills it
abbrev pub KilledRelatorsHaveRows : Type 0
KilledRelatorsHaveRows = (C : CoverOf) → IsCover C → IsConsistent C.answer.presentation
    → (push : State → ℕ → State) → IsMeaning (rowed_presentation (cover_presentation C)) push
    → (f : ImagesOf) → AreLifted C push f → (w : List ℤ) → HasLetters (length C.answer.names) w
    → (value_under C push f w).exponents ≡ zeros C.answer.presentation.rank ↔ Joined C.answer.presentation (sub w (image_words C.answer)) []

-- rows that two collectors find for one word have joined words
abbrev pub RowsOfTwoCollectorsDifferByTrivialRows : Type 0
RowsOfTwoCollectorsDifferByTrivialRows = (C : CoverOf) → IsCover C → (push push' : State → ℕ → State)
    → IsMeaning (rowed_presentation (cover_presentation C)) push → IsMeaning (rowed_presentation (cover_presentation C)) push'
    → (f f' : ImagesOf) → AreLifted C push f → AreLifted C push' f' → (w : List ℤ) → HasLetters (length C.answer.names) w
    → (value_under C push f w).exponents ≡ zeros C.answer.presentation.rank
    → (value_under C push' f' w).exponents ≡ zeros C.answer.presentation.rank
    → Joined (flat (rowed_presentation (cover_presentation C)))
    (tails_word (rowed_cover C) (value_under C push f w).row) (tails_word (rowed_cover C) (value_under C push' f' w).row)
