-- What the generators of an answer spell are words over the given generators.
use Rattle.std.proofs.Common.{ℕ, zero, suc, ◌<◌, ℤ, List, [], ◌∷◌, ◌++◌, get_or, length, arith}
use Rattle.pq_base.specs.SignedWord.{HasLetters}
use Rattle.pq_base.specs.LPresentation.{AreWords}
use Rattle.pq_base.specs.Answer.{Answer, Definition, IsAnswer, HasDefinition, definition_at, spelled, spellings, word_at}
use Rattle.pq_base.specs.Answer.Definition.{image, commutator, power}
use Rattle.pq_base.proofs.words.LetterLaws.{HasLetters-comm, HasLetters-copies, HasLetters-get_or}
use Rattle.pq_base.specs.EntryWords.{spelling_words}

-- a definition by one of n given generators, or by other generators
abbrev IsOver : ℕ → Definition → Type 0
IsOver n (image zero) = ⊥
IsOver n (image (suc i)) = i < n
IsOver n (commutator j i) = Unit {0}
IsOver n (power j) = Unit {0}

HasLetters-word_at : (n : ℕ) (words : List (List ℤ)) (j : ℕ) → AreWords n words → HasLetters n (word_at words j)
HasLetters-word_at n words zero h = tt
HasLetters-word_at n words (suc j) h = HasLetters-get_or n words j h

HasLetters-spelled : (n p : ℕ) (words : List (List ℤ)) (d : Definition) → AreWords n words → IsOver n d → HasLetters n (spelled p words d)
HasLetters-spelled n p words (image zero) h o = absurd o
HasLetters-spelled n p words (image (suc i)) h o = (o, tt)
HasLetters-spelled n p words (commutator j i) h o =
    HasLetters-comm n (word_at words j) (word_at words i) (HasLetters-word_at n words j h) (HasLetters-word_at n words i h)
HasLetters-spelled n p words (power j) h o = HasLetters-copies n (word_at words j) p (HasLetters-word_at n words j h)

AreWords-with_last : (n : ℕ) (words : List (List ℤ)) (w : List ℤ) → AreWords n words → HasLetters n w → AreWords n (words ++ w ∷ [])
AreWords-with_last n [] w h l = (l, tt)
AreWords-with_last n (v ∷ words) w h l = (h.0, AreWords-with_last n words w h.1 l)

AreWords-spellings : (n p : ℕ) (words : List (List ℤ)) (ds : List Definition) → AreWords n words
    → ((k : ℕ) → k < length ds → IsOver n (get_or ds k (image 0))) → AreWords n (spellings p words ds)
AreWords-spellings n p words [] h over = h
AreWords-spellings n p words (d ∷ ds) h over =
    AreWords-spellings n p (words ++ spelled p words d ∷ []) ds
    (AreWords-with_last n words (spelled p words d) h (HasLetters-spelled n p words d h (over 0 (omega arith))))
    (λ k l. over (suc k) (omega arith))

definition-over : (A : Answer) (k : ℕ) (d : Definition) → HasDefinition A k d → IsOver (length A.images) d
definition-over A k (image zero) h = h
definition-over A k (image (suc i)) h = h.1
definition-over A k (commutator j i) h = tt
definition-over A k (power j) h = tt

pub AreWords-spelling_words : (A : Answer) → IsAnswer A → AreWords (length A.images) (spelling_words A)
AreWords-spelling_words A is =
    let count = is.definition_count in
    AreWords-spellings (length A.images) A.presentation.prime [] A.definitions tt
    (λ k l. definition-over A k (definition_at A k) (is.definitions k (omega arith)))
