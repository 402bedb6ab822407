-- Entry words: for a relation or an image, a word over the given generators whose value is the row of the relation or the
-- image.
-- From: the relations of the answer on the words that its generators spell.
use Rattle.std.specs.Prelude.{◌<◌, zero, suc, ℤ, pos, List, [], ◌∷◌, ◌++◌, length}
use Rattle.pq_base.specs.SignedWord.{inv, copies, comm, sub}
use Rattle.pq_base.specs.Presentation.{letter, power_word, commutator_word}
use Rattle.pq_base.specs.Answer.{Answer, Definition, image_words, spellings, word_at}
use Rattle.pq_base.specs.Answer.Definition.{image, commutator, power}

-- a relation of the generators, or the image of a given generator; numbers count from 1
abbrev pub IsSourceOf : Answer → Definition → Type 0
IsSourceOf A (image zero) = ⊥
IsSourceOf A (image (suc i)) = i < length A.images
IsSourceOf A (commutator zero i) = ⊥
IsSourceOf A (commutator (suc j) zero) = ⊥
IsSourceOf A (commutator (suc j) (suc i)) = (j < A.presentation.rank) × (i < j)
IsSourceOf A (power zero) = ⊥
IsSourceOf A (power (suc j)) = j < A.presentation.rank

-- the words that the generators spell
abbrev pub spelling_words : Answer → List (List ℤ)
spelling_words A = spellings A.presentation.prime [] A.definitions

-- the quotient of the left side by the right side, both in spelled generators; an image is the right side of its given
-- generator
abbrev pub entry_word : Answer → Definition → List ℤ
entry_word A (image zero) = []
entry_word A (image (suc i)) = inv (sub (word_at (image_words A) (suc i)) (spelling_words A)) ++ pos (suc i) ∷ []
entry_word A (commutator zero i) = []
entry_word A (commutator (suc j) zero) = []
entry_word A (commutator (suc j) (suc i)) =
    inv (sub (commutator_word A.presentation j i) (spelling_words A)) ++ sub (comm (letter j) (letter i)) (spelling_words A)
entry_word A (power zero) = []
entry_word A (power (suc j)) =
    inv (sub (power_word A.presentation j) (spelling_words A)) ++ sub (copies (letter j) A.presentation.prime) (spelling_words A)
