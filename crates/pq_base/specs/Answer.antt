-- Answers: a presentation, the weights and definitions of its generators, and the images of the given generators.
-- From: the p-quotient systems of Newman and O'Brien's method. The conditions are those of the answer text, but for
-- the limit on the rank, which no definition has.
use Rattle.std.specs.Prelude.{◌≡◌, ◌<◌, ◌≤◌, ℕ, zero, suc, ℤ, pos, List, [], ◌∷◌, ◌++◌, get_or, length, map}
use Rattle.pq_base.specs.Limits.{max_class, max_names}
use Rattle.pq_base.specs.SignedWord.{copies, comm}
use Rattle.pq_base.specs.LPresentation.{AreDistinct}
use Rattle.pq_base.specs.Presentation.{Presentation, IsPresentation, IsNormal, letter, normal_word, power_word, commutator_word}

-- where a generator comes from: the image of a given generator, a commutator or a power; numbers count from 1
pub data Definition : Type 0 where
  image : ℕ → Definition
  commutator : ℕ → ℕ → Definition
  power : ℕ → Definition

pub record Answer : Type 0 where
  pub presentation : Presentation
  pub weights : List ℕ
  -- the names of the given generators
  pub names : List (List ℕ)
  pub definitions : List Definition
  -- for each given generator the exponents of its image
  pub images : List (List ℕ)

-- the last entry, or 0
abbrev pub last_or_zero : List ℕ → ℕ
last_or_zero [] = 0
last_or_zero (w ∷ []) = w
last_or_zero (w ∷ v ∷ ws) = last_or_zero (v ∷ ws)

-- the class is the last weight
abbrev pub class_of : Answer → ℕ
class_of A = last_or_zero A.weights

-- the weight of the generator at place k, counted from 0
abbrev pub weight_at : Answer → ℕ → ℕ
weight_at A k = get_or A.weights k 0

abbrev pub image_words : Answer → List (List ℤ)
image_words A = map normal_word A.images

-- the definition of the generator at place k
abbrev pub definition_at : Answer → ℕ → Definition
definition_at A k = get_or A.definitions k (image 0)

-- entry n of a list, counted from 1, and the empty word elsewhere
abbrev pub word_at : List (List ℤ) → ℕ → List ℤ
word_at words zero = []
word_at words (suc n) = get_or words n []

-- the word that a definition spells, by the words that earlier generators spell
abbrev pub spelled : ℕ → List (List ℤ) → Definition → List ℤ
spelled p words (image i) = pos i ∷ []
spelled p words (commutator j i) = comm (word_at words j) (word_at words i)
spelled p words (power j) = copies (word_at words j) p

abbrev pub spellings : ℕ → List (List ℤ) → List Definition → List (List ℤ)
spellings p words [] = words
spellings p words (d ∷ ds) = spellings p (words ++ spelled p words d ∷ []) ds

-- the word over the given generators that the generator at place k spells
abbrev pub spell : Answer → ℕ → List ℤ
spell A k = get_or (spellings A.presentation.prime [] A.definitions) k []

-- weights are from a least one to the greatest class and never fall
abbrev pub AreWeights : ℕ → List ℕ → Type 0
AreWeights least [] = Unit {0}
AreWeights least (w ∷ ws) = (least ≤ w) × (w ≤ max_class) × AreWeights w ws

-- the generator at place k, counted from 0, has this definition: weight 1 and an image that is it alone, or a greater
-- weight and a commutator or a power of generators before it whose right side is it alone
abbrev pub HasDefinition : Answer → ℕ → Definition → Type 0
HasDefinition A k (image zero) = ⊥
HasDefinition A k (image (suc i)) = (weight_at A k ≡ 1) × (i < length A.images) × (word_at (image_words A) (suc i) ≡ letter k)
HasDefinition A k (commutator zero i) = ⊥
HasDefinition A k (commutator (suc j) zero) = ⊥
HasDefinition A k (commutator (suc j) (suc i)) = (1 < weight_at A k) × (i < j) × (j < k) × (commutator_word A.presentation j i ≡ letter k)
HasDefinition A k (power zero) = ⊥
HasDefinition A k (power (suc j)) = (1 < weight_at A k) × (j < k) × (power_word A.presentation j ≡ letter k)

-- each image is a normal word
abbrev pub AreNormal : ℕ → ℕ → List (List ℕ) → Type 0
AreNormal p n [] = Unit {0}
AreNormal p n (e ∷ es) = IsNormal p n e × AreNormal p n es

pub record IsAnswer (A : Answer) : Type 0 where
  pub presentation : IsPresentation A.presentation
  pub weight_count : length A.weights ≡ A.presentation.rank
  pub weights : AreWeights 1 A.weights
  pub some_name : 1 ≤ length A.names
  pub name_limit : length A.names ≤ max_names
  pub distinct : AreDistinct A.names
  pub image_count : length A.images ≡ length A.names
  pub images : AreNormal A.presentation.prime A.presentation.rank A.images
  pub definition_count : length A.definitions ≡ A.presentation.rank
  pub definitions : (k : ℕ) → k < A.presentation.rank → HasDefinition A k (definition_at A k)
