-- Power-commutator presentations. A right side is the list of the exponents of the later generators alone: for the
-- power of a generator those after it, for a commutator those after its first generator. Lengths are exact, so one
-- presentation is one value. Generators are counted from 1 in words, and from 0 in lists.
-- From: M. F. Newman and E. A. O'Brien, Application of computers to questions like those of Burnside, II, 1996.
use Rattle.std.specs.Prelude.{◌≡◌, ◌<◌, ◌≤◌, ◌+◌, ℕ, suc, ℤ, pos, List, [], ◌∷◌, ◌++◌, get_or, length}
use Rattle.pq_base.specs.SignedWord.{inv, copies, comm}
use Rattle.pq_base.specs.Table.{AllBelow}

pub record Presentation : Type 0 where
  pub prime : ℕ
  pub rank : ℕ
  -- entry i: the right side of the power of generator i + 1
  pub powers : List (List ℕ)
  -- row j, entry i: the right side of the commutator of generators j + 1 and i + 1, for i below j
  pub commutators : List (List (List ℕ))

-- the word of the generator at place i, counted from 0
abbrev pub letter : ℕ → List ℤ
letter i = pos (suc i) ∷ []

-- the word of exponents of the generators from place k on
abbrev pub word_from : ℕ → List ℕ → List ℤ
word_from k [] = []
word_from k (e ∷ es) = copies (letter k) e ++ word_from (suc k) es

-- the word of a list of exponents
abbrev pub normal_word : List ℕ → List ℤ
normal_word e = word_from 0 e

-- exponents of a normal word: one for each of n generators, each below p
pub record IsNormal (p n : ℕ) (e : List ℕ) : Type 0 where
  pub count : length e ≡ n
  pub below : AllBelow p e

abbrev pub power_side : Presentation → ℕ → List ℕ
power_side P i = get_or P.powers i []

abbrev pub commutator_side : Presentation → ℕ → ℕ → List ℕ
commutator_side P j i = get_or (get_or P.commutators j []) i []

-- the right sides as words
abbrev pub power_word : Presentation → ℕ → List ℤ
power_word P i = word_from (suc i) (power_side P i)

abbrev pub commutator_word : Presentation → ℕ → ℕ → List ℤ
commutator_word P j i = word_from (suc j) (commutator_side P j i)

-- a right side of exponents below p, as long as there are generators after place i
pub record IsLaterSide (P : Presentation) (i : ℕ) (e : List ℕ) : Type 0 where
  pub count : suc i + length e ≡ P.rank
  pub below : AllBelow P.prime e

-- that the prime is one is asked where it matters
pub record IsPresentation (P : Presentation) : Type 0 where
  pub prime : 2 ≤ P.prime
  pub power_count : length P.powers ≡ P.rank
  pub power_sides : (i : ℕ) → i < P.rank → IsLaterSide P i (power_side P i)
  pub commutator_count : length P.commutators ≡ P.rank
  pub commutator_counts : (j : ℕ) → j < P.rank → length (get_or P.commutators j []) ≡ j
  pub commutator_sides : (j i : ℕ) → j < P.rank → i < j → IsLaterSide P j (commutator_side P j i)

-- the relators a_i^p w⁻¹ and [a_j,a_i] w⁻¹
pub data IsRelatorOf (P : Presentation) : List ℤ → Type 0 where
  power_relator : (i : ℕ) → i < P.rank → IsRelatorOf P (copies (letter i) P.prime ++ inv (power_word P i))
  commutator_relator : (j i : ℕ) → j < P.rank → i < j → IsRelatorOf P (comm (letter j) (letter i) ++ inv (commutator_word P j i))
