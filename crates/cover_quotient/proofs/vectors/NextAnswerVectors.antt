-- The step from class 1 to class 2 of the dihedral group of order eight, and what the same cover gives without relators.
use Rattle.std.proofs.Common.{◌≡◌, List, [], ◌∷◌, refl}
use Rattle.pq_base.specs.Answer.{Answer, class_of}
use Rattle.pq_base.specs.Answer.Definition.{image, commutator, power}
use Rattle.pq_base.specs.Canonical.{up_to_class}
use Rattle.pq_base.specs.Elementary.{elementary}
use Rattle.pq_base.proofs.vectors.Answers.{answer_of_order_eight}
use Rattle.fp_echelon.specs.Reduced.{BasisRow}
use Rattle.p_cover.specs.Covers.{CoverOf, all_sources}
use Rattle.cover_quotient.specs.Kept.{kept_columns, kept_rows}
use Rattle.cover_quotient.specs.NextAnswer.{kept_sources, eliminated}

-- two generators of order two that commute, the images of x and y
abbrev pub answer_of_class_one : Answer
answer_of_class_one = record {
  presentation = elementary 2 2;
  weights = 1 ∷ 1 ∷ [];
  names = (120 ∷ []) ∷ (121 ∷ []) ∷ [];
  definitions = image 1 ∷ image 2 ∷ [];
  images = (1 ∷ 0 ∷ []) ∷ (0 ∷ 1 ∷ []) ∷ [];
}

-- the tails are those of [a2,a1], a1^2 and a2^2
tails_of_class_one : all_sources answer_of_class_one ≡ commutator 2 1 ∷ power 1 ∷ power 2 ∷ []
tails_of_class_one = refl

abbrev pub cover_of_class_one : CoverOf
cover_of_class_one = record { answer = answer_of_class_one; sources = all_sources answer_of_class_one }

-- the relators x^2 and y^2 have the rows of the second and the third tail
abbrev pub squares : List BasisRow
squares =
    record { pivot = 2; row = 0 ∷ 1 ∷ 0 ∷ []; coefficients = 1 ∷ 0 ∷ [] }
    ∷ record { pivot = 3; row = 0 ∷ 0 ∷ 1 ∷ []; coefficients = 0 ∷ 1 ∷ [] } ∷ []

first_column_kept : kept_columns 3 squares ≡ 1 ∷ []
first_column_kept = refl

squares_vanish : kept_rows 2 3 squares ≡ (1 ∷ []) ∷ (0 ∷ []) ∷ (0 ∷ []) ∷ []
squares_vanish = refl

commutator_kept : kept_sources cover_of_class_one squares ≡ commutator 2 1 ∷ []
commutator_kept = refl

-- [a2,a1] becomes a3
step_to_class_two : eliminated cover_of_class_one squares ≡ answer_of_order_eight
step_to_class_two = refl

class_two : class_of answer_of_order_eight ≡ 2
class_two = refl

back_to_class_one : up_to_class answer_of_order_eight 1 ≡ answer_of_class_one
back_to_class_one = refl

-- where x^2 y^2 is trivial instead, both squares are one new generator, whose definition is the first
abbrev sum_of_squares : List BasisRow
sum_of_squares = record { pivot = 3; row = 0 ∷ 1 ∷ 1 ∷ []; coefficients = 1 ∷ [] } ∷ []

equal_squares : (eliminated cover_of_class_one sum_of_squares).presentation.powers
    ≡ (0 ∷ 0 ∷ 1 ∷ []) ∷ (0 ∷ 1 ∷ []) ∷ (0 ∷ []) ∷ [] ∷ []
equal_squares = refl

first_square_kept : kept_sources cover_of_class_one sum_of_squares ≡ commutator 2 1 ∷ power 1 ∷ []
first_square_kept = refl

-- without relators each tail becomes a generator, and the group has order 32
free_step : (eliminated cover_of_class_one []).definitions ≡ image 1 ∷ image 2 ∷ commutator 2 1 ∷ power 1 ∷ power 2 ∷ []
free_step = refl

-- where everything is trivial the answer stays the same
abbrev everything : List BasisRow
everything = record { pivot = 1; row = 1 ∷ 0 ∷ 0 ∷ []; coefficients = 1 ∷ 0 ∷ 0 ∷ [] } ∷ squares

nothing_kept : eliminated cover_of_class_one everything ≡ answer_of_class_one
nothing_kept = refl
