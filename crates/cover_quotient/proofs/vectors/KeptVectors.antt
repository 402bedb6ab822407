-- Kept columns and kept rows of small bases, and rows carried along them.
use Rattle.std.proofs.Common.{◌≡◌, List, [], ◌∷◌, refl}
use Rattle.fp_echelon.specs.Reduced.{BasisRow}
use Rattle.cover_quotient.specs.Carried.{carried}
use Rattle.cover_quotient.specs.Kept.{kept_columns, kept_rows}

-- modulo 3 the second tail becomes minus twice the first, which is the first
abbrev twice_and_once : List BasisRow
twice_and_once = record { pivot = 2; row = 2 ∷ 1 ∷ []; coefficients = 1 ∷ [] } ∷ []

first_kept : kept_columns 2 twice_and_once ≡ 1 ∷ []
first_kept = refl

second_like_first : kept_rows 3 2 twice_and_once ≡ (1 ∷ []) ∷ (1 ∷ []) ∷ []
second_like_first = refl

-- the basis row is carried to zero, the first tail is not
basis_row_to_zero : carried 3 1 (kept_rows 3 2 twice_and_once) (2 ∷ 1 ∷ []) ≡ 0 ∷ []
basis_row_to_zero = refl

first_tail_stays : carried 3 1 (kept_rows 3 2 twice_and_once) (1 ∷ 0 ∷ []) ≡ 1 ∷ []
first_tail_stays = refl

-- two pivots among four columns, modulo 5
abbrev two_of_four : List BasisRow
two_of_four =
    record { pivot = 4; row = 0 ∷ 0 ∷ 2 ∷ 1 ∷ []; coefficients = 1 ∷ 0 ∷ [] }
    ∷ record { pivot = 2; row = 3 ∷ 1 ∷ 0 ∷ 0 ∷ []; coefficients = 0 ∷ 1 ∷ [] } ∷ []

first_and_third_kept : kept_columns 4 two_of_four ≡ 1 ∷ 3 ∷ []
first_and_third_kept = refl

rows_of_four : kept_rows 5 4 two_of_four ≡ (1 ∷ 0 ∷ []) ∷ (2 ∷ 0 ∷ []) ∷ (0 ∷ 1 ∷ []) ∷ (0 ∷ 3 ∷ []) ∷ []
rows_of_four = refl

-- nothing is kept where each column is a pivot
none_kept : kept_columns 1 (record { pivot = 1; row = 1 ∷ []; coefficients = 1 ∷ [] } ∷ []) ≡ []
none_kept = refl
