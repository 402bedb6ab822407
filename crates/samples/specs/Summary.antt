-- The summary of an answer of a sample: how large it is, layer by layer, and the sum of all exponents of its images.
-- From: this project's own format. Numbers are in decimal.
use Rattle.std.specs.Prelude.{ℕ, eqb, List, [], ◌∷◌, ◌++◌, codes, decimal, count_by, sum, sum_by, flat_map}
use Rattle.pq_base.specs.Answer.{Answer, class_of}
use Rattle.pq_base.specs.Canonical.{numbers_from}
use Rattle.pq_base.specs.Lines.{text_of_lines}

-- how many of the weights are k
abbrev pub count_of : ℕ → List ℕ → ℕ
count_of k weights = count_by (λ w. eqb w k) weights

-- the numbers of generators of the weights from 1 to c, each behind a space
abbrev pub factors_text : ℕ → List ℕ → List ℕ
factors_text c weights = flat_map (λ k. codes " " ++ decimal (count_of k weights)) (numbers_from 1 c)

-- the exponents of all images together
abbrev pub exponent_sum : List (List ℕ) → ℕ
exponent_sum images = sum_by sum images

abbrev pub summary_lines : ℕ → Answer → List (List ℕ)
summary_lines n A =
    (codes "sample " ++ decimal n)
    ∷ (codes "prime " ++ decimal A.presentation.prime)
    ∷ (codes "class " ++ decimal (class_of A))
    ∷ (codes "rank " ++ decimal A.presentation.rank)
    ∷ (codes "factors" ++ factors_text (class_of A) A.weights)
    ∷ (codes "images " ++ decimal (exponent_sum A.images))
    ∷ []

unfoldable pub summary_text : ℕ → Answer → List ℕ
summary_text n A = text_of_lines (summary_lines n A)
