-- The text of a summary, from its numbers.
use Rattle.std.proofs.Common.{◌≡◌, ◌+◌, ◌++◌, ℕ, List, [], ◌∷◌, codes, decimal, flat_map, refl, ap, ◌∙◌}
use Rattle.std.proofs.lemmas.Grind.{flat_map-append}
use Rattle.std.proofs.lemmas.List.{append-nil}
use Rattle.pq_base.specs.Answer.{Answer, class_of}
use Rattle.pq_base.specs.Canonical.{numbers_from}
use Rattle.pq_base.proofs.NumberLists.{numbers-more}
use Rattle.samples.specs.Summary.{count_of, factors_text, exponent_sum, summary_text}

abbrev factor : List ℕ → ℕ → List ℕ
factor weights k = codes " " ++ decimal (count_of k weights)

-- one factor more
pub factors_text-more : (k : ℕ) (weights : List ℕ)
    → factors_text (k + 1) weights ≡ factors_text k weights ++ (codes " " ++ decimal (count_of (k + 1) weights))
factors_text-more k weights =
    ap (λ (ks : List ℕ). flat_map (factor weights) ks) (numbers-more k)
    ∙ flat_map-append (factor weights) (numbers_from 1 k) ((k + 1) ∷ [])
    ∙ ap (λ (t : List ℕ). factors_text k weights ++ t) (append-nil (factor weights (k + 1)))

-- the lines, whose numbers are told
pub summary_written : (n : ℕ) (A : Answer) (p c r s : ℕ) (factors : List ℕ) → p ≡ A.presentation.prime → c ≡ class_of A
    → r ≡ A.presentation.rank
    → factors ≡ factors_text (class_of A) A.weights → s ≡ exponent_sum A.images
    → codes "sample "
    ++ (decimal n
    ++ (codes "\nprime "
    ++ (decimal p
    ++ (codes "\nclass "
    ++ (decimal c ++ (codes "\nrank "
    ++ (decimal r ++ (codes "\nfactors" ++ (factors ++ (codes "\nimages " ++ (decimal s ++ codes "\n")))))))))))
    ≡ summary_text n A
unfolding summary_text
summary_written n A p c r s factors prime class rank told sum = rw (prime, class, rank, told, sum) refl
