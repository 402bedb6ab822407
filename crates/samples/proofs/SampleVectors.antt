-- The first draws for the number 0, with the first letters of its first word; and small cases of the other definitions.
use Rattle.std.proofs.Common.{◌≡◌, ◌∷◌, [], pos, negsuc, get_or, map, codes, refl}
use Rattle.std.specs.Fmt.{digits}
use Rattle.pq_base.specs.Canonical.{numbers_from}
use Rattle.pq_base.proofs.vectors.Answers.{answer_of_order_eight}
use Rattle.samples.specs.Samples.{number_after, drawn_word, relators_from, exchange, sample_names, sample_prime}
use Rattle.samples.specs.Summary.{summary_text}

number-first : number_after 1 0 ≡ 12345
unfolding number_after
number-first = refl

number-second : number_after 2 0 ≡ 1406932606
unfolding number_after
number-second = refl

number-third : number_after 3 0 ≡ 654583775
unfolding number_after
number-third = refl

number-fourth : number_after 4 0 ≡ 1449466924
unfolding number_after
number-fourth = refl

number-fifth : number_after 5 0 ≡ 229283573
unfolding number_after
number-fifth = refl

number-sixth : number_after 6 0 ≡ 1109335178
unfolding number_after
number-sixth = refl

letters-first : drawn_word 6 0 ≡ pos 1 ∷ pos 1 ∷ pos 1 ∷ negsuc 0 ∷ pos 2 ∷ negsuc 1 ∷ []
unfolding drawn_word
letters-first = refl

names-last : get_or sample_names 31 [] ≡ codes "x32"
unfolding sample_names digits
names-last = refl

-- the third generator is x1 x2^-1, and its image is x2 x1^-1
relators-first : relators_from 3 ((pos 1 ∷ negsuc 1 ∷ []) ∷ []) ≡ (pos 3 ∷ pos 2 ∷ negsuc 0 ∷ []) ∷ []
relators-first = refl

exchange-third : exchange ((pos 1 ∷ negsuc 1 ∷ []) ∷ []) ≡ (pos 2 ∷ []) ∷ (pos 1 ∷ []) ∷ (pos 2 ∷ negsuc 0 ∷ []) ∷ []
exchange-third = refl

primes-first : map sample_prime (numbers_from 0 5) ≡ 2 ∷ 3 ∷ 5 ∷ 7 ∷ 2 ∷ []
primes-first = refl

-- the dihedral group of order eight isn't an answer of a sample, but has a summary
summary-dihedral_of_order_eight : summary_text 4 answer_of_order_eight
    ≡ codes "sample 4\nprime 2\nclass 2\nrank 3\nfactors 2 1\nimages 2\n"
unfolding summary_text digits
summary-dihedral_of_order_eight = refl
