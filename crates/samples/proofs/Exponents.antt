-- The exponents of a sparse word together are those of the list that it stands for, and there are no more of them.
use Rattle.std.proofs.Common.{◌≡◌, ◌<◌, ◌≤◌, ◌+◌, ℕ, zero, suc, List, [], ◌∷◌, get_or, length, take, sum, sum_by, refl, ◌∙◌, ap, arith}
use Rattle.std.proofs.lemmas.List.Sums.{sum_by-cons, sum_by_more}
use Rattle.pq_base.specs.Answer.{Answer, IsAnswer, AreNormal}
use Rattle.pc_presentation.specs.declared.syllable.Syllable.{Syllable}
use Rattle.pc_presentation.specs.Syllable.{syllable, syllables_of}
use Rattle.pc_presentation.proofs.presentations.SyllableLaws.{length-syllables_of}
use Rattle.samples.specs.Summary.{exponent_sum}

pub sum_by-syllables_of : (k : ℕ) (e : List ℕ) → sum_by (λ (s : Syllable). s.exponent) (syllables_of k e) ≡ sum e
sum_by-syllables_of k [] = refl
sum_by-syllables_of k (zero ∷ es) = omega (arith, sum_by-syllables_of (suc k) es, sum_by-cons (λ (x : ℕ). x) zero es)
sum_by-syllables_of k (suc e ∷ es) =
    let both = sum_by-cons (λ (s : Syllable). s.exponent) (syllable (suc k) (suc e)) (syllables_of (suc k) es) in
    omega (arith, sum_by-syllables_of (suc k) es, both, sum_by-cons (λ (x : ℕ). x) (suc e) es)

length-normal : (p n i : ℕ) (es : List (List ℕ)) → AreNormal p n es → length (get_or es i []) ≤ n
length-normal p n i [] normal = omega arith
length-normal p n zero (e ∷ es) normal = let here = normal.0.count in omega arith
length-normal p n (suc i) (e ∷ es) normal = length-normal p n i es normal.1

-- so an image has at most as many syllables as there are generators
pub length-image : (A : Answer) (i : ℕ) (word : List Syllable) → IsAnswer A → A.presentation.rank ≤ 100
    → word ≡ syllables_of 0 (get_or A.images i [])
    → length word ≤ 100
length-image A i word is few same =
    let short = length-syllables_of 0 (get_or A.images i []) in
    let normal = length-normal A.presentation.prime A.presentation.rank i A.images is.images in
    omega (arith, ap (λ (w : List Syllable). length w) same)

-- one image more
pub exponents_more : (images : List (List ℕ)) (k i total part : ℕ) (word : List Syllable) → i ≡ k → k < length images
    → total ≡ exponent_sum (take k images) → word ≡ syllables_of 0 (get_or images i []) → part ≡ sum_by (λ s. s.exponent) word
    → total + part ≡ exponent_sum (take (k + 1) images)
exponents_more images k i total part word place inside so_far same exponents =
    let here : part ≡ sum (get_or images k []) =
    exponents ∙ ap (λ (w : List Syllable). sum_by (λ s. s.exponent) w) same ∙ sum_by-syllables_of 0 (get_or images i [])
    ∙ ap (λ (j : ℕ). sum (get_or images j [])) place in
    omega (arith, sum_by_more sum images k [] inside)
