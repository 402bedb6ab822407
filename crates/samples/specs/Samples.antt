-- Samples: presentations in 32 generators of the free group on two, each made from a number. Numbers are drawn one after the other,
-- beginning with it; they give letters, the letters words in the first two generators, and each later generator is one of these words.
-- From: this project's own. The numbers are those of the linear congruential generator that the C standard shows for its `rand`.
use Rattle.std.specs.Prelude.{ℕ, zero, suc, ◌+◌, ◌*◌, ◌/◌, ◌%◌, ◌^◌, ℤ, pos, negsuc, List, [], ◌∷◌, ◌++◌, get_or, map, codes, decimal}
use Rattle.pq_base.specs.Prime.{offered_primes}
use Rattle.pq_base.specs.SignedWord.{inv}
use Rattle.pq_base.specs.LPresentation.{LPresentation}
use Rattle.pq_base.specs.Canonical.{numbers_from}

-- the number that is drawn after another
abbrev pub next_number : ℕ → ℕ
next_number s = (s * 1103515245 + 12345) % 2 ^ 31

-- the letters 1, -1, 2, -2 for 0, 1, 2, 3
abbrev pub letter_for : ℕ → ℤ
letter_for zero = pos 1
letter_for (suc zero) = negsuc 0
letter_for (suc (suc zero)) = pos 2
letter_for (suc (suc (suc k))) = negsuc 1

-- the letter that a drawn number gives
abbrev pub letter_of_number : ℕ → ℤ
letter_of_number s = letter_for ((s / 65536) % 4)

-- the last of so many numbers that are drawn after s
unfoldable pub number_after : ℕ → ℕ → ℕ
number_after zero s = s
number_after (suc k) s = number_after k (next_number s)

-- the word of the letters of so many numbers that are drawn after s
unfoldable pub drawn_word : ℕ → ℕ → List ℤ
drawn_word zero s = []
drawn_word (suc k) s = letter_of_number (next_number s) ∷ drawn_word k (next_number s)

-- so many words of 200 letters each
unfoldable pub drawn_words : ℕ → ℕ → List (List ℤ)
drawn_words zero s = []
drawn_words (suc k) s = drawn_word 200 s ∷ drawn_words k (number_after 200 s)

-- generator i and the generators after it are these words
abbrev pub relators_from : ℕ → List (List ℤ) → List (List ℤ)
relators_from i [] = []
relators_from i (w ∷ ws) = (pos i ∷ inv w) ∷ relators_from (suc i) ws

-- the letters 1 and 2 are exchanged, and signs are kept
abbrev pub exchanged : ℤ → ℤ
exchanged (pos (suc zero)) = pos 2
exchanged (pos (suc (suc zero))) = pos 1
exchanged (negsuc zero) = negsuc 1
exchanged (negsuc (suc zero)) = negsuc 0
exchanged k = k

-- the first two generators are carried to each other, and each later one to its word with these exchanged
abbrev pub exchange : List (List ℤ) → List (List ℤ)
exchange ws = (pos 2 ∷ []) ∷ (pos 1 ∷ []) ∷ map (λ w. map exchanged w) ws

-- x1 to x32
unfoldable pub sample_names : List (List ℕ)
sample_names = map (λ i. codes "x" ++ decimal i) (numbers_from 1 32)

-- the presentation with these words: for 0 the relators are fixed; else they are iterated, and the exchange is the one endomorphism
abbrev pub presentation_of : ℕ → List (List ℤ) → LPresentation
presentation_of zero ws = record { names = sample_names; fixed = relators_from 3 ws; iterated = []; endos = [] }
presentation_of (suc k) ws = record { names = sample_names; fixed = []; iterated = relators_from 3 ws; endos = exchange ws ∷ [] }

-- the sample of a number
unfoldable pub sample_presentation : ℕ → LPresentation
sample_presentation n = presentation_of ((n / 4) % 2) (drawn_words 30 n)

-- the prime that goes with it: 2, 3, 5 and 7 in turn
abbrev pub sample_prime : ℕ → ℕ
sample_prime n = get_or offered_primes (n % 4) 0

-- the class that its largest quotient is asked for
abbrev pub sample_class : ℕ
sample_class = 6
