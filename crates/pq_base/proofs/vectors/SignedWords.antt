-- Signed words: what inverses, powers, commutators, conjugates and substitutions of short words are.
use Rattle.std.proofs.Common.{◌≡◌, ℕ, pos, negsuc, [], ◌∷◌, refl, lit<, arith}
use Rattle.pq_base.specs.SignedWord.{inv, copies, pow, comm, conj, sub, HasLetters}

-- the inverse of x y⁻¹ is y x⁻¹
pub inverse_of_word : inv (pos 1 ∷ negsuc 1 ∷ []) ≡ pos 2 ∷ negsuc 0 ∷ []
inverse_of_word = refl

-- x y⁻¹ three times over
pub three_copies : copies (pos 1 ∷ negsuc 1 ∷ []) 3 ≡ pos 1 ∷ negsuc 1 ∷ pos 1 ∷ negsuc 1 ∷ pos 1 ∷ negsuc 1 ∷ []
three_copies = refl

-- (x y)⁻² is y⁻¹ x⁻¹ y⁻¹ x⁻¹
pub negative_power : pow (pos 1 ∷ pos 2 ∷ []) (negsuc 1) ≡ negsuc 1 ∷ negsuc 0 ∷ negsuc 1 ∷ negsuc 0 ∷ []
negative_power = refl

-- (x y)^2 is x y x y
pub positive_power : pow (pos 1 ∷ pos 2 ∷ []) (pos 2) ≡ pos 1 ∷ pos 2 ∷ pos 1 ∷ pos 2 ∷ []
positive_power = refl

-- x^0 is empty
pub zeroth_power : pow (pos 1 ∷ []) (pos 0) ≡ []
zeroth_power = refl

-- [y,x] is y⁻¹ x⁻¹ y x
pub commutator_of_letters : comm (pos 2 ∷ []) (pos 1 ∷ []) ≡ negsuc 1 ∷ negsuc 0 ∷ pos 2 ∷ pos 1 ∷ []
commutator_of_letters = refl

-- x to the y is y⁻¹ x y
pub conjugate_of_letter : conj (pos 1 ∷ []) (pos 2 ∷ []) ≡ negsuc 1 ∷ pos 1 ∷ pos 2 ∷ []
conjugate_of_letter = refl

-- x y⁻¹ under x to y and y to x x is y x⁻¹ x⁻¹
pub substitution : sub (pos 1 ∷ negsuc 1 ∷ []) ((pos 2 ∷ []) ∷ (pos 1 ∷ pos 1 ∷ []) ∷ []) ≡ pos 2 ∷ negsuc 0 ∷ negsuc 0 ∷ []
substitution = refl

-- a letter that names no image stands for the empty word
pub substitution_of_unknown_letters : sub (pos 0 ∷ pos 2 ∷ negsuc 1 ∷ pos 1 ∷ []) ((pos 5 ∷ []) ∷ []) ≡ pos 5 ∷ []
substitution_of_unknown_letters = refl

-- both generators and both inverses
pub letters_of_two : HasLetters 2 (pos 1 ∷ negsuc 1 ∷ pos 2 ∷ negsuc 0 ∷ [])
letters_of_two = (lit< tt, (lit< tt, (lit< tt, (lit< tt, tt))))

-- generator 3 is none of two
pub third_letter_is_none_of_two : HasLetters 2 (pos 1 ∷ pos 3 ∷ []) → ⊥
third_letter_is_none_of_two h = omega (arith, h.1.0)

-- nor is its inverse
pub third_inverse_is_none_of_two : HasLetters 2 (negsuc 2 ∷ []) → ⊥
third_inverse_is_none_of_two h = omega (arith, h.0)

-- 0 names no generator
pub zero_is_no_letter : (n : ℕ) → HasLetters n (pos 0 ∷ []) → ⊥
zero_is_no_letter n h = h.0
