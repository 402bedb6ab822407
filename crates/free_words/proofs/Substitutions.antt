-- A substituted word is made of the images of the letters, one after the other.
use Rattle.std.proofs.Common.{◌≡◌, ℕ, zero, suc, ◌+◌, ◌-◌, ◌<◌, ℤ, pos, negsuc, ◌<ℤ◌, ◌≤ℤ◌, List, [], ◌∷◌, ◌++◌, get_or, take, length}
use Rattle.std.proofs.Common.{unsigned_abs, ap, subst, ◌∙◌, arith}
use Rattle.std.proofs.lemmas.Int.{ints}
use Rattle.std.proofs.lemmas.List.{append-nil, take_more}
use Rattle.pq_base.proofs.words.WordLaws.{sub-append}
use Rattle.pq_base.proofs.words.LetterLaws.{HasLetters-inv}
use Rattle.free_words.proofs.Lengths.{length-inv}
use Rattle.pq_base.specs.SignedWord.{inv, image_of, sub, IsLetter, HasLetters}

-- one letter more at the end
pub sub-take_more : (w : List ℤ) (f : List (List ℤ)) (i : ℕ) → i < length w
    → sub (take (i + 1) w) f ≡ sub (take i w) f ++ image_of f (get_or w i (pos 0))
sub-take_more w f i l =
    ap (λ (v : List ℤ). sub v f) (take_more w i (pos 0) l) ∙ sub-append (take i w) (get_or w i (pos 0) ∷ []) f
    ∙ ap (λ (v : List ℤ). sub (take i w) f ++ v) (append-nil (image_of f (get_or w i (pos 0))))

-- the image of a generator, by its place
pub image_of-positive : (f : List (List ℤ)) (n : ℕ) (k : ℤ) → IsLetter n k → pos 0 ≤ℤ k → image_of f k ≡ get_or f (unsigned_abs k - 1) []
image_of-positive f n (pos zero) h l = absurd h
image_of-positive f n (pos (suc k)) h l = ap (λ (i : ℕ). get_or f i []) (omega arith)
image_of-positive f n (negsuc k) h l = absurd (omega (arith, ints))

pub image_of-negative : (f : List (List ℤ)) (k : ℤ) → k <ℤ pos 0 → image_of f k ≡ inv (get_or f (unsigned_abs k - 1) [])
image_of-negative f (pos k) l = absurd (omega (arith, ints))
image_of-negative f (negsuc k) l = ap (λ (i : ℕ). inv (get_or f i [])) (omega arith)

pub length-image_of : (f : List (List ℤ)) (n : ℕ) (k : ℤ) → IsLetter n k → length (image_of f k) ≡ length (get_or f (unsigned_abs k - 1) [])
length-image_of f n (pos zero) h = absurd h
length-image_of f n (pos (suc k)) h = ap (λ (i : ℕ). length (get_or f i [])) (omega arith)
length-image_of f n (negsuc k) h = length-inv (get_or f k []) ∙ ap (λ (i : ℕ). length (get_or f i [])) (omega arith)

pub HasLetters-image_at : (m : ℕ) (f : List (List ℤ)) (n : ℕ) (k : ℤ) → IsLetter n k → HasLetters m (get_or f (unsigned_abs k - 1) [])
    → HasLetters m (image_of f k)
HasLetters-image_at m f n (pos zero) h l = absurd h
HasLetters-image_at m f n (pos (suc k)) h l = subst (λ (i : ℕ). HasLetters m (get_or f i [])) (omega arith) l
HasLetters-image_at m f n (negsuc k) h l =
    HasLetters-inv m (get_or f k []) (subst (λ (i : ℕ). HasLetters m (get_or f i [])) (omega arith) l)
