-- Words made from words over n generators are words over n generators.
use Rattle.std.proofs.Common.{◌≡◌, ℕ, zero, suc, ◌+◌, ◌<◌, ◌≤◌, ℤ, pos, negsuc, neg_ℤ, List, [], ◌∷◌, ◌++◌, get_or, length, refl, arith}
use Rattle.pq_base.specs.SignedWord.{inv, copies, pow, comm, conj, image_of, sub, IsLetter, HasLetters}
use Rattle.pq_base.specs.LPresentation.{AreWords}
use Rattle.pq_base.specs.Presentation.{Presentation, IsPresentation, IsRelatorOf, letter, word_from, normal_word, power_side, power_word}
use Rattle.pq_base.specs.Presentation.{commutator_side, commutator_word}
use Rattle.pq_base.specs.Presentation.IsRelatorOf.{power_relator, commutator_relator}

pub IsLetter-neg : (n : ℕ) (k : ℤ) → IsLetter n k → IsLetter n (neg_ℤ k)
IsLetter-neg n (pos zero) h = h
IsLetter-neg n (pos (suc k)) h = h
IsLetter-neg n (negsuc k) h = h

pub IsLetter-weaken : (m n : ℕ) (k : ℤ) → m ≤ n → IsLetter m k → IsLetter n k
IsLetter-weaken m n (pos zero) l h = h
IsLetter-weaken m n (pos (suc k)) l h = omega arith
IsLetter-weaken m n (negsuc k) l h = omega arith

pub IsLetter-get_or : (n : ℕ) (w : List ℤ) (i : ℕ) (d : ℤ) → HasLetters n w → i < length w → IsLetter n (get_or w i d)
IsLetter-get_or n [] i d h l = absurd (omega arith)
IsLetter-get_or n (k ∷ w) zero d h l = h.0
IsLetter-get_or n (k ∷ w) (suc i) d h l = IsLetter-get_or n w i d h.1 (omega arith)

pub HasLetters-weaken : (m n : ℕ) (w : List ℤ) → m ≤ n → HasLetters m w → HasLetters n w
HasLetters-weaken m n [] l h = tt
HasLetters-weaken m n (k ∷ w) l h = (IsLetter-weaken m n k l h.0, HasLetters-weaken m n w l h.1)

pub HasLetters-append : (n : ℕ) (u v : List ℤ) → HasLetters n u → HasLetters n v → HasLetters n (u ++ v)
HasLetters-append n [] v h i = i
HasLetters-append n (k ∷ u) v h i = (h.0, HasLetters-append n u v h.1 i)

-- the parts of a word over n generators
pub HasLetters-append_left : (n : ℕ) (u v : List ℤ) → HasLetters n (u ++ v) → HasLetters n u
HasLetters-append_left n [] v h = tt
HasLetters-append_left n (k ∷ u) v h = (h.0, HasLetters-append_left n u v h.1)

pub HasLetters-append_right : (n : ℕ) (u v : List ℤ) → HasLetters n (u ++ v) → HasLetters n v
HasLetters-append_right n [] v h = h
HasLetters-append_right n (k ∷ u) v h = HasLetters-append_right n u v h.1

pub HasLetters-inv : (n : ℕ) (u : List ℤ) → HasLetters n u → HasLetters n (inv u)
HasLetters-inv n [] h = tt
HasLetters-inv n (k ∷ u) h = HasLetters-append n (inv u) (neg_ℤ k ∷ []) (HasLetters-inv n u h.1) (IsLetter-neg n k h.0, tt)

pub HasLetters-copies : (n : ℕ) (u : List ℤ) (m : ℕ) → HasLetters n u → HasLetters n (copies u m)
HasLetters-copies n u zero h = tt
HasLetters-copies n u (suc m) h = HasLetters-append n u (copies u m) h (HasLetters-copies n u m h)

pub HasLetters-pow : (n : ℕ) (u : List ℤ) (m : ℤ) → HasLetters n u → HasLetters n (pow u m)
HasLetters-pow n u (pos m) h = HasLetters-copies n u m h
HasLetters-pow n u (negsuc m) h = HasLetters-copies n (inv u) (suc m) (HasLetters-inv n u h)

pub HasLetters-conj : (n : ℕ) (u v : List ℤ) → HasLetters n u → HasLetters n v → HasLetters n (conj u v)
HasLetters-conj n u v h i = HasLetters-append n (inv v) (u ++ v) (HasLetters-inv n v i) (HasLetters-append n u v h i)

pub HasLetters-comm : (n : ℕ) (u v : List ℤ) → HasLetters n u → HasLetters n v → HasLetters n (comm u v)
HasLetters-comm n u v h i = HasLetters-append n (inv u) (conj u v) (HasLetters-inv n u h) (HasLetters-conj n u v h i)

-- substitution
pub HasLetters-get_or : (n : ℕ) (f : List (List ℤ)) (i : ℕ) → AreWords n f → HasLetters n (get_or f i [])
HasLetters-get_or n [] i h = tt
HasLetters-get_or n (u ∷ f) zero h = h.0
HasLetters-get_or n (u ∷ f) (suc i) h = HasLetters-get_or n f i h.1

pub HasLetters-image_of : (n : ℕ) (f : List (List ℤ)) (k : ℤ) → AreWords n f → HasLetters n (image_of f k)
HasLetters-image_of n f (pos zero) h = tt
HasLetters-image_of n f (pos (suc k)) h = HasLetters-get_or n f k h
HasLetters-image_of n f (negsuc k) h = HasLetters-inv n (get_or f k []) (HasLetters-get_or n f k h)

pub HasLetters-sub : (n : ℕ) (w : List ℤ) (f : List (List ℤ)) → AreWords n f → HasLetters n (sub w f)
HasLetters-sub n [] f h = tt
HasLetters-sub n (k ∷ w) f h = HasLetters-append n (image_of f k) (sub w f) (HasLetters-image_of n f k h) (HasLetters-sub n w f h)

-- lists of images that agree at the first n generators
pub sub_same : (n : ℕ) (w : List ℤ) (f g : List (List ℤ)) → HasLetters n w
    → ((i : ℕ) → i < n → get_or f i [] ≡ get_or g i []) → sub w f ≡ sub w g
sub_same n [] f g h e = refl
sub_same n (pos zero ∷ w) f g h e = absurd h.0
sub_same n (pos (suc k) ∷ w) f g h e = rw (e k h.0, sub_same n w f g h.1 e)
sub_same n (negsuc k ∷ w) f g h e = rw (e k h.0, sub_same n w f g h.1 e)

-- generators and words of exponents
pub HasLetters-letter : (n i : ℕ) → i < n → HasLetters n (letter i)
HasLetters-letter n i l = (l, tt)

pub HasLetters-word_from : (n k : ℕ) (e : List ℕ) → k + length e ≤ n → HasLetters n (word_from k e)
HasLetters-word_from n k [] l = tt
HasLetters-word_from n k (x ∷ e) l =
    HasLetters-append n (copies (letter k) x) (word_from (suc k) e)
    (HasLetters-copies n (letter k) x (HasLetters-letter n k (omega arith)))
    (HasLetters-word_from n (suc k) e (omega arith))

pub HasLetters-normal_word : (n : ℕ) (e : List ℕ) → length e ≤ n → HasLetters n (normal_word e)
HasLetters-normal_word n e l = HasLetters-word_from n 0 e (omega arith)

-- right sides and relators
pub HasLetters-power_word : (P : Presentation) → IsPresentation P → (i : ℕ) → i < P.rank → HasLetters P.rank (power_word P i)
HasLetters-power_word P p i l = let c = (p.power_sides i l).count in HasLetters-word_from P.rank (suc i) (power_side P i) (omega arith)

pub HasLetters-commutator_word : (P : Presentation) → IsPresentation P → (j i : ℕ) → j < P.rank → i < j
    → HasLetters P.rank (commutator_word P j i)
HasLetters-commutator_word P p j i l m = let c = (p.commutator_sides j i l m).count in
    HasLetters-word_from P.rank (suc j) (commutator_side P j i) (omega arith)

pub HasLetters-relator : (P : Presentation) → IsPresentation P → {r : List ℤ} → IsRelatorOf P r → HasLetters P.rank r
HasLetters-relator P p (power_relator i l) =
    HasLetters-append P.rank (copies (letter i) P.prime) (inv (power_word P i))
    (HasLetters-copies P.rank (letter i) P.prime (HasLetters-letter P.rank i l))
    (HasLetters-inv P.rank (power_word P i) (HasLetters-power_word P p i l))
HasLetters-relator P p (commutator_relator j i l m) =
    HasLetters-append P.rank (comm (letter j) (letter i)) (inv (commutator_word P j i))
    (HasLetters-comm P.rank (letter j) (letter i) (HasLetters-letter P.rank j l) (HasLetters-letter P.rank i (omega arith)))
    (HasLetters-inv P.rank (commutator_word P j i) (HasLetters-commutator_word P p j i l m))
