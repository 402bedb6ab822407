-- Signed words: lists of integers. The letter k is generator k, and -k its inverse. Nothing cancels.
-- Every word here is total: a letter that names no entry of a list of images stands for the empty word.
-- From: the free monoid on generators and their inverses, as in any text on presentations of groups.
use Rattle.std.specs.Prelude.{◌<◌, ℕ, zero, suc, ℤ, pos, negsuc, neg_ℤ, List, [], ◌∷◌, ◌++◌, get_or}

-- a word backwards, each letter inverted
abbrev pub inv : List ℤ → List ℤ
inv [] = []
inv (k ∷ u) = inv u ++ neg_ℤ k ∷ []

-- a word n times over
abbrev pub copies : List ℤ → ℕ → List ℤ
copies u zero = []
copies u (suc n) = u ++ copies u n

-- a power; a negative one repeats the inverse
abbrev pub pow : List ℤ → ℤ → List ℤ
pow u (pos n) = copies u n
pow u (negsuc n) = copies (inv u) (suc n)

-- the commutator of u and v is u⁻¹ v⁻¹ u v
abbrev pub comm : List ℤ → List ℤ → List ℤ
comm u v = inv u ++ (inv v ++ (u ++ v))

-- the conjugate of u by v is v⁻¹ u v
abbrev pub conj : List ℤ → List ℤ → List ℤ
conj u v = inv v ++ (u ++ v)

-- what a letter becomes under a list of images, the first for generator 1
abbrev pub image_of : List (List ℤ) → ℤ → List ℤ
image_of f (pos zero) = []
image_of f (pos (suc n)) = get_or f n []
image_of f (negsuc n) = inv (get_or f n [])

-- a word with each letter replaced by its image
abbrev pub sub : List ℤ → List (List ℤ) → List ℤ
sub [] f = []
sub (k ∷ w) f = image_of f k ++ sub w f

-- a letter of n generators
abbrev pub IsLetter : ℕ → ℤ → Type 0
IsLetter n (pos zero) = ⊥
IsLetter n (pos (suc k)) = k < n
IsLetter n (negsuc k) = k < n

-- a word over n generators
abbrev pub HasLetters : ℕ → List ℤ → Type 0
HasLetters n [] = Unit {0}
HasLetters n (k ∷ w) = IsLetter n k × HasLetters n w
