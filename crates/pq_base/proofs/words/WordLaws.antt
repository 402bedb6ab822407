-- Words obey the laws of a monoid with reversal, and a substitution keeps products, inverses, powers and commutators.
-- Every law is an equation of lists: nothing cancels, and no letter has to be in range.
use Rattle.std.proofs.Common.{◌≡◌, ℕ, zero, suc, ◌+◌, ◌*◌, ℤ, pos, negsuc, neg_ℤ, List, [], ◌∷◌, ◌++◌, get_or, length, map, replicate, refl}
use Rattle.std.proofs.Common.{ap, sym, ◌∙◌, append_assoc, arith}
use Rattle.std.proofs.lemmas.List.{append-nil}
use Rattle.std.proofs.Math.Nat.{zero-add, add-zero, suc-add, mul-zero, mul-suc}
use Rattle.std.proofs.Math.ListN.{get_or-map}
use Rattle.std.proofs.Math.IntN.{neg_ℤ-neg_ℤ}
use Rattle.pq_base.specs.SignedWord.{inv, copies, pow, comm, conj, image_of, sub}
use Rattle.pq_base.specs.Presentation.{letter, word_from, normal_word}

-- inverses
pub inv-append : (u v : List ℤ) → inv (u ++ v) ≡ inv v ++ inv u
inv-append [] v = simp append-nil
inv-append (k ∷ u) v = simp (inv-append u v, append_assoc)

pub inv-inv : (u : List ℤ) → inv (inv u) ≡ u
inv-inv [] = refl
inv-inv (k ∷ u) = simp (inv-append, inv-inv u, neg_ℤ-neg_ℤ)

-- copies
pub copies-add : (u : List ℤ) (m n : ℕ) → copies u (m + n) ≡ copies u m ++ copies u n
copies-add u zero n = ap (copies u) (zero-add n)
copies-add u (suc m) n = ap (copies u) (suc-add m n) ∙ simp (copies-add u m n, append_assoc)

-- the word at the other end
pub append-copies : (u : List ℤ) (n : ℕ) → u ++ copies u n ≡ copies u n ++ u
append-copies u zero = simp append-nil
append-copies u (suc n) = ap (λ (v : List ℤ). u ++ v) (append-copies u n) ∙ sym (append_assoc u (copies u n) u)

pub copies-one : (u : List ℤ) → copies u 1 ≡ u
copies-one u = append-nil u

pub copies-nil : (n : ℕ) → copies [] n ≡ []
copies-nil zero = refl
copies-nil (suc n) = copies-nil n

pub copies-mul : (u : List ℤ) (m n : ℕ) → copies u (m * n) ≡ copies (copies u m) n
copies-mul u m zero = ap (copies u) (mul-zero m)
copies-mul u m (suc n) = ap (copies u) (mul-suc m n) ∙ copies-add u (m * n) m
    ∙ ap (λ (v : List ℤ). v ++ copies u m) (copies-mul u m n) ∙ sym (append-copies (copies u m) n)

pub inv-copies : (u : List ℤ) (n : ℕ) → inv (copies u n) ≡ copies (inv u) n
inv-copies u zero = refl
inv-copies u (suc n) = simp (inv-append, inv-copies u n) (sym (append-copies (inv u) n))

-- powers
pub pow-inv : (u : List ℤ) (n : ℤ) → pow (inv u) n ≡ inv (pow u n)
pow-inv u (pos n) = sym (inv-copies u n)
pow-inv u (negsuc n) = sym (inv-copies (inv u) (suc n))

pub pow-neg : (u : List ℤ) (n : ℤ) → pow u (neg_ℤ n) ≡ inv (pow u n)
pow-neg u (pos zero) = refl
pow-neg u (pos (suc n)) = sym (inv-copies u (suc n))
pow-neg u (negsuc n) = ap (λ (v : List ℤ). copies v (suc n)) (sym (inv-inv u)) ∙ sym (inv-copies (inv u) (suc n))

-- commutators and conjugates
pub inv-comm : (u v : List ℤ) → inv (comm u v) ≡ comm v u
inv-comm u v = simp (inv-append, inv-inv, append_assoc)

pub inv-conj : (u v : List ℤ) → inv (conj u v) ≡ conj (inv u) v
inv-conj u v = simp (inv-append, inv-inv, append_assoc)

pub conj-append : (u v w : List ℤ) → conj u (v ++ w) ≡ conj (conj u v) w
conj-append u v w = simp (inv-append, append_assoc)

-- substitution
pub image_of-neg : (f : List (List ℤ)) (k : ℤ) → image_of f (neg_ℤ k) ≡ inv (image_of f k)
image_of-neg f (pos zero) = refl
image_of-neg f (pos (suc n)) = refl
image_of-neg f (negsuc n) = sym (inv-inv (get_or f n []))

pub sub-append : (u v : List ℤ) (f : List (List ℤ)) → sub (u ++ v) f ≡ sub u f ++ sub v f
sub-append [] v f = refl
sub-append (k ∷ u) v f = simp (sub-append u v f, append_assoc)

pub sub-inv : (u : List ℤ) (f : List (List ℤ)) → sub (inv u) f ≡ inv (sub u f)
sub-inv [] f = refl
sub-inv (k ∷ u) f = simp (sub-append, sub-inv u f, image_of-neg, inv-append, append-nil)

pub sub-copies : (u : List ℤ) (n : ℕ) (f : List (List ℤ)) → sub (copies u n) f ≡ copies (sub u f) n
sub-copies u zero f = refl
sub-copies u (suc n) f = simp (sub-append, sub-copies u n f)

pub sub-pow : (u : List ℤ) (n : ℤ) (f : List (List ℤ)) → sub (pow u n) f ≡ pow (sub u f) n
sub-pow u (pos n) f = sub-copies u n f
sub-pow u (negsuc n) f = sub-copies (inv u) (suc n) f ∙ ap (λ (v : List ℤ). copies v (suc n)) (sub-inv u f)

pub sub-comm : (u v : List ℤ) (f : List (List ℤ)) → sub (comm u v) f ≡ comm (sub u f) (sub v f)
sub-comm u v f = simp (sub-append, sub-inv)

pub sub-conj : (u v : List ℤ) (f : List (List ℤ)) → sub (conj u v) f ≡ conj (sub u f) (sub v f)
sub-conj u v f = simp (sub-append, sub-inv)

pub image_of-map : (f g : List (List ℤ)) (k : ℤ) → image_of (map (λ (u : List ℤ). sub u g) f) k ≡ sub (image_of f k) g
image_of-map f g (pos zero) = refl
image_of-map f g (pos (suc n)) = get_or-map (λ (u : List ℤ). sub u g) f n []
image_of-map f g (negsuc n) = ap inv (get_or-map (λ (u : List ℤ). sub u g) f n []) ∙ sym (sub-inv (get_or f n []) g)

-- one substitution after another is the substitution of the images
pub sub-sub : (w : List ℤ) (f g : List (List ℤ)) → sub (sub w f) g ≡ sub w (map (λ (u : List ℤ). sub u g) f)
sub-sub [] f g = refl
sub-sub (k ∷ w) f g =
    simp (sub-append, sub-sub w f g) (ap (λ (v : List ℤ). v ++ sub w (map (λ (u : List ℤ). sub u g) f)) (sym (image_of-map f g k)))

-- a single generator
pub sub-letter : (i : ℕ) (f : List (List ℤ)) → sub (letter i) f ≡ get_or f i []
sub-letter i f = append-nil (get_or f i [])

-- words of exponents
pub word_from-append : (k : ℕ) (e f : List ℕ) → word_from k (e ++ f) ≡ word_from k e ++ word_from (k + length e) f
word_from-append k [] f = ap (λ (n : ℕ). word_from n f) (sym (add-zero k))
word_from-append k (x ∷ e) f = ap (λ (v : List ℤ). copies (letter k) x ++ v) (word_from-append (suc k) e f)
    ∙ sym (append_assoc (copies (letter k) x) (word_from (suc k) e) (word_from (suc k + length e) f))
    ∙ ap (λ (n : ℕ). (copies (letter k) x ++ word_from (suc k) e) ++ word_from n f) (omega arith)

pub word_from-zeros : (k n : ℕ) → word_from k (replicate n 0) ≡ []
word_from-zeros k zero = refl
word_from-zeros k (suc n) = word_from-zeros (suc k) n

pub word_from-append-zeros : (k n : ℕ) (e : List ℕ) → word_from k (e ++ replicate n 0) ≡ word_from k e
word_from-append-zeros k n e = word_from-append k e (replicate n 0)
    ∙ ap (λ (v : List ℤ). word_from k e ++ v) (word_from-zeros (k + length e) n) ∙ append-nil (word_from k e)

pub word_from-zeros-append : (k n : ℕ) (e : List ℕ) → word_from k (replicate n 0 ++ e) ≡ word_from (k + n) e
word_from-zeros-append k zero e = ap (λ (n : ℕ). word_from n e) (sym (add-zero k))
word_from-zeros-append k (suc n) e = word_from-zeros-append (suc k) n e ∙ ap (λ (m : ℕ). word_from m e) (omega arith)

pub normal_word-append : (e f : List ℕ) → normal_word (e ++ f) ≡ normal_word e ++ word_from (length e) f
normal_word-append e f = word_from-append 0 e f ∙ ap (λ (n : ℕ). word_from 0 e ++ word_from n f) (zero-add (length e))

pub normal_word-zeros : (n : ℕ) → normal_word (replicate n 0) ≡ []
normal_word-zeros n = word_from-zeros 0 n

-- the exponent of one generator alone
pub word_from-single : (k x : ℕ) → word_from k (x ∷ []) ≡ copies (letter k) x
word_from-single k x = append-nil (copies (letter k) x)
