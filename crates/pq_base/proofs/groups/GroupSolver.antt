-- Two products that reduce freely to one word have one value in every group. So an identity of groups is proved by
-- writing its sides as products of generators.
use Rattle.std.proofs.Common.{◌≡◌, ℕ, zero, suc, Bool, true, false, eqb, ℤ, pos, negsuc, neg_ℤ, List, [], ◌∷◌, ◌++◌, get_or, refl, ap, sym}
use Rattle.std.proofs.Common.{subst}
use borrow.Author.Tests.{eqb-true}
use Rattle.pq_base.specs.SignedWord.{inv}
use Rattle.pq_base.specs.Presentation.{letter}
use Rattle.pq_base.proofs.groups.Groups.{Group, element_in, value_in, same_from_equal, times-same_left, times_in-inverse-times}
use Rattle.pq_base.proofs.groups.Groups.{element_in-neg, value_in-append, value_in-inv, value_in-letter}

-- a product of the elements of a list; numbers count from 0
pub data Product : Type 0 where
  at : ℕ → Product
  unit : Product
  product : Product → Product → Product
  inverted : Product → Product

abbrev pub conj_of : Product → Product → Product
conj_of a b = product (inverted b) (product a b)

abbrev pub comm_of : Product → Product → Product
comm_of a b = product (inverted a) (product (inverted b) (product a b))

abbrev pub product_in : (G : Group) → List G.carrier → Product → G.carrier
product_in G f (at i) = get_or f i G.one
product_in G f unit = G.one
product_in G f (product a b) = G.times (product_in G f a) (product_in G f b)
product_in G f (inverted a) = G.inverse (product_in G f a)

abbrev pub word_of : Product → List ℤ
word_of (at i) = letter i
word_of unit = []
word_of (product a b) = word_of a ++ word_of b
word_of (inverted a) = inv (word_of a)

-- the second letter is the inverse of the first
abbrev pub is_inverse : ℤ → ℤ → Bool
is_inverse (pos (suc m)) (negsuc n) = eqb m n
is_inverse (negsuc m) (pos (suc n)) = eqb m n
is_inverse _ _ = false

-- a letter before a reduced word
abbrev pub put_where : Bool → ℤ → ℤ → List ℤ → List ℤ
put_where true k m w = w
put_where false k m w = k ∷ m ∷ w

abbrev pub put : ℤ → List ℤ → List ℤ
put k [] = k ∷ []
put k (m ∷ w) = put_where (is_inverse k m) k m w

abbrev pub reduced : List ℤ → List ℤ
reduced [] = []
reduced (k ∷ w) = put k (reduced w)

is_inverse-true : (k m : ℤ) → is_inverse k m ≡ true → m ≡ neg_ℤ k
is_inverse-true (pos zero) m e = cc
is_inverse-true (pos (suc k)) (pos m) e = cc
is_inverse-true (pos (suc k)) (negsuc m) e = ap negsuc (sym (eqb-true k m e))
is_inverse-true (negsuc k) (pos zero) e = cc
is_inverse-true (negsuc k) (pos (suc m)) e = ap (λ (n : ℕ). pos (suc n)) (sym (eqb-true k m e))
is_inverse-true (negsuc k) (negsuc m) e = cc

module _ (G : Group) (f : List G.carrier) where
  value_in-put : (k : ℤ) (w : List ℤ) → G.same (value_in G f (put k w)) (value_in G f (k ∷ w))
  value_in-put k [] = G.reflexive (value_in G f (k ∷ []))
  value_in-put k (m ∷ w) = by_test (is_inverse k m) refl
    where
      by_test : (b : Bool) → is_inverse k m ≡ b → G.same (value_in G f (put_where b k m w)) (value_in G f (k ∷ m ∷ w))
      by_test true e =
          subst (λ (n : ℤ). G.same (value_in G f w) (value_in G f (k ∷ n ∷ w))) (sym (is_inverse-true k m e))
          (G.symmetric (G.transitive
          (times-same_left G (element_in G f k) (G.times-same (element_in-neg G f k) (G.reflexive (value_in G f w))))
          (times_in-inverse-times G (element_in G f k) (value_in G f w))))
      by_test false e = G.reflexive (value_in G f (k ∷ m ∷ w))

  pub value_in-reduced : (w : List ℤ) → G.same (value_in G f (reduced w)) (value_in G f w)
  value_in-reduced [] = G.reflexive G.one
  value_in-reduced (k ∷ w) =
      G.transitive (value_in-put k (reduced w)) (times-same_left G (element_in G f k) (value_in-reduced w))

  pub product_in-word_of : (a : Product) → G.same (product_in G f a) (value_in G f (word_of a))
  product_in-word_of (at i) = G.symmetric (value_in-letter G f (pos (suc i)))
  product_in-word_of unit = G.reflexive G.one
  product_in-word_of (product a b) =
      G.transitive (G.times-same (product_in-word_of a) (product_in-word_of b)) (G.symmetric (value_in-append G f (word_of a) (word_of b)))
  product_in-word_of (inverted a) =
      G.transitive (G.inverse-same (product_in-word_of a)) (G.symmetric (value_in-inv G f (word_of a)))

  pub by_reduction : (a b : Product) → reduced (word_of a) ≡ reduced (word_of b) → G.same (product_in G f a) (product_in G f b)
  by_reduction a b e =
      G.transitive (product_in-word_of a)
      (G.transitive (G.symmetric (value_in-reduced (word_of a)))
      (G.transitive (same_from_equal G (ap (value_in G f) e))
      (G.transitive (value_in-reduced (word_of b)) (G.symmetric (product_in-word_of b)))))
