-- Groups up to an equivalence, and the value of a word under a list of elements. A substitution and the value in a table
-- are both such values, so that their laws are proved once: values of joined words are the same where each relator has
-- value one.
use Rattle.std.proofs.Common.{◌≡◌, ℕ, zero, suc, ◌<◌, ℤ, pos, negsuc, neg_ℤ, List, [], ◌∷◌, ◌++◌, get_or, map, subst}
use Rattle.std.proofs.Math.ListN.{get_or-map}
use Rattle.pq_base.specs.SignedWord.{inv, copies, comm, conj, image_of, sub, IsLetter, HasLetters}
use Rattle.pq_base.specs.Presentation.{Presentation, IsRelatorOf}
use Rattle.pq_base.specs.Joined.{IsTrivial, Chain, Joined}
use Rattle.pq_base.specs.Joined.IsTrivial.{pair, relator}
use Rattle.pq_base.proofs.words.ChainLaws.{IsWordEquivalence, chain-induction}

pub record Group : Type 1 where
  pub carrier : Type 0
  pub same : carrier → carrier → Type 0
  pub times : carrier → carrier → carrier
  pub one : carrier
  pub inverse : carrier → carrier
  pub reflexive : (x : carrier) → same x x
  pub symmetric : {x y : carrier} → same x y → same y x
  pub transitive : {x y z : carrier} → same x y → same y z → same x z
  pub times-same : {x y u v : carrier} → same x y → same u v → same (times x u) (times y v)
  pub inverse-same : {x y : carrier} → same x y → same (inverse x) (inverse y)
  pub associative : (x y z : carrier) → same (times (times x y) z) (times x (times y z))
  pub one_left : (x : carrier) → same (times one x) x
  pub one_right : (x : carrier) → same (times x one) x
  pub inverse_left : (x : carrier) → same (times (inverse x) x) one
  pub inverse_right : (x : carrier) → same (times x (inverse x)) one

-- what a letter stands for under a list of elements, and the product along a word
abbrev pub element_in : (G : Group) → List G.carrier → ℤ → G.carrier
element_in G f (pos zero) = G.one
element_in G f (pos (suc n)) = get_or f n G.one
element_in G f (negsuc n) = G.inverse (get_or f n G.one)

abbrev pub value_in : (G : Group) → List G.carrier → List ℤ → G.carrier
value_in G f [] = G.one
value_in G f (k ∷ w) = G.times (element_in G f k) (value_in G f w)

abbrev pub power_in : (G : Group) → G.carrier → ℕ → G.carrier
power_in G x zero = G.one
power_in G x (suc n) = G.times x (power_in G x n)

abbrev pub conjugate_in : (G : Group) → G.carrier → G.carrier → G.carrier
conjugate_in G x y = G.times (G.inverse y) (G.times x y)

abbrev pub commutator_in : (G : Group) → G.carrier → G.carrier → G.carrier
commutator_in G x y = G.times (G.inverse x) (G.times (G.inverse y) (G.times x y))

module _ (G : Group) where
  pub same_from_equal : {x y : G.carrier} → x ≡ y → G.same x y
  same_from_equal {x} e = subst (λ (y : G.carrier). G.same x y) e (G.reflexive x)

  pub times-same_left : (z : G.carrier) {x y : G.carrier} → G.same x y → G.same (G.times z x) (G.times z y)
  times-same_left z e = G.times-same (G.reflexive z) e

  pub times-same_right : (z : G.carrier) {x y : G.carrier} → G.same x y → G.same (G.times x z) (G.times y z)
  times-same_right z e = G.times-same e (G.reflexive z)

  -- cancelling
  pub inverse_in-times-times : (x y : G.carrier) → G.same (G.times (G.inverse x) (G.times x y)) y
  inverse_in-times-times x y =
      G.transitive (G.symmetric (G.associative (G.inverse x) x y))
      (G.transitive (times-same_right y (G.inverse_left x)) (G.one_left y))

  pub times_in-inverse-times : (x y : G.carrier) → G.same (G.times x (G.times (G.inverse x) y)) y
  times_in-inverse-times x y =
      G.transitive (G.symmetric (G.associative x (G.inverse x) y))
      (G.transitive (times-same_right y (G.inverse_right x)) (G.one_left y))

  pub times_in-cancel_left : (z x y : G.carrier) → G.same (G.times z x) (G.times z y) → G.same x y
  times_in-cancel_left z x y e =
      G.transitive (G.symmetric (inverse_in-times-times z x)) (G.transitive (times-same_left (G.inverse z) e) (inverse_in-times-times z y))

  -- inverses
  pub inverse_in-unique : (x y : G.carrier) → G.same (G.times x y) G.one → G.same y (G.inverse x)
  inverse_in-unique x y e = times_in-cancel_left x y (G.inverse x) (G.transitive e (G.symmetric (G.inverse_right x)))

  pub inverse_in-one : G.same (G.inverse G.one) G.one
  inverse_in-one = G.symmetric (inverse_in-unique G.one G.one (G.one_left G.one))

  pub inverse_in-inverse : (x : G.carrier) → G.same (G.inverse (G.inverse x)) x
  inverse_in-inverse x = G.symmetric (inverse_in-unique (G.inverse x) x (G.inverse_left x))

  pub inverse_in-times : (x y : G.carrier) → G.same (G.inverse (G.times x y)) (G.times (G.inverse y) (G.inverse x))
  inverse_in-times x y =
      G.symmetric (inverse_in-unique (G.times x y) (G.times (G.inverse y) (G.inverse x))
      (G.transitive (G.associative x y (G.times (G.inverse y) (G.inverse x)))
      (G.transitive (times-same_left x (times_in-inverse-times y (G.inverse x))) (G.inverse_right x))))

  -- what is kept
  pub power_in-same : {x y : G.carrier} (n : ℕ) → G.same x y → G.same (power_in G x n) (power_in G y n)
  power_in-same zero e = G.reflexive G.one
  power_in-same (suc n) e = G.times-same e (power_in-same n e)

  pub conjugate_in-same : {x y u v : G.carrier} → G.same x y → G.same u v → G.same (conjugate_in G x u) (conjugate_in G y v)
  conjugate_in-same e h = G.times-same (G.inverse-same h) (G.times-same e h)

  pub commutator_in-same : {x y u v : G.carrier} → G.same x y → G.same u v → G.same (commutator_in G x u) (commutator_in G y v)
  commutator_in-same e h = G.times-same (G.inverse-same e) (conjugate_in-same e h)

  -- values
  pub element_in-neg : (f : List G.carrier) (k : ℤ) → G.same (element_in G f (neg_ℤ k)) (G.inverse (element_in G f k))
  element_in-neg f (pos zero) = G.symmetric inverse_in-one
  element_in-neg f (pos (suc n)) = G.reflexive (G.inverse (get_or f n G.one))
  element_in-neg f (negsuc n) = G.symmetric (inverse_in-inverse (get_or f n G.one))

  pub value_in-append : (f : List G.carrier) (u v : List ℤ) → G.same (value_in G f (u ++ v)) (G.times (value_in G f u) (value_in G f v))
  value_in-append f [] v = G.symmetric (G.one_left (value_in G f v))
  value_in-append f (k ∷ u) v =
      G.transitive (times-same_left (element_in G f k) (value_in-append f u v))
      (G.symmetric (G.associative (element_in G f k) (value_in G f u) (value_in G f v)))

  pub value_in-letter : (f : List G.carrier) (k : ℤ) → G.same (value_in G f (k ∷ [])) (element_in G f k)
  value_in-letter f k = G.one_right (element_in G f k)

  pub value_in-inv : (f : List G.carrier) (u : List ℤ) → G.same (value_in G f (inv u)) (G.inverse (value_in G f u))
  value_in-inv f [] = G.symmetric inverse_in-one
  value_in-inv f (k ∷ u) =
      G.transitive (value_in-append f (inv u) (neg_ℤ k ∷ []))
      (G.transitive (G.times-same (value_in-inv f u) (G.transitive (value_in-letter f (neg_ℤ k)) (element_in-neg f k)))
      (G.symmetric (inverse_in-times (element_in G f k) (value_in G f u))))

  pub value_in-copies : (f : List G.carrier) (u : List ℤ) (n : ℕ) → G.same (value_in G f (copies u n)) (power_in G (value_in G f u) n)
  value_in-copies f u zero = G.reflexive G.one
  value_in-copies f u (suc n) = G.transitive (value_in-append f u (copies u n)) (times-same_left (value_in G f u) (value_in-copies f u n))

  pub value_in-conj : (f : List G.carrier) (u v : List ℤ)
      → G.same (value_in G f (conj u v)) (conjugate_in G (value_in G f u) (value_in G f v))
  value_in-conj f u v = G.transitive (value_in-append f (inv v) (u ++ v)) (G.times-same (value_in-inv f v) (value_in-append f u v))

  pub value_in-comm : (f : List G.carrier) (u v : List ℤ)
      → G.same (value_in G f (comm u v)) (commutator_in G (value_in G f u) (value_in G f v))
  value_in-comm f u v = G.transitive (value_in-append f (inv u) (conj u v)) (G.times-same (value_in-inv f u) (value_in-conj f u v))

  -- the value of a substituted word
  pub value_in-image_of : (g : List G.carrier) (f : List (List ℤ)) (k : ℤ)
      → G.same (value_in G g (image_of f k)) (element_in G (map (λ (u : List ℤ). value_in G g u) f) k)
  value_in-image_of g f (pos zero) = G.reflexive G.one
  value_in-image_of g f (pos (suc n)) = G.symmetric (same_from_equal (get_or-map (λ (u : List ℤ). value_in G g u) f n []))
  value_in-image_of g f (negsuc n) =
      G.transitive (value_in-inv g (get_or f n []))
      (G.inverse-same (G.symmetric (same_from_equal (get_or-map (λ (u : List ℤ). value_in G g u) f n []))))

  pub value_in-sub : (g : List G.carrier) (w : List ℤ) (f : List (List ℤ))
      → G.same (value_in G g (sub w f)) (value_in G (map (λ (u : List ℤ). value_in G g u) f) w)
  value_in-sub g [] f = G.reflexive G.one
  value_in-sub g (k ∷ w) f =
      G.transitive (value_in-append g (image_of f k) (sub w f)) (G.times-same (value_in-image_of g f k) (value_in-sub g w f))

  -- values under lists whose first n elements are the same
  pub element_in-same : (n : ℕ) (f g : List G.carrier) → ((i : ℕ) → i < n → G.same (get_or f i G.one) (get_or g i G.one))
      → (k : ℤ) → IsLetter n k → G.same (element_in G f k) (element_in G g k)
  element_in-same n f g e (pos zero) h = G.reflexive G.one
  element_in-same n f g e (pos (suc i)) h = e i h
  element_in-same n f g e (negsuc i) h = G.inverse-same (e i h)

  pub value_in-same : (n : ℕ) (f g : List G.carrier) → ((i : ℕ) → i < n → G.same (get_or f i G.one) (get_or g i G.one))
      → (w : List ℤ) → HasLetters n w → G.same (value_in G f w) (value_in G g w)
  value_in-same n f g e [] h = G.reflexive G.one
  value_in-same n f g e (k ∷ w) h = G.times-same (element_in-same n f g e k h.0) (value_in-same n f g e w h.1)

  -- the general law: trivial words of value one make values of chains the same
  pub value_in-chain : (E : List ℤ → Type 0) (f : List G.carrier) → ((x : List ℤ) → E x → G.same (value_in G f x) G.one)
      → {u v : List ℤ} → Chain E u v → G.same (value_in G f u) (value_in G f v)
  value_in-chain E f kills c = chain-induction R equivalence at_insertion c
    where
      R : List ℤ → List ℤ → Type 0
      R u v = G.same (value_in G f u) (value_in G f v)

      equivalence : IsWordEquivalence R
      equivalence = record {
        reflexive = λ u. G.reflexive (value_in G f u);
        symmetric = λ u v e. G.symmetric e;
        transitive = λ u v w e h. G.transitive e h;
      }

      at_insertion : (a x b : List ℤ) → E x → R (a ++ b) (a ++ (x ++ b))
      at_insertion a x b e =
          G.transitive (value_in-append f a b)
          (G.transitive (times-same_left (value_in G f a)
          (G.symmetric (G.transitive (value_in-append f x b)
          (G.transitive (times-same_right (value_in G f b) (kills x e)) (G.one_left (value_in G f b))))))
          (G.symmetric (value_in-append f a (x ++ b))))

  pub value_in-pair : (f : List G.carrier) (k : ℤ) → G.same (value_in G f (k ∷ neg_ℤ k ∷ [])) G.one
  value_in-pair f k =
      G.transitive (times-same_left (element_in G f k) (G.transitive (value_in-letter f (neg_ℤ k)) (element_in-neg f k)))
      (G.inverse_right (element_in G f k))

  -- where each relator has value one, joined words have the same value
  pub value_in-joined : (P : Presentation) (f : List G.carrier) → ((r : List ℤ) → IsRelatorOf P r → G.same (value_in G f r) G.one)
      → {u v : List ℤ} → Joined P u v → G.same (value_in G f u) (value_in G f v)
  value_in-joined P f kills c = value_in-chain (IsTrivial P) f trivial c
    where
      trivial : (x : List ℤ) → IsTrivial P x → G.same (value_in G f x) G.one
      trivial x (pair k) = value_in-pair f k
      trivial x (relator r h) = kills r h
