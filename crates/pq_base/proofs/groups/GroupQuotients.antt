-- A group modulo a normal set is a group up to an equivalence on the same elements. So where the relators have values in a
-- normal set, joined words have values that differ by an element of it.
use Rattle.std.proofs.Common.{◌≡◌, ℤ, pos, negsuc, zero, suc, List, [], ◌∷◌, refl}
use Rattle.pq_base.specs.Presentation.{Presentation, IsRelatorOf}
use Rattle.pq_base.specs.Joined.{Joined}
use Rattle.pq_base.proofs.groups.Groups.{Group, element_in, value_in, conjugate_in, value_in-joined}
use Rattle.pq_base.proofs.groups.GroupSolver.{conj_of, by_reduction}
use Rattle.pq_base.proofs.groups.GroupSolver.Product.{at, product, inverted}

-- a predicate that the equivalence keeps, closed under products, inverses and all conjugates
pub record IsNormalSet (G : Group) (M : G.carrier → Type 0) : Type 0 where
  pub kept : {x y : G.carrier} → G.same x y → M x → M y
  pub one : M G.one
  pub times : (x y : G.carrier) → M x → M y → M (G.times x y)
  pub inverse : (x : G.carrier) → M x → M (G.inverse x)
  pub conjugate : (x y : G.carrier) → M x → M (conjugate_in G x y)

-- elements that differ by an element of M
abbrev pub differ_by : (G : Group) → (G.carrier → Type 0) → G.carrier → G.carrier → Type 0
differ_by G M x y = M (G.times (G.inverse x) y)

module _ (G : Group) (M : G.carrier → Type 0) (n : IsNormalSet G M) where
  pub differ-same : {x y : G.carrier} → G.same x y → differ_by G M x y
  differ-same {x} {y} e = n.kept (G.symmetric (G.transitive (G.times-same (G.inverse-same e) (G.reflexive y)) (G.inverse_left y))) n.one

  pub differ-sym : (x y : G.carrier) → differ_by G M x y → differ_by G M y x
  differ-sym x y h =
      n.kept (by_reduction G (x ∷ y ∷ []) (inverted (product (inverted (at 0)) (at 1))) (product (inverted (at 1)) (at 0)) refl)
      (n.inverse (G.times (G.inverse x) y) h)

  pub differ-trans : (x y z : G.carrier) → differ_by G M x y → differ_by G M y z → differ_by G M x z
  differ-trans x y z h i =
      n.kept (by_reduction G (x ∷ y ∷ z ∷ []) (product (product (inverted (at 0)) (at 1)) (product (inverted (at 1)) (at 2)))
      (product (inverted (at 0)) (at 2)) refl)
      (n.times (G.times (G.inverse x) y) (G.times (G.inverse y) z) h i)

  pub differ-times : (x y u v : G.carrier) → differ_by G M x y → differ_by G M u v → differ_by G M (G.times x u) (G.times y v)
  differ-times x y u v h i =
      n.kept (by_reduction G (x ∷ y ∷ u ∷ v ∷ [])
      (product (conj_of (product (inverted (at 0)) (at 1)) (at 2)) (product (inverted (at 2)) (at 3)))
      (product (inverted (product (at 0) (at 2))) (product (at 1) (at 3))) refl)
      (n.times (conjugate_in G (G.times (G.inverse x) y) u) (G.times (G.inverse u) v) (n.conjugate (G.times (G.inverse x) y) u h) i)

  pub differ-inverse : (x y : G.carrier) → differ_by G M x y → differ_by G M (G.inverse x) (G.inverse y)
  differ-inverse x y h =
      n.kept (by_reduction G (x ∷ y ∷ [])
      (conj_of (inverted (product (inverted (at 0)) (at 1))) (inverted (at 0)))
      (product (inverted (inverted (at 0))) (inverted (at 1))) refl)
      (n.conjugate (G.inverse (G.times (G.inverse x) y)) (G.inverse x) (n.inverse (G.times (G.inverse x) y) h))

  abbrev pub quotient_group : Group
  quotient_group = record {
    carrier = G.carrier;
    same = differ_by G M;
    times = G.times;
    one = G.one;
    inverse = G.inverse;
    reflexive = λ x. differ-same (G.reflexive x);
    symmetric = λ {x} {y} h. differ-sym x y h;
    transitive = λ {x} {y} {z} h i. differ-trans x y z h i;
    times-same = λ {x} {y} {u} {v} h i. differ-times x y u v h i;
    inverse-same = λ {x} {y} h. differ-inverse x y h;
    associative = λ x y z. differ-same (G.associative x y z);
    one_left = λ x. differ-same (G.one_left x);
    one_right = λ x. differ-same (G.one_right x);
    inverse_left = λ x. differ-same (G.inverse_left x);
    inverse_right = λ x. differ-same (G.inverse_right x);
  }

  -- an element of the set is trivial in the quotient
  pub differ-one : (x : G.carrier) → M x → differ_by G M x G.one
  differ-one x h = n.kept (G.symmetric (G.one_right (G.inverse x))) (n.inverse x h)

  -- values are the values of the group
  pub element_in-quotient : (f : List G.carrier) (k : ℤ) → element_in quotient_group f k ≡ element_in G f k
  element_in-quotient f (pos zero) = refl
  element_in-quotient f (pos (suc i)) = refl
  element_in-quotient f (negsuc i) = refl

  pub value_in-quotient : (f : List G.carrier) (w : List ℤ) → value_in quotient_group f w ≡ value_in G f w
  value_in-quotient f [] = refl
  value_in-quotient f (k ∷ w) = rw (element_in-quotient f k, value_in-quotient f w)

  -- joined words have values that differ by an element of a normal set that holds the values of the relators
  pub differ-joined : (P : Presentation) (f : List G.carrier) → ((r : List ℤ) → IsRelatorOf P r → M (value_in G f r))
      → {u v : List ℤ} → Joined P u v → differ_by G M (value_in G f u) (value_in G f v)
  differ-joined P f kills {u} {v} c =
      let at_relators : (r : List ℤ) → IsRelatorOf P r → differ_by G M (value_in quotient_group f r) G.one =
      λ r h. rw (value_in-quotient f r) (differ-one (value_in G f r) (kills r h)) in
      let d : differ_by G M (value_in quotient_group f u) (value_in quotient_group f v) =
      value_in-joined quotient_group P f at_relators c in
      rw (value_in-quotient f u, value_in-quotient f v) at d
