-- The identities of conjugates, commutators and powers that hold in every group.
use Rattle.std.proofs.Common.{ℕ, zero, suc, ◌+◌, [], ◌∷◌, refl, ap}
use Rattle.std.proofs.Math.Nat.{zero-add, suc-add}
use Rattle.pq_base.proofs.groups.Groups.{Group, power_in, conjugate_in, commutator_in, same_from_equal, times-same_left, times-same_right}
use Rattle.pq_base.proofs.groups.Groups.{inverse_in-one, inverse_in-times}
use Rattle.pq_base.proofs.groups.GroupSolver.{Product, conj_of, comm_of, by_reduction}
use Rattle.pq_base.proofs.groups.GroupSolver.Product.{at, unit, product, inverted}

abbrev x : Product
x = at 0

abbrev y : Product
y = at 1

abbrev z : Product
z = at 2

module _ (G : Group) where
  -- conjugates
  pub conjugate_in-one : (c : G.carrier) → G.same (conjugate_in G G.one c) G.one
  conjugate_in-one c = by_reduction G (c ∷ []) (conj_of unit x) unit refl

  pub conjugate_in-times : (a b c : G.carrier) → G.same (conjugate_in G (G.times a b) c) (G.times (conjugate_in G a c) (conjugate_in G b c))
  conjugate_in-times a b c =
      by_reduction G (a ∷ b ∷ c ∷ []) (conj_of (product x y) z) (product (conj_of x z) (conj_of y z)) refl

  pub conjugate_in-inverse : (a c : G.carrier) → G.same (conjugate_in G (G.inverse a) c) (G.inverse (conjugate_in G a c))
  conjugate_in-inverse a c = by_reduction G (a ∷ c ∷ []) (conj_of (inverted x) y) (inverted (conj_of x y)) refl

  pub conjugate_in-commutator : (a b c : G.carrier)
      → G.same (conjugate_in G (commutator_in G a b) c) (commutator_in G (conjugate_in G a c) (conjugate_in G b c))
  conjugate_in-commutator a b c =
      by_reduction G (a ∷ b ∷ c ∷ []) (conj_of (comm_of x y) z) (comm_of (conj_of x z) (conj_of y z)) refl

  pub conjugate_in-power : (a c : G.carrier) (n : ℕ) → G.same (conjugate_in G (power_in G a n) c) (power_in G (conjugate_in G a c) n)
  conjugate_in-power a c zero = conjugate_in-one c
  conjugate_in-power a c (suc n) =
      G.transitive (conjugate_in-times a (power_in G a n) c) (times-same_left G (conjugate_in G a c) (conjugate_in-power a c n))

  -- commutators
  pub inverse_in-commutator : (a b : G.carrier) → G.same (G.inverse (commutator_in G a b)) (commutator_in G b a)
  inverse_in-commutator a b = by_reduction G (a ∷ b ∷ []) (inverted (comm_of x y)) (comm_of y x) refl

  -- the inverse as a commutator whose first entry is the inverse of a
  pub inverse_in-commutator_conjugate : (a b : G.carrier)
      → G.same (G.inverse (commutator_in G a b)) (commutator_in G (G.inverse a) (conjugate_in G b a))
  inverse_in-commutator_conjugate a b =
      by_reduction G (a ∷ b ∷ []) (inverted (comm_of x y)) (comm_of (inverted x) (conj_of y x)) refl

  pub commutator_in-times_left : (a b c : G.carrier)
      → G.same (commutator_in G (G.times a b) c) (G.times (conjugate_in G (commutator_in G a c) b) (commutator_in G b c))
  commutator_in-times_left a b c =
      by_reduction G (a ∷ b ∷ c ∷ []) (comm_of (product x y) z) (product (conj_of (comm_of x z) y) (comm_of y z)) refl

  pub commutator_in-times_right : (a b c : G.carrier)
      → G.same (commutator_in G a (G.times b c)) (G.times (commutator_in G a c) (conjugate_in G (commutator_in G a b) c))
  commutator_in-times_right a b c =
      by_reduction G (a ∷ b ∷ c ∷ []) (comm_of x (product y z)) (product (comm_of x z) (conj_of (comm_of x y) z)) refl

  pub times_in-swap : (a b : G.carrier) → G.same (G.times a b) (G.times b (G.times a (commutator_in G a b)))
  times_in-swap a b = by_reduction G (a ∷ b ∷ []) (product x y) (product y (product x (comm_of x y))) refl

  -- powers
  pub power_in-one : (a : G.carrier) → G.same (power_in G a 1) a
  power_in-one a = G.one_right a

  pub power_in-add : (a : G.carrier) (m n : ℕ) → G.same (power_in G a (m + n)) (G.times (power_in G a m) (power_in G a n))
  power_in-add a zero n = G.transitive (same_from_equal G (ap (power_in G a) (zero-add n))) (G.symmetric (G.one_left (power_in G a n)))
  power_in-add a (suc m) n =
      G.transitive (same_from_equal G (ap (power_in G a) (suc-add m n)))
      (G.transitive (times-same_left G a (power_in-add a m n)) (G.symmetric (G.associative a (power_in G a m) (power_in G a n))))

  pub times_in-power : (a : G.carrier) (n : ℕ) → G.same (G.times a (power_in G a n)) (G.times (power_in G a n) a)
  times_in-power a zero = G.transitive (G.one_right a) (G.symmetric (G.one_left a))
  times_in-power a (suc n) =
      G.transitive (times-same_left G a (times_in-power a n)) (G.symmetric (G.associative a (power_in G a n) a))

  pub inverse_in-power : (a : G.carrier) (n : ℕ) → G.same (G.inverse (power_in G a n)) (power_in G (G.inverse a) n)
  inverse_in-power a zero = inverse_in-one G
  inverse_in-power a (suc n) =
      G.transitive (inverse_in-times G a (power_in G a n))
      (G.transitive (times-same_right G (G.inverse a) (inverse_in-power a n)) (G.symmetric (times_in-power (G.inverse a) n)))
