-- Elements that commute, and elements that commute with a closed part of a group: products, inverses and powers of such
-- elements are such, and they go out of commutators, powers and conjugates.
use Rattle.std.proofs.Common.{ℕ, zero, suc, [], ◌∷◌, refl}
use Rattle.pq_base.proofs.groups.Groups.{Group, power_in, conjugate_in, commutator_in, times-same_left, times-same_right}
use Rattle.pq_base.proofs.groups.Groups.{times_in-cancel_left, inverse_in-times-times}
use Rattle.pq_base.proofs.groups.GroupSolver.{conj_of, comm_of, by_reduction}
use Rattle.pq_base.proofs.groups.GroupSolver.Product.{at, product, inverted}
use Rattle.pq_base.proofs.groups.GroupIdentities.{times_in-swap, commutator_in-times_left, inverse_in-commutator}
use Rattle.pq_base.proofs.groups.GroupLevels.{IsClosed}

pub record Commute (G : Group) (a b : G.carrier) : Type 0 where
  pub swap : G.same (G.times a b) (G.times b a)

module _ (G : Group) where
  pub commute-sym : {a b : G.carrier} → Commute G a b → Commute G b a
  commute-sym c = record { swap = G.symmetric c.swap }

  pub commute-same : {a b c : G.carrier} → G.same a b → Commute G a c → Commute G b c
  commute-same {c = c} e h = record {
    swap = G.transitive (times-same_right G c (G.symmetric e)) (G.transitive h.swap (times-same_left G c e));
  }

  pub commute-self : (a : G.carrier) → Commute G a a
  commute-self a = record { swap = G.reflexive (G.times a a) }

  pub commute-one : (a : G.carrier) → Commute G G.one a
  commute-one a = record { swap = G.transitive (G.one_left a) (G.symmetric (G.one_right a)) }

  pub commute-times : (a b c : G.carrier) → Commute G a c → Commute G b c → Commute G (G.times a b) c
  commute-times a b c h i = record {
    swap =
        G.transitive (G.associative a b c)
        (G.transitive (times-same_left G a i.swap)
        (G.transitive (G.symmetric (G.associative a c b))
        (G.transitive (times-same_right G b h.swap) (G.associative c a b))));
  }

  pub commute-inverse : (a b : G.carrier) → Commute G a b → Commute G (G.inverse a) b
  commute-inverse a b h = record {
    swap =
        times_in-cancel_left G a (G.times (G.inverse a) b) (G.times b (G.inverse a))
        (G.transitive (by_reduction G (a ∷ b ∷ []) (product (at 0) (product (inverted (at 0)) (at 1)))
        (product (product (at 1) (at 0)) (inverted (at 0))) refl)
        (G.transitive (times-same_right G (G.inverse a) (G.symmetric h.swap)) (G.associative a b (G.inverse a))));
  }

  pub commute-power : (a b : G.carrier) (n : ℕ) → Commute G a b → Commute G (power_in G a n) b
  commute-power a b zero h = commute-one b
  commute-power a b (suc n) h = commute-times a (power_in G a n) b h (commute-power a b n h)

  -- commutators and conjugates of elements that commute
  pub commutator_in-commute : (a b : G.carrier) → Commute G a b → G.same (commutator_in G a b) G.one
  commutator_in-commute a b h =
      times_in-cancel_left G (G.times b a) (commutator_in G a b) G.one
      (G.transitive (by_reduction G (a ∷ b ∷ []) (product (product (at 1) (at 0)) (comm_of (at 0) (at 1))) (product (at 0) (at 1)) refl)
      (G.transitive h.swap (G.symmetric (G.one_right (G.times b a)))))

  pub commute-from_commutator : (a b : G.carrier) → G.same (commutator_in G a b) G.one → Commute G a b
  commute-from_commutator a b e = record {
    swap = G.transitive (times_in-swap G a b) (times-same_left G b (G.transitive (times-same_left G a e) (G.one_right a)));
  }

  pub conjugate_in-commute : (a b : G.carrier) → Commute G a b → G.same (conjugate_in G a b) a
  conjugate_in-commute a b h = G.transitive (times-same_left G (G.inverse b) h.swap) (inverse_in-times-times G b a)

  -- the power of a product of elements that commute
  pub power_in-times : (a b : G.carrier) (n : ℕ) → Commute G a b
      → G.same (power_in G (G.times a b) n) (G.times (power_in G a n) (power_in G b n))
  power_in-times a b zero h = G.symmetric (G.one_left G.one)
  power_in-times a b (suc n) h =
      let x = power_in G a n in
      let y = power_in G b n in
      G.transitive (times-same_left G (G.times a b) (power_in-times a b n h))
      (G.transitive (by_reduction G (a ∷ b ∷ x ∷ y ∷ []) (product (product (at 0) (at 1)) (product (at 2) (at 3)))
      (product (at 0) (product (product (at 1) (at 2)) (at 3))) refl)
      (G.transitive (times-same_left G a (times-same_right G y (G.symmetric (commute-power a b n h).swap)))
      (by_reduction G (a ∷ b ∷ x ∷ y ∷ []) (product (at 0) (product (product (at 2) (at 1)) (at 3)))
      (product (product (at 0) (at 2)) (product (at 1) (at 3))) refl)))

-- an element that commutes with all of V
pub record IsCentralIn (G : Group) (V : G.carrier → Type 0) (z : G.carrier) : Type 0 where
  pub commutes : (w : G.carrier) → V w → Commute G z w

module _ (G : Group) (V : G.carrier → Type 0) where
  pub central-one : IsCentralIn G V G.one
  central-one = record { commutes = λ w h. commute-one G w }

  pub central-same : {z y : G.carrier} → G.same z y → IsCentralIn G V z → IsCentralIn G V y
  central-same e c = record { commutes = λ w h. commute-same G e (c.commutes w h) }

  pub central-times : (z y : G.carrier) → IsCentralIn G V z → IsCentralIn G V y → IsCentralIn G V (G.times z y)
  central-times z y c d = record { commutes = λ w h. commute-times G z y w (c.commutes w h) (d.commutes w h) }

  pub central-inverse : (z : G.carrier) → IsCentralIn G V z → IsCentralIn G V (G.inverse z)
  central-inverse z c = record { commutes = λ w h. commute-inverse G z w (c.commutes w h) }

  pub central-power : (z : G.carrier) (n : ℕ) → IsCentralIn G V z → IsCentralIn G V (power_in G z n)
  central-power z n c = record { commutes = λ w h. commute-power G z w n (c.commutes w h) }

  module _ (closed : IsClosed G V) where
    closed-commutator : (u v : G.carrier) → V u → V v → V (commutator_in G u v)
    closed-commutator u v h i =
        closed.times (G.inverse u) (conjugate_in G u v) (closed.inverse u h)
        (closed.times (G.inverse v) (G.times u v) (closed.inverse v i) (closed.times u v h i))

    -- central factors go out of commutators
    pub commutator_in-central_left : (u v z : G.carrier) → V u → V v → IsCentralIn G V z
        → G.same (commutator_in G (G.times u z) v) (commutator_in G u v)
    commutator_in-central_left u v z h i c =
        G.transitive (commutator_in-times_left G u z v)
        (G.transitive (G.times-same
        (conjugate_in-commute G (commutator_in G u v) z (commute-sym G (c.commutes (commutator_in G u v) (closed-commutator u v h i))))
        (commutator_in-commute G z v (c.commutes v i)))
        (G.one_right (commutator_in G u v)))

    pub commutator_in-central_right : (u v z : G.carrier) → V u → V v → IsCentralIn G V z
        → G.same (commutator_in G u (G.times v z)) (commutator_in G u v)
    commutator_in-central_right u v z h i c =
        G.transitive (G.symmetric (inverse_in-commutator G (G.times v z) u))
        (G.transitive (G.inverse-same (commutator_in-central_left v u z i h c)) (inverse_in-commutator G v u))

    -- and out of conjugates and powers
    pub conjugate_in-central : (u v z : G.carrier) → V u → V v → IsCentralIn G V z
        → G.same (conjugate_in G u (G.times v z)) (conjugate_in G u v)
    conjugate_in-central u v z h i c =
        G.transitive (by_reduction G (u ∷ v ∷ z ∷ []) (conj_of (at 0) (product (at 1) (at 2)))
        (conj_of (conj_of (at 0) (at 1)) (at 2)) refl)
        (conjugate_in-commute G (conjugate_in G u v) z
        (commute-sym G (c.commutes (conjugate_in G u v)
        (closed.times (G.inverse v) (G.times u v) (closed.inverse v i) (closed.times u v h i)))))

    pub power_in-central : (u z : G.carrier) (n : ℕ) → V u → IsCentralIn G V z
        → G.same (power_in G (G.times u z) n) (G.times (power_in G u n) (power_in G z n))
    power_in-central u z n h c = power_in-times G u z n (commute-sym G (c.commutes u h))
