-- A map between groups that keeps products carries each level of the lower series into the level of the same number, and
-- onto it where every element is an image.
use Rattle.std.proofs.Common.{ℕ, zero, suc}
use Rattle.pq_base.proofs.groups.Groups.{Group, power_in, conjugate_in, commutator_in, times-same_left, times_in-cancel_left}
use Rattle.pq_base.proofs.groups.Groups.{inverse_in-unique, power_in-same, commutator_in-same}
use Rattle.pq_base.proofs.groups.GroupLevels.{IsClosed, NextIn, IsMade, InLevelIn, made-same, level-normal, next-inside}
use Rattle.pq_base.proofs.groups.GroupLevels.NextIn.{no_factor, commutator_times, power_times}

pub record IsMap (G H : Group) (h : G.carrier → H.carrier) : Type 0 where
  pub same : {x y : G.carrier} → G.same x y → H.same (h x) (h y)
  pub times : (x y : G.carrier) → H.same (h (G.times x y)) (H.times (h x) (h y))

module _ (G H : Group) (h : G.carrier → H.carrier) (m : IsMap G H h) where
  pub map-one : H.same (h G.one) H.one
  map-one =
      times_in-cancel_left H (h G.one) (h G.one) H.one
      (H.transitive (H.symmetric (m.times G.one G.one)) (H.transitive (m.same (G.one_left G.one)) (H.symmetric (H.one_right (h G.one)))))

  pub map-inverse : (x : G.carrier) → H.same (h (G.inverse x)) (H.inverse (h x))
  map-inverse x =
      inverse_in-unique H (h x) (h (G.inverse x))
      (H.transitive (H.symmetric (m.times x (G.inverse x))) (H.transitive (m.same (G.inverse_right x)) map-one))

  pub map-power : (x : G.carrier) (n : ℕ) → H.same (h (power_in G x n)) (power_in H (h x) n)
  map-power x zero = map-one
  map-power x (suc n) = H.transitive (m.times x (power_in G x n)) (times-same_left H (h x) (map-power x n))

  pub map-conjugate : (x y : G.carrier) → H.same (h (conjugate_in G x y)) (conjugate_in H (h x) (h y))
  map-conjugate x y = H.transitive (m.times (G.inverse y) (G.times x y)) (H.times-same (map-inverse y) (m.times x y))

  pub map-commutator : (x y : G.carrier) → H.same (h (commutator_in G x y)) (commutator_in H (h x) (h y))
  map-commutator x y = H.transitive (m.times (G.inverse x) (conjugate_in G x y)) (H.times-same (map-inverse x) (map-conjugate x y))

  module _ (p : ℕ) (V : G.carrier → Type 0) (W : H.carrier → Type 0) where
    -- into the level
    next-map : (S : G.carrier → Type 0) (R : H.carrier → Type 0) → ((x : G.carrier) → V x → W (h x)) → ((x : G.carrier) → S x → R (h x))
        → {x : G.carrier} → NextIn G p V S x → IsMade H p W R (h x)
    next-map S R into below no_factor = record { product = H.one; next = no_factor; same = map-one }
    next-map S R into below (commutator_times u v x s t n) =
        let i = next-map S R into below n in
        record {
          product = H.times (commutator_in H (h u) (h v)) i.product;
          next = commutator_times (h u) (h v) i.product (below u s) (into v t) i.next;
          same = H.transitive (m.times (commutator_in G u v) x) (H.times-same (map-commutator u v) i.same);
        }
    next-map S R into below (power_times u x s n) =
        let i = next-map S R into below n in
        record {
          product = H.times (power_in H (h u) p) i.product;
          next = power_times (h u) i.product (below u s) i.next;
          same = H.transitive (m.times (power_in G u p) x) (H.times-same (map-power u p) i.same);
        }

    pub level-map : ((x : G.carrier) → V x → W (h x)) → (k : ℕ) (x : G.carrier) → InLevelIn G p V k x → InLevelIn H p W k (h x)
    level-map into zero x l = into x l
    level-map into (suc k) x l = (
      into x l.0,
      made-same H p W (InLevelIn H p W k) (H.symmetric (m.same l.1.same))
          (next-map (InLevelIn G p V k) (InLevelIn H p W k) into (level-map into k) l.1.next),
    )

    -- onto the level
    next-reached : (S : G.carrier → Type 0) (R : H.carrier → Type 0) → ((y : H.carrier) → W y → (x : G.carrier) × V x × H.same (h x) y)
        → ((y : H.carrier) → R y → (x : G.carrier) × S x × H.same (h x) y)
        → {y : H.carrier} → NextIn H p W R y → (x : G.carrier) × NextIn G p V S x × H.same (h x) y
    next-reached S R onto below no_factor = (G.one, no_factor, map-one)
    next-reached S R onto below (commutator_times u v y s t n) =
        let a = below u s in
        let b = onto v t in
        let i = next-reached S R onto below n in (
          G.times (commutator_in G a.0 b.0) i.0,
          commutator_times a.0 b.0 i.0 a.1 b.1 i.1,
          H.transitive (m.times (commutator_in G a.0 b.0) i.0)
              (H.times-same (H.transitive (map-commutator a.0 b.0) (commutator_in-same H a.2 b.2)) i.2),
        )
    next-reached S R onto below (power_times u y s n) =
        let a = below u s in
        let i = next-reached S R onto below n in (
          G.times (power_in G a.0 p) i.0,
          power_times a.0 i.0 a.1 i.1,
          H.transitive (m.times (power_in G a.0 p) i.0)
              (H.times-same (H.transitive (map-power a.0 p) (power_in-same H p a.2)) i.2),
        )

    pub level-reached : IsClosed G V → ((y : H.carrier) → W y → (x : G.carrier) × V x × H.same (h x) y)
        → (k : ℕ) (y : H.carrier) → InLevelIn H p W k y → (x : G.carrier) × InLevelIn G p V k x × H.same (h x) y
    level-reached closed onto zero y l = onto y l
    level-reached closed onto (suc k) y l =
        let S = InLevelIn G p V k in
        let i = next-reached S (InLevelIn H p W k) onto (level-reached closed onto k) l.1.next in
        let n = level-normal G p V closed k in (
          i.0,
          (n.inside i.0 (next-inside G p V S closed n i.1), record { product = i.0; next = i.1; same = G.reflexive i.0 }),
          H.transitive i.2 (H.symmetric l.1.same),
        )
