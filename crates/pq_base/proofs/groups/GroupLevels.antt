-- The lower exponent-p series of a group up to an equivalence, within a part of it that is closed under products and
-- inverses. Its levels are closed under products, inverses and conjugates, and fall.
use Rattle.std.proofs.Common.{ℕ, zero, suc, ◌+◌, subst}
use Rattle.std.proofs.Math.Nat.{add-zero, add-suc}
use Rattle.pq_base.proofs.groups.Groups.{Group, power_in, conjugate_in, commutator_in, times-same_left, times-same_right, inverse_in-one}
use Rattle.pq_base.proofs.groups.Groups.{inverse_in-times}
use Rattle.pq_base.proofs.groups.GroupIdentities.{conjugate_in-one, conjugate_in-times, conjugate_in-commutator, conjugate_in-power}
use Rattle.pq_base.proofs.groups.GroupIdentities.{inverse_in-commutator_conjugate, inverse_in-power}

-- a predicate that holds one and keeps products and inverses
pub record IsClosed (G : Group) (V : G.carrier → Type 0) : Type 0 where
  pub one : V G.one
  pub times : (x y : G.carrier) → V x → V y → V (G.times x y)
  pub inverse : (x : G.carrier) → V x → V (G.inverse x)

-- the products of lists of commutators [u,v] and powers u^p, with u in S and v in V
pub data NextIn (G : Group) (p : ℕ) (V S : G.carrier → Type 0) : G.carrier → Type 0 where
  no_factor : NextIn G p V S G.one
  commutator_times : (u v x : G.carrier) → S u → V v → NextIn G p V S x → NextIn G p V S (G.times (commutator_in G u v) x)
  power_times : (u x : G.carrier) → S u → NextIn G p V S x → NextIn G p V S (G.times (power_in G u p) x)

-- an element that is the same as such a product
pub record IsMade (G : Group) (p : ℕ) (V S : G.carrier → Type 0) (x : G.carrier) : Type 0 where
  pub product : G.carrier
  pub next : NextIn G p V S product
  pub same : G.same x product

abbrev pub InLevelIn : (G : Group) → ℕ → (G.carrier → Type 0) → ℕ → G.carrier → Type 0
InLevelIn G p V zero x = V x
InLevelIn G p V (suc k) x = V x × IsMade G p V (InLevelIn G p V k) x

-- a predicate within V that is closed, also under conjugates
pub record IsNormalIn (G : Group) (V S : G.carrier → Type 0) : Type 0 where
  pub inside : (x : G.carrier) → S x → V x
  pub one : S G.one
  pub times : (x y : G.carrier) → S x → S y → S (G.times x y)
  pub inverse : (x : G.carrier) → S x → S (G.inverse x)
  pub conjugate : (x y : G.carrier) → S x → V y → S (conjugate_in G x y)

closed-conjugate : (G : Group) (V : G.carrier → Type 0) → IsClosed G V → (x y : G.carrier) → V x → V y → V (conjugate_in G x y)
closed-conjugate G V c x y h i = c.times (G.inverse y) (G.times x y) (c.inverse y i) (c.times x y h i)

module _ (G : Group) (p : ℕ) (V S : G.carrier → Type 0) where
  pub made-same : {x y : G.carrier} → G.same x y → IsMade G p V S x → IsMade G p V S y
  made-same e m = record { product = m.product; next = m.next; same = G.transitive (G.symmetric e) m.same }

  pub made-one : IsMade G p V S G.one
  made-one = record { product = G.one; next = no_factor; same = G.reflexive G.one }

  -- one factor more
  made-commutator_times : (u v x : G.carrier) → S u → V v → IsMade G p V S x → IsMade G p V S (G.times (commutator_in G u v) x)
  made-commutator_times u v x s t m = record {
    product = G.times (commutator_in G u v) m.product;
    next = commutator_times u v m.product s t m.next;
    same = times-same_left G (commutator_in G u v) m.same;
  }

  made-power_times : (u x : G.carrier) → S u → IsMade G p V S x → IsMade G p V S (G.times (power_in G u p) x)
  made-power_times u x s m = record {
    product = G.times (power_in G u p) m.product;
    next = power_times u m.product s m.next;
    same = times-same_left G (power_in G u p) m.same;
  }

  -- one factor alone
  pub made-commutator : (u v : G.carrier) → S u → V v → IsMade G p V S (commutator_in G u v)
  made-commutator u v s t = made-same (G.one_right (commutator_in G u v)) (made-commutator_times u v G.one s t made-one)

  pub made-power : (u : G.carrier) → S u → IsMade G p V S (power_in G u p)
  made-power u s = made-same (G.one_right (power_in G u p)) (made-power_times u G.one s made-one)

  -- products
  next-times : {x : G.carrier} (y : G.carrier) → NextIn G p V S x → IsMade G p V S y → IsMade G p V S (G.times x y)
  next-times y no_factor m = made-same (G.symmetric (G.one_left y)) m
  next-times y (commutator_times u v x s t n) m =
      made-same (G.symmetric (G.associative (commutator_in G u v) x y))
      (made-commutator_times u v (G.times x y) s t (next-times y n m))
  next-times y (power_times u x s n) m =
      made-same (G.symmetric (G.associative (power_in G u p) x y)) (made-power_times u (G.times x y) s (next-times y n m))

  pub made-times : (x y : G.carrier) → IsMade G p V S x → IsMade G p V S y → IsMade G p V S (G.times x y)
  made-times x y m n = made-same (times-same_right G y (G.symmetric m.same)) (next-times y m.next n)

  module _ (closed : IsClosed G V) (normal : IsNormalIn G V S) where
    -- conjugates
    next-conjugate : {x : G.carrier} (y : G.carrier) → V y → NextIn G p V S x → IsMade G p V S (conjugate_in G x y)
    next-conjugate y t no_factor = made-same (G.symmetric (conjugate_in-one G y)) made-one
    next-conjugate y t (commutator_times u v x s r n) =
        made-same (G.symmetric (conjugate_in-times G (commutator_in G u v) x y))
        (made-times (conjugate_in G (commutator_in G u v) y) (conjugate_in G x y)
        (made-same (G.symmetric (conjugate_in-commutator G u v y))
        (made-commutator (conjugate_in G u y) (conjugate_in G v y) (normal.conjugate u y s t) (closed-conjugate G V closed v y r t)))
        (next-conjugate y t n))
    next-conjugate y t (power_times u x s n) =
        made-same (G.symmetric (conjugate_in-times G (power_in G u p) x y))
        (made-times (conjugate_in G (power_in G u p) y) (conjugate_in G x y)
        (made-same (G.symmetric (conjugate_in-power G u y p)) (made-power (conjugate_in G u y) (normal.conjugate u y s t)))
        (next-conjugate y t n))

    pub made-conjugate : (x y : G.carrier) → IsMade G p V S x → V y → IsMade G p V S (conjugate_in G x y)
    made-conjugate x y m t =
        made-same (times-same_left G (G.inverse y) (times-same_right G y (G.symmetric m.same))) (next-conjugate y t m.next)

    -- inverses
    next-inverse : {x : G.carrier} → NextIn G p V S x → IsMade G p V S (G.inverse x)
    next-inverse no_factor = made-same (G.symmetric (inverse_in-one G)) made-one
    next-inverse (commutator_times u v x s t n) =
        made-same (G.symmetric (inverse_in-times G (commutator_in G u v) x))
        (made-times (G.inverse x) (G.inverse (commutator_in G u v)) (next-inverse n)
        (made-same (G.symmetric (inverse_in-commutator_conjugate G u v))
        (made-commutator (G.inverse u) (conjugate_in G v u) (normal.inverse u s)
        (closed-conjugate G V closed v u t (normal.inside u s)))))
    next-inverse (power_times u x s n) =
        made-same (G.symmetric (inverse_in-times G (power_in G u p) x))
        (made-times (G.inverse x) (G.inverse (power_in G u p)) (next-inverse n)
        (made-same (G.symmetric (inverse_in-power G u p)) (made-power (G.inverse u) (normal.inverse u s))))

    pub made-inverse : (x : G.carrier) → IsMade G p V S x → IsMade G p V S (G.inverse x)
    made-inverse x m = made-same (G.inverse-same (G.symmetric m.same)) (next-inverse m.next)

    -- products of factors lie in the level below
    power_in-inside : (u : G.carrier) (n : ℕ) → S u → S (power_in G u n)
    power_in-inside u zero s = normal.one
    power_in-inside u (suc n) s = normal.times u (power_in G u n) s (power_in-inside u n s)

    pub next-inside : {x : G.carrier} → NextIn G p V S x → S x
    next-inside no_factor = normal.one
    next-inside (commutator_times u v x s t n) =
        normal.times (commutator_in G u v) x
        (normal.times (G.inverse u) (conjugate_in G u v) (normal.inverse u s) (normal.conjugate u v s t)) (next-inside n)
    next-inside (power_times u x s n) = normal.times (power_in G u p) x (power_in-inside u p s) (next-inside n)

module _ (G : Group) (p : ℕ) (V : G.carrier → Type 0) (closed : IsClosed G V) where
  -- every level is normal
  pub level-normal : (k : ℕ) → IsNormalIn G V (InLevelIn G p V k)
  level-normal zero = record {
    inside = λ x h. h;
    one = closed.one;
    times = closed.times;
    inverse = closed.inverse;
    conjugate = closed-conjugate G V closed;
  }
  level-normal (suc k) =
      let S = InLevelIn G p V k in
      let n = level-normal k in
      record {
        inside = λ x h. h.0;
        one = (closed.one, made-one G p V S);
        times = λ x y h i. (closed.times x y h.0 i.0, made-times G p V S x y h.1 i.1);
        inverse = λ x h. (closed.inverse x h.0, made-inverse G p V S closed n x h.1);
        conjugate = λ x y h t. (closed-conjugate G V closed x y h.0 t, made-conjugate G p V S closed n x y h.1 t);
      }

  -- a level after the first is kept within V
  pub level-same : (k : ℕ) (x y : G.carrier) → G.same x y → V y → InLevelIn G p V (suc k) x → InLevelIn G p V (suc k) y
  level-same k x y e t h = (t, made-same G p V (InLevelIn G p V k) e h.1)

  pub level-commutator : (k : ℕ) (u v : G.carrier) → InLevelIn G p V k u → V v → InLevelIn G p V (suc k) (commutator_in G u v)
  level-commutator k u v h t =
      let i = (level-normal k).inside u h in (
        closed.times (G.inverse u) (conjugate_in G u v) (closed.inverse u i) (closed-conjugate G V closed u v i t),
        made-commutator G p V (InLevelIn G p V k) u v h t,
      )

  level-zero_power : (u : G.carrier) (n : ℕ) → V u → V (power_in G u n)
  level-zero_power u zero h = closed.one
  level-zero_power u (suc n) h = closed.times u (power_in G u n) h (level-zero_power u n h)

  pub level-power : (k : ℕ) (u : G.carrier) → InLevelIn G p V k u → InLevelIn G p V (suc k) (power_in G u p)
  level-power k u h = (level-zero_power u p ((level-normal k).inside u h), made-power G p V (InLevelIn G p V k) u h)

  -- levels fall
  pub level-fall : (k : ℕ) (x : G.carrier) → InLevelIn G p V (suc k) x → InLevelIn G p V k x
  level-fall zero x h = h.0
  level-fall (suc k) x h =
      level-same k h.1.product x (G.symmetric h.1.same) h.0
      (next-inside G p V (InLevelIn G p V (suc k)) closed (level-normal (suc k)) h.1.next)

  pub level-fall_by : (k d : ℕ) (x : G.carrier) → InLevelIn G p V (k + d) x → InLevelIn G p V k x
  level-fall_by k zero x h = subst (λ (n : ℕ). InLevelIn G p V n x) (add-zero k) h
  level-fall_by k (suc d) x h = level-fall_by k d x (level-fall (k + d) x (subst (λ (n : ℕ). InLevelIn G p V n x) (add-suc k d) h))
