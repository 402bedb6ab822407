-- The commutator of an element of level a and one of level b of the series of a group lies in level a + b + 1: by induction
-- on b, as the elements whose commutators with x are in the level after that of c = [x,u] are closed under products, and
-- [x,u^n] is c^n and [x,[u,z]] is trivial up to that level.
use Rattle.std.proofs.Common.{◌≡◌, ℕ, zero, suc, ◌+◌, [], ◌∷◌, refl, subst, arith}
use Rattle.pq_base.specs.SignedWord.{comm, HasLetters}
use Rattle.pq_base.specs.Series.{InSeries}
use Rattle.pq_base.proofs.groups.Groups.{Group, power_in, conjugate_in, commutator_in, times-same_left, times-same_right}
use Rattle.pq_base.proofs.groups.GroupSolver.{conj_of, comm_of, by_reduction}
use Rattle.pq_base.proofs.groups.GroupSolver.Product.{at, unit, product, inverted}
use Rattle.pq_base.proofs.groups.GroupIdentities.{commutator_in-times_left, commutator_in-times_right, times_in-power}
use Rattle.pq_base.proofs.groups.GroupLevels.{IsClosed, NextIn, InLevelIn, level-normal, level-same, level-commutator, level-power}
use Rattle.pq_base.proofs.groups.GroupLevels.NextIn.{no_factor, commutator_times, power_times}
use Rattle.pq_base.proofs.words.WordGroup.{word_group}
use Rattle.pq_base.proofs.SeriesLaws.{HasLetters-closed, level-from_series, series-from_level}
use Rattle.pq_base.specs.Laws.{CommutatorsOfLevels}

-- y is c times an element of level k
record IsUpTo (G : Group) (p : ℕ) (V : G.carrier → Type 0) (k : ℕ) (c y : G.carrier) : Type 0 where
  pub factor : G.carrier
  pub level : InLevelIn G p V k factor
  pub same : G.same y (G.times c factor)

module _ (G : Group) (p : ℕ) (V : G.carrier → Type 0) (closed : IsClosed G V) where
  inside : (k : ℕ) (x : G.carrier) → InLevelIn G p V k x → V x
  inside k x h = (level-normal G p V closed k).inside x h

  closed-conj : (x y : G.carrier) → V x → V y → V (conjugate_in G x y)
  closed-conj x y h i = closed.times (G.inverse y) (G.times x y) (closed.inverse y i) (closed.times x y h i)

  closed-comm : (x y : G.carrier) → V x → V y → V (commutator_in G x y)
  closed-comm x y h i = closed.times (G.inverse x) (conjugate_in G x y) (closed.inverse x h) (closed-conj x y h i)

  closed-power : (x : G.carrier) (n : ℕ) → V x → V (power_in G x n)
  closed-power x zero h = closed.one
  closed-power x (suc n) h = closed.times x (power_in G x n) h (closed-power x n h)

  module _ (m : ℕ) where
    abbrev M : G.carrier → Type 0
    M = InLevelIn G p V (suc m)

    abbrev UpTo : G.carrier → G.carrier → Type 0
    UpTo c y = IsUpTo G p V (suc m) c y

    up-itself : (c : G.carrier) → UpTo c c
    up-itself c = record { factor = G.one; level = (level-normal G p V closed (suc m)).one; same = G.symmetric (G.one_right c) }

    up-same : {c y w : G.carrier} → G.same y w → UpTo c y → UpTo c w
    up-same e h = record { factor = h.factor; level = h.level; same = G.transitive (G.symmetric e) h.same }

    up-same_left : {c d y : G.carrier} → G.same c d → UpTo c y → UpTo d y
    up-same_left e h = record { factor = h.factor; level = h.level; same = G.transitive h.same (times-same_right G h.factor e) }

    up-more : (c y z : G.carrier) → UpTo c y → M z → UpTo c (G.times y z)
    up-more c y z h i = record {
      factor = G.times h.factor z;
      level = (level-normal G p V closed (suc m)).times h.factor z h.level i;
      same = G.transitive (times-same_right G z h.same) (G.associative c h.factor z);
    }

    up-times : (c d y w : G.carrier) → V d → UpTo c y → UpTo d w → UpTo (G.times c d) (G.times y w)
    up-times c d y w l h i = record {
      factor = G.times (conjugate_in G h.factor d) i.factor;
      level =
          (level-normal G p V closed (suc m)).times (conjugate_in G h.factor d) i.factor
          ((level-normal G p V closed (suc m)).conjugate h.factor d h.level l) i.level;
      same =
          G.transitive (G.times-same h.same i.same)
          (by_reduction G (c ∷ d ∷ h.factor ∷ i.factor ∷ []) (product (product (at 0) (at 2)) (product (at 1) (at 3)))
          (product (product (at 0) (at 1)) (product (conj_of (at 2) (at 1)) (at 3))) refl);
    }

    up-inverse : (c y : G.carrier) → V c → UpTo c y → UpTo (G.inverse c) (G.inverse y)
    up-inverse c y l h = record {
      factor = conjugate_in G (G.inverse h.factor) (G.inverse c);
      level =
          (level-normal G p V closed (suc m)).conjugate (G.inverse h.factor) (G.inverse c)
          ((level-normal G p V closed (suc m)).inverse h.factor h.level) (closed.inverse c l);
      same =
          G.transitive (G.inverse-same h.same)
          (by_reduction G (c ∷ h.factor ∷ []) (inverted (product (at 0) (at 1)))
          (product (inverted (at 0)) (conj_of (inverted (at 1)) (inverted (at 0)))) refl);
    }

    -- conjugates, where c is in the level before
    up-conj : (c y v : G.carrier) → InLevelIn G p V m c → V v → UpTo c y → UpTo c (conjugate_in G y v)
    up-conj c y v l i h = record {
      factor = G.times (commutator_in G c v) (conjugate_in G h.factor v);
      level =
          (level-normal G p V closed (suc m)).times (commutator_in G c v) (conjugate_in G h.factor v)
          (level-commutator G p V closed m c v l i) ((level-normal G p V closed (suc m)).conjugate h.factor v h.level i);
      same =
          G.transitive (times-same_left G (G.inverse v) (times-same_right G v h.same))
          (by_reduction G (c ∷ v ∷ h.factor ∷ []) (conj_of (product (at 0) (at 2)) (at 1))
          (product (at 0) (product (comm_of (at 0) (at 1)) (conj_of (at 2) (at 1)))) refl);
    }

    up-level : (c y : G.carrier) → V y → M c → UpTo c y → M y
    up-level c y l i h =
        level-same G p V closed m (G.times c h.factor) y (G.symmetric h.same) l
        ((level-normal G p V closed (suc m)).times c h.factor i h.level)

    -- x is in level a; commutators with elements of level b are in level m, and those of level a + 1 with them in the next
    module _ (a b : ℕ) (x : G.carrier) (at_a : InLevelIn G p V a x)
        (before : (u : G.carrier) → InLevelIn G p V b u → InLevelIn G p V m (commutator_in G x u))
        (after : (d u : G.carrier) → InLevelIn G p V (suc a) d → InLevelIn G p V b u → InLevelIn G p V (suc m) (commutator_in G d u)) where
      x_in : V x
      x_in = inside a x at_a

      power-up : (u : G.carrier) (n : ℕ) → InLevelIn G p V b u
          → UpTo (power_in G (commutator_in G x u) n) (commutator_in G x (power_in G u n))
      power-up u zero h = up-same (by_reduction G (x ∷ []) unit (comm_of (at 0) unit) refl) (up-itself G.one)
      power-up u (suc n) h =
          let c = commutator_in G x u in
          let v = power_in G u n in
          let u_in = inside b u h in
          up-same (G.symmetric (commutator_in-times_right G x u v))
          (up-same_left (G.symmetric (times_in-power G c n))
          (up-times (power_in G c n) c (commutator_in G x v) (conjugate_in G c v) (closed-comm x u x_in u_in) (power-up u n h)
          (up-conj c c v (before u h) (closed-power u n u_in) (up-itself c))))

      power-level : (u : G.carrier) → InLevelIn G p V b u → M (commutator_in G x (power_in G u p))
      power-level u h =
          let u_in = inside b u h in
          up-level (power_in G (commutator_in G x u) p) (commutator_in G x (power_in G u p))
          (closed-comm x (power_in G u p) x_in (closed-power u p u_in))
          (level-power G p V closed m (commutator_in G x u) (before u h)) (power-up u p h)

      conjugate-up : (u z : G.carrier) → InLevelIn G p V b u → V z → UpTo (commutator_in G x u) (commutator_in G x (conjugate_in G u z))
      conjugate-up u z h i =
          let c = commutator_in G x u in
          let d = commutator_in G x (G.inverse z) in
          let z_out = closed.inverse z i in
          let d_level = level-commutator G p V closed a x (G.inverse z) at_a z_out in
          let d_in = closed-comm x (G.inverse z) x_in z_out in
          let whole : UpTo c (commutator_in G (G.times x d) u) =
          up-same (G.symmetric (commutator_in-times_left G x d u))
          (up-more c (conjugate_in G c d) (commutator_in G d u) (up-conj c c d (before u h) d_in (up-itself c)) (after d u d_level h)) in
          up-same
          (by_reduction G (x ∷ u ∷ z ∷ []) (conj_of (comm_of (product (at 0) (comm_of (at 0) (inverted (at 2)))) (at 1)) (at 2))
          (comm_of (at 0) (conj_of (at 1) (at 2))) refl)
          (up-conj c (commutator_in G (G.times x d) u) z (before u h) i whole)

      inverse-up : (u : G.carrier) → InLevelIn G p V b u → UpTo (G.inverse (commutator_in G x u)) (commutator_in G x (G.inverse u))
      inverse-up u h =
          let c = commutator_in G x u in
          let u_in = inside b u h in
          up-same
          (by_reduction G (x ∷ u ∷ []) (conj_of (inverted (comm_of (at 0) (at 1))) (inverted (at 1)))
          (comm_of (at 0) (inverted (at 1))) refl)
          (up-conj (G.inverse c) (G.inverse c) (G.inverse u) ((level-normal G p V closed m).inverse c (before u h)) (closed.inverse u u_in)
          (up-itself (G.inverse c)))

      commutator-level : (u z : G.carrier) → InLevelIn G p V b u → V z → M (commutator_in G x (commutator_in G u z))
      commutator-level u z h i =
          let c = commutator_in G x u in
          let u_in = inside b u h in
          let w = conjugate_in G u z in
          let w_in = closed-conj u z u_in i in
          let c_in = closed-comm x u x_in u_in in
          let back = closed.inverse c c_in in
          let start : UpTo (G.times c (G.inverse c)) (commutator_in G x (commutator_in G u z)) =
          up-same (G.symmetric (commutator_in-times_right G x (G.inverse u) w))
          (up-times c (G.inverse c) (commutator_in G x w) (conjugate_in G (commutator_in G x (G.inverse u)) w) back (conjugate-up u z h i)
          (up-conj (G.inverse c) (commutator_in G x (G.inverse u)) w ((level-normal G p V closed m).inverse c (before u h)) w_in
          (inverse-up u h))) in
          up-level G.one (commutator_in G x (commutator_in G u z)) (closed-comm x (commutator_in G u z) x_in (closed-comm u z u_in i))
          (level-normal G p V closed (suc m)).one (up-same_left (G.inverse_right c) start)

      -- products of such factors
      factor-times : (y w : G.carrier) → V y → V w → M (commutator_in G x y) → M (commutator_in G x w) → M (commutator_in G x (G.times y w))
      factor-times y w h i k l =
          level-same G p V closed m (G.times (commutator_in G x w) (conjugate_in G (commutator_in G x y) w))
          (commutator_in G x (G.times y w))
          (G.symmetric (commutator_in-times_right G x y w)) (closed-comm x (G.times y w) x_in (closed.times y w h i))
          ((level-normal G p V closed (suc m)).times (commutator_in G x w) (conjugate_in G (commutator_in G x y) w) l
          ((level-normal G p V closed (suc m)).conjugate (commutator_in G x y) w k i))

      next-in : {y : G.carrier} → NextIn G p V (InLevelIn G p V b) y → V y
      next-in no_factor = closed.one
      next-in (commutator_times u v y h i n) =
          closed.times (commutator_in G u v) y (closed-comm u v (inside b u h) i) (next-in n)
      next-in (power_times u y h n) = closed.times (power_in G u p) y (closed-power u p (inside b u h)) (next-in n)

      next-level : {y : G.carrier} → NextIn G p V (InLevelIn G p V b) y → M (commutator_in G x y)
      next-level no_factor =
          level-same G p V closed m G.one (commutator_in G x G.one) (by_reduction G (x ∷ []) unit (comm_of (at 0) unit) refl)
          (closed-comm x G.one x_in closed.one) (level-normal G p V closed (suc m)).one
      next-level (commutator_times u v y h i n) =
          factor-times (commutator_in G u v) y (closed-comm u v (inside b u h) i) (next-in n) (commutator-level u v h i) (next-level n)
      next-level (power_times u y h n) =
          factor-times (power_in G u p) y (closed-power u p (inside b u h)) (next-in n) (power-level u h) (next-level n)

      pub made-level : (y : G.carrier) → InLevelIn G p V (suc b) y → InLevelIn G p V (suc m) (commutator_in G x y)
      made-level y h =
          let e : G.same y h.1.product = h.1.same in
          level-same G p V closed m (commutator_in G x h.1.product) (commutator_in G x y)
          (times-same_left G (G.inverse x) (G.symmetric (G.times-same (G.inverse-same e) (times-same_left G x e))))
          (closed-comm x y x_in h.0) (next-level h.1.next)

  pub level-commutators : (b a : ℕ) (x y : G.carrier) → InLevelIn G p V a x → InLevelIn G p V b y
      → InLevelIn G p V (suc (a + b)) (commutator_in G x y)
  level-commutators zero a x y h i =
      let same : suc a ≡ suc (a + 0) = omega arith in
      subst (λ (k : ℕ). InLevelIn G p V k (commutator_in G x y)) same (level-commutator G p V closed a x y h i)
  level-commutators (suc b) a x y h i =
      let m : ℕ = a + suc b in
      let here : suc (a + b) ≡ a + suc b = omega arith in
      let there : suc (suc a + b) ≡ suc (a + suc b) = omega arith in
      made-level (a + suc b) a b x h
      (λ u l. subst (λ (k : ℕ). InLevelIn G p V k (commutator_in G x u)) here (level-commutators b a x u h l))
      (λ d u l k. subst (λ (n : ℕ). InLevelIn G p V n (commutator_in G d u)) there (level-commutators b (suc a) d u l k))
      y i

pub commutators_of_levels : CommutatorsOfLevels
commutators_of_levels P is a b x y h i =
    let one_more : suc (a + b) ≡ a + b + 1 = omega arith in
    subst (λ (k : ℕ). InSeries P k (comm x y)) one_more
    (series-from_level P (suc (a + b)) (comm x y)
    (level-commutators (word_group P) P.prime (HasLetters P.rank) (HasLetters-closed P) b a x y (level-from_series P a x h)
    (level-from_series P b y i)))
