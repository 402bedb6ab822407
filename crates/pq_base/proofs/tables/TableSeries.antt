-- The levels of the series of a group table are closed under products, inverses and conjugates, and fall.
use Rattle.std.proofs.Common.{◌≡◌, ℕ, zero, suc, ◌+◌, ◌-◌, ◌<◌, ◌≤◌, refl, ap, sym, ◌∙◌, subst, arith}
use Rattle.pq_base.specs.Table.{Table, IsGroup, NextElement, InLevel, HasTableClass, times, inverse, power, commutator}
use Rattle.pq_base.specs.Table.NextElement.{no_element, times_commutator, times_power}
use Rattle.pq_base.proofs.groups.Groups.{power_in, commutator_in}
use Rattle.pq_base.proofs.groups.GroupLevels.{IsClosed, NextIn, InLevelIn, level-normal, level-commutator, level-power, level-fall_by}
use Rattle.pq_base.proofs.groups.GroupLevels.NextIn.{no_factor, commutator_times, power_times}
use Rattle.pq_base.proofs.tables.TableLaws.{power-below, commutator-below, inverse-below}
use Rattle.pq_base.proofs.tables.TableGroup.{Element, table_group, power_in-table_group}

-- every element
abbrev pub IsAny : (T : Table) → Element T → Type 0
IsAny T x = Unit {0}

abbrev pub element : (T : Table) (x : ℕ) → x < T.size → Element T
element T x l = record { number = x; below = l }

module _ (T : Table) (g : IsGroup T) where
  pub IsAny-closed : IsClosed (table_group T g) (IsAny T)
  IsAny-closed = record { one = tt; times = λ x y h i. tt; inverse = λ x h. tt }

  -- the elements of a level are below the size
  next-below : (p : ℕ) (S : ℕ → Type 0) → ((u : ℕ) → S u → u < T.size) → {x : ℕ} → NextElement T p S x → x < T.size
  next-below p S f no_element = g.nonempty
  next-below p S f (times_commutator u v x s l n) =
      g.closed (commutator T u v) x (commutator-below T g u v (f u s) l) (next-below p S f n)
  next-below p S f (times_power u x s n) = g.closed (power T u p) x (power-below T g u p (f u s)) (next-below p S f n)

  pub table_level-below : (p k x : ℕ) → InLevel T p k x → x < T.size
  table_level-below p zero x h = h
  table_level-below p (suc k) x h = next-below p (InLevel T p k) (table_level-below p k) h

  -- the series of the definitions is the series of the group of elements
  next_in_table_group : (p : ℕ) (S : ℕ → Type 0) (R : Element T → Type 0) (f : (u : ℕ) → S u → u < T.size)
      → ((u : ℕ) (s : S u) → R (element T u (f u s))) → {x : ℕ} → NextElement T p S x
      → (e : Element T) × NextIn (table_group T g) p (IsAny T) R e × (x ≡ e.number)
  next_in_table_group p S R f r no_element = (element T 0 g.nonempty, no_factor, refl)
  next_in_table_group p S R f r (times_commutator u v x s l n) =
      let i = next_in_table_group p S R f r n in
      let a = element T u (f u s) in
      let b = element T v l in (
        (table_group T g).times (commutator_in (table_group T g) a b) i.0,
        commutator_times a b i.0 (r u s) tt i.1,
        ap (times T (commutator T u v)) i.2,
      )
  next_in_table_group p S R f r (times_power u x s n) =
      let i = next_in_table_group p S R f r n in
      let a = element T u (f u s) in (
        (table_group T g).times (power_in (table_group T g) a p) i.0,
        power_times a i.0 (r u s) i.1,
        ap (times T (power T u p)) i.2 ∙ ap (λ (y : ℕ). times T y i.0.number) (sym (power_in-table_group T g a p)),
      )

  next_from_table_group : (p : ℕ) (S : ℕ → Type 0) (R : Element T → Type 0) → ((e : Element T) → R e → S e.number)
      → {e : Element T} → NextIn (table_group T g) p (IsAny T) R e → NextElement T p S e.number
  next_from_table_group p S R f no_factor = no_element
  next_from_table_group p S R f (commutator_times u v x s t n) =
      times_commutator u.number v.number x.number (f u s) v.below (next_from_table_group p S R f n)
  next_from_table_group p S R f (power_times u x s n) =
      subst (λ (y : ℕ). NextElement T p S (times T y x.number)) (sym (power_in-table_group T g u p))
      (times_power u.number x.number (f u s) (next_from_table_group p S R f n))

  pub level_in_table_group : (p k x : ℕ) (l : x < T.size) → InLevel T p k x → InLevelIn (table_group T g) p (IsAny T) k (element T x l)
  level_in_table_group p zero x l h = tt
  level_in_table_group p (suc k) x l h =
      let i = next_in_table_group p (InLevel T p k) (InLevelIn (table_group T g) p (IsAny T) k) (table_level-below p k)
      (λ u s. level_in_table_group p k u (table_level-below p k u s) s) h in
      (tt, record { product = i.0; next = i.1; same = i.2 })

  pub level_from_table_group : (p k : ℕ) (e : Element T) → InLevelIn (table_group T g) p (IsAny T) k e → InLevel T p k e.number
  level_from_table_group p zero e h = e.below
  level_from_table_group p (suc k) e h =
      subst (λ (x : ℕ). NextElement T p (InLevel T p k) x) (sym h.1.same)
      (next_from_table_group p (InLevel T p k) (InLevelIn (table_group T g) p (IsAny T) k) (level_from_table_group p k) h.1.next)

  -- what a level holds
  pub table_level-zero : (p k : ℕ) → InLevel T p k 0
  table_level-zero p k =
      level_from_table_group p k (element T 0 g.nonempty) (level-normal (table_group T g) p (IsAny T) IsAny-closed k).one

  pub table_level-times : (p k x y : ℕ) → InLevel T p k x → InLevel T p k y → InLevel T p k (times T x y)
  table_level-times p k x y h i =
      let l = table_level-below p k x h in
      let m = table_level-below p k y i in
      level_from_table_group p k (element T (times T x y) (g.closed x y l m))
      ((level-normal (table_group T g) p (IsAny T) IsAny-closed k).times (element T x l) (element T y m)
      (level_in_table_group p k x l h) (level_in_table_group p k y m i))

  pub table_level-inverse : (p k x : ℕ) → InLevel T p k x → InLevel T p k (inverse T x)
  table_level-inverse p k x h =
      let l = table_level-below p k x h in
      level_from_table_group p k (element T (inverse T x) (inverse-below T g x l))
      ((level-normal (table_group T g) p (IsAny T) IsAny-closed k).inverse (element T x l) (level_in_table_group p k x l h))

  pub table_level-conjugate : (p k x y : ℕ) → InLevel T p k x → y < T.size → InLevel T p k (times T (inverse T y) (times T x y))
  table_level-conjugate p k x y h m =
      let l = table_level-below p k x h in
      level_from_table_group p k
      (element T (times T (inverse T y) (times T x y)) (g.closed (inverse T y) (times T x y) (inverse-below T g y m) (g.closed x y l m)))
      ((level-normal (table_group T g) p (IsAny T) IsAny-closed k).conjugate (element T x l) (element T y m)
      (level_in_table_group p k x l h) tt)

  -- factors of the next level
  pub table_level-commutator : (p k x y : ℕ) → InLevel T p k x → y < T.size → InLevel T p (suc k) (commutator T x y)
  table_level-commutator p k x y h m =
      level_from_table_group p (suc k) (commutator_in (table_group T g) (element T x (table_level-below p k x h)) (element T y m))
      (level-commutator (table_group T g) p (IsAny T) IsAny-closed k (element T x (table_level-below p k x h)) (element T y m)
      (level_in_table_group p k x (table_level-below p k x h) h) tt)

  pub table_level-power : (p k x : ℕ) → InLevel T p k x → InLevel T p (suc k) (power T x p)
  table_level-power p k x h =
      let a = element T x (table_level-below p k x h) in
      subst (λ (y : ℕ). InLevel T p (suc k) y) (power_in-table_group T g a p)
      (level_from_table_group p (suc k) (power_in (table_group T g) a p)
      (level-power (table_group T g) p (IsAny T) IsAny-closed k a (level_in_table_group p k x (table_level-below p k x h) h)))

  -- levels fall, and a greater class is allowed
  pub table_level-fall : (p k d x : ℕ) → InLevel T p (k + d) x → InLevel T p k x
  table_level-fall p k d x h =
      let l = table_level-below p (k + d) x h in
      level_from_table_group p k (element T x l)
      (level-fall_by (table_group T g) p (IsAny T) IsAny-closed k d (element T x l) (level_in_table_group p (k + d) x l h))

  pub table_class-weaken : (p c d : ℕ) → c ≤ d → HasTableClass T p c → HasTableClass T p d
  table_class-weaken p c d l h x i =
      h x (table_level-fall p c (d - c) x (subst (λ (n : ℕ). InLevel T p n x) (omega arith) i))
