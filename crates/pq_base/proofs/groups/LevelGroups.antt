-- The elements of a group table modulo a level of its series are a group. Values in it are values in the table, and the
-- elements of the level before are central and have order p in it.
use Rattle.std.proofs.Common.{◌≡◌, ℕ, zero, suc, ℤ, pos, negsuc, List, [], ◌∷◌, get_or, map, refl, ap, ap₂, sym, ◌∙◌, subst}
use Rattle.pq_base.specs.Table.{Table, IsGroup, AllBelow, InLevel, times, inverse, element_of, value, power}
use Rattle.pq_base.proofs.groups.Groups.{Group, element_in, value_in, power_in, commutator_in}
use Rattle.pq_base.proofs.groups.GroupCommute.{Commute, commute-from_commutator}
use Rattle.pq_base.proofs.groups.GroupQuotients.{quotient_group, differ-one, differ-sym}
use Rattle.pq_base.proofs.tables.TableLaws.{inverse-zero}
use Rattle.pq_base.proofs.tables.TableGroup.{Element, table_group, elements}
use Rattle.pq_base.proofs.tables.TableSeries.{table_level-commutator, table_level-power}
use Rattle.pq_base.proofs.tables.TableQuotients.{in_level, in_level-normal}

module _ (T : Table) (g : IsGroup T) (p k : ℕ) where
  -- the table modulo level k
  abbrev pub level_group : Group
  level_group = quotient_group (table_group T g) (in_level T g p k) (in_level-normal T g p k)

  abbrev pub numbers : List (Element T) → List ℕ
  numbers fs = map (λ (x : Element T). x.number) fs

  pub numbers-elements : (f : List ℕ) (h : AllBelow T.size f) → numbers (elements T f h) ≡ f
  numbers-elements [] h = refl
  numbers-elements (x ∷ f) h = ap (λ (l : List ℕ). x ∷ l) (numbers-elements f h.1)

  abbrev zero_element : Element T
  zero_element = record { number = 0; below = g.nonempty }

  get_or-numbers : (fs : List (Element T)) (i : ℕ)
      → (get_or fs i (record { number = 0; below = g.nonempty })).number ≡ get_or (numbers fs) i 0
  get_or-numbers [] i = refl
  get_or-numbers (x ∷ fs) zero = refl
  get_or-numbers (x ∷ fs) (suc i) = get_or-numbers fs i

  element_in-number : (fs : List (Element T)) (j : ℤ) → (element_in level_group fs j).number ≡ element_of T (numbers fs) j
  element_in-number fs (pos zero) = refl
  element_in-number fs (pos (suc i)) = get_or-numbers fs i
  element_in-number fs (negsuc i) = ap (inverse T) (get_or-numbers fs i)

  pub value_in-number : (fs : List (Element T)) (w : List ℤ) → (value_in level_group fs w).number ≡ value T (numbers fs) w
  value_in-number fs [] = refl
  value_in-number fs (j ∷ w) = ap₂ (times T) (element_in-number fs j) (value_in-number fs w)

  pub numbers-values : (fs : List (Element T)) (f : List ℕ) → numbers fs ≡ f → (words : List (List ℤ))
      → numbers (map (λ (w : List ℤ). value_in level_group fs w) words) ≡ map (value T f) words
  numbers-values fs f e [] = refl
  numbers-values fs f e (w ∷ words) =
      ap₂ (λ (x : ℕ) (xs : List ℕ). x ∷ xs) (value_in-number fs w ∙ ap (λ (l : List ℕ). value T l w) e) (numbers-values fs f e words)

  -- what is one in it
  pub same_one-level : (x : Element T) → level_group.same x level_group.one → InLevel T p k x.number
  same_one-level x h =
      subst (λ (n : ℕ). InLevel T p k n)
      (ap (λ (n : ℕ). times T n x.number) (inverse-zero T g) ∙ g.neutral_left x.number x.below)
      (differ-sym (table_group T g) (in_level T g p k) (in_level-normal T g p k) x zero_element h)

  pub level-same_one : (x : Element T) → InLevel T p k x.number → level_group.same x level_group.one
  level-same_one x h = differ-one (table_group T g) (in_level T g p k) (in_level-normal T g p k) x h

-- modulo the next level
module _ (T : Table) (g : IsGroup T) (p c : ℕ) where
  pub level-central : (t x : Element T) → InLevel T p c t.number → Commute (level_group T g p (suc c)) t x
  level-central t x h =
      commute-from_commutator (level_group T g p (suc c)) t x
      (level-same_one T g p (suc c) (commutator_in (level_group T g p (suc c)) t x)
      (table_level-commutator T g p c t.number x.number h x.below))

  power_in-number : (t : Element T) (n : ℕ) → (power_in (level_group T g p (suc c)) t n).number ≡ power T t.number n
  power_in-number t zero = refl
  power_in-number t (suc n) = ap (times T t.number) (power_in-number t n)

  pub level-order : (t : Element T) → InLevel T p c t.number
      → (level_group T g p (suc c)).same (power_in (level_group T g p (suc c)) t p) (level_group T g p (suc c)).one
  level-order t h =
      level-same_one T g p (suc c) (power_in (level_group T g p (suc c)) t p)
      (subst (λ (n : ℕ). InLevel T p (suc c) n) (sym (power_in-number t p)) (table_level-power T g p c t.number h))
