-- A group up to an equivalence whose elements are numbered, with one number for elements that are the same, is a group table:
-- the value of a word there is the number of its value, and the table has each class that the group has.
use Rattle.std.proofs.Common.{◌≡◌, ℕ, zero, suc, ◌<◌, ℤ, pos, negsuc, List, [], ◌∷◌, get_or, length, map, refl, ap, ap₂, sym, ◌∙◌, subst}
use Rattle.std.proofs.Common.{arith}
use Rattle.std.proofs.lemmas.List.{length-map, get_or-map}
use Rattle.pq_base.specs.Table.{Table, IsGroup, AllBelow, HasTableClass, times, inverse, element_of, value}
use Rattle.pq_base.proofs.groups.Groups.{Group, element_in, value_in, same_from_equal}
use Rattle.pq_base.proofs.groups.GroupLevels.{IsClosed, InLevelIn}
use Rattle.pq_base.proofs.groups.GroupMaps.{IsMap, level-reached}
use Rattle.pq_base.proofs.tables.TableLaws.{inverse-unique}
use Rattle.pq_base.proofs.tables.TableGroup.{table_group}
use Rattle.pq_base.proofs.tables.TableSeries.{IsAny, element, table_level-below, level_in_table_group}

-- members of a group, one for each element up to the equivalence, the neutral one first, and the place of each element there
pub record IsNumbered (G : Group) (members : List G.carrier) (number : G.carrier → ℕ) : Type 0 where
  pub below : (x : G.carrier) → number x < length members
  pub member : (x : G.carrier) → G.same (get_or members (number x) G.one) x
  pub same : {x y : G.carrier} → G.same x y → number x ≡ number y
  pub counted : (i : ℕ) → i < length members → number (get_or members i G.one) ≡ i
  pub one : number G.one ≡ 0

abbrev pub numbered_table : (G : Group) → List G.carrier → (G.carrier → ℕ) → Table
numbered_table G members number = record {
  size = length members;
  rows = map (λ (x : G.carrier). map (λ (y : G.carrier). number (G.times x y)) members) members;
}

-- every element
abbrev pub IsAnyIn : (G : Group) → G.carrier → Type 0
IsAnyIn G x = Unit {0}

pub IsAnyIn-closed : (G : Group) → IsClosed G (IsAnyIn G)
IsAnyIn-closed G = record { one = tt; times = λ x y h i. tt; inverse = λ x h. tt }

module _ (G : Group) (members : List G.carrier) (number : G.carrier → ℕ) (is : IsNumbered G members number) where
  abbrev T : Table
  T = numbered_table G members number

  abbrev m : ℕ → G.carrier
  m i = get_or members i G.one

  -- products
  row-numbered : (a : ℕ) → a < length members → get_or T.rows a [] ≡ map (λ (y : G.carrier). number (G.times (m a) y)) members
  row-numbered a l = get_or-map (λ (x : G.carrier). map (λ (y : G.carrier). number (G.times x y)) members) members a G.one [] l

  times-numbered : (a b : ℕ) → a < length members → b < length members → times T a b ≡ number (G.times (m a) (m b))
  times-numbered a b l k =
      ap (λ (row : List ℕ). get_or row b 0) (row-numbered a l)
      ∙ get_or-map (λ (y : G.carrier). number (G.times (m a) y)) members b G.one 0 k

  pub times-of_numbers : (x y : G.carrier) → times (numbered_table G members number) (number x) (number y) ≡ number (G.times x y)
  times-of_numbers x y =
      times-numbered (number x) (number y) (is.below x) (is.below y) ∙ is.same (G.times-same (is.member x) (is.member y))

  -- what holds of all numbers of elements
  by_number : (P : ℕ → Type 0) → ((x : G.carrier) → P (number x)) → (a : ℕ) → a < length members → P a
  by_number P h a l = subst P (is.counted a l) (h (m a))

  associative-numbers : (x y z : G.carrier)
      → times T (times T (number x) (number y)) (number z) ≡ times T (number x) (times T (number y) (number z))
  associative-numbers x y z =
      ap (λ (a : ℕ). times T a (number z)) (times-of_numbers x y) ∙ times-of_numbers (G.times x y) z
      ∙ is.same (G.associative x y z)
      ∙ sym (times-of_numbers x (G.times y z)) ∙ ap (times T (number x)) (sym (times-of_numbers y z))

  left-number : (x : G.carrier) → times T 0 (number x) ≡ number x
  left-number x = ap (λ (a : ℕ). times T a (number x)) (sym is.one) ∙ times-of_numbers G.one x ∙ is.same (G.one_left x)

  right-number : (x : G.carrier) → times T (number x) 0 ≡ number x
  right-number x = ap (times T (number x)) (sym is.one) ∙ times-of_numbers x G.one ∙ is.same (G.one_right x)

  number-inverse : (x : G.carrier) → times T (number x) (number (G.inverse x)) ≡ 0
  number-inverse x = times-of_numbers x (G.inverse x) ∙ is.same (G.inverse_right x) ∙ is.one

  inverse-number : (x : G.carrier) → times T (number (G.inverse x)) (number x) ≡ 0
  inverse-number x = times-of_numbers (G.inverse x) x ∙ is.same (G.inverse_left x) ∙ is.one

  pub numbered-is_group : IsGroup (numbered_table G members number)
  numbered-is_group = record {
    nonempty = let l = is.below G.one in omega arith;
    row_count = length-map members (λ (x : G.carrier). map (λ (y : G.carrier). number (G.times x y)) members);
    widths = λ a l. ap length (row-numbered a l) ∙ length-map members (λ (y : G.carrier). number (G.times (m a) y));
    closed = λ a b l k. subst (λ (n : ℕ). n < length members) (sym (times-numbered a b l k)) (is.below (G.times (m a) (m b)));
    associative = λ a b c l k j.
        by_number (λ (d : ℕ). times T (times T d b) c ≡ times T d (times T b c))
        (λ x. by_number (λ (d : ℕ). times T (times T (number x) d) c ≡ times T (number x) (times T d c))
        (λ y. by_number (λ (d : ℕ). times T (times T (number x) (number y)) d ≡ times T (number x) (times T (number y) d))
        (λ z. associative-numbers x y z) c j) b k) a l;
    neutral_left = λ a l. by_number (λ (d : ℕ). times T 0 d ≡ d) left-number a l;
    neutral_right = λ a l. by_number (λ (d : ℕ). times T d 0 ≡ d) right-number a l;
    inverses = λ a l.
        by_number (λ (d : ℕ). (b : ℕ) × (b < length members) × (times T d b ≡ 0) × (times T b d ≡ 0))
        (λ x. (number (G.inverse x), is.below (G.inverse x), number-inverse x, inverse-number x)) a l;
  }

  -- values of words
  get_or-numbers : (fs : List G.carrier) (i : ℕ) → get_or (map number fs) i 0 ≡ number (get_or fs i G.one)
  get_or-numbers [] i = sym is.one
  get_or-numbers (x ∷ fs) zero = refl
  get_or-numbers (x ∷ fs) (suc i) = get_or-numbers fs i

  inverse-of_number : (x : G.carrier) → inverse T (number x) ≡ number (G.inverse x)
  inverse-of_number x =
      sym (inverse-unique T numbered-is_group (number x) (number (G.inverse x)) (is.below x) (is.below (G.inverse x)) (number-inverse x))

  element-of_numbers : (fs : List G.carrier) (k : ℤ) → element_of T (map number fs) k ≡ number (element_in G fs k)
  element-of_numbers fs (pos zero) = sym is.one
  element-of_numbers fs (pos (suc i)) = get_or-numbers fs i
  element-of_numbers fs (negsuc i) = ap (inverse T) (get_or-numbers fs i) ∙ inverse-of_number (get_or fs i G.one)

  pub value-of_numbers : (fs : List G.carrier) (w : List ℤ)
      → value (numbered_table G members number) (map number fs) w ≡ number (value_in G fs w)
  value-of_numbers fs [] = sym is.one
  value-of_numbers fs (k ∷ w) =
      ap₂ (times T) (element-of_numbers fs k) (value-of_numbers fs w) ∙ times-of_numbers (element_in G fs k) (value_in G fs w)

  pub numbers-below : (fs : List G.carrier) → AllBelow (length members) (map number fs)
  numbers-below [] = tt
  numbers-below (x ∷ fs) = (is.below x, numbers-below fs)

  -- the element of number 0
  pub one-from_number : (x : G.carrier) → number x ≡ 0 → G.same x G.one
  one-from_number x e =
      G.transitive (G.symmetric (is.member x))
      (G.transitive (same_from_equal G (ap m (e ∙ sym is.one))) (is.member G.one))

  -- classes
  pub numbered-class : (p c : ℕ) → ((x : G.carrier) → InLevelIn G p (IsAnyIn G) c x → G.same x G.one)
      → HasTableClass (numbered_table G members number) p c
  numbered-class p c trivial x h =
      let below = table_level-below T numbered-is_group p c x h in
      let to : IsMap G (table_group T numbered-is_group) (λ (y : G.carrier). element T (number y) (is.below y)) =
      record { same = λ e. is.same e; times = λ y z. sym (times-of_numbers y z) } in
      let r =
      level-reached G (table_group T numbered-is_group) (λ (y : G.carrier). element T (number y) (is.below y)) to p (IsAnyIn G) (IsAny T)
      (IsAnyIn-closed G) (λ y t. (m y.number, tt, is.counted y.number y.below)) c (element T x below)
      (level_in_table_group T numbered-is_group p c x below h) in
      sym r.2 ∙ is.same (trivial r.0 r.1) ∙ is.one
