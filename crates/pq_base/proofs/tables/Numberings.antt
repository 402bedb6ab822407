-- The elements of a group table, up to an equivalence that can be decided, are numbered: each is listed in turn where it is the
-- same as none that was listed before, the neutral one first.
use Rattle.std.proofs.Common.{◌≡◌, ◌⊎◌, ℕ, zero, suc, ◌<◌, ◌≤◌, List, [], ◌∷◌, ◌++◌, get_or, length, refl, sym, ◌∙◌, subst, arith}
use Rattle.std.proofs.Common.{length-append, inl, inr}
use Rattle.std.proofs.lemmas.List.{get_or_push, get_or_append_left}
use Rattle.std.proofs.lemmas.Bool.{cases_lt}
use Rattle.pq_base.specs.Table.{Table, IsGroup}
use Rattle.pq_base.proofs.groups.Groups.{Group, same_from_equal}
use Rattle.pq_base.proofs.groups.GroupQuotients.{IsNormalSet, quotient_group, differ-same}
use Rattle.pq_base.proofs.tables.TableGroup.{Element, table_group}
use Rattle.pq_base.proofs.tables.TableSeries.{element}
use Rattle.pq_base.proofs.tables.NumberedGroups.{IsNumbered}

-- a place of a list that holds the same element
pub record IsFound (G : Group) (members : List G.carrier) (x : G.carrier) : Type 0 where
  pub place : ℕ
  pub within : place < length members
  pub same : G.same (get_or members place G.one) x

-- elements, no two of them the same and the neutral one first, among which each element of a part is found
pub record IsListed (G : Group) (part : G.carrier → Type 0) : Type 0 where
  pub members : List G.carrier
  pub some : 0 < length members
  pub first : get_or members 0 G.one ≡ G.one
  pub apart : (i j : ℕ) → i < length members → j < length members
      → G.same (get_or members i G.one) (get_or members j G.one) → i ≡ j
  pub found : (x : G.carrier) → part x → IsFound G members x

module _ (G : Group) (decided : (x y : G.carrier) → G.same x y ⊎ ¬ G.same x y) where
  -- found, or the same as none
  find : (members : List G.carrier) (x : G.carrier)
      → IsFound G members x ⊎ ((i : ℕ) → i < length members → ¬ G.same (get_or members i G.one) x)
  find [] x = inr (λ i l s. absurd (omega arith))
  find (y ∷ members) x = elim (decided y x) [
    | inl here ↦ inl (record { place = 0; within = omega arith; same = here })
    | inr other ↦ elim (find members x) [
      | inl later ↦
          let within : later.place < length members = later.within in
          inl (record { place = suc later.place; within = omega arith; same = later.same })
      | inr none ↦ inr (by_place y members x other none)
    ]
  ]
    where
      by_place : (y : G.carrier) (members : List G.carrier) (x : G.carrier) → ¬ G.same y x
          → ((i : ℕ) → i < length members → ¬ G.same (get_or members i G.one) x)
          → (i : ℕ) → i < length (y ∷ members) → ¬ G.same (get_or (y ∷ members) i G.one) x
      by_place y members x other none zero l = other
      by_place y members x other none (suc i) l = none i (omega arith)

  -- one element more
  module _ (part : G.carrier → Type 0) (listed : IsListed G part) (x : G.carrier) where
    abbrev ms : List G.carrier
    ms = listed.members

    abbrev more : List G.carrier
    more = listed.members ++ x ∷ []

    count : length more ≡ suc (length ms)
    count = omega (arith, length-append ms (x ∷ []))

    at_old : (i : ℕ) → i < length ms → get_or more i G.one ≡ get_or ms i G.one
    at_old i l = get_or_append_left ms (x ∷ []) G.one i l

    at_new : (i : ℕ) → length ms ≡ i → get_or more i G.one ≡ x
    at_new i e = get_or_push ms x G.one i e

    module _ (none : (i : ℕ) → i < length ms → ¬ G.same (get_or ms i G.one) x) where
      apart-more : (i j : ℕ) → i < length more → j < length more → G.same (get_or more i G.one) (get_or more j G.one) → i ≡ j
      apart-more i j l m s =
          let c = count in
          elim (cases_lt i (length ms)) [
            | inl old ↦ elim (cases_lt j (length ms)) [
              | inl too ↦
                  listed.apart i j old too
                  (subst (λ (y : G.carrier). G.same (get_or ms i G.one) y) (at_old j too)
                  (subst (λ (y : G.carrier). G.same y (get_or more j G.one)) (at_old i old) s))
              | inr new ↦
                  absurd (none i old
                  (subst (λ (y : G.carrier). G.same (get_or ms i G.one) y) (at_new j (omega arith))
                  (subst (λ (y : G.carrier). G.same y (get_or more j G.one)) (at_old i old) s)))
            ]
            | inr new ↦ elim (cases_lt j (length ms)) [
              | inl old ↦
                  absurd (none j old
                  (subst (λ (y : G.carrier). G.same (get_or ms j G.one) y) (at_new i (omega arith))
                  (subst (λ (y : G.carrier). G.same y (get_or more i G.one)) (at_old j old) (G.symmetric s))))
              | inr too ↦ omega arith
            ]
          ]

    listed-more : (wider : G.carrier → Type 0) → ((y : G.carrier) → wider y → part y ⊎ G.same x y) → IsListed G wider
    listed-more wider split = elim (find ms x) [
      | inl f ↦
          record {
            members = ms;
            some = listed.some;
            first = listed.first;
            apart = listed.apart;
            found = λ y w. elim (split y w) [
              | inl h ↦ listed.found y h
              | inr s ↦ record { place = f.place; within = f.within; same = G.transitive f.same s }
            ];
          }
      | inr none ↦
          let c = count in
          let s : 0 < length ms = listed.some in
          record {
            members = more;
            some = omega arith;
            first = at_old 0 s ∙ listed.first;
            apart = apart-more none;
            found = λ y w. elim (split y w) [
              | inl h ↦
                  let f = listed.found y h in
                  let within : f.place < length ms = f.within in
                  record {
                    place = f.place;
                    within = omega arith;
                    same = subst (λ (z : G.carrier). G.same z y) (sym (at_old f.place within)) f.same;
                  }
              | inr same ↦
                  record {
                    place = length ms;
                    within = omega arith;
                    same = subst (λ (z : G.carrier). G.same z y) (sym (at_new (length ms) refl)) same;
                  }
            ];
          }
    ]

  -- the neutral element alone
  pub listed-one : (part : G.carrier → Type 0) → ((x : G.carrier) → ¬ part x) → IsListed G part
  listed-one part none = record {
    members = G.one ∷ [];
    some = omega arith;
    first = refl;
    apart = λ i j l m s. omega arith;
    found = λ x h. absurd (none x h);
  }

-- where all elements are listed, each has its place as a number
module _ (G : Group) (part : G.carrier → Type 0) (listed : IsListed G part) (all : (x : G.carrier) → part x) where
  abbrev pub listed_number : G.carrier → ℕ
  listed_number x = (listed.found x (all x)).place

  pub listed-is_numbered : IsNumbered G listed.members listed_number
  listed-is_numbered = record {
    below = λ x. (listed.found x (all x)).within;
    member = λ x. (listed.found x (all x)).same;
    same = λ {x} {y} e.
        let f = listed.found x (all x) in
        let h = listed.found y (all y) in
        listed.apart f.place h.place f.within h.within (G.transitive f.same (G.transitive e (G.symmetric h.same)));
    counted = λ i l.
        let f = listed.found (get_or listed.members i G.one) (all (get_or listed.members i G.one)) in
        listed.apart f.place i f.within l f.same;
    one =
        let f = listed.found G.one (all G.one) in
        listed.apart f.place 0 f.within listed.some
        (G.transitive f.same (G.symmetric (same_from_equal G listed.first)));
  }

-- the elements of a table modulo a normal set
module _ (T : Table) (g : IsGroup T) (M : Element T → Type 0) (n : IsNormalSet (table_group T g) M)
    (decided : (x : Element T) → M x ⊎ ¬ M x) where
  abbrev G : Group
  G = quotient_group (table_group T g) M n

  abbrev IsBefore : ℕ → Element T → Type 0
  IsBefore k x = x.number < k

  listed_up_to : (k : ℕ) → k ≤ T.size → IsListed (quotient_group (table_group T g) M n) (IsBefore k)
  listed_up_to zero l =
      listed-one G (λ x y. decided (G.times (G.inverse x) y)) (IsBefore 0) (λ x h. absurd (omega arith))
  listed_up_to (suc k) l =
      listed-more G (λ x y. decided (G.times (G.inverse x) y)) (IsBefore k) (listed_up_to k (omega arith)) (element T k (omega arith))
      (IsBefore (suc k))
      (λ y h. elim (cases_lt y.number k) [
        | inl before ↦ inl before
        | inr after ↦
            let same : k ≡ y.number = omega arith in
            inr (differ-same (table_group T g) M n same)
      ])

  pub quotient-listed : IsListed (quotient_group (table_group T g) M n) (IsBefore T.size)
  quotient-listed = listed_up_to T.size (omega arith)
