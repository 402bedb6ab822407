-- A test that computes settles a fact on all numbers below a bound. So a closed table or answer is judged by `refl`.
use Rattle.std.proofs.Common.{◌≡◌, ◌<◌, ◌+◌, ℕ, zero, suc, Bool, true, false, ◌&&◌, not, T, eqb, leb, ltb, List, [], ◌∷◌, ◌++◌, ℤ, length}
use Rattle.std.proofs.Common.{get_or, refl, sym, ap, ◌∙◌, subst, inl, inr, eq-or-lt_of_le, le_of_suc-le-suc, arith, eqb-true, eq-eqb}
use Rattle.std.proofs.Common.{ltb-true}
use Rattle.std.proofs.lemmas.Bool.{leb-true}
use Rattle.pq_base.specs.SignedWord.{inv, copies, comm}
use Rattle.pq_base.specs.Presentation.{Presentation, IsPresentation, IsLaterSide, IsRelatorOf, letter, power_side, commutator_side}
use Rattle.pq_base.specs.Presentation.{power_word, commutator_word}
use Rattle.pq_base.specs.Presentation.IsRelatorOf.{power_relator, commutator_relator}
use Rattle.pq_base.specs.LPresentation.{AreDistinct}
use Rattle.pq_base.specs.Table.{AllBelow, Table, IsGroup, HasTableClass, times, inverse, power, commutator, value}
use Rattle.pq_base.specs.Table.NextElement.{no_element, times_commutator, times_power}

-- true is not false
pub differ : true ≡ false → ⊥
differ e = subst T e tt

-- numbers that the test tells apart are different
pub unequal : (a b : ℕ) → eqb a b ≡ false → a ≡ b → ⊥
unequal a b h e = differ (sym (eq-eqb a b e) ∙ h)

-- both parts of a test that passes pass
pub both : (a b : Bool) → (a && b) ≡ true → (a ≡ true) × (b ≡ true)
both true b h = (refl, h)
both false b h = absurd (differ (sym h))

-- the test passes at each number below n
abbrev pub passes_below : ℕ → (ℕ → Bool) → Bool
passes_below zero t = true
passes_below (suc n) t = t n && passes_below n t

-- so it passes at each of them
pub at-below : (n : ℕ) (t : ℕ → Bool) → passes_below n t ≡ true → (a : ℕ) → a < n → t a ≡ true
at-below zero t h a below = absurd (omega arith)
at-below (suc n) t h a below = elim (eq-or-lt_of_le (le_of_suc-le-suc below)) [
  | inl same ↦ subst (λ (m : ℕ). t m ≡ true) (sym same) (both (t n) (passes_below n t) h).0
  | inr less ↦ at-below n t (both (t n) (passes_below n t) h).1 a less
]

-- two numbers
pub at-both : (n m : ℕ) (t : ℕ → ℕ → Bool) → passes_below n (λ a. passes_below m (t a)) ≡ true → (a b : ℕ) → a < n → b < m → t a b ≡ true
at-both n m t h a b ha hb = at-below m (t a) (at-below n (λ x. passes_below m (t x)) h a ha) b hb

-- three numbers below one bound
pub at-all-three : (n : ℕ) (t : ℕ → ℕ → ℕ → Bool) → passes_below n (λ a. passes_below n (λ b. passes_below n (t a b))) ≡ true
    → (a b c : ℕ) → a < n → b < n → c < n → t a b c ≡ true
at-all-three n t h a b c ha hb hc = at-below n (t a b) (at-both n n (λ x y. passes_below n (t x y)) h a b ha hb) c hc

-- each row has as many entries as there are elements
abbrev pub has_widths : Table → Bool
has_widths T = passes_below T.size (λ a. eqb (length (get_or T.rows a [])) T.size)

-- products are elements
abbrev pub is_closed : Table → Bool
is_closed T = passes_below T.size (λ a. passes_below T.size (λ b. ltb (times T a b) T.size))

-- the operation is associative
abbrev pub is_associative : Table → Bool
is_associative T = passes_below T.size (λ a. passes_below T.size (λ b. passes_below T.size (λ c.
    eqb (times T (times T a b) c) (times T a (times T b c)))))

-- 0 is neutral
abbrev pub has_neutral : Table → Bool
has_neutral T = passes_below T.size (λ a. eqb (times T 0 a) a && eqb (times T a 0) a)

-- the first place of 0 in a row is an inverse
abbrev pub has_inverses : Table → Bool
has_inverses T = passes_below T.size (λ a.
    ltb (inverse T a) T.size && (eqb (times T a (inverse T a)) 0 && eqb (times T (inverse T a) a) 0))

-- what a closed table has to pass to be a group
pub record PassesGroup (T : Table) : Type 0 where
  pub nonempty : ltb 0 T.size ≡ true
  pub row_count : eqb (length T.rows) T.size ≡ true
  pub widths : has_widths T ≡ true
  pub closed : is_closed T ≡ true
  pub associative : is_associative T ≡ true
  pub neutral : has_neutral T ≡ true
  pub inverses : has_inverses T ≡ true

neutral-sides : (T : Table) → has_neutral T ≡ true → (a : ℕ) → a < T.size → (eqb (times T 0 a) a ≡ true) × (eqb (times T a 0) a ≡ true)
neutral-sides T h a ha = both (eqb (times T 0 a) a) (eqb (times T a 0) a)
    (at-below T.size (λ x. eqb (times T 0 x) x && eqb (times T x 0) x) h a ha)

inverse-found : (T : Table) → has_inverses T ≡ true → (a : ℕ) → a < T.size → (b : ℕ) × (b < T.size) × (times T a b ≡ 0) × (times T b a ≡ 0)
inverse-found T h a ha =
    let found = both (ltb (inverse T a) T.size) (eqb (times T a (inverse T a)) 0 && eqb (times T (inverse T a) a) 0)
    (at-below T.size (λ x. ltb (inverse T x) T.size && (eqb (times T x (inverse T x)) 0 && eqb (times T (inverse T x) x) 0)) h a ha) in
    let sides = both (eqb (times T a (inverse T a)) 0) (eqb (times T (inverse T a) a) 0) found.1 in (
      inverse T a,
      ltb-true (inverse T a) T.size found.0,
      eqb-true (times T a (inverse T a)) 0 sides.0,
      eqb-true (times T (inverse T a) a) 0 sides.1,
    )

-- a table that passes is a group
pub tested_group : (T : Table) → PassesGroup T → IsGroup T
tested_group T h = record {
  nonempty = ltb-true 0 T.size h.nonempty;
  row_count = eqb-true (length T.rows) T.size h.row_count;
  widths = λ a ha. eqb-true (length (get_or T.rows a [])) T.size
      (at-below T.size (λ x. eqb (length (get_or T.rows x [])) T.size) h.widths a ha);
  closed = λ a b ha hb. ltb-true (times T a b) T.size (at-both T.size T.size (λ x y. ltb (times T x y) T.size) h.closed a b ha hb);
  associative = λ a b c ha hb hc. eqb-true (times T (times T a b) c) (times T a (times T b c))
      (at-all-three T.size (λ x y z. eqb (times T (times T x y) z) (times T x (times T y z))) h.associative a b c ha hb hc);
  neutral_left = λ a ha. eqb-true (times T 0 a) a (neutral-sides T h.neutral a ha).0;
  neutral_right = λ a ha. eqb-true (times T a 0) a (neutral-sides T h.neutral a ha).1;
  inverses = inverse-found T h.inverses;
}

-- a table whose commutators and powers are all neutral has class at most 1
abbrev pub are_powers_neutral : Table → ℕ → Bool
are_powers_neutral T p = passes_below T.size (λ u. eqb (power T u p) 0)

-- commutators are neutral
abbrev pub are_commutators_neutral : Table → Bool
are_commutators_neutral T = passes_below T.size (λ u. passes_below T.size (λ v. eqb (commutator T u v) 0))

pub record PassesClassOne (T : Table) (p : ℕ) : Type 0 where
  pub neutral : times T 0 0 ≡ 0
  pub powers : are_powers_neutral T p ≡ true
  pub commutators : are_commutators_neutral T ≡ true

-- a table that passes has class at most 1
pub tested_class_one : (T : Table) (p : ℕ) → PassesClassOne T p → HasTableClass T p 1
tested_class_one T p h x no_element = refl
tested_class_one T p h x (times_commutator u v y hu hv hy) =
    let c : commutator T u v ≡ 0 = eqb-true (commutator T u v) 0
    (at-both T.size T.size (λ a b. eqb (commutator T a b) 0) h.commutators u v hu hv) in
    ap (λ (m : ℕ). times T m y) c ∙ (ap (times T 0) (tested_class_one T p h y hy) ∙ h.neutral)
tested_class_one T p h x (times_power u y hu hy) =
    let c : power T u p ≡ 0 = eqb-true (power T u p) 0 (at-below T.size (λ a. eqb (power T a p) 0) h.powers u hu) in
    ap (λ (m : ℕ). times T m y) c ∙ (ap (times T 0) (tested_class_one T p h y hy) ∙ h.neutral)

-- the test of entries below a bound
abbrev pub are_below : ℕ → List ℕ → Bool
are_below n [] = true
are_below n (x ∷ xs) = ltb x n && are_below n xs

-- entries that pass are below
pub tested_below : (n : ℕ) (xs : List ℕ) → are_below n xs ≡ true → AllBelow n xs
tested_below n [] h = tt
tested_below n (x ∷ xs) h =
    let parts = both (ltb x n) (are_below n xs) h in (ltb-true x n parts.0, tested_below n xs parts.1)

-- the test of a right side
abbrev pub is_later_side : Presentation → ℕ → List ℕ → Bool
is_later_side P i e = eqb (suc i + length e) P.rank && are_below P.prime e

-- a right side that passes is one
pub tested_side : (P : Presentation) (i : ℕ) (e : List ℕ) → is_later_side P i e ≡ true → IsLaterSide P i e
tested_side P i e h =
    let parts = both (eqb (suc i + length e) P.rank) (are_below P.prime e) h in
    record { count = eqb-true (suc i + length e) P.rank parts.0; below = tested_below P.prime e parts.1 }

-- what a closed presentation has to pass
pub record PassesPresentation (P : Presentation) : Type 0 where
  pub prime : leb 2 P.prime ≡ true
  pub power_count : eqb (length P.powers) P.rank ≡ true
  pub power_sides : passes_below P.rank (λ i. is_later_side P i (power_side P i)) ≡ true
  pub commutator_count : eqb (length P.commutators) P.rank ≡ true
  pub commutator_counts : passes_below P.rank (λ j. eqb (length (get_or P.commutators j [])) j) ≡ true
  pub commutator_sides : passes_below P.rank (λ j. passes_below j (λ i. is_later_side P j (commutator_side P j i))) ≡ true

-- a presentation that passes is one
pub tested_presentation : (P : Presentation) → PassesPresentation P → IsPresentation P
tested_presentation P h = record {
  prime = leb-true 2 P.prime h.prime;
  power_count = eqb-true (length P.powers) P.rank h.power_count;
  power_sides = λ i hi. tested_side P i (power_side P i) (at-below P.rank (λ k. is_later_side P k (power_side P k)) h.power_sides i hi);
  commutator_count = eqb-true (length P.commutators) P.rank h.commutator_count;
  commutator_counts = λ j hj. eqb-true (length (get_or P.commutators j [])) j
      (at-below P.rank (λ k. eqb (length (get_or P.commutators k [])) k) h.commutator_counts j hj);
  commutator_sides = λ j i hj hi. tested_side P j (commutator_side P j i)
      (at-below j (λ k. is_later_side P j (commutator_side P j k))
      (at-below P.rank (λ l. passes_below l (λ k. is_later_side P l (commutator_side P l k))) h.commutator_sides j hj) i hi);
}

-- relators whose values are all 0
abbrev pub are_power_values_neutral : Table → List ℕ → Presentation → Bool
are_power_values_neutral T f P =
    passes_below P.rank (λ i. eqb (value T f (copies (letter i) P.prime ++ inv (power_word P i))) 0)

-- the relators of commutators
abbrev pub are_commutator_values_neutral : Table → List ℕ → Presentation → Bool
are_commutator_values_neutral T f P =
    passes_below P.rank (λ j. passes_below j (λ i. eqb (value T f (comm (letter j) (letter i) ++ inv (commutator_word P j i))) 0))

-- where both pass each relator has value 0
pub tested_relators : (T : Table) (f : List ℕ) (P : Presentation) → are_power_values_neutral T f P ≡ true
    → are_commutator_values_neutral T f P ≡ true → (r : List ℤ) → IsRelatorOf P r → value T f r ≡ 0
tested_relators T f P hp hc r (power_relator i hi) =
    eqb-true (value T f (copies (letter i) P.prime ++ inv (power_word P i))) 0
    (at-below P.rank (λ k. eqb (value T f (copies (letter k) P.prime ++ inv (power_word P k))) 0) hp i hi)
tested_relators T f P hp hc r (commutator_relator j i hj hi) =
    eqb-true (value T f (comm (letter j) (letter i) ++ inv (commutator_word P j i))) 0
    (at-below j (λ k. eqb (value T f (comm (letter j) (letter k) ++ inv (commutator_word P j k))) 0)
    (at-below P.rank (λ l. passes_below l (λ k. eqb (value T f (comm (letter l) (letter k) ++ inv (commutator_word P l k))) 0)) hc j hj)
    i hi)

-- the test of equal lists
abbrev pub same_list : List ℕ → List ℕ → Bool
same_list [] [] = true
same_list (x ∷ xs) (y ∷ ys) = eqb x y && same_list xs ys
same_list _ _ = false

-- lists that pass are equal
pub same_list-true : (xs ys : List ℕ) → same_list xs ys ≡ true → xs ≡ ys
same_list-true [] [] h = refl
same_list-true (x ∷ xs) (y ∷ ys) h =
    let parts = both (eqb x y) (same_list xs ys) h in
    ap (λ (m : ℕ). m ∷ xs) (eqb-true x y parts.0) ∙ ap (λ (v : List ℕ). y ∷ v) (same_list-true xs ys parts.1)
same_list-true [] (y ∷ ys) h = absurd (differ (sym h))
same_list-true (x ∷ xs) [] h = absurd (differ (sym h))

same_list-refl : (xs : List ℕ) → same_list xs xs ≡ true
same_list-refl [] = refl
same_list-refl (x ∷ xs) = ap (λ (b : Bool). b && same_list xs xs) (eq-eqb x x refl) ∙ same_list-refl xs

-- a test whose opposite passes fails
pub not-true : (b : Bool) → not b ≡ true → b ≡ false
not-true true h = sym h
not-true false h = refl

-- names that all differ
abbrev pub are_distinct : List (List ℕ) → Bool
are_distinct names = passes_below (length names) (λ j. passes_below j (λ i. not (same_list (get_or names i []) (get_or names j []))))

-- names that pass are distinct
pub tested_distinct : (names : List (List ℕ)) → are_distinct names ≡ true → AreDistinct names
tested_distinct names h i j less below same =
    differ (sym (ap (same_list (get_or names i [])) (sym same) ∙ same_list-refl (get_or names i []))
    ∙ not-true (same_list (get_or names i []) (get_or names j []))
    (at-below j (λ k. not (same_list (get_or names k []) (get_or names j [])))
    (at-below (length names) (λ l. passes_below l (λ k. not (same_list (get_or names k []) (get_or names l [])))) h j below) i less))
