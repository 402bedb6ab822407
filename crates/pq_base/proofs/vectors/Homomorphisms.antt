-- Maps between tables, and the order of the largest quotient: a killed generator gives the order 2^0, and a free one
-- does not, since it maps onto the group of two elements.
use Rattle.std.proofs.Common.{◌≡◌, ◌<◌, ℕ, zero, suc, ℤ, pos, negsuc, List, [], ◌∷◌, length, get_or, refl, sym, ap, ◌∙◌, lit<, arith}
use Rattle.pq_base.specs.SignedWord.{HasLetters}
use Rattle.pq_base.specs.LPresentation.{IsRelator, Obeys}
use Rattle.pq_base.specs.LPresentation.IsRelator.{fixed_relator, iterated_relator}
use Rattle.pq_base.specs.Table.{Table, IsGroup, HasTableClass, times, value}
use Rattle.pq_base.specs.Largest.{IsHomomorphism, Carries, HasValue, HasOrder}
use Rattle.pq_base.proofs.tables.TableLaws.{get_or-below}
use Rattle.pq_base.proofs.vectors.Tests.{unequal, tested_class_one}
use Rattle.pq_base.proofs.vectors.Tables.{one_element, one_element_is_group, two_elements, two_elements_are_group}
use Rattle.pq_base.proofs.vectors.Tables.{two_elements_have_class_one, cycle_of_four}
use Rattle.pq_base.proofs.vectors.LargestQuotients.{killed_generator, free_generator, killed-element, one_obeys_nothing}

-- 1 to 2 is a homomorphism of the group of two elements into the cycle of four
pub one_to_two : IsHomomorphism two_elements cycle_of_four (0 ∷ 2 ∷ [])
one_to_two = record { count = refl; elements = (lit< tt, (lit< tt, tt)); products = products } where
  products : (a b : ℕ) → a < 2 → b < 2
      → get_or (0 ∷ 2 ∷ []) (times two_elements a b) 0 ≡ times cycle_of_four (get_or (0 ∷ 2 ∷ []) a 0) (get_or (0 ∷ 2 ∷ []) b 0)
  products zero zero ha hb = refl
  products zero (suc zero) ha hb = refl
  products (suc zero) zero ha hb = refl
  products (suc zero) (suc zero) ha hb = refl
  products zero (suc (suc b)) ha hb = absurd (omega (arith, hb))
  products (suc zero) (suc (suc b)) ha hb = absurd (omega (arith, hb))
  products (suc (suc a)) b ha hb = absurd (omega (arith, ha))

-- it carries 1 to 2
pub one_to_two_carries : Carries two_elements (1 ∷ []) cycle_of_four (2 ∷ [])
one_to_two_carries = record { map = 0 ∷ 2 ∷ []; homomorphism = one_to_two; carries = carries } where
  carries : (i : ℕ) → i < 1 → get_or {A = ℕ} (0 ∷ 2 ∷ []) (get_or (1 ∷ []) i 0) 0 ≡ get_or (2 ∷ []) i 0
  carries zero h = refl
  carries (suc i) h = absurd (omega (arith, h))

-- 1 to 1 is none: the product of 1 with itself goes to 0, and not to 2
pub one_to_one_is_no_homomorphism : IsHomomorphism two_elements cycle_of_four (0 ∷ 1 ∷ []) → ⊥
one_to_one_is_no_homomorphism h = unequal 0 2 refl (h.products 1 1 (lit< tt) (lit< tt))

-- an element of order four is no image of one of order two
pub nothing_carries_one_to_one : Carries two_elements (1 ∷ []) cycle_of_four (1 ∷ []) → ⊥
nothing_carries_one_to_one c =
    let one = c.carries 0 (lit< tt) in
    let zeroth = c.homomorphism.products 1 1 (lit< tt) (lit< tt) in
    let two = zeroth ∙ ap (λ (x : ℕ). times cycle_of_four x (get_or c.map 1 0)) one ∙ ap (times cycle_of_four 1) one in
    let twice = c.homomorphism.products 0 0 (lit< tt) (lit< tt)
    ∙ ap (λ (x : ℕ). times cycle_of_four x (get_or c.map 0 0)) two ∙ ap (times cycle_of_four 2) two in
    unequal 2 0 refl (sym two ∙ twice)

-- 3 is the value of x⁻¹ where x is 1
pub three_has_a_word : HasValue cycle_of_four (1 ∷ []) 1 3
three_has_a_word = record { word = negsuc 0 ∷ []; letters = (lit< tt, tt); is = refl }

-- no word over no generators has the value 1
pub one_has_no_word : HasValue cycle_of_four (1 ∷ []) 0 1 → ⊥
one_has_no_word h = none h.word h.letters h.is where
  none : (w : List ℤ) → HasLetters 0 w → value cycle_of_four (1 ∷ []) w ≡ 1 → ⊥
  none [] l e = unequal 0 1 refl e
  none (pos zero ∷ w) l e = l.0
  none (pos (suc k) ∷ w) l e = omega (arith, l.0)
  none (negsuc k ∷ w) l e = omega (arith, l.0)

-- the generator is the neutral element of the group of one element
pub zero_obeys : Obeys one_element (0 ∷ []) killed_generator
zero_obeys = record { count = refl; elements = (lit< tt, tt); kills = kills } where
  kills : (r : List ℤ) → IsRelator killed_generator r → value one_element (0 ∷ []) r ≡ 0
  kills r (fixed_relator zero h) = refl
  kills r (fixed_relator (suc i) h) = absurd (omega (arith, h))
  kills r (iterated_relator s i hs h) = absurd (omega (arith, h))

-- the empty word has the value 0
pub zero_generates : (x : ℕ) → x < 1 → HasValue one_element (0 ∷ []) 1 x
zero_generates zero h = record { word = []; letters = tt; is = refl }
zero_generates (suc x) h = absurd (omega (arith, h))

zero-is-homomorphism : (U : Table) → IsGroup U → IsHomomorphism one_element U (0 ∷ [])
zero-is-homomorphism U g = record { count = refl; elements = (g.nonempty, tt); products = products } where
  products : (a b : ℕ) → a < 1 → b < 1
      → get_or (0 ∷ []) (times one_element a b) 0 ≡ times U (get_or (0 ∷ []) a 0) (get_or (0 ∷ []) b 0)
  products zero zero ha hb = sym (g.neutral_left 0 g.nonempty)
  products zero (suc b) ha hb = absurd (omega (arith, hb))
  products (suc a) b ha hb = absurd (omega (arith, ha))

-- 0 to 0 is a homomorphism into each group, and carries the generator
pub zero_carries : (U : Table) (g : List ℕ) → IsGroup U → Obeys U g killed_generator → Carries one_element (0 ∷ []) U g
zero_carries U g group o = record { map = 0 ∷ []; homomorphism = zero-is-homomorphism U group; carries = carries } where
  carries : (i : ℕ) → i < 1 → get_or {A = ℕ} (0 ∷ []) (get_or (0 ∷ []) i 0) 0 ≡ get_or g i 0
  carries zero h = sym (killed-element U g group o)
  carries (suc i) h = absurd (omega (arith, h))

-- generators x, fixed x: the order is 2^0
pub killed_generator_has_order_one : HasOrder killed_generator 2 1 0
killed_generator_has_order_one = record {
  table = one_element;
  images = 0 ∷ [];
  group = one_element_is_group;
  size = refl;
  class = one_element_has_class_one;
  obeys = zero_obeys;
  generated = zero_generates;
  universal = λ U g group _ o. zero_carries U g group o;
} where
  one_element_has_class_one : HasTableClass one_element 2 1
  one_element_has_class_one = tested_class_one one_element 2 (record { neutral = refl; powers = refl; commutators = refl })

-- an element of a group of one element is its neutral one
only-element : (T : Table) → T.size ≡ 1 → (x : ℕ) → x < T.size → x ≡ 0
only-element T e x h = omega (arith, e, h)

-- generators x: not the order 2^0
pub free_generator_has_not_order_one : HasOrder free_generator 2 1 0 → ⊥
free_generator_has_not_order_one o =
    let c = o.universal two_elements (1 ∷ []) two_elements_are_group two_elements_have_class_one one_obeys_nothing in
    let named : 0 < length o.images = omega (arith, o.obeys.count) in
    let first =
    only-element o.table o.size (get_or o.images 0 0) (get_or-below o.table.size o.images 0 o.group.nonempty o.obeys.elements) in
    let one = ap (λ (x : ℕ). get_or c.map x 0) (sym first) ∙ c.carries 0 named in
    let square = sym (ap (λ (x : ℕ). get_or c.map x 0) (o.group.neutral_left 0 o.group.nonempty))
    ∙ c.homomorphism.products 0 0 o.group.nonempty o.group.nonempty in
    let zeroth = square ∙ ap (λ (x : ℕ). times two_elements x (get_or c.map 0 0)) one ∙ ap (times two_elements 1) one in
    unequal 1 0 refl (sym one ∙ zeroth)
