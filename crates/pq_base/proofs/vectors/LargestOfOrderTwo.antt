-- The answer of order two is the largest quotient of class 1, at the prime 2, of the free group of rank 1. It is not that
-- of a group whose generator is a relator, and not that of class 2.
use Rattle.std.proofs.Common.{◌≡◌, ◌<◌, ℕ, zero, suc, ℤ, pos, List, [], ◌∷◌, length, get_or, refl, sym, ap, ◌∙◌, lit<, lit≤, arith}
use Rattle.pq_base.specs.LPresentation.{Obeys}
use Rattle.pq_base.specs.Table.{Table, IsGroup, HasTableClass, times, value}
use Rattle.pq_base.specs.Table.NextElement.{no_element, times_power}
use Rattle.pq_base.specs.Presentation.{IsRelatorOf}
use Rattle.pq_base.specs.Presentation.IsRelatorOf.{power_relator, commutator_relator}
use Rattle.pq_base.specs.Joined.Chain.{done}
use Rattle.pq_base.specs.Answer.{Answer, image_words}
use Rattle.pq_base.specs.Largest.{IsGenerated, Factors, FactorsOnce, IsUniversal, IsLargest}
use Rattle.pq_base.proofs.tables.TableLaws.{get_or-below}
use Rattle.pq_base.proofs.vectors.Tests.{unequal}
use Rattle.pq_base.proofs.vectors.Tables.{two_elements, cycle_of_four, cycle_of_four_is_group}
use Rattle.pq_base.proofs.vectors.CycleOfFour.{cycle_of_four_has_class_two}
use Rattle.pq_base.proofs.vectors.Presentations.{order_two}
use Rattle.pq_base.proofs.vectors.LargestQuotients.{killed_generator, free_generator, no-relator}
use Rattle.pq_base.proofs.vectors.Answers.{answer_of_order_two, order_two_is_answer}
use Rattle.pq_base.proofs.vectors.OrderTwo.{order_two_is_consistent, order_two_has_class_one, order_two_kills_not}

-- a1 is the image of x
pub order_two_is_generated : IsGenerated answer_of_order_two
order_two_is_generated zero h = done
order_two_is_generated (suc k) h = absurd (omega (arith, h))

-- in a table of class 1 the square of an element is neutral
pub square-neutral : (T : Table) → IsGroup T → HasTableClass T 2 1 → (a : ℕ) → a < T.size → times T a (times T a 0) ≡ 0
square-neutral T g c a h =
    sym (g.neutral_right (times T a (times T a 0)) (g.closed a (times T a 0) h (g.closed a 0 h g.nonempty)))
    ∙ c (times T (times T a (times T a 0)) 0) (times_power a 0 h no_element)

one-entry : (T : Table) (h : List ℕ) → length h ≡ 1 → h ≡ get_or h 0 0 ∷ []
one-entry T [] e = absurd (omega (arith, e))
one-entry T (a ∷ []) e = refl
one-entry T (a ∷ b ∷ h) e = absurd (omega (arith, e))

relators-killed : (T : Table) (f : List ℕ) → times T (get_or f 0 0) (times T (get_or f 0 0) 0) ≡ 0
    → (r : List ℤ) → IsRelatorOf order_two r → value T f r ≡ 0
relators-killed T f e r (power_relator zero h) = e
relators-killed T f e r (power_relator (suc i) h) = absurd (omega (arith, h))
relators-killed T f e r (commutator_relator j i hj hi) = absurd (omega (arith, hj, hi))

images-kept : (T : Table) (f : List ℕ) → times T (get_or f 0 0) 0 ≡ get_or f 0 0
    → (i : ℕ) → i < 1 → value T f (get_or (image_words answer_of_order_two) i []) ≡ get_or f i 0
images-kept T f e zero h = e
images-kept T f e (suc i) h = absurd (omega (arith, h))

-- each element of a group of class 1 is an image of a1
pub order_two_is_universal : IsUniversal free_generator 2 1 answer_of_order_two
order_two_is_universal T f g c o =
    let below = get_or-below T.size f 0 g.nonempty o.elements in
    record {
      through = f;
      factors = record {
        count = o.count;
        elements = o.elements;
        relators = relators-killed T f (square-neutral T g c (get_or f 0 0) below);
        images = images-kept T f (g.neutral_right (get_or f 0 0) below);
      };
      only = λ h fits.
          one-entry T h fits.count
          ∙ ap (λ (x : ℕ). x ∷ [])
          (sym (g.neutral_right (get_or h 0 0) (get_or-below T.size h 0 g.nonempty fits.elements)) ∙ fits.images 0 (lit< tt))
          ∙ sym (one-entry T f o.count);
    }

-- the free group of rank 1 at class 1
pub order_two_is_largest : IsLargest free_generator 2 1 answer_of_order_two
order_two_is_largest = record {
  answer = order_two_is_answer;
  prime = refl;
  names = refl;
  class_limit = lit≤ tt;
  consistent = order_two_is_consistent;
  class = order_two_has_class_one;
  kills = λ r h. absurd (no-relator r h);
  generated = order_two_is_generated;
  universal = order_two_is_universal;
}

-- where x is a relator it is not: x is not killed
pub order_two_is_not_largest_of_killed : IsLargest killed_generator 2 1 answer_of_order_two → ⊥
order_two_is_not_largest_of_killed h = order_two_kills_not h.kills

-- at class 0 it is not: its class is 1
pub order_two_is_not_largest_of_class_zero : IsLargest free_generator 2 0 answer_of_order_two → ⊥
order_two_is_not_largest_of_class_zero h = omega (arith, h.class_limit)

-- at the prime 3 it is not
pub order_two_is_not_largest_at_three : IsLargest free_generator 3 1 answer_of_order_two → ⊥
order_two_is_not_largest_at_three h = unequal 2 3 refl h.prime

-- the map of x to 1 in the cycle of four has class 2, and does not factor through the group of order two
pub order_two_is_not_universal_at_class_two : IsUniversal free_generator 2 2 answer_of_order_two → ⊥
order_two_is_not_universal_at_class_two u =
    let o : Obeys cycle_of_four (1 ∷ []) free_generator =
    record { count = refl; elements = (lit< tt, tt); kills = λ r h. absurd (no-relator r h) } in
    let once = u cycle_of_four (1 ∷ []) cycle_of_four_is_group cycle_of_four_has_class_two o in
    let kept = once.factors.images 0 (lit< tt) in
    let square = once.factors.relators (pos 1 ∷ pos 1 ∷ []) (power_relator 0 (lit< tt)) in
    let a : ℕ = get_or once.through 0 0 in
    let below = get_or-below 4 once.through 0 (lit< tt) once.factors.elements in
    let same : a ≡ 1 = sym (cycle_of_four_is_group.neutral_right a below) ∙ kept in
    let two = ap (λ (m : ℕ). times cycle_of_four m (times cycle_of_four a 0)) same ∙ ap (times cycle_of_four 1) kept in
    unequal 2 0 refl (sym two ∙ square)

-- elements that do not keep the images
pub neutral_does_not_factor : Factors two_elements (1 ∷ []) answer_of_order_two (0 ∷ []) → ⊥
neutral_does_not_factor h = unequal 0 1 refl (h.images 0 (lit< tt))

-- an element at which the relator has not value 0
pub fourth_root_does_not_factor : Factors cycle_of_four (1 ∷ []) answer_of_order_two (1 ∷ []) → ⊥
fourth_root_does_not_factor h = unequal 2 0 refl (h.relators (pos 1 ∷ pos 1 ∷ []) (power_relator 0 (lit< tt)))

-- without images every element of order two serves, so that more than one list does
abbrev pub without_images : Answer
without_images = record answer_of_order_two { names = []; images = [] }

-- 0 and 1 both do
pub each_factors_without_images : (x : ℕ) → x < 2 → times two_elements x (times two_elements x 0) ≡ 0
    → Factors two_elements [] without_images (x ∷ [])
each_factors_without_images x below square = record {
  count = refl;
  elements = (below, tt);
  relators = relators-killed two_elements (x ∷ []) square;
  images = λ i h. absurd (omega (arith, h));
}

-- so no list is the only one
pub without_images_is_not_once : FactorsOnce two_elements [] without_images → ⊥
without_images_is_not_once h =
    let zeroth = h.only (0 ∷ []) (each_factors_without_images 0 (lit< tt) refl) in
    let first = h.only (1 ∷ []) (each_factors_without_images 1 (lit< tt) refl) in
    unequal 0 1 refl (ap (λ (l : List ℕ). get_or l 0 0) (zeroth ∙ sym first))
