-- The dihedral answer of order eight is the largest quotient of class 2, at the prime 2, of the group of two generators
-- whose squares are relators; and it is that where one square is an iterated relator and an endomorphism swaps them. It is not that of
-- class 3.
use Rattle.std.proofs.Common.{◌≡◌, ◌<◌, ◌++◌, ℕ, zero, suc, ℤ, pos, negsuc, List, [], ◌∷◌, length, get_or, refl, sym, ap, ◌∙◌, subst, lit<}
use Rattle.std.proofs.Common.{lit≤, arith}
use Rattle.pq_base.specs.SignedWord.{comm}
use Rattle.pq_base.specs.LPresentation.{IsRelator, Obeys}
use Rattle.pq_base.specs.LPresentation.IsRelator.{fixed_relator, iterated_relator}
use Rattle.pq_base.specs.Table.{Table, IsGroup, HasTableClass, InLevel, AllBelow, times, inverse, commutator, power, value}
use Rattle.pq_base.specs.Presentation.{IsRelatorOf}
use Rattle.pq_base.specs.Presentation.IsRelatorOf.{power_relator, commutator_relator}
use Rattle.pq_base.specs.Joined.{Joined}
use Rattle.pq_base.specs.Answer.{image_words}
use Rattle.pq_base.specs.Largest.{Factors, FactorsOnce, IsUniversal, IsLargest}
use Rattle.pq_base.proofs.tables.TableLaws.{get_or-below, value-below, times-inverse, inverse-below, times-cancel_right}
use Rattle.pq_base.proofs.tables.TableGroup.{value-append, value-comm, value-agree, value-joined}
use Rattle.pq_base.proofs.tables.TableSeries.{table_level-commutator, table_level-power}
use Rattle.pq_base.proofs.vectors.Tests.{unequal}
use Rattle.pq_base.proofs.vectors.Rewriting.{reduce-joined, all_rules, all-rules-joined}
use Rattle.pq_base.proofs.vectors.LPresentations.{dihedral, swapped_iterated, swapped_square_is_relator}
use Rattle.pq_base.proofs.vectors.Presentations.{dihedral_of_order_eight}
use Rattle.pq_base.proofs.vectors.Answers.{answer_of_order_eight, order_eight_is_answer}
use Rattle.pq_base.proofs.vectors.KilledRelators.{order_eight_kills, order_eight_kills_iterated, order_eight_is_generated}
use Rattle.pq_base.proofs.vectors.ConsistentPresentations.{order_eight_is_consistent, sixteen_elements, sixteen_elements_are_group}
use Rattle.pq_base.proofs.vectors.DihedralClasses.{order_eight_has_class_two, sixteen_elements_have_class_three}

-- [y,x]
abbrev swapped_commutator : List ℤ
swapped_commutator = negsuc 1 ∷ negsuc 0 ∷ pos 2 ∷ pos 1 ∷ []

three-entries : (h : List ℕ) → length h ≡ 3 → h ≡ get_or h 0 0 ∷ get_or h 1 0 ∷ get_or h 2 0 ∷ []
three-entries [] e = absurd (omega (arith, e))
three-entries (a ∷ []) e = absurd (omega (arith, e))
three-entries (a ∷ b ∷ []) e = absurd (omega (arith, e))
three-entries (a ∷ b ∷ c ∷ []) e = refl
three-entries (a ∷ b ∷ c ∷ d ∷ h) e = absurd (omega (arith, e))

-- the images determine the first two elements
same : (T : Table) → IsGroup T → (f h : List ℕ) → Factors T f answer_of_order_eight h → (i : ℕ) → i < 2 → get_or h i 0 ≡ get_or f i 0
same T g f h fits zero l = sym (g.neutral_right (get_or h 0 0) (get_or-below T.size h 0 g.nonempty fits.elements)) ∙ fits.images 0 l
same T g f h fits (suc zero) l = sym (g.neutral_right (get_or h 1 0) (get_or-below T.size h 1 g.nonempty fits.elements)) ∙ fits.images 1 l
same T g f h fits (suc (suc i)) l = absurd (omega (arith, l))

-- elements a and b with trivial squares in a group of class 2
module _ (T : Table) (g : IsGroup T) (class : HasTableClass T 2 2) (f : List ℕ) (below : AllBelow T.size f)
    (first : value T f (pos 1 ∷ pos 1 ∷ []) ≡ 0) (second : value T f (pos 2 ∷ pos 2 ∷ []) ≡ 0) where
  abbrev third : ℕ
  third = value T f swapped_commutator

  abbrev through : List ℕ
  through = get_or f 0 0 ∷ get_or f 1 0 ∷ third ∷ []

  through-below : AllBelow T.size through
  through-below = (
    get_or-below T.size f 0 g.nonempty below,
    (get_or-below T.size f 1 g.nonempty below, (value-below T g f below swapped_commutator, tt)),
  )

  letter-value : (i : ℕ) → times T (get_or through i 0) 0 ≡ get_or through i 0
  letter-value i = g.neutral_right (get_or through i 0) (get_or-below T.size through i g.nonempty through-below)

  third-in-level : InLevel T 2 1 third
  third-in-level =
      subst (λ (x : ℕ). InLevel T 2 1 x) (sym (value-comm T g f below (pos 2 ∷ []) (pos 1 ∷ [])))
      (table_level-commutator T g 2 0 (value T f (pos 2 ∷ [])) (value T f (pos 1 ∷ []))
      (value-below T g f below (pos 2 ∷ [])) (value-below T g f below (pos 1 ∷ [])))

  third-square : value T through (pos 3 ∷ pos 3 ∷ []) ≡ 0
  third-square = class (power T third 2) (table_level-power T g 2 1 third third-in-level)

  -- the third commutes with all
  third-commutes : (w : List ℤ) → value T through (comm (pos 3 ∷ []) w) ≡ 0
  third-commutes w =
      value-comm T g through through-below (pos 3 ∷ []) w
      ∙ class (commutator T (value T through (pos 3 ∷ [])) (value T through w))
      (table_level-commutator T g 2 1 (value T through (pos 3 ∷ [])) (value T through w)
      (subst (λ (x : ℕ). InLevel T 2 1 x) (sym (letter-value 2)) third-in-level) (value-below T g through through-below w))

  -- [y,x] z⁻¹ has the value 0 where z is the value of [y,x]
  quotient : value T through (swapped_commutator ++ negsuc 2 ∷ []) ≡ 0
  quotient =
      value-append T g through through-below swapped_commutator (negsuc 2 ∷ [])
      ∙ ap (times T third) (g.neutral_right (inverse T third) (inverse-below T g third (value-below T g f below swapped_commutator)))
      ∙ times-inverse T third

  relators : (r : List ℤ) → IsRelatorOf dihedral_of_order_eight r → value T through r ≡ 0
  relators r (power_relator zero h) = first
  relators r (power_relator (suc zero) h) = second
  relators r (power_relator (suc (suc zero)) h) = third-square
  relators r (power_relator (suc (suc (suc i))) h) = absurd (omega (arith, h))
  relators r (commutator_relator zero i hj hi) = absurd (omega (arith, hi))
  relators r (commutator_relator (suc zero) zero hj hi) = quotient
  relators r (commutator_relator (suc zero) (suc i) hj hi) = absurd (omega (arith, hi))
  relators r (commutator_relator (suc (suc zero)) zero hj hi) = third-commutes (pos 1 ∷ [])
  relators r (commutator_relator (suc (suc zero)) (suc zero) hj hi) = third-commutes (pos 2 ∷ [])
  relators r (commutator_relator (suc (suc zero)) (suc (suc i)) hj hi) = absurd (omega (arith, hi))
  relators r (commutator_relator (suc (suc (suc j))) i hj hi) = absurd (omega (arith, hj))

  images : (i : ℕ) → i < 2 → value T through (get_or (image_words answer_of_order_eight) i []) ≡ get_or f i 0
  images zero h = letter-value 0
  images (suc zero) h = letter-value 1
  images (suc (suc i)) h = absurd (omega (arith, h))

  module _ (h : List ℕ) (fits : Factors T f answer_of_order_eight h) where
    -- the relator [y,x] z⁻¹ determines the element z
    same-third : get_or h 2 0 ≡ third
    same-third =
        let z : ℕ = get_or h 2 0 in
        let hz = get_or-below T.size h 2 g.nonempty fits.elements in
        let c = value-below T g h fits.elements swapped_commutator in
        let product : times T (value T h swapped_commutator) (inverse T z) ≡ 0 =
        ap (times T (value T h swapped_commutator)) (sym (g.neutral_right (inverse T z) (inverse-below T g z hz)))
        ∙ sym (value-append T g h fits.elements swapped_commutator (negsuc 2 ∷ []))
        ∙ fits.relators (swapped_commutator ++ negsuc 2 ∷ []) (commutator_relator 1 0 (lit< tt) (lit< tt)) in
        sym (times-cancel_right T g (inverse T z) (value T h swapped_commutator) z (inverse-below T g z hz) c hz
        (product ∙ sym (times-inverse T z)))
        ∙ value-agree T 2 h f (same T g f h fits) swapped_commutator (lit< tt, (lit< tt, (lit< tt, (lit< tt, tt))))

    only : h ≡ through
    only =
        three-entries h fits.count
        ∙ ap (λ (x : ℕ). x ∷ get_or h 1 0 ∷ get_or h 2 0 ∷ []) (same T g f h fits 0 (lit< tt))
        ∙ ap (λ (x : ℕ). get_or f 0 0 ∷ x ∷ get_or h 2 0 ∷ []) (same T g f h fits 1 (lit< tt))
        ∙ ap (λ (x : ℕ). get_or f 0 0 ∷ get_or f 1 0 ∷ x ∷ []) same-third

  -- so the map factors exactly once
  pub factors-once : FactorsOnce T f answer_of_order_eight
  factors-once = record {
    through = through;
    factors = record { count = refl; elements = through-below; relators = relators; images = images };
    only = only;
  }

-- both squares are fixed relators
pub order_eight_is_largest : IsLargest dihedral 2 2 answer_of_order_eight
order_eight_is_largest = record {
  answer = order_eight_is_answer;
  prime = refl;
  names = refl;
  class_limit = lit≤ tt;
  consistent = order_eight_is_consistent;
  class = order_eight_has_class_two;
  kills = order_eight_kills;
  generated = order_eight_is_generated;
  universal = λ T f g c o. factors-once T g c f o.elements
      (o.kills (pos 1 ∷ pos 1 ∷ []) (fixed_relator 0 (lit< tt))) (o.kills (pos 2 ∷ pos 2 ∷ []) (fixed_relator 1 (lit< tt)));
}

-- one square is an iterated relator, and the other its image
pub order_eight_is_largest_of_iterated : IsLargest swapped_iterated 2 2 answer_of_order_eight
order_eight_is_largest_of_iterated = record {
  answer = order_eight_is_answer;
  prime = refl;
  names = refl;
  class_limit = lit≤ tt;
  consistent = order_eight_is_consistent;
  class = order_eight_has_class_two;
  kills = order_eight_kills_iterated;
  generated = order_eight_is_generated;
  universal = λ T f g c o. factors-once T g c f o.elements
      (o.kills (pos 1 ∷ pos 1 ∷ []) (iterated_relator [] 0 tt (lit< tt))) (o.kills (pos 2 ∷ pos 2 ∷ []) swapped_square_is_relator);
}

-- x and y in the dihedral group of order sixteen obey, and [[y,x],x] is trivial in that of order eight alone
pub order_sixteen_obeys : Obeys sixteen_elements (8 ∷ 4 ∷ []) dihedral
order_sixteen_obeys = record { count = refl; elements = (lit< tt, (lit< tt, tt)); kills = kills } where
  kills : (r : List ℤ) → IsRelator dihedral r → value sixteen_elements (8 ∷ 4 ∷ []) r ≡ 0
  kills r (fixed_relator zero h) = refl
  kills r (fixed_relator (suc zero) h) = refl
  kills r (fixed_relator (suc (suc i)) h) = absurd (omega (arith, h))
  kills r (iterated_relator s i hs h) = absurd (omega (arith, h))

long_commutator_is_trivial : Joined dihedral_of_order_eight (comm swapped_commutator (pos 1 ∷ [])) []
long_commutator_is_trivial =
    reduce-joined dihedral_of_order_eight 8 (all_rules dihedral_of_order_eight) (all-rules-joined dihedral_of_order_eight refl)
    (comm swapped_commutator (pos 1 ∷ []))

-- so the map does not factor through the group of order eight
pub order_eight_is_not_universal_at_class_three : IsUniversal dihedral 2 3 answer_of_order_eight → ⊥
order_eight_is_not_universal_at_class_three u =
    let once = u sixteen_elements (8 ∷ 4 ∷ []) sixteen_elements_are_group sixteen_elements_have_class_three order_sixteen_obeys in
    let trivial : value sixteen_elements once.through (comm swapped_commutator (pos 1 ∷ [])) ≡ 0 =
    value-joined sixteen_elements sixteen_elements_are_group once.through once.factors.elements dihedral_of_order_eight
    once.factors.relators long_commutator_is_trivial in
    let agrees : value sixteen_elements once.through (comm swapped_commutator (pos 1 ∷ [])) ≡ 1 =
    value-agree sixteen_elements 2 once.through (8 ∷ 4 ∷ [])
    (same sixteen_elements sixteen_elements_are_group (8 ∷ 4 ∷ []) once.through once.factors)
    (comm swapped_commutator (pos 1 ∷ []))
    (lit< tt, (lit< tt, (lit< tt, (lit< tt, (lit< tt, (lit< tt, (lit< tt, (lit< tt, (lit< tt, (lit< tt, tt)))))))))) in
    unequal 1 0 refl (sym agrees ∙ trivial)
