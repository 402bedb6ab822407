-- The dihedral group of order eight as a table: the element of the exponents e, f, g is 4 e + 2 f + g. The relators of its
-- presentation have value 0 there, so that a3 is not trivial, and the class is more than 1.
use Rattle.std.proofs.Common.{◌≡◌, ℕ, ℤ, pos, negsuc, List, [], ◌∷◌, refl, lit<}
use Rattle.pq_base.specs.Table.{Table, IsGroup, AllBelow, value}
use Rattle.pq_base.specs.Presentation.{IsRelatorOf}
use Rattle.pq_base.specs.LPresentation.IsRelator.{fixed_relator}
use Rattle.pq_base.specs.Joined.{Joined}
use Rattle.pq_base.specs.Series.{InSeries, HasClass}
use Rattle.pq_base.specs.Series.NextWord.{no_word, then_commutator}
use Rattle.pq_base.specs.Answer.{Answer}
use Rattle.pq_base.specs.Largest.{Kills}
use Rattle.pq_base.proofs.tables.TableGroup.{value-joined}
use Rattle.pq_base.proofs.vectors.Tests.{unequal, tested_group, tested_relators}
use Rattle.pq_base.proofs.vectors.LPresentations.{dihedral}
use Rattle.pq_base.proofs.vectors.Presentations.{dihedral_of_order_eight}
use Rattle.pq_base.proofs.vectors.JoinedWords.{commutator_joined_in_order_eight}
use Rattle.pq_base.proofs.vectors.Answers.{answer_of_order_eight}

-- row by row
abbrev pub eight_elements : Table
eight_elements = record {
  size = 8;
  rows = (0 ∷ 1 ∷ 2 ∷ 3 ∷ 4 ∷ 5 ∷ 6 ∷ 7 ∷ [])
      ∷ (1 ∷ 0 ∷ 3 ∷ 2 ∷ 5 ∷ 4 ∷ 7 ∷ 6 ∷ [])
      ∷ (2 ∷ 3 ∷ 0 ∷ 1 ∷ 7 ∷ 6 ∷ 5 ∷ 4 ∷ [])
      ∷ (3 ∷ 2 ∷ 1 ∷ 0 ∷ 6 ∷ 7 ∷ 4 ∷ 5 ∷ [])
      ∷ (4 ∷ 5 ∷ 6 ∷ 7 ∷ 0 ∷ 1 ∷ 2 ∷ 3 ∷ [])
      ∷ (5 ∷ 4 ∷ 7 ∷ 6 ∷ 1 ∷ 0 ∷ 3 ∷ 2 ∷ [])
      ∷ (6 ∷ 7 ∷ 4 ∷ 5 ∷ 3 ∷ 2 ∷ 1 ∷ 0 ∷ [])
      ∷ (7 ∷ 6 ∷ 5 ∷ 4 ∷ 2 ∷ 3 ∷ 0 ∷ 1 ∷ [])
      ∷ [];
}

-- it is a group
pub eight_elements_are_group : IsGroup eight_elements
eight_elements_are_group = tested_group eight_elements (record {
  nonempty = refl;
  row_count = refl;
  widths = refl;
  closed = refl;
  associative = refl;
  neutral = refl;
  inverses = refl;
})

-- the generators as elements
abbrev pub generators : List ℕ
generators = 4 ∷ 2 ∷ 1 ∷ []

-- they are elements
pub generators_below : AllBelow 8 generators
generators_below = (lit< tt, (lit< tt, (lit< tt, tt)))

-- the squares, and [a2,a1] a3⁻¹, [a3,a1], [a3,a2]
pub relators_have_value_zero : (r : List ℤ) → IsRelatorOf dihedral_of_order_eight r → value eight_elements generators r ≡ 0
relators_have_value_zero = tested_relators eight_elements generators dihedral_of_order_eight refl refl

-- so joined words have equal values
pub values_of_joined : {u v : List ℤ} → Joined dihedral_of_order_eight u v
    → value eight_elements generators u ≡ value eight_elements generators v
values_of_joined c =
    value-joined eight_elements eight_elements_are_group generators generators_below dihedral_of_order_eight relators_have_value_zero c

-- a3 has the value 1
pub third_generator_is_not_trivial : Joined dihedral_of_order_eight (pos 3 ∷ []) [] → ⊥
third_generator_is_not_trivial c = unequal 1 0 refl (values_of_joined c)

-- a3 is in level 1, by [a2,a1]
pub third_generator_in_series : InSeries dihedral_of_order_eight 1 (pos 3 ∷ [])
third_generator_in_series = record {
  letters = (lit< tt, tt);
  product = negsuc 1 ∷ negsuc 0 ∷ pos 2 ∷ pos 1 ∷ [];
  next = then_commutator (pos 2 ∷ []) (pos 1 ∷ []) [] (lit< tt, tt) (lit< tt, tt) no_word;
  joined = commutator_joined_in_order_eight;
}

-- so level 1 is not trivial
pub order_eight_has_not_class_one : HasClass dihedral_of_order_eight 1 → ⊥
order_eight_has_not_class_one h = third_generator_is_not_trivial (h (pos 3 ∷ []) third_generator_in_series)

-- one exponent changed: a1^2 = a3
abbrev pub with_changed_power : Answer
with_changed_power = record answer_of_order_eight {
  presentation = record dihedral_of_order_eight { powers = (0 ∷ 1 ∷ []) ∷ (0 ∷ []) ∷ [] ∷ [] };
}

-- 6 is of order four, and its square is 1
pub changed_relators_have_value_zero : (r : List ℤ) → IsRelatorOf with_changed_power.presentation r
    → value eight_elements (6 ∷ 2 ∷ 1 ∷ []) r ≡ 0
changed_relators_have_value_zero = tested_relators eight_elements (6 ∷ 2 ∷ 1 ∷ []) with_changed_power.presentation refl refl

-- x^2 is a3 there, and not trivial
pub changed_power_kills_not : Kills dihedral with_changed_power → ⊥
changed_power_kills_not k =
    unequal 1 0 refl
    (value-joined eight_elements eight_elements_are_group (6 ∷ 2 ∷ 1 ∷ []) (lit< tt, (lit< tt, (lit< tt, tt)))
    with_changed_power.presentation changed_relators_have_value_zero (k (pos 1 ∷ pos 1 ∷ []) (fixed_relator 0 (lit< tt))))
