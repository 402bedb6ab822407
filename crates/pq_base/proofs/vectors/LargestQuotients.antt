-- The trivial answer is the largest quotient of the group with one generator that is a relator, at every class and
-- prime 2, and at class 0 of the free group of rank 1. At class 1 it is not, as that group maps onto the group of two
-- elements.
use Rattle.std.proofs.Common.{◌≡◌, ◌<◌, ℕ, zero, suc, ℤ, pos, negsuc, List, [], ◌∷◌, length, get_or, refl, sym, ◌∙◌, lit<, lit≤, zero-le}
use Rattle.std.proofs.Common.{arith}
use Rattle.pq_base.specs.SignedWord.{HasLetters}
use Rattle.pq_base.specs.LPresentation.{LPresentation, IsRelator, Obeys}
use Rattle.pq_base.specs.LPresentation.IsRelator.{fixed_relator, iterated_relator}
use Rattle.pq_base.specs.Table.{Table, IsGroup, value}
use Rattle.pq_base.specs.Presentation.{Presentation, IsPresentation, IsRelatorOf}
use Rattle.pq_base.specs.Presentation.IsRelatorOf.{power_relator, commutator_relator}
use Rattle.pq_base.specs.Joined.{Joined, IsConsistent}
use Rattle.pq_base.specs.Joined.Chain.{done}
use Rattle.pq_base.specs.Series.{InSeries, HasClass}
use Rattle.pq_base.specs.Answer.{Answer, IsAnswer}
use Rattle.pq_base.specs.Largest.{Kills, IsGenerated, IsUniversal, IsLargest}
use Rattle.pq_base.proofs.tables.TableLaws.{get_or-below}
use Rattle.pq_base.proofs.vectors.Tests.{unequal}
use Rattle.pq_base.proofs.vectors.Tables.{two_elements, two_elements_are_group, two_elements_have_class_one}

-- the name x
abbrev pub x_name : List ℕ
x_name = 120 ∷ []

-- generators x, fixed x
abbrev pub killed_generator : LPresentation
killed_generator = record { names = x_name ∷ []; fixed = (pos 1 ∷ []) ∷ []; iterated = []; endos = [] }

-- generators x, no relator
abbrev pub free_generator : LPresentation
free_generator = record { names = x_name ∷ []; fixed = []; iterated = []; endos = [] }

-- no generator
abbrev pub trivial_presentation : Presentation
trivial_presentation = record { prime = 2; rank = 0; powers = []; commutators = [] }

-- no generator; x is trivial
abbrev pub trivial_answer : Answer
trivial_answer = record {
  presentation = trivial_presentation;
  weights = [];
  names = x_name ∷ [];
  definitions = [];
  images = [] ∷ [];
}

-- there is one list of no exponents
pub no-letter-list : (e : List ℕ) → length e ≡ 0 → e ≡ []
no-letter-list [] h = refl
no-letter-list (n ∷ e) h = absurd (omega (arith, h))

-- there is one word over no generators
pub no-letter-word : (w : List ℤ) → HasLetters 0 w → w ≡ []
no-letter-word [] h = refl
no-letter-word (pos zero ∷ w) h = absurd h.0
no-letter-word (pos (suc k) ∷ w) h = absurd (omega (arith, h.0))
no-letter-word (negsuc k ∷ w) h = absurd (omega (arith, h.0))

-- no generator has no relation
pub no-relator-of : (r : List ℤ) → IsRelatorOf trivial_presentation r → ⊥
no-relator-of r (power_relator i h) = omega (arith, h)
no-relator-of r (commutator_relator j i hj hi) = omega (arith, hj)

-- there is nothing to check
pub trivial_is_presentation : IsPresentation trivial_presentation
trivial_is_presentation = record {
  prime = lit≤ tt;
  power_count = refl;
  power_sides = λ i h. absurd (omega (arith, h));
  commutator_count = refl;
  commutator_counts = λ j h. absurd (omega (arith, h));
  commutator_sides = λ j i h _. absurd (omega (arith, h));
}

-- one name and one image, the empty word
pub trivial_is_answer : IsAnswer trivial_answer
trivial_is_answer = record {
  presentation = trivial_is_presentation;
  weight_count = refl;
  weights = tt;
  some_name = lit≤ tt;
  name_limit = lit≤ tt;
  distinct = λ i j less below. absurd (omega (arith, less, below));
  image_count = refl;
  images = (record { count = refl; below = tt }, tt);
  definition_count = refl;
  definitions = λ k h. absurd (omega (arith, h));
}

-- a word that is empty is joined to the empty word
pub joined-to-empty : (w : List ℤ) → w ≡ [] → Joined trivial_presentation w []
joined-to-empty w e = rw e done

-- one normal word, and one word
pub trivial_is_consistent : IsConsistent trivial_presentation
trivial_is_consistent = record {
  unique = λ e f he hf _. no-letter-list e he.count ∙ sym (no-letter-list f hf.count);
  reached = λ w h. ([], record { normal = record { count = refl; below = tt }; joined = joined-to-empty w (no-letter-word w h) });
}

letters-in-series : (c : ℕ) (w : List ℤ) → InSeries trivial_presentation c w → HasLetters 0 w
letters-in-series zero w h = h
letters-in-series (suc c) w h = h.letters

-- each level has the empty word alone
pub trivial_has_class : (c : ℕ) → HasClass trivial_presentation c
trivial_has_class c w h = joined-to-empty w (no-letter-word w (letters-in-series c w h))

-- x is carried to the empty word
pub trivial_kills : Kills killed_generator trivial_answer
trivial_kills r (fixed_relator zero h) = done
trivial_kills r (fixed_relator (suc i) h) = absurd (omega (arith, h))
trivial_kills r (iterated_relator s i hs h) = absurd (omega (arith, h))

-- there is no generator to generate
pub trivial_is_generated : IsGenerated trivial_answer
trivial_is_generated k h = absurd (omega (arith, h))

-- the relator x has value f(x) · 1
pub killed-element : (T : Table) (f : List ℕ) → IsGroup T → Obeys T f killed_generator → get_or f 0 0 ≡ 0
killed-element T f g o =
    sym (g.neutral_right (get_or f 0 0) (get_or-below T.size f 0 g.nonempty o.elements)) ∙ o.kills (pos 1 ∷ []) (fixed_relator 0 (lit< tt))

trivial-images : (T : Table) (f : List ℕ) → get_or f 0 0 ≡ 0 → (i : ℕ) → i < 1 → value T [] (get_or ([] ∷ []) i []) ≡ get_or f i 0
trivial-images T f e zero h = sym e
trivial-images T f e (suc i) h = absurd (omega (arith, h))

-- each map that obeys carries x to 0, and factors through the trivial group
pub trivial_is_universal : (c : ℕ) → IsUniversal killed_generator 2 c trivial_answer
trivial_is_universal c T f g _ o = record {
  through = [];
  factors = record {
    count = refl;
    elements = tt;
    relators = λ r h. absurd (no-relator-of r h);
    images = trivial-images T f (killed-element T f g o);
  };
  only = λ h fits. no-letter-list h fits.count;
}

-- x killed, at every class
pub trivial_is_largest : (c : ℕ) → IsLargest killed_generator 2 c trivial_answer
trivial_is_largest c = record {
  answer = trivial_is_answer;
  prime = refl;
  names = refl;
  class_limit = zero-le;
  consistent = trivial_is_consistent;
  class = trivial_has_class c;
  kills = trivial_kills;
  generated = trivial_is_generated;
  universal = trivial_is_universal c;
}

-- without fixed and iterated relators no word is a relator
pub no-relator : (r : List ℤ) → IsRelator free_generator r → ⊥
no-relator r (fixed_relator i h) = omega (arith, h)
no-relator r (iterated_relator s i hs h) = omega (arith, h)

-- in a table of class 0 each element is neutral, so at class 0 the trivial answer is the largest quotient
pub trivial_is_universal_at_class_zero : IsUniversal free_generator 2 0 trivial_answer
trivial_is_universal_at_class_zero T f g c o = record {
  through = [];
  factors = record {
    count = refl;
    elements = tt;
    relators = λ r h. absurd (no-relator-of r h);
    images = trivial-images T f (c (get_or f 0 0) (get_or-below T.size f 0 g.nonempty o.elements));
  };
  only = λ h fits. no-letter-list h fits.count;
}

-- x free, at class 0
pub trivial_is_largest_at_class_zero : IsLargest free_generator 2 0 trivial_answer
trivial_is_largest_at_class_zero = record {
  answer = trivial_is_answer;
  prime = refl;
  names = refl;
  class_limit = zero-le;
  consistent = trivial_is_consistent;
  class = trivial_has_class 0;
  kills = λ r h. absurd (no-relator r h);
  generated = trivial_is_generated;
  universal = trivial_is_universal_at_class_zero;
}

-- every element obeys no relators
pub one_obeys_nothing : Obeys two_elements (1 ∷ []) free_generator
one_obeys_nothing = record { count = refl; elements = (lit< tt, tt); kills = λ r h. absurd (no-relator r h) }

-- the map of x to 1 in the group of two elements factors through no map of the trivial group
pub trivial_is_not_universal : IsUniversal free_generator 2 1 trivial_answer → ⊥
trivial_is_not_universal u =
    let once = u two_elements (1 ∷ []) two_elements_are_group two_elements_have_class_one one_obeys_nothing in
    unequal 0 1 refl (once.factors.images 0 (lit< tt))

-- so x free, at class 1, has a larger quotient
pub trivial_is_not_largest : IsLargest free_generator 2 1 trivial_answer → ⊥
trivial_is_not_largest h = trivial_is_not_universal h.universal
