-- In a table of class 1 powers and commutators are the neutral element, so every list of elements obeys the relators of
-- an elementary presentation; and what weights that are all 1 give.
use Rattle.std.proofs.Common.{◌≡◌, ◌<◌, ◌≤◌, ℕ, zero, suc, ℤ, List, ◌++◌, replicate, refl, ap, sym, ◌∙◌, arith}
use Rattle.std.proofs.lemmas.List.{append-nil}
use Rattle.pq_base.specs.SignedWord.{inv, copies, comm}
use Rattle.pq_base.specs.Table.{Table, IsGroup, HasTableClass, AllBelow, times, power, commutator, value}
use Rattle.pq_base.specs.Table.NextElement.{no_element, times_commutator, times_power}
use Rattle.pq_base.specs.Presentation.{IsRelatorOf, letter}
use Rattle.pq_base.specs.Presentation.IsRelatorOf.{power_relator, commutator_relator}
use Rattle.pq_base.specs.Answer.{AreWeights, last_or_zero}
use Rattle.pq_base.specs.Elementary.{elementary}
use Rattle.pq_base.proofs.tables.TableLaws.{power-below, commutator-below, value-below}
use Rattle.pq_base.proofs.tables.TableGroup.{value-copies, value-comm}
use Rattle.pq_base.proofs.ElementarySides.{power_word-elementary, commutator_word-elementary}

module _ (T : Table) (group : IsGroup T) (p : ℕ) (class : HasTableClass T p 1) where
  pub power-neutral : (a : ℕ) → a < T.size → power T a p ≡ 0
  power-neutral a h = sym (group.neutral_right (power T a p) (power-below T group a p h))
      ∙ class (times T (power T a p) 0) (times_power a 0 h no_element)

  pub commutator-neutral : (a b : ℕ) → a < T.size → b < T.size → commutator T a b ≡ 0
  commutator-neutral a b h l = sym (group.neutral_right (commutator T a b) (commutator-below T group a b h l))
      ∙ class (times T (commutator T a b) 0) (times_commutator a b 0 h l no_element)

  pub obeys_relators : (n : ℕ) (g : List ℕ) → AllBelow T.size g → (r : List ℤ) → IsRelatorOf (elementary p n) r → value T g r ≡ 0
  obeys_relators n g below r (power_relator i h) =
      ap (λ (w : List ℤ). value T g (copies (letter i) p ++ inv w)) (power_word-elementary p n i)
      ∙ ap (value T g) (append-nil (copies (letter i) p)) ∙ value-copies T group g below (letter i) p
      ∙ power-neutral (value T g (letter i)) (value-below T group g below (letter i))
  obeys_relators n g below r (commutator_relator j i h e) =
      ap (λ (w : List ℤ). value T g (comm (letter j) (letter i) ++ inv w)) (commutator_word-elementary p n j i)
      ∙ ap (value T g) (append-nil (comm (letter j) (letter i))) ∙ value-comm T group g below (letter j) (letter i)
      ∙ commutator-neutral (value T g (letter j)) (value T g (letter i)) (value-below T group g below (letter j))
      (value-below T group g below (letter i))

pub replicate-weights : (n : ℕ) → AreWeights 1 (replicate n 1)
replicate-weights zero = tt
replicate-weights (suc n) = (omega arith, omega arith, replicate-weights n)

last_or_zero-ones : (n : ℕ) → last_or_zero (replicate (suc n) 1) ≡ 1
last_or_zero-ones zero = refl
last_or_zero-ones (suc n) = last_or_zero-ones n

pub last_or_zero-limit : (n : ℕ) → last_or_zero (replicate n 1) ≤ 1
last_or_zero-limit zero = omega arith
last_or_zero-limit (suc n) = omega (arith, last_or_zero-ones n)
