-- The right sides of the flat reading as words: that of a relation of the base is followed by the word of its row, and those
-- of tails are empty. So a left side is joined to its right side in the base and the word of its row.
use Rattle.std.proofs.Common.{◌≡◌, ℕ, suc, ◌+◌, ◌-◌, ◌<◌, ℤ, List, [], ◌++◌, ap, ◌∙◌, subst, arith}
use Rattle.pq_base.specs.SignedWord.{copies, comm}
use Rattle.pq_base.specs.Presentation.{letter, word_from, power_side, commutator_side, power_word, commutator_word}
use Rattle.pq_base.specs.Joined.{Joined}
use Rattle.pq_base.proofs.words.WordLaws.{word_from-append, word_from-zeros}
use Rattle.pq_base.proofs.words.JoinedLaws.{power-joined, commutator-joined}
use Rattle.pc_presentation.specs.Rowed.{RowedPresentation, IsRowed, power_row, commutator_row, flat}
use Rattle.pc_presentation.proofs.rows.FlatLaws.{power_side-flat, power_side-tail, commutator_side-flat, commutator_side-tail}

module _ (Z : RowedPresentation) (is : IsRowed Z) where
  -- relations of the base
  pub power_word-flat : (i : ℕ) → i < Z.base.rank
      → power_word (flat Z) i ≡ power_word Z.base i ++ word_from Z.base.rank (power_row Z i)
  power_word-flat i l =
      ap (word_from (suc i)) (power_side-flat Z is i l)
      ∙ word_from-append (suc i) (power_side Z.base i) (power_row Z i)
      ∙ ap (λ (m : ℕ). power_word Z.base i ++ word_from m (power_row Z i)) (is.base.power_sides i l).count

  pub commutator_word-flat : (j i : ℕ) → j < Z.base.rank → i < j
      → commutator_word (flat Z) j i ≡ commutator_word Z.base j i ++ word_from Z.base.rank (commutator_row Z j i)
  commutator_word-flat j i l m =
      ap (word_from (suc j)) (commutator_side-flat Z is j i l)
      ∙ word_from-append (suc j) (commutator_side Z.base j i) (commutator_row Z j i)
      ∙ ap (λ (k : ℕ). commutator_word Z.base j i ++ word_from k (commutator_row Z j i)) (is.base.commutator_sides j i l m).count

  pub power-with_row : (i : ℕ) → i < Z.base.rank
      → Joined (flat Z) (copies (letter i) Z.base.prime) (power_word Z.base i ++ word_from Z.base.rank (power_row Z i))
  power-with_row i l =
      subst (λ (w : List ℤ). Joined (flat Z) (copies (letter i) Z.base.prime) w) (power_word-flat i l)
      (power-joined (flat Z) i (omega arith))

  pub commutator-with_row : (j i : ℕ) → j < Z.base.rank → i < j
      → Joined (flat Z) (comm (letter j) (letter i)) (commutator_word Z.base j i ++ word_from Z.base.rank (commutator_row Z j i))
  commutator-with_row j i l m =
      subst (λ (w : List ℤ). Joined (flat Z) (comm (letter j) (letter i)) w) (commutator_word-flat j i l m)
      (commutator-joined (flat Z) j i (omega arith) m)

  -- relations of tails
  pub power_word-tail : (t : ℕ) → t < Z.width → power_word (flat Z) (Z.base.rank + t) ≡ []
  power_word-tail t l =
      let r : ℕ = Z.width - suc t in
      ap (word_from (suc (Z.base.rank + t))) (power_side-tail Z is t r (omega arith)) ∙ word_from-zeros (suc (Z.base.rank + t)) r

  pub commutator_word-tail : (t i : ℕ) → t < Z.width → i < Z.base.rank + t → commutator_word (flat Z) (Z.base.rank + t) i ≡ []
  commutator_word-tail t i l m =
      let r : ℕ = Z.width - suc t in
      ap (word_from (suc (Z.base.rank + t))) (commutator_side-tail Z is t r i (omega arith) m)
      ∙ word_from-zeros (suc (Z.base.rank + t)) r
