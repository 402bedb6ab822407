-- The dihedral answer of order eight kills the two squares, and its generators are their spellings.
use Rattle.std.proofs.Common.{zero, suc, ℤ, pos, List, [], ◌∷◌, lit<, arith, sym, subst, inl, inr}
use Rattle.pq_base.specs.LPresentation.IsRelator.{fixed_relator, iterated_relator}
use Rattle.pq_base.specs.Presentation.IsRelatorOf.{power_relator}
use Rattle.pq_base.specs.SignedWord.{sub}
use Rattle.pq_base.specs.Answer.{image_words}
use Rattle.pq_base.specs.Joined.{Joined}
use Rattle.pq_base.specs.Joined.IsTrivial.{relator}
use Rattle.pq_base.specs.Joined.Move.{delete}
use Rattle.pq_base.specs.Joined.Chain.{done, step}
use Rattle.pq_base.specs.Largest.{Kills, IsGenerated}
use Rattle.pq_base.proofs.vectors.LPresentations.{dihedral, swapped_iterated, square_along}
use Rattle.pq_base.proofs.vectors.Presentations.{dihedral_of_order_eight}
use Rattle.pq_base.proofs.vectors.JoinedWords.{commutator_joined_in_order_eight}
use Rattle.pq_base.proofs.vectors.Answers.{answer_of_order_eight}

-- x^2 is the word of the relation a1^2, and y^2 that of a2^2
pub order_eight_kills : Kills dihedral answer_of_order_eight
order_eight_kills r (fixed_relator zero h) =
    step (delete [] (pos 1 ∷ pos 1 ∷ []) [] (relator (pos 1 ∷ pos 1 ∷ []) (power_relator 0 (lit< tt)))) done
order_eight_kills r (fixed_relator (suc zero) h) =
    step (delete [] (pos 2 ∷ pos 2 ∷ []) [] (relator (pos 2 ∷ pos 2 ∷ []) (power_relator 1 (lit< tt)))) done
order_eight_kills r (fixed_relator (suc (suc i)) h) = absurd (omega (arith, h))
order_eight_kills r (iterated_relator s i hs h) = absurd (omega (arith, h))

-- a1 and a2 are images, and a3 is their commutator
pub order_eight_is_generated : IsGenerated answer_of_order_eight
order_eight_is_generated zero h = done
order_eight_is_generated (suc zero) h = done
order_eight_is_generated (suc (suc zero)) h = commutator_joined_in_order_eight
order_eight_is_generated (suc (suc (suc k))) h = absurd (omega (arith, h))

-- the squares as images of one iterated relator along the swap: each of infinitely many is killed
pub order_eight_kills_iterated : Kills swapped_iterated answer_of_order_eight
order_eight_kills_iterated r (fixed_relator i h) = absurd (omega (arith, h))
order_eight_kills_iterated r (iterated_relator s (suc i) hs h) = absurd (omega (arith, h))
order_eight_kills_iterated r (iterated_relator s zero hs h) = elim (square_along s hs) [
  | inl e ↦ subst killed (sym e) (order_eight_kills (pos 1 ∷ pos 1 ∷ []) (fixed_relator 0 (lit< tt)))
  | inr e ↦ subst killed (sym e) (order_eight_kills (pos 2 ∷ pos 2 ∷ []) (fixed_relator 1 (lit< tt)))
] where
  killed : List ℤ → Type 0
  killed r = Joined dihedral_of_order_eight (sub r (image_words answer_of_order_eight)) []
