-- Joined words: explicit chains, and a presentation that collapses, so that it is not consistent.
use Rattle.std.proofs.Common.{ℕ, pos, negsuc, List, [], ◌∷◌, get_or, refl, ap, lit<}
use Rattle.pq_base.specs.Presentation.IsRelatorOf.{power_relator, commutator_relator}
use Rattle.pq_base.specs.Joined.{IsTrivial, Joined, Reaches, IsConsistent}
use Rattle.pq_base.specs.Joined.IsTrivial.{pair, relator}
use Rattle.pq_base.specs.Joined.Move.{insert, delete}
use Rattle.pq_base.specs.Joined.Chain.{done, step}
use Rattle.pq_base.proofs.vectors.Tests.{unequal}
use Rattle.pq_base.proofs.vectors.Presentations.{order_two, collapsing, dihedral_of_order_eight}

square_of_order_two : IsTrivial order_two (pos 1 ∷ pos 1 ∷ [])
square_of_order_two = relator (pos 1 ∷ pos 1 ∷ []) (power_relator 0 (lit< tt))

-- a1⁻¹ and a1 are one element of the group of order two: the square comes in, the pair a1⁻¹ a1 goes out
pub inverse_joined_in_order_two : Joined order_two (negsuc 0 ∷ []) (pos 1 ∷ [])
inverse_joined_in_order_two =
    step (insert (negsuc 0 ∷ []) (pos 1 ∷ pos 1 ∷ []) [] square_of_order_two)
    (step (delete [] (negsuc 0 ∷ pos 1 ∷ []) (pos 1 ∷ []) (pair (negsuc 0))) done)

-- its exponents
pub inverse_reaches_one : Reaches order_two (negsuc 0 ∷ []) (1 ∷ [])
inverse_reaches_one = record {
  normal = record { count = refl; below = (lit< tt, tt) };
  joined = inverse_joined_in_order_two;
}

-- [a2,a1] and a3 are one element of the dihedral group of order eight
pub commutator_joined_in_order_eight : Joined dihedral_of_order_eight (pos 3 ∷ []) (negsuc 1 ∷ negsuc 0 ∷ pos 2 ∷ pos 1 ∷ [])
commutator_joined_in_order_eight =
    let r : IsTrivial dihedral_of_order_eight (negsuc 1 ∷ negsuc 0 ∷ pos 2 ∷ pos 1 ∷ negsuc 2 ∷ []) =
    relator (negsuc 1 ∷ negsuc 0 ∷ pos 2 ∷ pos 1 ∷ negsuc 2 ∷ []) (commutator_relator 1 0 (lit< tt) (lit< tt)) in
    step (insert [] (negsuc 1 ∷ negsuc 0 ∷ pos 2 ∷ pos 1 ∷ negsuc 2 ∷ []) (pos 3 ∷ []) r)
    (step (delete (negsuc 1 ∷ negsuc 0 ∷ pos 2 ∷ pos 1 ∷ []) (negsuc 2 ∷ pos 3 ∷ []) [] (pair (negsuc 2))) done)

square_of_collapsing : IsTrivial collapsing (pos 1 ∷ pos 1 ∷ negsuc 1 ∷ [])
square_of_collapsing = relator (pos 1 ∷ pos 1 ∷ negsuc 1 ∷ []) (power_relator 0 (lit< tt))

commutator_of_collapsing : IsTrivial collapsing (negsuc 1 ∷ negsuc 0 ∷ pos 2 ∷ pos 1 ∷ negsuc 2 ∷ [])
commutator_of_collapsing = relator (negsuc 1 ∷ negsuc 0 ∷ pos 2 ∷ pos 1 ∷ negsuc 2 ∷ []) (commutator_relator 1 0 (lit< tt) (lit< tt))

-- a3 is [a2,a1]; there a2 is a1^2, which commutes with a1
pub collapses : Joined collapsing (pos 3 ∷ []) []
collapses =
    step (insert [] (negsuc 1 ∷ negsuc 0 ∷ pos 2 ∷ pos 1 ∷ negsuc 2 ∷ []) (pos 3 ∷ []) commutator_of_collapsing)
    (step (delete (negsuc 1 ∷ negsuc 0 ∷ pos 2 ∷ pos 1 ∷ []) (negsuc 2 ∷ pos 3 ∷ []) [] (pair (negsuc 2)))
    (step (insert (negsuc 1 ∷ negsuc 0 ∷ []) (pos 1 ∷ pos 1 ∷ negsuc 1 ∷ []) (pos 2 ∷ pos 1 ∷ []) square_of_collapsing)
    (step (delete (negsuc 1 ∷ negsuc 0 ∷ pos 1 ∷ pos 1 ∷ []) (negsuc 1 ∷ pos 2 ∷ []) (pos 1 ∷ []) (pair (negsuc 1)))
    (step (delete (negsuc 1 ∷ []) (negsuc 0 ∷ pos 1 ∷ []) (pos 1 ∷ pos 1 ∷ []) (pair (negsuc 0)))
    (step (insert (negsuc 1 ∷ pos 1 ∷ pos 1 ∷ []) (negsuc 1 ∷ pos 2 ∷ []) [] (pair (negsuc 1)))
    (step (delete (negsuc 1 ∷ []) (pos 1 ∷ pos 1 ∷ negsuc 1 ∷ []) (pos 2 ∷ []) square_of_collapsing)
    (step (delete [] (negsuc 1 ∷ pos 2 ∷ []) [] (pair (negsuc 1))) done)))))))

-- so two normal words are joined
pub collapsing_is_not_consistent : IsConsistent collapsing → ⊥
collapsing_is_not_consistent c =
    let e = c.unique (0 ∷ 0 ∷ 1 ∷ []) (0 ∷ 0 ∷ 0 ∷ [])
    (record { count = refl; below = (lit< tt, (lit< tt, (lit< tt, tt))) })
    (record { count = refl; below = (lit< tt, (lit< tt, (lit< tt, tt))) })
    collapses in
    unequal 1 0 refl (ap (λ (l : List ℕ). get_or l 2 0) e)
