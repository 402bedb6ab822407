-- An answer that is a value of the program is within the limits of texts.
use Rattle.std.proofs.Common.{◌≡◌, ◌≤◌, ℕ, List, [], ◌∷◌, All, subst}
use Rattle.std.proofs.lemmas.List.Elements.{All-head, All-tail}
use Rattle.pq_base.specs.Limits.{max_rank}
use Rattle.pq_base.specs.Name.{IsName}
use Rattle.pq_base.specs.Presentation.{Presentation}
use Rattle.pq_base.specs.Prime.{IsOffered}
use Rattle.pq_base.specs.Answer.{Answer, IsAnswer}
use Rattle.pc_presentation.specs.Pcp.{TailedPresentation, IsTailedPresentation}
use Rattle.answer_text.specs.OneText.{AreNames, IsWritable}

-- each name by itself is one
pub AreNames-All : (names : List (List ℕ)) → All IsName names → AreNames names
AreNames-All [] h = tt
AreNames-All (n ∷ ns) h = (All-head IsName n ns h, AreNames-All ns (All-tail IsName n ns h))

-- an answer whose presentation is one of the program's, and whose names are names
pub answer-writable : (A : Answer) (T : TailedPresentation) → T.presentation ≡ A.presentation → IsTailedPresentation T → IsAnswer A
    → AreNames A.names → IsWritable A
answer-writable A T same is answer names =
    let limit : T.presentation.rank ≤ max_rank = is.rank_limit in
    record {
      prime = subst (λ (P : Presentation). IsOffered P.prime) same is.prime;
      rank_limit = subst (λ (P : Presentation). P.rank ≤ max_rank) same limit;
      names = names;
      answer = answer;
    }
