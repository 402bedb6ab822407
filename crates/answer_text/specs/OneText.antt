-- One text has one answer.
use Rattle.std.specs.Prelude.{◌≡◌, ◌≤◌, ℕ, List, [], ◌∷◌}
use Rattle.pq_base.specs.Limits.{max_rank}
use Rattle.pq_base.specs.Name.{IsName}
use Rattle.pq_base.specs.Prime.{IsOffered}
use Rattle.pq_base.specs.Answer.{Answer, IsAnswer}
use Rattle.answer_text.specs.AnswerText.{answer_text}

abbrev pub AreNames : List (List ℕ) → Type 0
AreNames [] = Unit {0}
AreNames (n ∷ ns) = IsName n × AreNames ns

-- an answer within the limits of texts
pub record IsWritable (A : Answer) : Type 0 where
  pub prime : IsOffered A.presentation.prime
  pub rank_limit : A.presentation.rank ≤ max_rank
  pub names : AreNames A.names
  pub answer : IsAnswer A

abbrev pub OneTextOneAnswer : Type 0
OneTextOneAnswer = (A B : Answer) → IsWritable A → IsWritable B → answer_text A ≡ answer_text B → A ≡ B
