-- What is written as text for given bytes determines the answer; and an answer is an output where its presentation was read.
use Rattle.std.proofs.Common.{◌≡◌, ℕ, List, All, sym, subst, ◌∙◌}
use Rattle.pq_base.specs.Name.{IsName}
use Rattle.pq_base.specs.LPresentation.{LPresentation}
use Rattle.pq_base.specs.Answer.{Answer, IsAnswer}
use Rattle.pc_presentation.specs.Pcp.{TailedPresentation, IsTailedPresentation}
use Rattle.answer_text.specs.OneText.{IsWritable}
use Rattle.answer_text.proofs.Limits.{AreNames-All, answer-writable}
use Rattle.answer_text.proofs.OneText.{one_text_one_answer}
use Rattle.pq_run.specs.Output.{OneOutputOneAnswer}

-- an answer whose presentation is one of the program's, and whose names are those of a presentation, is within the limits of texts
pub writable : (A : Answer) (T : TailedPresentation) (L : LPresentation) → T.presentation ≡ A.presentation
    → IsTailedPresentation T → IsAnswer A
    → A.names ≡ L.names → All IsName L.names → IsWritable A
writable A T L same is answer names are =
    answer-writable A T same is answer (AreNames-All A.names (subst (All IsName) (sym names) are))

pub one_output_one_answer : OneOutputOneAnswer
one_output_one_answer p c bytes written x y = one_text_one_answer x.answer y.answer x.writable y.writable (sym x.text ∙ y.text)
