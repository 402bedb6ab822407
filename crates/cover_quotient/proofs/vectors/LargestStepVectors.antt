-- What the law on largest quotients asks of an answer holds of the answer of a tower, over its full cover.
use Rattle.std.proofs.Common.{ℕ, refl}
use Rattle.pq_base.specs.LPresentation.{LPresentation, IsLPresentation}
use Rattle.pq_base.specs.Answer.{Answer, class_of}
use Rattle.pq_base.specs.Canonical.{up_to_class}
use Rattle.fp_echelon.specs.Basis.{Echelon}
use Rattle.pc_presentation.specs.Arithmetic.{IsMeaning}
use Rattle.pc_presentation.specs.Collection.{State}
use Rattle.p_cover.specs.Covers.{rowed_cover}
use Rattle.p_cover.specs.RowedAnswer.{rowed}
use Rattle.cover_quotient.specs.KeptTailLaws.{IsStepOfLargestQuotients}
use Rattle.cover_quotient.specs.Stages.{IsBasisOfRows, IsTower, full_cover_of}
use Rattle.cover_quotient.proofs.stages.FirstStages.{stages_are_largest}

tower-step : (L : LPresentation) (p : ℕ) (A : Answer) (push : State → ℕ → State) (B : Echelon) → IsLPresentation L
    → IsTower L p (class_of A) A
    → IsMeaning (rowed (rowed_cover (full_cover_of A))) push → IsBasisOfRows L (full_cover_of A) push B
    → IsStepOfLargestQuotients L p (full_cover_of A) push B
tower-step L p A push B words tower meaning rows = record {
  words = words;
  offered = tower.stage.offered;
  answer = tower.stage.answer;
  largest = λ j l. stages_are_largest L p j (up_to_class A j) (tower.stages j l);
  full = refl;
  meaning = meaning;
  basis = rows.basis;
  prime = rows.prime;
  width = rows.width;
  overlaps = rows.overlaps;
  relators = rows.relators;
}
