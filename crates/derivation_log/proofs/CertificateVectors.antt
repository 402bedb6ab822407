-- The certificate that the dihedral group of order sixteen is the largest quotient of class 3 of the group of two involutions: what its
-- steps build, the rows and the sums of its last step, and the parts that are judged.
use Rattle.std.proofs.Common.{◌≡◌, pos, [], ◌∷◌, refl}
use Rattle.pq_base.specs.LPresentation.{LPresentation}
use Rattle.pq_base.specs.Answer.Definition.{commutator, power}
use Rattle.pq_base.proofs.vectors.LPresentations.{x_and_y}
use Rattle.pq_base.proofs.vectors.Answers.{answer_of_order_eight, answer_of_order_sixteen}
use Rattle.pc_presentation.specs.declared.overlap.Overlap.TheVariants.{Left, Right}
use Rattle.cover_quotient.specs.Stages.{full_cover_of}
use Rattle.derivation_log.specs.declared.source.Run.TheVariants.{Whole}
use Rattle.derivation_log.specs.declared.source.RowSource.TheVariants.{Test, Fixed}
use Rattle.derivation_log.specs.Certificates.{StepLines, Certificate}
use Rattle.derivation_log.specs.CertificateRuns.{answer_after, cover_at, kept_at}

abbrev two_involutions : LPresentation
two_involutions = record { names = x_and_y; fixed = (pos 1 ∷ pos 1 ∷ []) ∷ (pos 2 ∷ pos 2 ∷ []) ∷ []; iterated = []; endos = [] }

abbrev third_step : StepLines
third_step = record {
  sources = Test (Left 2 1) ∷ Test (Right 2 1) ∷ Fixed 1 ∷ Fixed 2 ∷ [];
  tails =
      record { tail = 2; kept = (1, 1) ∷ []; sums = (1, 1) ∷ (2, 1) ∷ [] }
      ∷ record { tail = 3; kept = (1, 1) ∷ []; sums = (2, 1) ∷ [] }
      ∷ record { tail = 4; kept = []; sums = (3, 1) ∷ [] }
      ∷ record { tail = 5; kept = []; sums = (4, 1) ∷ [] } ∷ [];
}

abbrev of_two_involutions : Certificate
of_two_involutions = record {
  version = 1;
  presentation = two_involutions;
  prime = 2;
  class = 3;
  iterated = [];
  whole =
      record { sources = []; tails = [] }
      ∷ record {
        sources = Fixed 1 ∷ Fixed 2 ∷ [];
        tails = record { tail = 2; kept = []; sums = (1, 1) ∷ [] } ∷ record { tail = 3; kept = []; sums = (2, 1) ∷ [] } ∷ [];
      }
      ∷ third_step ∷ [];
  answer = answer_of_order_sixteen;
}

second_sources : (cover_at full_cover_of of_two_involutions Whole 2).sources ≡ commutator 2 1 ∷ power 1 ∷ power 2 ∷ []
second_sources = refl

kept_second : kept_at full_cover_of of_two_involutions Whole 2 ≡ 1 ∷ []
kept_second = refl

after_two : answer_after full_cover_of of_two_involutions Whole 2 ≡ answer_of_order_eight
after_two = refl

third_sources : (cover_at full_cover_of of_two_involutions Whole 3).sources
    ≡ commutator 3 1 ∷ commutator 3 2 ∷ power 3 ∷ power 1 ∷ power 2 ∷ []
third_sources = refl

after_three : answer_after full_cover_of of_two_involutions Whole 3 ≡ answer_of_order_sixteen
after_three = refl
