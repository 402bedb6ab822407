-- The overlaps of an answer agree by the plain rule exactly where the answer is consistent.
use Rattle.std.proofs.Common.{sym, subst}
use Rattle.pq_base.specs.Presentation.{IsPresentation}
use Rattle.pq_base.specs.Joined.{IsConsistent}
use Rattle.pq_base.specs.Answer.{Answer}
use Rattle.pc_presentation.specs.Rowed.{without_rows}
use Rattle.pc_presentation.specs.Collection.{plain_push}
use Rattle.pc_presentation.specs.Overlaps.{Overlap as OverlapOfPlaces, AgreesPlainly}
use Rattle.pc_presentation.specs.OverlapNumbers.{overlap_of}
use Rattle.pc_presentation.proofs.rows.FlatLaws.{without_rows-rowed, flat-without_rows}
use Rattle.pc_presentation.proofs.consistent.Consistency.{agreeing_overlaps_make_consistent_without_rows, plain_agreement_is_agreement}
use Rattle.pc_presentation.proofs.quotients.CollectorArithmetic.{plain_rule_is_a_meaning}
use Rattle.pc_presentation.proofs.consistent.ConsistentOverlaps.{consistent_overlaps_agree}
use Rattle.pc_presentation.proofs.consistent.OverlapNumberLaws.{overlap_of-is, numbered, numbered-is, overlap_of-numbered}
use Rattle.derivation_log.specs.CertificateParts.{full_kind, OverlapsAgree}

module _ (A : Answer) (is : IsPresentation A.presentation) where
  pub overlaps-consistent : OverlapsAgree full_kind A → IsConsistent A.presentation
  overlaps-consistent agree =
      agreeing_overlaps_make_consistent_without_rows A.presentation is
      (λ o h. plain_agreement_is_agreement (without_rows A.presentation) (without_rows-rowed A.presentation is) o h
      (subst (λ (q : OverlapOfPlaces). AgreesPlainly (without_rows A.presentation) q) (overlap_of-numbered o)
      (agree (numbered o) (numbered-is A.presentation.rank o h) tt)))

  pub consistent-overlaps : IsConsistent A.presentation → OverlapsAgree full_kind A
  consistent-overlaps consistent o h judged =
      consistent_overlaps_agree (without_rows A.presentation) (without_rows-rowed A.presentation is)
      (subst IsConsistent (sym (flat-without_rows A.presentation)) consistent) (plain_push (without_rows A.presentation))
      (plain_rule_is_a_meaning (without_rows A.presentation) (without_rows-rowed A.presentation is))
      (overlap_of o) (overlap_of-is A.presentation.rank o h)
