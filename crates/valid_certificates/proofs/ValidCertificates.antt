-- The answer of a valid certificate is the largest quotient, and canonical: its run builds an answer that fits, its overlaps make it
-- consistent, and its relators are judged.
use Rattle.std.proofs.Common.{sym, ◌∙◌, subst}
use Rattle.pq_base.specs.Joined.{IsConsistent}
use Rattle.pq_base.specs.Answer.{Answer}
use Rattle.pq_base.specs.Canonical.{IsCanonical}
use Rattle.pq_base.specs.Largest.{Kills, IsUniversal, IsLargest}
use Rattle.cover_quotient.specs.Stages.{Obeying}
use Rattle.cover_quotient.proofs.stages.FittedSteps.{fitted-factors, fitted_answers_are_largest}
use Rattle.derivation_log.specs.declared.source.Run.{Run}
use Rattle.derivation_log.specs.declared.source.Run.TheVariants.{Whole}
use Rattle.derivation_log.specs.Certificates.{Certificate, presentation_of}
use Rattle.derivation_log.specs.CertificateParts.{CertificateKind, full_kind, built_by}
use Rattle.derivation_log.specs.ValidParts.{KeepsRun, KeepsAll}
use Rattle.derivation_log.proofs.PassedRuns.{presentation_of-names}
use Rattle.derivation_log.proofs.JudgedOverlaps.{overlaps-consistent}
use Rattle.derivation_log.proofs.ValidParts.{valid-keeps}
use Rattle.valid_certificates.specs.ReachedAnswers.{HasForm, IsSoundKind, IsHandedOn}
use Rattle.valid_certificates.specs.ValidRuns.{IsBuilt}
use Rattle.valid_certificates.specs.ValidityLaws.{StepsReachAnswers, RunsBuildAnswers, RunsAreUniversal, RunsAreConsistent}
use Rattle.valid_certificates.specs.ValidityLaws.{ValidCertificatesKill, ValidCertificatesAreLargest, ValidCertificatesAreCanonical}
use Rattle.valid_certificates.proofs.ValidRuns.{answers-after, run-builds}
use Rattle.valid_certificates.proofs.KilledRelators.{IsNamed, answer-kills}
use Rattle.valid_certificates.proofs.FullRuns.{full-sound, Nothing, full-handed, run-canonical}

-- of any kind of certificates
module _ (kind : CertificateKind) (sound : IsSoundKind kind) (Holds : Answer → Type 0) (handed : IsHandedOn kind Holds) (c : Certificate)
    (form : HasForm c) where
  module _ (run : Run) (keeps : KeepsRun kind c run) where
    pub builds : IsBuilt kind c run
    builds = run-builds kind sound Holds handed c form run keeps

    pub universal : IsUniversal (presentation_of c run) c.prime c.class (built_by kind.cover c run)
    universal T f group class obeys =
        fitted-factors (Obeying (presentation_of c run)) (presentation_of c run).names c.prime c.class (built_by kind.cover c run)
        builds.fitted T f (record { group = group; elements = obeys.elements; count = obeys.count; admitted = obeys }) class

    -- an answer with the names of the presentation
    named : IsNamed c (built_by kind.cover c run)
    named = record { answer = builds.fitted.answer; names = builds.fitted.names ∙ presentation_of-names c run }

  module _ (keeps : KeepsAll kind c) where
    pub kills : Kills c.presentation c.answer
    kills = answer-kills kind c form keeps named

    pub built-kills : Kills c.presentation (built_by kind.cover c Whole)
    built-kills = subst (Kills c.presentation) keeps.answer kills

    -- where the answer that was built is consistent
    pub largest : IsConsistent (built_by kind.cover c Whole).presentation → IsLargest c.presentation c.prime c.class c.answer
    largest consistent =
        let built = builds Whole keeps.whole in
        subst (IsLargest c.presentation c.prime c.class) (sym keeps.answer)
        (fitted_answers_are_largest c.presentation c.prime c.class (built_by kind.cover c Whole) built.fitted consistent built.class
        built-kills)

-- by full covers
pub steps_reach_answers : StepsReachAnswers
steps_reach_answers c run k form keeps within few kept =
    (answers-after full_kind full-sound Nothing full-handed c form run keeps k within few kept).is

pub runs_build_answers : RunsBuildAnswers
runs_build_answers c run form keeps = builds full_kind full-sound Nothing full-handed c form run keeps

pub runs_are_universal : RunsAreUniversal
runs_are_universal c run form keeps = universal full_kind full-sound Nothing full-handed c form run keeps

pub runs_are_consistent : RunsAreConsistent
runs_are_consistent c run form keeps =
    overlaps-consistent (built_by full_kind.cover c run) (runs_build_answers c run form keeps).fitted.answer.presentation keeps.overlaps

pub valid_certificates_kill : ValidCertificatesKill
valid_certificates_kill c form keeps = kills full_kind full-sound Nothing full-handed c form keeps

pub valid_certificates_are_largest : ValidCertificatesAreLargest
valid_certificates_are_largest c form valid =
    let keeps = valid-keeps full_kind c valid in
    largest full_kind full-sound Nothing full-handed c form keeps (runs_are_consistent c Whole form keeps.whole)

pub valid_certificates_are_canonical : ValidCertificatesAreCanonical
valid_certificates_are_canonical c form valid =
    let keeps = valid-keeps full_kind c valid in
    subst IsCanonical (sym keeps.answer)
    (run-canonical c form Whole keeps.whole (runs_build_answers c Whole form keeps.whole) (runs_are_consistent c Whole form keeps.whole)
    (built-kills full_kind full-sound Nothing full-handed c form keeps))
