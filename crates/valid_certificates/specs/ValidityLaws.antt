-- What is proved of valid certificates, by the plain rule over all tails and all overlaps. Each statement is the contract of a function
-- of `laws`.
-- From: Newman and O'Brien's p-quotient method, with the reasons for each class.
use Rattle.std.specs.Prelude.{◌≤◌, ℕ, length}
use Rattle.pq_base.specs.Joined.{IsConsistent}
use Rattle.pq_base.specs.Canonical.{IsCanonical}
use Rattle.pq_base.specs.Largest.{Kills, IsUniversal, IsLargest}
use Rattle.derivation_log.specs.declared.source.Run.{Run}
use Rattle.derivation_log.specs.Certificates.{Certificate, steps_of, presentation_of}
use Rattle.derivation_log.specs.CertificateParts.{full_kind, built_by}
use Rattle.derivation_log.specs.ValidParts.{KeepsRun, KeepsAll}
use Rattle.derivation_log.specs.Validity.{IsValid}
use Rattle.valid_certificates.specs.ReachedAnswers.{HasForm}
use Rattle.valid_certificates.specs.ValidRuns.{KeepTailsBefore, IsAnswerAfter, IsBuilt}

-- the answer after each of the steps that keep tails is an answer of the class that is their number, whose cuts are those before it, and
-- all elements that obey the presentation fit it up to that class
abbrev pub StepsReachAnswers : Type 0
StepsReachAnswers = (c : Certificate) (run : Run) (k : ℕ) → HasForm c → KeepsRun full_kind c run → k ≤ length (steps_of c run)
    → k ≤ c.class → KeepTailsBefore full_kind c run k → IsAnswerAfter full_kind c run k

-- a run builds an answer: class by class its steps keep tails, up to a class after which none is kept, or which is the one that is
-- asked for; all elements that obey the presentation fit the answer up to the class that is asked for
abbrev pub RunsBuildAnswers : Type 0
RunsBuildAnswers = (c : Certificate) (run : Run) → HasForm c → KeepsRun full_kind c run → IsBuilt full_kind c run

-- so each map of the given generators that obeys the presentation factors exactly once
abbrev pub RunsAreUniversal : Type 0
RunsAreUniversal = (c : Certificate) (run : Run) → HasForm c → KeepsRun full_kind c run
    → IsUniversal (presentation_of c run) c.prime c.class (built_by full_kind.cover c run)

-- and the answer is consistent
abbrev pub RunsAreConsistent : Type 0
RunsAreConsistent = (c : Certificate) (run : Run) → HasForm c → KeepsRun full_kind c run
    → IsConsistent (built_by full_kind.cover c run).presentation

-- the answer of a valid certificate kills the relators
abbrev pub ValidCertificatesKill : Type 0
ValidCertificatesKill = (c : Certificate) → HasForm c → KeepsAll full_kind c → Kills c.presentation c.answer

-- it is the largest quotient, for the certificate's presentation, prime and class
abbrev pub ValidCertificatesAreLargest : Type 0
ValidCertificatesAreLargest = (c : Certificate) → HasForm c → IsValid full_kind c → IsLargest c.presentation c.prime c.class c.answer

-- and it is canonical
abbrev pub ValidCertificatesAreCanonical : Type 0
ValidCertificatesAreCanonical = (c : Certificate) → HasForm c → IsValid full_kind c → IsCanonical c.answer
