-- What is proved of a run of a certificate whose parts all keep what they have to.
-- From: Newman and O'Brien's p-quotient method, one term of the lower exponent-p series after the other.
use Rattle.std.specs.Prelude.{◌≡◌, ◌≢◌, ◌≤◌, ℕ, [], length}
use Rattle.pq_base.specs.Series.{HasClass}
use Rattle.pq_base.specs.Canonical.{up_to_class}
use Rattle.cover_quotient.specs.Stages.{IsFitted}
use Rattle.derivation_log.specs.declared.source.Run.{Run}
use Rattle.derivation_log.specs.Certificates.{Certificate, steps_of, presentation_of}
use Rattle.derivation_log.specs.CertificateRuns.{answer_after, kept_at}
use Rattle.derivation_log.specs.CertificateParts.{CertificateKind, built_by}
use Rattle.valid_certificates.specs.ReachedAnswers.{IsReached}

-- the first k steps keep tails
abbrev pub KeepTailsBefore : CertificateKind → Certificate → Run → ℕ → Type 0
KeepTailsBefore kind c run k = (j : ℕ) → 1 ≤ j → j ≤ k → kept_at kind.cover c run j ≢ []

-- the answer after k steps that keep tails is of class k, and each answer before it is this one, cut to its class
pub record IsAnswerAfter (kind : CertificateKind) (c : Certificate) (run : Run) (k : ℕ) : Type 0 where
  pub reached : IsReached (presentation_of c run) c.prime k (answer_after kind.cover c run k)
  pub cuts : (j : ℕ) → j ≤ k → up_to_class (answer_after kind.cover c run k) j ≡ answer_after kind.cover c run j

-- the answer that a run builds: the one after some steps that keep tails, which all elements that obey the presentation fit up to the
-- class that is asked for
pub record IsBuilt (kind : CertificateKind) (c : Certificate) (run : Run) : Type 0 where
  pub kept : ℕ
  pub limit : kept ≤ c.class
  pub count : kept ≤ length (steps_of c run)
  pub keep : KeepTailsBefore kind c run kept
  pub last : built_by kind.cover c run ≡ answer_after kind.cover c run kept
  pub after : IsAnswerAfter kind c run kept
  pub fitted : IsFitted (presentation_of c run) c.prime c.class (built_by kind.cover c run)
  pub class : HasClass (built_by kind.cover c run).presentation c.class
