-- A valid certificate, part by part.
-- From: this project's own checker.
use Rattle.std.specs.Prelude.{◌≡◌, ◌≤◌, ℕ, true, length}
use Rattle.derivation_log.specs.declared.source.Run.{Run}
use Rattle.derivation_log.specs.declared.source.Run.TheVariants.{Iterated, Whole}
use Rattle.derivation_log.specs.declared.part.Part.TheVariants as part
use Rattle.derivation_log.specs.Certificates.{Certificate, has_two_runs, steps_of}
use Rattle.derivation_log.specs.CertificateParts.{CertificateKind}
use Rattle.derivation_log.specs.Validity.{Keeps, judges_endos}

-- step k of a run keeps what it has to
pub record KeepsStep (kind : CertificateKind) (c : Certificate) (run : Run) (k : ℕ) : Type 0 where
  pub extra : Keeps kind c run k part.Extra
  pub rows : Keeps kind c run k part.Row
  pub sums : Keeps kind c run k part.Sum
  pub rank : Keeps kind c run k part.Rank

-- a run does: each step, and its answer
pub record KeepsRun (kind : CertificateKind) (c : Certificate) (run : Run) : Type 0 where
  pub steps : (k : ℕ) → 1 ≤ k → k ≤ length (steps_of c run) → KeepsStep kind c run k
  pub short : Keeps kind c run c.class part.Short
  pub overlaps : Keeps kind c run c.class part.Overlap
  pub iterated : Keeps kind c run c.class part.Iterated
  pub endos : judges_endos c.presentation run ≡ true → Keeps kind c run c.class part.Endo

-- all parts do
pub record KeepsAll (kind : CertificateKind) (c : Certificate) : Type 0 where
  pub iterated : has_two_runs c.presentation ≡ true → KeepsRun kind c Iterated
  pub whole : KeepsRun kind c Whole
  pub fixed : Keeps kind c Whole c.class part.Fixed
  pub map : has_two_runs c.presentation ≡ true → Keeps kind c Whole c.class part.Map
  pub answer : Keeps kind c Whole c.class part.Answer
