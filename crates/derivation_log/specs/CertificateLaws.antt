-- What is proved of valid certificates and first failing parts. Each statement is the contract of a function of `laws`.
-- From: this project's own checker.
use Rattle.std.specs.Prelude.{◌≡◌, ◌↔◌, ℕ}
use Rattle.derivation_log.specs.declared.source.Run.{Run}
use Rattle.derivation_log.specs.declared.part.Part.{Part}
use Rattle.derivation_log.specs.Certificates.{Certificate}
use Rattle.derivation_log.specs.CertificateParts.{CertificateKind}
use Rattle.derivation_log.specs.Validity.{Trial, IsValid, FirstPart}
use Rattle.derivation_log.specs.ValidParts.{KeepsAll}

-- no part of a valid certificate is the first that fails
abbrev pub ValidCertificatesHaveNoFirstPart : CertificateKind → Type 0
ValidCertificatesHaveNoFirstPart kind = (c : Certificate) (run : Run) (k : ℕ) (p : Part) → IsValid kind c → ¬ FirstPart kind c run k p

-- a certificate has one first part that fails at most
abbrev pub FirstPartsAreUnique : CertificateKind → Type 0
FirstPartsAreUnique kind = (c : Certificate) (s t : Trial) → FirstPart kind c s.run s.class s.part
    → FirstPart kind c t.run t.class t.part → s ≡ t

-- a certificate is valid exactly where all its parts keep what they have to
abbrev pub ValidCertificatesKeepAll : CertificateKind → Type 0
ValidCertificatesKeepAll kind = (c : Certificate) → IsValid kind c ↔ KeepsAll kind c
