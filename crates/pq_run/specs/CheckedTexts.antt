-- What the bytes of a certificate's input may be: no certificate, or one that isn't valid, or a valid one.
-- From: this project's own commands.
use Rattle.std.specs.Prelude.{◌≡◌, ℕ, List}
use Rattle.derivation_log.specs.declared.source.Run.{Run}
use Rattle.derivation_log.specs.declared.part.Part.{Part}
use Rattle.derivation_log.specs.Certificates.{Certificate}
use Rattle.derivation_log.specs.CertificateParts.{full_kind}
use Rattle.derivation_log.specs.Validity.{IsValid, FirstPart}
use Rattle.cert_text.specs.CertificateText.{certificate_text, IsWritable}

-- the bytes are the text of a valid certificate
pub record IsValidText (bytes : List ℕ) : Type 0 where
  pub certificate : Certificate
  pub writable : IsWritable certificate
  pub text : bytes ≡ certificate_text certificate
  pub valid : IsValid full_kind certificate

-- the bytes are the text of a certificate, and this is the first part of it that fails: that of class k of a run
pub record HasFailingPart (run : Run) (k : ℕ) (part : Part) (bytes : List ℕ) : Type 0 where
  pub certificate : Certificate
  pub writable : IsWritable certificate
  pub text : bytes ≡ certificate_text certificate
  pub first : FirstPart full_kind certificate run k part
