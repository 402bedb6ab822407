-- The line of the first fault of bytes that are no certificate's text. Lines are judged one by one. The first line that hasn't the form
-- of a line in its place is the fault, and where bytes end early, the line after the last whole one; where there is none, but the lines
-- together are no certificate's, the fault is at the last line, the end of the answer.
-- From: this project's own format.
use Rattle.std.specs.Prelude.{◌≡◌, ◌⊎◌, ℕ, zero, suc, List}
use Rattle.derivation_log.specs.Certificates.{Certificate}
use Rattle.cert_text.specs.declared.fault.CertFault.{CertFault}
use Rattle.cert_text.specs.declared.fault.CertFault.TheVariants.{Line, NoMemory}
use Rattle.cert_text.specs.CertificateText.{certificate_text, IsWritable}
use Rattle.cert_text.specs.CertificatePlaces.{Place, HasForm, IsEnd}
use Rattle.cert_text.specs.CertificatePlaces.Place.{for_version}
use Rattle.answer_text.specs.LineByLine.{IsWhole, IsFirstBad}

abbrev pub IsCertificateText : List ℕ → Type 0
IsCertificateText bytes = (c : Certificate) × IsWritable c × (bytes ≡ certificate_text c)

-- lines count from 1
abbrev pub IsFaultLine : List ℕ → ℕ → Type 0
IsFaultLine bytes zero = ⊥
IsFaultLine bytes (suc k) =
    IsFirstBad Place HasForm IsEnd for_version bytes k
    ⊎ (IsWhole Place HasForm IsEnd for_version bytes (suc k) × (¬ IsCertificateText bytes))

abbrev pub IsFaultOf : List ℕ → CertFault → Type 0
IsFaultOf bytes (Line n) = IsFaultLine bytes n
IsFaultOf bytes NoMemory = Unit {0}

-- bytes have a fault at one line only
abbrev pub OneFaultLine : Type 0
OneFaultLine = (bytes : List ℕ) (m n : ℕ) → IsFaultLine bytes m → IsFaultLine bytes n → m ≡ n

-- bytes with a fault are no certificate's text
abbrev pub FaultsAreNoCertificates : Type 0
FaultsAreNoCertificates = (bytes : List ℕ) (n : ℕ) → IsFaultLine bytes n → ¬ IsCertificateText bytes
