-- What it takes for a command to be refused. Want of memory needs no cause but that there is a command.
-- From: this project's own commands.
use Rattle.std.specs.Prelude.{◌≡◌, ◌⊎◌, ℕ, List, Some, IfSome}
use Rattle.pq_base.specs.LPresentation.{LPresentation}
use Rattle.pq_io.specs.Faults.{Rose}
use Rattle.derivation_log.specs.declared.source.Run.TheVariants.{Whole}
use Rattle.derivation_log.specs.Certificates as certificates
use Rattle.derivation_log.specs.CertificateParts.{full_kind}
use Rattle.derivation_log.specs.Validity.{FirstPart}
use Rattle.cert_text.specs.CertificateFaults.{IsFaultLine}
use Rattle.tower.specs.TwoRuns.{IsTooLargeIn}
use Rattle.pq_run.specs.declared.input.Input.{Input}
use Rattle.pq_run.specs.declared.input.Input.TheVariants.{Presentation, Certificate}
use Rattle.pq_run.specs.declared.refusal.Refusal.{Refusal}
use Rattle.pq_run.specs.declared.refusal.Refusal.TheVariants.{Words, ReadFault, InputTooLong, Text, TooLarge}
use Rattle.pq_run.specs.declared.refusal.Refusal.TheVariants.{CertificateLine, CertificatePart, NoMemory}
use Rattle.pq_run.specs.Command.{AreCommandWords, Asks}
use Rattle.pq_run.specs.Input.{IsAbove, IsWithin}
use Rattle.pq_run.specs.Texts.{HasFault, HasLargeRank}
use Rattle.pq_run.specs.CheckedTexts.{HasFailingPart}
use Rattle.pq_run.specs.SampleRanks.{HasLargeSampleRank}
use Rattle.pq_run.specs.Kinds.{ReadsInput, IsReading, IsTooLargeFor, IsLargeSampleFor}
use Rattle.pq_run.specs.Streams.{Reading}

-- what it takes for an input to be refused so before its text is read
abbrev pub IsReadCause : Input → Reading → Refusal → Type 0
IsReadCause input r ReadFault = Rose r.before r.after
IsReadCause input r (InputTooLong other) = (other ≡ input) × IfSome r.left (IsAbove input)
IsReadCause input r NoMemory = Unit {0}
IsReadCause input r _ = ⊥

-- what it takes for the bytes of a presentation to be refused so, at this prime and class
abbrev pub IsPresentationTextCause : ℕ → ℕ → List ℕ → Refusal → Type 0
IsPresentationTextCause p c bytes (Text fault) = HasFault fault bytes
IsPresentationTextCause p c bytes (TooLarge run k rank) = HasLargeRank p c run k rank bytes
IsPresentationTextCause p c bytes _ = ⊥

-- what it takes for a presentation that was read to be refused so, at this prime and class
abbrev pub IsPresentationCause : ℕ → ℕ → LPresentation → Refusal → Type 0
IsPresentationCause p c L (TooLarge run k rank) = IsTooLargeIn L p c run k rank
IsPresentationCause p c L NoMemory = Unit {0}
IsPresentationCause p c L _ = ⊥

-- the bytes aren't too many, and this is what they are refused for, where the source tells them
abbrev pub HasPresentationTextCause : ℕ → ℕ → Reading → Refusal → Type 0
HasPresentationTextCause p c r refusal = IfSome r.left (λ bytes. IsWithin Presentation bytes × IsPresentationTextCause p c bytes refusal)

-- what it takes for the input of a presentation to be refused so, at this prime and class
abbrev pub IsQuotientCause : ℕ → ℕ → Reading → Refusal → Type 0
IsQuotientCause p c r Words = ⊥
IsQuotientCause p c r ReadFault = IsReadCause Presentation r ReadFault
IsQuotientCause p c r (InputTooLong input) = IsReadCause Presentation r (InputTooLong input)
IsQuotientCause p c r (Text fault) = HasPresentationTextCause p c r (Text fault)
IsQuotientCause p c r (TooLarge run k rank) = HasPresentationTextCause p c r (TooLarge run k rank)
IsQuotientCause p c r (CertificateLine n) = ⊥
IsQuotientCause p c r (CertificatePart run k part) = ⊥
IsQuotientCause p c r NoMemory = Unit {0}

-- what it takes for the bytes of a certificate to be refused so
abbrev pub IsCertificateTextCause : List ℕ → Refusal → Type 0
IsCertificateTextCause bytes (CertificateLine n) = IsFaultLine bytes n
IsCertificateTextCause bytes (CertificatePart run k part) = HasFailingPart run k part bytes
IsCertificateTextCause bytes _ = ⊥

-- what it takes for a certificate that was read to be refused so
abbrev pub IsCertificateCause : certificates.Certificate → Refusal → Type 0
IsCertificateCause c (CertificatePart run k part) = FirstPart full_kind c run k part
IsCertificateCause c NoMemory = Unit {0}
IsCertificateCause c _ = ⊥

-- the bytes aren't too many, and this is what they are refused for, where the source tells them
abbrev pub HasCertificateTextCause : Reading → Refusal → Type 0
HasCertificateTextCause r refusal = IfSome r.left (λ bytes. IsWithin Certificate bytes × IsCertificateTextCause bytes refusal)

-- what it takes for the input of a certificate to be refused so
abbrev pub IsCheckCause : Reading → Refusal → Type 0
IsCheckCause r Words = ⊥
IsCheckCause r ReadFault = IsReadCause Certificate r ReadFault
IsCheckCause r (InputTooLong input) = IsReadCause Certificate r (InputTooLong input)
IsCheckCause r (Text fault) = ⊥
IsCheckCause r (TooLarge run k rank) = ⊥
IsCheckCause r (CertificateLine n) = HasCertificateTextCause r (CertificateLine n)
IsCheckCause r (CertificatePart run k part) = HasCertificateTextCause r (CertificatePart run k part)
IsCheckCause r NoMemory = Unit {0}

-- what it takes for a sample to be refused so
abbrev pub IsSampleCause : ℕ → Refusal → Type 0
IsSampleCause n (TooLarge run k rank) = (run ≡ Whole) × HasLargeSampleRank k rank n
IsSampleCause n NoMemory = Unit {0}
IsSampleCause n _ = ⊥

-- what it takes for a command to be refused so. Of a rank that is too large the input is the cause, or the sample
abbrev pub IsCause : List (List ℕ) → Reading → Refusal → Type 0
IsCause words r Words = ¬ AreCommandWords words
IsCause words r ReadFault = Asks IsReading words × Rose r.before r.after
IsCause words r (InputTooLong input) = Asks (ReadsInput input) words × IfSome r.left (IsAbove input)
IsCause words r (Text fault) =
    Asks (ReadsInput Presentation) words × IfSome r.left (λ bytes. IsWithin Presentation bytes × HasFault fault bytes)
IsCause words r (TooLarge run k rank) =
    (Asks (ReadsInput Presentation) words × IfSome r.left (λ bytes. Asks (IsTooLargeFor run k rank bytes) words))
    ⊎ Asks (IsLargeSampleFor run k rank) words
IsCause words r (CertificateLine n) = Asks (ReadsInput Certificate) words × HasCertificateTextCause r (CertificateLine n)
IsCause words r (CertificatePart run k part) = Asks (ReadsInput Certificate) words × HasCertificateTextCause r (CertificatePart run k part)
IsCause words r NoMemory = AreCommandWords words

-- the bytes of a certificate's input determine what they are refused for, so also the line
abbrev pub OneCertRefusal : Type 0
OneCertRefusal = (bytes : List ℕ) (one other : Refusal) → IsCertificateTextCause bytes one → IsCertificateTextCause bytes other
    → one ≡ other

-- a refusal that the words and the input decide: neither want of memory nor a read that failed
abbrev pub IsOfInput : Refusal → Type 0
IsOfInput ReadFault = ⊥
IsOfInput NoMemory = ⊥
IsOfInput _ = Unit {0}

-- the words and the bytes determine what a command is refused for, and so the line and the status, where no read failed and no memory
-- was wanting: the causes of two refusals, of one run or of two, are causes of one
abbrev pub OneRefusal : Type 0
OneRefusal = (words : List (List ℕ)) (bytes : List ℕ) (r s : Reading) (one other : Refusal) → r.left ≡ Some bytes → s.left ≡ Some bytes
    → IsOfInput one → IsOfInput other → IsCause words r one → IsCause words s other → one ≡ other
