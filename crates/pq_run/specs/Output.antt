-- What a command writes for what it reads.
-- From: this project's own commands.
use Rattle.std.specs.Prelude.{◌≡◌, ◌<◌, ◌≤◌, ◌↔◌, ℕ, List, length}
use Rattle.pq_base.specs.Prime.{prime_value}
use Rattle.pq_base.specs.LPresentation.{LPresentation}
use Rattle.pq_base.specs.Series.{HasClass}
use Rattle.pq_base.specs.Answer.{Answer, class_of}
use Rattle.pq_base.specs.Largest.{IsLargest}
use Rattle.pq_base.specs.Canonical.{IsCanonical}
use Rattle.lpres_reader.specs.Reads.{Reads}
use Rattle.answer_text.specs.AnswerText.{answer_text}
use Rattle.answer_text.specs.AnswerData.{answer_json}
use Rattle.answer_text.specs.OneText.{IsWritable}
use Rattle.derivation_log.specs.declared.source.Run.{Run}
use Rattle.derivation_log.specs.Certificates.{Certificate, steps_of}
use Rattle.derivation_log.specs.CertificateParts.{full_kind}
use Rattle.derivation_log.specs.Validity.{IsValid}
use Rattle.certified_runs.specs.RunLaws.{NamesFewSources}
use Rattle.cert_text.specs.CertificateText as certificates
use Rattle.samples.specs.Samples.{sample_presentation, sample_prime, sample_class}
use Rattle.samples.specs.Summary.{summary_text}
use Rattle.pq_run.specs.declared.command.Command.{Command}
use Rattle.pq_run.specs.declared.command.Command.TheVariants.{Quotient, Check, Sample}
use Rattle.pq_run.specs.declared.command.Form.TheVariants as forms
use Rattle.pq_run.specs.Command.{Asks}
use Rattle.pq_run.specs.CheckedTexts.{IsValidText}

-- the bytes read as one presentation, and what is written is one largest quotient of it, the canonical one, in this form. The class
-- that it shows is the least that its presentation has
pub record WritesAnswer (p c : ℕ) (form : Answer → List ℕ) (bytes written : List ℕ) : Type 0 where
  pub presentation : LPresentation
  pub reads : Reads bytes presentation
  pub answer : Answer
  pub largest : IsLargest presentation p c answer
  pub canonical : IsCanonical answer
  pub class : HasClass answer.presentation (class_of answer)
  pub exact : (k : ℕ) → k < class_of answer → ¬ HasClass answer.presentation k
  pub writable : IsWritable answer
  pub text : written ≡ form answer

-- a valid certificate of a presentation for this prime and this class, no step of which names more sources than its cover has tails. Its
-- answer is the canonical largest quotient, and the class that this shows is the least that its presentation has
pub record Certifies (L : LPresentation) (p c : ℕ) (C : Certificate) : Type 0 where
  pub presentation : C.presentation ≡ L
  pub prime : C.prime ≡ p
  pub asked : C.class ≡ c
  pub valid : IsValid full_kind C
  pub few_sources : (run : Run) (k : ℕ) → 1 ≤ k → k ≤ length (steps_of C run) → NamesFewSources full_kind.cover C run k
  pub largest : IsLargest L p c C.answer
  pub canonical : IsCanonical C.answer
  pub class : HasClass C.answer.presentation (class_of C.answer)
  pub exact : (k : ℕ) → k < class_of C.answer → ¬ HasClass C.answer.presentation k

-- the bytes read as one presentation, and what is written is the text of one valid certificate of it. Which sources a certificate names
-- is free, so that it may be one of several
pub record WritesCertificate (p c : ℕ) (bytes written : List ℕ) : Type 0 where
  pub presentation : LPresentation
  pub reads : Reads bytes presentation
  pub certificate : Certificate
  pub certifies : Certifies presentation p c certificate
  pub writable : certificates.IsWritable certificate
  pub text : written ≡ certificates.certificate_text certificate

-- the bytes are the text of one valid certificate, and what is written is its answer, as text. Whoever wrote the certificate, this is the
-- canonical largest quotient of its presentation, for its prime and its class, and the class that it shows is the least that its
-- presentation has
pub record WritesCheckedAnswer (bytes written : List ℕ) : Type 0 where
  pub certificate : Certificate
  pub writable : certificates.IsWritable certificate
  pub reads : bytes ≡ certificates.certificate_text certificate
  pub valid : IsValid full_kind certificate
  pub largest : IsLargest certificate.presentation certificate.prime certificate.class certificate.answer
  pub canonical : IsCanonical certificate.answer
  pub class : HasClass certificate.answer.presentation (class_of certificate.answer)
  pub exact : (k : ℕ) → k < class_of certificate.answer → ¬ HasClass certificate.answer.presentation k
  pub text : written ≡ answer_text certificate.answer

-- what is written is the summary of the canonical largest quotient of the sample of this number, for its prime and its class
pub record WritesSummary (n : ℕ) (written : List ℕ) : Type 0 where
  pub answer : Answer
  pub largest : IsLargest (sample_presentation n) (sample_prime n) sample_class answer
  pub canonical : IsCanonical answer
  pub text : written ≡ summary_text n answer

abbrev pub OutputOf : Command → List ℕ → List ℕ → Type 0
OutputOf (Quotient p c forms.Text) bytes written = WritesAnswer (prime_value p) c answer_text bytes written
OutputOf (Quotient p c forms.Json) bytes written = WritesAnswer (prime_value p) c answer_json bytes written
OutputOf (Quotient p c forms.Certificate) bytes written = WritesCertificate (prime_value p) c bytes written
OutputOf Check bytes written = WritesCheckedAnswer bytes written
OutputOf (Sample n) bytes written = WritesSummary n written

-- the words are those of a command, and this is an output of it for these bytes
abbrev pub Output : List (List ℕ) → List ℕ → List ℕ → Type 0
Output words bytes written = Asks (λ command. OutputOf command bytes written) words

-- what is written as text for given bytes determines the answer
abbrev pub OneOutputOneAnswer : Type 0
OneOutputOneAnswer = (p c : ℕ) (bytes written : List ℕ) (x y : WritesAnswer p c answer_text bytes written) → x.answer ≡ y.answer

-- a command whose output is determined: each but that for a certificate
abbrev pub HasOneOutput : Command → Type 0
HasOneOutput (Quotient p c forms.Text) = Unit {0}
HasOneOutput (Quotient p c forms.Json) = Unit {0}
HasOneOutput (Quotient p c forms.Certificate) = ⊥
HasOneOutput Check = Unit {0}
HasOneOutput (Sample n) = Unit {0}

-- the words and the bytes determine what is written, for each command whose output is determined
abbrev pub OneOutput : Type 0
OneOutput = (words : List (List ℕ)) (bytes output other : List ℕ) → Asks HasOneOutput words → Output words bytes output
    → Output words bytes other → output ≡ other

-- what is written as a certificate for given bytes determines the certificate
abbrev pub OneOutputOneCertificate : Type 0
OneOutputOneCertificate = (p c : ℕ) (bytes written : List ℕ) (x y : WritesCertificate p c bytes written) → x.certificate ≡ y.certificate

-- the bytes, the prime and the class determine the answer of what is written as a certificate, whatever sources it names
abbrev pub OneCertifiedAnswer : Type 0
OneCertifiedAnswer = (p c : ℕ) (bytes written other : List ℕ) (x : WritesCertificate p c bytes written)
    (y : WritesCertificate p c bytes other) → x.certificate.answer ≡ y.certificate.answer

-- it is the answer that is written by itself
abbrev pub CertifiesWhatIsWritten : Type 0
CertifiesWhatIsWritten = (p c : ℕ) (bytes written other : List ℕ) (x : WritesCertificate p c bytes written)
    (y : WritesAnswer p c answer_text bytes other) → x.certificate.answer ≡ y.answer

-- what is written as a certificate is a valid one; and what is written as its answer, where it is checked, is what is written by itself
pub record ChecksAs (p c : ℕ) (bytes certificate : List ℕ) : Type 0 where
  pub valid : IsValidText certificate
  pub same : (written : List ℕ) → WritesCheckedAnswer certificate written ↔ WritesAnswer p c answer_text bytes written

abbrev pub ChecksWhatIsCertified : Type 0
ChecksWhatIsCertified = (p c : ℕ) (bytes certificate : List ℕ) → WritesCertificate p c bytes certificate → ChecksAs p c bytes certificate
