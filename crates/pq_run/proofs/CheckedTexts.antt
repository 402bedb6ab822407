-- A text has a first fault, or it is that of one certificate, a part of which is the first that fails, or which is valid.
use Rattle.std.proofs.Common.{◌≡◌, ◌<◌, ℕ, List, sym, ap, subst, ◌∙◌}
use Rattle.pq_base.specs.Series.{HasClass}
use Rattle.pq_base.specs.Answer.{class_of}
use Rattle.pq_base.specs.Canonical.{IsCanonical}
use Rattle.pq_base.specs.Largest.{IsLargest}
use Rattle.pq_base.specs.Prime.{IsOffered}
use Rattle.cover_quotient.proofs.canonical_answers.ExactClasses.{own-class, canonical_answers_have_no_smaller_class}
use Rattle.derivation_log.specs.declared.source.Run.{Run}
use Rattle.derivation_log.specs.declared.part.Part.{Part}
use Rattle.derivation_log.specs.Certificates.{Certificate}
use Rattle.derivation_log.specs.CertificateParts.{full_kind}
use Rattle.derivation_log.specs.Validity.{Trial, IsValid, FirstPart}
use Rattle.derivation_log.proofs.FirstParts.{valid_certificates_have_no_first_part, first_parts_are_unique}
use Rattle.cert_text.specs.CertificateText.{certificate_text, IsWritable}
use Rattle.cert_text.specs.CertificateFaults.{IsFaultLine}
use Rattle.cert_text.proofs.CertificateLaws.{one_text_one_certificate, faults_are_no_certificates}
use Rattle.valid_certificates.specs.ReachedAnswers.{HasForm}
use Rattle.valid_certificates.proofs.ValidCertificates.{valid_certificates_are_largest, valid_certificates_are_canonical}
use Rattle.pq_run.specs.CheckedTexts.{IsValidText, HasFailingPart}

pub fault-not_valid : (bytes : List ℕ) (n : ℕ) → IsFaultLine bytes n → ¬ IsValidText bytes
fault-not_valid bytes n fault valid = faults_are_no_certificates bytes n fault (valid.certificate, valid.writable, valid.text)

pub fault-not_failing : (bytes : List ℕ) (n : ℕ) (run : Run) (k : ℕ) (part : Part) → IsFaultLine bytes n → ¬ HasFailingPart run k part bytes
fault-not_failing bytes n run k part fault failing =
    faults_are_no_certificates bytes n fault (failing.certificate, failing.writable, failing.text)

-- one text is that of one certificate
pub one_certificate : (bytes : List ℕ) (c d : Certificate) → IsWritable c → IsWritable d → bytes ≡ certificate_text c
    → bytes ≡ certificate_text d
    → c ≡ d
one_certificate bytes c d x y of_c of_d = one_text_one_certificate c d x y (sym of_c ∙ of_d)

pub failing-not_valid : (run : Run) (k : ℕ) (part : Part) (bytes : List ℕ) → HasFailingPart run k part bytes → ¬ IsValidText bytes
failing-not_valid run k part bytes failing valid =
    let same : failing.certificate ≡ valid.certificate =
    one_certificate bytes failing.certificate valid.certificate failing.writable valid.writable failing.text valid.text in
    valid_certificates_have_no_first_part valid.certificate run k part valid.valid
    (subst (λ (c : Certificate). FirstPart full_kind c run k part) same failing.first)

pub one_failing_part : (bytes : List ℕ) (s t : Trial) → HasFailingPart s.run s.class s.part bytes
    → HasFailingPart t.run t.class t.part bytes
    → s ≡ t
one_failing_part bytes s t x y =
    let same : x.certificate ≡ y.certificate = one_certificate bytes x.certificate y.certificate x.writable y.writable x.text y.text in
    first_parts_are_unique y.certificate s t (subst (λ (c : Certificate). FirstPart full_kind c s.run s.class s.part) same x.first) y.first

-- a certificate with a text has the form that its laws ask for
has_form : (c : Certificate) → IsWritable c → HasForm c
has_form c is = record {
  words = is.presentation.presentation;
  some_name = is.presentation.limits.some_generator;
  name_limit = is.presentation.limits.generators;
  offered = subst IsOffered is.certificate.prime is.answer.prime;
  form = is.certificate;
}

-- so where it is valid, its answer is the canonical largest quotient
pub checked-largest : (c : Certificate) → IsWritable c → IsValid full_kind c → IsLargest c.presentation c.prime c.class c.answer
checked-largest c is valid = valid_certificates_are_largest c (has_form c is) valid

pub checked-canonical : (c : Certificate) → IsWritable c → IsValid full_kind c → IsCanonical c.answer
checked-canonical c is valid = valid_certificates_are_canonical c (has_form c is) valid

-- which has the class that it shows, and no smaller one
pub checked-class : (c : Certificate) → IsWritable c → IsValid full_kind c → HasClass c.answer.presentation (class_of c.answer)
checked-class c is valid =
    let largest = checked-largest c is valid in
    let canonical = checked-canonical c is valid in
    own-class c.answer largest.answer canonical.weights

pub checked-exact : (c : Certificate) → IsWritable c → IsValid full_kind c → (k : ℕ) → k < class_of c.answer
    → ¬ HasClass c.answer.presentation k
checked-exact c is valid =
    let largest = checked-largest c is valid in
    canonical_answers_have_no_smaller_class c.answer largest.answer (checked-canonical c is valid) largest.consistent
