-- What is written as a certificate is a valid one, whose answer is what is written by itself; and a text that is refused is refused for
-- one thing.
use Rattle.std.proofs.Common.{◌≡◌, ℕ, List, sym, ap, ◌∙◌}
use Rattle.derivation_log.specs.Certificates.{Certificate}
use Rattle.derivation_log.specs.Validity.{Trial}
use Rattle.answer_text.specs.AnswerText.{answer_text}
use Rattle.cert_text.proofs.CertificateLaws.{one_fault_line}
use Rattle.pq_run.specs.declared.refusal.Refusal.TheVariants.{Words, ReadFault, InputTooLong, Text, TooLarge, CertificateLine}
use Rattle.pq_run.specs.declared.refusal.Refusal.TheVariants.{CertificatePart, NoMemory}
use Rattle.pq_run.specs.CheckedTexts.{IsValidText}
use Rattle.pq_run.specs.Output.{WritesAnswer, WritesCertificate, WritesCheckedAnswer, ChecksWhatIsCertified}
use Rattle.pq_run.specs.Cause.{OneCertRefusal}
use Rattle.pq_run.proofs.CheckedTexts.{one_certificate, checked-largest, fault-not_failing, one_failing_part}
use Rattle.pq_run.proofs.OneOutputs.{certifies_what_is_written}

module _ (p c : ℕ) (bytes certificate : List ℕ) (x : WritesCertificate p c bytes certificate) where
  -- what is written of the certificate's answer is what is written by itself
  by_itself : (written : List ℕ) → written ≡ answer_text x.certificate.answer → WritesAnswer p c answer_text bytes written
  by_itself written told = record {
    presentation = x.presentation;
    reads = x.reads;
    answer = x.certificate.answer;
    largest = x.certifies.largest;
    canonical = x.certifies.canonical;
    class = x.certifies.class;
    exact = x.certifies.exact;
    writable = x.writable.answer;
    text = told;
  }

  written_of : (written : List ℕ) → WritesCheckedAnswer certificate written → WritesAnswer p c answer_text bytes written
  written_of written y =
      let same : y.certificate ≡ x.certificate =
      one_certificate certificate y.certificate x.certificate y.writable x.writable y.reads x.text in
      by_itself written (y.text ∙ ap (λ (d : Certificate). answer_text d.answer) same)

  checks_it : (written : List ℕ) → WritesAnswer p c answer_text bytes written → WritesCheckedAnswer certificate written
  checks_it written y = record {
    certificate = x.certificate;
    writable = x.writable;
    reads = x.text;
    valid = x.certifies.valid;
    largest = checked-largest x.certificate x.writable x.certifies.valid;
    canonical = x.certifies.canonical;
    class = x.certifies.class;
    exact = x.certifies.exact;
    text = y.text ∙ ap answer_text (sym (certifies_what_is_written p c bytes certificate written x y));
  }

  valid_text : IsValidText certificate
  valid_text = record { certificate = x.certificate; writable = x.writable; text = x.text; valid = x.certifies.valid }

pub checks_what_is_certified : ChecksWhatIsCertified
checks_what_is_certified p c bytes certificate x = record {
  valid = valid_text p c bytes certificate x;
  same = λ written. (written_of p c bytes certificate x written, checks_it p c bytes certificate x written);
}

pub one_cert_refusal : OneCertRefusal
one_cert_refusal bytes Words other x y = absurd x
one_cert_refusal bytes ReadFault other x y = absurd x
one_cert_refusal bytes (InputTooLong input) other x y = absurd x
one_cert_refusal bytes (Text fault) other x y = absurd x
one_cert_refusal bytes (TooLarge run k rank) other x y = absurd x
one_cert_refusal bytes NoMemory other x y = absurd x
one_cert_refusal bytes (CertificateLine m) Words x y = absurd y
one_cert_refusal bytes (CertificateLine m) ReadFault x y = absurd y
one_cert_refusal bytes (CertificateLine m) (InputTooLong input) x y = absurd y
one_cert_refusal bytes (CertificateLine m) (Text fault) x y = absurd y
one_cert_refusal bytes (CertificateLine m) (TooLarge run k rank) x y = absurd y
one_cert_refusal bytes (CertificateLine m) (CertificateLine n) x y = ap CertificateLine (one_fault_line bytes m n x y)
one_cert_refusal bytes (CertificateLine m) (CertificatePart run k part) x y = absurd (fault-not_failing bytes m run k part x y)
one_cert_refusal bytes (CertificateLine m) NoMemory x y = absurd y
one_cert_refusal bytes (CertificatePart run k part) Words x y = absurd y
one_cert_refusal bytes (CertificatePart run k part) ReadFault x y = absurd y
one_cert_refusal bytes (CertificatePart run k part) (InputTooLong input) x y = absurd y
one_cert_refusal bytes (CertificatePart run k part) (Text fault) x y = absurd y
one_cert_refusal bytes (CertificatePart run k part) (TooLarge other j rank) x y = absurd y
one_cert_refusal bytes (CertificatePart run k part) (CertificateLine n) x y = absurd (fault-not_failing bytes n run k part y x)
one_cert_refusal bytes (CertificatePart run k part) (CertificatePart other j p) x y =
    ap (λ (t : Trial). CertificatePart t.run t.class t.part)
    (one_failing_part bytes (record { run = run; class = k; part = part }) (record { run = other; class = j; part = p }) x y)
one_cert_refusal bytes (CertificatePart run k part) NoMemory x y = absurd y
