-- What a certificate is refused for, or its bytes, the input that gave it is refused for, and so is the command; and a command that came
-- to the answer of a valid certificate ends with it, or with a first part of it because the sink failed.
use Rattle.std.specs.Global.{Global}
use Rattle.std.proofs.Common.{◌≡◌, ℕ, List, Option, Some, IfSome, Result, Ok, Err, IfOk, IfErr, Vec, [], inl, inr, refl, sym, ap, ◌∙◌}
use Rattle.std.proofs.Common.{subst}
use Rattle.std.proofs.lemmas.Option.{IfSome_then}
use Rattle.pq_base.specs.declared.status.Status.{Status}
use Rattle.pq_io.specs.Writing.{Gains, GainsProperPrefix}
use Rattle.pq_base.specs.Answer.{Answer}
use Rattle.answer_text.specs.AnswerText.{answer_text}
use Rattle.derivation_log.specs.Certificates as certificates
use Rattle.derivation_log.specs.CertificateParts.{full_kind}
use Rattle.derivation_log.specs.Validity.{IsValid}
use Rattle.cert_text.specs.CertificateText.{certificate_text, IsWritable}
use Rattle.cert_text.specs.declared.fault.CertFault.{CertFault}
use Rattle.cert_text.specs.declared.fault.CertFault.TheVariants as fault
use Rattle.cert_text.specs.CertificateFaults.{IsFaultOf}
use Rattle.cert_checker.specs.declared.refusal.CheckRefusal.{CheckRefusal}
use Rattle.cert_checker.specs.declared.refusal.CheckRefusal.TheVariants as checker
use Rattle.cert_checker.specs.Judging.{IsRefusalOf}
use Rattle.pq_run.specs.declared.command.Command.TheVariants.{Check}
use Rattle.pq_run.specs.declared.input.Input.{Input}
use Rattle.pq_run.specs.declared.input.Input.TheVariants.{Certificate}
use Rattle.pq_run.specs.declared.refusal.Refusal.{Refusal}
use Rattle.pq_run.specs.declared.refusal.Refusal.TheVariants.{Words, ReadFault, InputTooLong, Text, TooLarge, CertificateLine}
use Rattle.pq_run.specs.declared.refusal.Refusal.TheVariants.{CertificatePart, NoMemory}
use Rattle.pq_run.specs.Command.{CommandWords, Asks}
use Rattle.pq_run.specs.Input.{IsWithin, IsAbove}
use Rattle.pq_run.specs.CheckedTexts.{IsValidText}
use Rattle.pq_run.specs.Kinds.{ReadsInput, IsReading, IsAnswered, IsSample}
use Rattle.pq_run.specs.Output.{WritesCheckedAnswer}
use Rattle.pq_run.specs.Refusals.{refusal_of_fault, refusal_of_check}
use Rattle.pq_run.specs.Streams.{Reading, Writing}
use Rattle.pq_run.specs.Cause.{IsReadCause, IsCertificateTextCause, HasCertificateTextCause, IsCertificateCause, IsCheckCause, IsCause}
use Rattle.pq_run.specs.Ends.{HasWritten, CameToOutput, Ends}
use Rattle.pq_run.specs.Ends.Ends.{done, cut}
use Rattle.pq_run.proofs.Commands.{Asks-apart, reading-not_sample}
use Rattle.pq_run.proofs.Causes.{told, IfSome-both}
use Rattle.pq_run.proofs.OutputEnds.{Took}
use Rattle.pq_run.proofs.CheckedTexts.{checked-largest, checked-canonical, checked-class, checked-exact}

-- what an input is refused for before its text is read
pub read_cause : (r : Reading) (refusal : Refusal) → IsReadCause Certificate r refusal → IsCheckCause r refusal
read_cause r Words cause = absurd cause
read_cause r ReadFault cause = cause
read_cause r (InputTooLong input) cause = cause
read_cause r (Text fault) cause = absurd cause
read_cause r (TooLarge run k rank) cause = absurd cause
read_cause r (CertificateLine n) cause = absurd cause
read_cause r (CertificatePart run k part) cause = absurd cause
read_cause r NoMemory cause = tt

-- what a text is refused for that is told to be what was left in the source
pub unread_cause : (text items : List ℕ) (r : Reading) (e : CertFault) → text ≡ items → IsWithin Certificate items
    → IfSome r.left (λ bytes. (items ≡ bytes) × (r.rest ≡ Some [])) → IsFaultOf text e → IsCheckCause r (refusal_of_fault e)
unread_cause text items r (fault.Line n) same within whole cause =
    told (λ bytes. IsWithin Certificate bytes × IsCertificateTextCause bytes (CertificateLine n)) items r.left r.rest whole
    (within, subst (λ (bytes : List ℕ). IsCertificateTextCause bytes (CertificateLine n)) same cause)
unread_cause text items r fault.NoMemory same within whole cause = tt

-- what a certificate is refused for by the checker
pub check_cause : (c : certificates.Certificate) (e : CheckRefusal) → IsRefusalOf c e → IsCertificateCause c (refusal_of_check e)
check_cause c (checker.Refused run k part) cause = cause
check_cause c checker.NoMemory cause = tt

-- what the certificate of an input is refused for, the input is refused for
module _ (c : certificates.Certificate) (writable : IsWritable c) (r : Reading) (within : IfSome r.left (IsWithin Certificate))
    (reads : IfSome r.left (λ text. text ≡ certificate_text c)) where
  pub certificate_cause : (refusal : Refusal) → IsCertificateCause c refusal → IsCheckCause r refusal
  certificate_cause Words cause = absurd cause
  certificate_cause ReadFault cause = absurd cause
  certificate_cause (InputTooLong input) cause = absurd cause
  certificate_cause (Text fault) cause = absurd cause
  certificate_cause (TooLarge run k rank) cause = absurd cause
  certificate_cause (CertificateLine n) cause = absurd cause
  certificate_cause (CertificatePart run k part) cause =
      IfSome-both (IsWithin Certificate) (λ text. text ≡ certificate_text c)
      (λ bytes. IsWithin Certificate bytes × IsCertificateTextCause bytes (CertificatePart run k part))
      (λ bytes small text. (small, record { certificate = c; writable = writable; text = text; first = cause })) r.left within reads
  certificate_cause NoMemory cause = tt

-- what is written of a certificate is written of the bytes that are its text
pub written_of_text : (c : certificates.Certificate) (left : Option (List ℕ)) (written : List ℕ)
    → IfSome left (λ text. text ≡ certificate_text c)
    → WritesCheckedAnswer (certificate_text c) written → IfSome left (λ text. WritesCheckedAnswer text written)
written_of_text c left written reads writes =
    IfSome_then left {P = λ text. text ≡ certificate_text c} {Q = λ text. WritesCheckedAnswer text written} reads
    (λ text same. subst (λ (bytes : List ℕ). WritesCheckedAnswer bytes written) (sym same) writes)

-- the answer of a valid certificate, as text, is written of the certificate's text
pub written_of_certificate : (c : certificates.Certificate) (A : Answer) (written : List ℕ) → IsWritable c → IsValid full_kind c
    → A ≡ c.answer → written ≡ answer_text A → WritesCheckedAnswer (certificate_text c) written
written_of_certificate c A written writable valid same told = record {
  certificate = c;
  writable = writable;
  reads = refl;
  valid = valid;
  largest = checked-largest c writable valid;
  canonical = checked-canonical c writable valid;
  class = checked-class c writable valid;
  exact = checked-exact c writable valid;
  text = told ∙ ap answer_text same;
}

-- the same of what is given for a certificate that was read, or the cause of a refusal
pub written_result : (c : certificates.Certificate) (left : Option (List ℕ)) (result : Result (Vec ℕ Global) Refusal)
    → IfSome left (λ text. text ≡ certificate_text c) → IfOk result (λ written. WritesCheckedAnswer (certificate_text c) written.items)
    → IfOk result (λ written. IfSome left (λ text. WritesCheckedAnswer text written.items))
written_result c left (Ok written) reads writes = written_of_text c left written.items reads writes
written_result c left (Err refusal) reads writes = tt

pub refused_result : (c : certificates.Certificate) (r : Reading) (result : Result (Vec ℕ Global) Refusal) → IsWritable c
    → IfSome r.left (IsWithin Certificate) → IfSome r.left (λ text. text ≡ certificate_text c) → IfErr result (IsCertificateCause c)
    → IfErr result (IsCheckCause r)
refused_result c r (Ok written) writable within reads cause = tt
refused_result c r (Err refusal) writable within reads cause = certificate_cause c writable r within reads refusal cause

module _ (words : List (List ℕ)) (spelled : CommandWords words Check) (r : Reading) where
  asks_certificate : Asks (ReadsInput Certificate) words
  asks_certificate = (Check, spelled, refl)

  pub input_cause : (refusal : Refusal) → IsCheckCause r refusal → IsCause words r refusal
  input_cause Words cause = absurd cause
  input_cause ReadFault cause = ((Check, spelled, (Certificate, refl)), cause)
  input_cause (InputTooLong input) cause = (
    subst (λ (x : Input). Asks (ReadsInput x) words) (sym cause.0) asks_certificate,
    subst (λ (x : Input). IfSome r.left (IsAbove x)) (sym cause.0) cause.1,
  )
  input_cause (Text fault) cause = absurd cause
  input_cause (TooLarge run k rank) cause = absurd cause
  input_cause (CertificateLine n) cause = (asks_certificate, cause)
  input_cause (CertificatePart run k part) cause = (asks_certificate, cause)
  input_cause NoMemory cause = (Check, spelled)

  answered : (output bytes : List ℕ) → IsWithin Certificate bytes → WritesCheckedAnswer bytes output → Asks (IsAnswered bytes) words
  answered output bytes within w = (
    Check,
    spelled,
    inr (
      (refl, within),
      record { certificate = w.certificate; writable = w.writable; text = w.reads; valid = w.valid },
    ),
  )

  came : (output : List ℕ) → IfSome r.left (IsWithin Certificate) → IfSome r.left (λ text. WritesCheckedAnswer text output)
      → CameToOutput words r
  came output within writes = record {
    command = (Check, spelled);
    answered = λ reads.
        IfSome-both (IsWithin Certificate) (λ text. WritesCheckedAnswer text output) (λ bytes. Asks (IsAnswered bytes) words)
        (answered output)
        r.left within writes;
    sample = λ asks.
        absurd (Asks-apart IsReading IsSample words (reading-not_sample (λ n. Unit {0})) (Check, spelled, (Certificate, refl)) asks);
  }

  written_so : (output : List ℕ) (P : List ℕ → Type 0) → IfSome r.left (λ text. WritesCheckedAnswer text output) → P output
      → IfSome r.left (λ bytes. HasWritten words bytes P)
  written_so output P writes holds =
      IfSome_then r.left {P = λ text. WritesCheckedAnswer text output} {Q = λ bytes. HasWritten words bytes P} writes
      (λ bytes w. (output, (Check, spelled, w), holds))

  pub check_ends : (output : List ℕ) (w : Writing) (end : Status) → IfSome r.left (λ text. r.rest ≡ Some [])
      → IfSome r.left (IsWithin Certificate)
      → IfSome r.left (λ text. WritesCheckedAnswer text output) → Took w end output → Ends words r w end
  check_ends output w end read within writes (inl all) =
      done all.0 (came output within writes) (record {
        command = Check;
        spelled = spelled;
        read = read;
        written = written_so output (Gains w.taken w.then) writes all.1;
      })
  check_ends output w end read within writes (inr first) =
      cut first.0 (came output within writes) (record {
        command = Check;
        spelled = spelled;
        read = read;
        written = written_so output (GainsProperPrefix w.taken w.then) writes first.2;
        fault = first.1;
      })
