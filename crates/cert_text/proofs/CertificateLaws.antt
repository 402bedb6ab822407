-- One text has one certificate, bytes have one fault line at most, and none where they are a certificate's text.
use Rattle.std.proofs.Common.{◌≡◌, ℕ, zero, suc, List, [], ap, sym, subst, ◌∙◌, inl, inr}
use Rattle.std.specs.Prelude.{codes, reverse}
use Rattle.answer_text.specs.AnswerText.{answer_text}
use Rattle.answer_text.specs.AnswerPlaces.Place.{for_prime}
use Rattle.answer_text.proofs.OneText.{one_text_one_answer}
use Rattle.derivation_log.specs.declared.source.Run.TheVariants.{Whole}
use Rattle.derivation_log.specs.Certificates.{StepLines, Certificate}
use Rattle.cert_text.specs.CertificateText.{OneTextOneCertificate}
use Rattle.answer_text.specs.LineByLine.{IsWhole}
use Rattle.cert_text.specs.CertificatePlaces.{Place, HasForm, IsEnd, Head, head_of}
use Rattle.cert_text.specs.CertificatePlaces.Place.{for_version, for_generators, in_presentation, for_class, for_run, in_run, in_answer}
use Rattle.cert_text.specs.CertificatePlaces.HasForm.{of_answer}
use Rattle.cert_text.specs.CertificateFaults.{OneFaultLine, FaultsAreNoCertificates}
use Rattle.answer_text.proofs.lines.LineByLine.{Leads-same, first_bad-same, IsWhole-same}
use Rattle.cert_text.proofs.lines.FormLaws.{tells_places}
use Rattle.cert_text.proofs.lines.CertificateLeads.{front_lines, head, certificate_text-parts, front-leads, answer-form}
use Rattle.cert_text.proofs.lines.CertificateLeads.{IsWhole-certificate_text}

-- behind the runs
abbrev pub IsInAnswer : Place → Type 0
IsInAnswer for_version = ⊥
IsInAnswer for_generators = ⊥
IsInAnswer (in_presentation L) = ⊥
IsInAnswer (for_class L p) = ⊥
IsInAnswer (for_run H) = ⊥
IsInAnswer (in_run H run earlier ss) = ⊥
IsInAnswer (in_answer H earlier steps P) = Unit {0}

pub stays : (P Q : Place) (l : List ℕ) → IsInAnswer P → HasForm P l Q → IsInAnswer Q
stays (in_answer H earlier steps A) Q l past (of_answer H2 earlier2 steps2 A2 line B f) = tt
stays for_version Q l past f = absurd past
stays for_generators Q l past f = absurd past
stays (in_presentation L) Q l past f = absurd past
stays (for_class L p) Q l past f = absurd past
stays (for_run H) Q l past f = absurd past
stays (in_run H run earlier ss) Q l past f = absurd past

-- what a place behind the runs says of the lines before
abbrev pub head_at : Place → Head
head_at for_version = head_of (record { names = []; fixed = []; iterated = []; endos = [] }) 0 0
head_at for_generators = head_of (record { names = []; fixed = []; iterated = []; endos = [] }) 0 0
head_at (in_presentation L) = head_of L 0 0
head_at (for_class L p) = head_of L p 0
head_at (for_run H) = H
head_at (in_run H run earlier ss) = H
head_at (in_answer H earlier steps P) = H

abbrev pub earlier_at : Place → List StepLines
earlier_at for_version = []
earlier_at for_generators = []
earlier_at (in_presentation L) = []
earlier_at (for_class L p) = []
earlier_at (for_run H) = []
earlier_at (in_run H run earlier ss) = earlier
earlier_at (in_answer H earlier steps P) = earlier

abbrev pub steps_at : Place → List StepLines
steps_at for_version = []
steps_at for_generators = []
steps_at (in_presentation L) = []
steps_at (for_class L p) = []
steps_at (for_run H) = []
steps_at (in_run H run earlier ss) = ss
steps_at (in_answer H earlier steps P) = steps

pub certificate-same : (c d : Certificate) → c.version ≡ d.version → head c ≡ head d → c.iterated ≡ d.iterated → c.whole ≡ d.whole
    → c.answer ≡ d.answer → c ≡ d
certificate-same c d version head iterated whole answer = λ i. record {
  version = version i;
  presentation = (head i).presentation;
  prime = (head i).prime;
  class = (head i).class;
  iterated = iterated i;
  whole = whole i;
  answer = answer i;
}

pub one_text_one_certificate : OneTextOneCertificate
one_text_one_certificate c d v w e =
    let same = Leads-same Place HasForm IsEnd tells_places IsInAnswer stays for_version
    (in_run (head c) Whole c.iterated (reverse c.whole)) (in_answer (head c) c.iterated c.whole for_prime)
    (in_run (head d) Whole d.iterated (reverse d.whole)) (in_answer (head d) d.iterated d.whole for_prime)
    (front_lines c) (front_lines d) (codes "answer") (codes "answer") (answer_text c.answer) (answer_text d.answer)
    (front-leads c v) (front-leads d w) (answer-form c v) (answer-form d w) (λ past. past) (λ past. past) tt tt
    (sym (certificate_text-parts c) ∙ e ∙ certificate_text-parts d) in
    certificate-same c d (v.version ∙ sym w.version) (ap head_at same.0) (ap earlier_at same.0) (ap steps_at same.0)
    (one_text_one_answer c.answer d.answer v.answer w.answer same.1)

pub one_fault_line : OneFaultLine
one_fault_line bytes zero n a b = absurd a
one_fault_line bytes (suc j) zero a b = absurd b
one_fault_line bytes (suc j) (suc k) a b = elim a [
  | inl bad ↦ elim b [
    | inl worse ↦ ap (λ (x : ℕ). suc x) (first_bad-same Place HasForm IsEnd tells_places for_version bytes j k bad worse)
    | inr whole ↦ absurd (bad.not_whole (suc k) whole.0)
  ]
  | inr whole ↦ elim b [
    | inl bad ↦ absurd (bad.not_whole (suc j) whole.0)
    | inr also ↦ IsWhole-same Place HasForm IsEnd tells_places for_version bytes (suc j) (suc k) whole.0 also.0
  ]
]

pub faults_are_no_certificates : FaultsAreNoCertificates
faults_are_no_certificates bytes zero f a = absurd f
faults_are_no_certificates bytes (suc k) (inl bad) a =
    let whole = IsWhole-certificate_text a.0 a.1 in
    bad.not_whole whole.0 (subst (λ (t : List ℕ). IsWhole Place HasForm IsEnd for_version t whole.0) (sym a.2) whole.1)
faults_are_no_certificates bytes (suc k) (inr other) a = other.1 a
