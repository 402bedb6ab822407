-- What was read in front of an answer, and the answer, make the certificate whose text the bytes are; or bytes with a fault in the answer,
-- or with an answer that isn't the certificate's, have their fault there.
use Rattle.std.proofs.Common.{◌≡◌, ◌≤◌, ◌+◌, ◌-◌, ℕ, zero, suc, Bool, true, false, cond, eqb, List, [], ◌∷◌, ◌++◌, length, refl, ap, sym}
use Rattle.std.proofs.Common.{subst, ◌∙◌, append_assoc, arith, inl, inr}
use Rattle.std.specs.Prelude.{codes, reverse}
use Rattle.std.proofs.lemmas.List.{length-append}
use borrow.Author.Tests.{ne_eqb}
use Rattle.pq_base.specs.Answer.{Answer}
use Rattle.pq_base.specs.Lines.{text_of_lines}
use Rattle.answer_text.specs.AnswerText.{answer_text, answer_lines}
use Rattle.answer_text.specs.AnswerPlaces.Place.{for_prime, at_end}
use Rattle.answer_text.specs.AnswerFaults as answer_faults
use Rattle.answer_text.specs.OneText as answers
use Rattle.answer_text.proofs.OneText.{one_text_one_answer}
use Rattle.answer_text.proofs.AnswerForm.{IsWhole-answer_text}
use Rattle.answer_text.proofs.Splits.{avoids, avoids-parts}
use Rattle.derivation_log.specs.declared.source.Run.TheVariants.{Whole}
use Rattle.derivation_log.specs.Certificates.{StepLines, Certificate}
use Rattle.derivation_log.specs.CertificateForms.{IsCertificate, first_version}
use Rattle.cert_text.specs.CertificateText.{certificate_text, IsWritable}
use Rattle.answer_text.specs.LineByLine.{Leads, IsWhole, IsFirstBad}
use Rattle.cert_text.specs.CertificatePlaces.{Place, HasForm, IsEnd, Head}
use Rattle.cert_text.specs.CertificatePlaces.Place.{for_version, in_run, in_answer}
use Rattle.cert_text.specs.CertificateFaults.{IsCertificateText, IsFaultLine}
use Rattle.cert_text.specs.ReadSoFar.{lines_in_front, IsFrontRead, newlines}
use Rattle.cert_text.proofs.CertificateLaws.{IsInAnswer, stays, head_at, earlier_at, steps_at, certificate-same}
use Rattle.answer_text.proofs.lines.LineByLine.{Leads-append, Leads-same}
use Rattle.cert_text.proofs.lines.FormLaws.{tells_places}
use Rattle.answer_text.proofs.lines.FaultSteps.{IsFirstBad-behind}
use Rattle.cert_text.proofs.lines.BadLines.{lines-and-line}
use Rattle.cert_text.proofs.lines.CertificateLeads.{front_lines, head, certificate_text-parts, in_front-leads, in_front-answer, front-leads}
use Rattle.cert_text.proofs.lines.CertificateLeads.{answer-form, IsWhole-in_answer}
use Rattle.cert_text.proofs.lines.StuckPlaces.{IsFirstBad-answer}

-- lines in front of what is whole, counted
IsWhole-behind : (P Q : Place) (ls : List (List ℕ)) (rest : List ℕ) (m : ℕ) → Leads Place HasForm P ls Q
    → IsWhole Place HasForm IsEnd Q rest m
    → IsWhole Place HasForm IsEnd P (text_of_lines ls ++ rest) (length ls + m)
IsWhole-behind P Q [] rest m lead w =
    let same : m ≡ 0 + m = omega arith in
    subst (λ (n : ℕ). IsWhole Place HasForm IsEnd P rest n) same (subst (λ (x : Place). IsWhole Place HasForm IsEnd x rest m) (sym lead) w)
IsWhole-behind P Q (l ∷ ls) rest m lead w =
    let same : suc (length ls + m) ≡ suc (length ls) + m = omega arith in
    subst (λ (n : ℕ). IsWhole Place HasForm IsEnd P (text_of_lines (l ∷ ls) ++ rest) n) same
    (l, lead.0, text_of_lines ls ++ rest, lead.1, append_assoc l (10 ∷ text_of_lines ls) rest, IsWhole-behind lead.0 Q ls rest m lead.2 w)

newlines-line : (l rest : List ℕ) → avoids 10 l ≡ true → newlines (l ++ 10 ∷ rest) ≡ suc (newlines rest)
newlines-line [] rest one = refl
newlines-line (b ∷ l) rest one =
    let parts = avoids-parts 10 b l one in
    ap (λ (c : Bool). cond c (suc (newlines (l ++ 10 ∷ rest))) (newlines (l ++ 10 ∷ rest))) (ne_eqb b 10 parts.0)
    ∙ newlines-line l rest parts.1

-- as many lines as newlines
newlines-IsWhole : (P : Place) (bytes : List ℕ) (m : ℕ) → IsWhole Place HasForm IsEnd P bytes m → newlines bytes ≡ m
newlines-IsWhole P bytes zero w = ap newlines w.1
newlines-IsWhole P bytes (suc m) w =
    ap newlines w.4 ∙ newlines-line w.0 w.2 (tells_places.avoids_newline P w.1 w.0 w.3)
    ∙ ap (λ (n : ℕ). suc n) (newlines-IsWhole w.1 w.2 m w.5)

pub newlines-few : (text : List ℕ) → newlines text ≤ length text
newlines-few [] = omega arith
newlines-few (b ∷ text) = by (eqb b 10) (newlines-few text) where
  by : (c : Bool) → newlines text ≤ length text → cond c (suc (newlines text)) (newlines text) ≤ suc (length text)
  by true few = omega arith
  by false few = omega arith

module _ (bytes : List ℕ) (H : Head) (iterated whole : List StepLines) (rest : List ℕ) (number : ℕ)
    (read : IsFrontRead bytes H iterated whole rest number) where
  abbrev all_lines : List (List ℕ)
  all_lines = lines_in_front H iterated whole ++ codes "answer" ∷ []

  abbrev place : Place
  place = in_answer H iterated whole for_prime

  lead : Leads Place HasForm for_version all_lines place
  lead =
      Leads-append Place HasForm IsEnd tells_places for_version (in_run H Whole iterated (reverse whole)) place
      (lines_in_front H iterated whole) (codes "answer" ∷ [])
      (in_front-leads H iterated whole read.front) (place, in_front-answer H iterated whole read.front, refl)

  cut : bytes ≡ text_of_lines all_lines ++ rest
  cut = lines-and-line bytes rest (codes "answer") (lines_in_front H iterated whole) read.lines

  counted : number ≡ suc (length all_lines)
  counted =
      let longer : length all_lines ≡ length (lines_in_front H iterated whole) + 1 =
      length-append (lines_in_front H iterated whole) (codes "answer" ∷ []) in
      let is : number ≡ length (lines_in_front H iterated whole) + 2 = read.numbered in
      omega arith

  -- a certificate with this text says the same in front of its answer, and what follows is the text of its answer
  same-front : (d : Certificate) → IsWritable d → bytes ≡ certificate_text d → (place ≡ in_answer (head d) d.iterated d.whole for_prime)
      × (rest ≡ answer_text d.answer)
  same-front d w e =
      Leads-same Place HasForm IsEnd tells_places IsInAnswer stays for_version
      (in_run H Whole iterated (reverse whole)) place (in_run (head d) Whole d.iterated (reverse d.whole))
      (in_answer (head d) d.iterated d.whole for_prime)
      (lines_in_front H iterated whole) (front_lines d) (codes "answer") (codes "answer") rest (answer_text d.answer)
      (in_front-leads H iterated whole read.front) (front-leads d w) (in_front-answer H iterated whole read.front) (answer-form d w)
      (λ past. past) (λ past. past) tt tt
      (sym read.lines ∙ e ∙ certificate_text-parts d)

  -- what isn't the text of an answer is not that of a certificate's
  pub no_answer-text : ¬ answer_faults.IsAnswerText rest → ¬ IsCertificateText bytes
  no_answer-text none text = none (text.0.answer, text.1.answer, (same-front text.0 text.1 text.2).1)

  whole-behind : (m : ℕ) → answer_faults.IsWhole for_prime rest m → IsWhole Place HasForm IsEnd for_version bytes (length all_lines + m)
  whole-behind m w =
      subst (λ (t : List ℕ). IsWhole Place HasForm IsEnd for_version t (length all_lines + m)) (sym cut)
      (IsWhole-behind for_version place all_lines rest m lead (IsWhole-in_answer H iterated whole for_prime rest m w))

  line-of : (k : ℕ) → suc (length all_lines + k) ≡ number - 1 + suc k
  line-of k = omega (arith, counted)

  -- a fault in the answer
  pub answer-fault : (n : ℕ) → answer_faults.IsFaultLine rest n → IsFaultLine bytes (number - 1 + n)
  answer-fault zero fault = absurd fault
  answer-fault (suc k) (inl bad) =
      subst (IsFaultLine bytes) (line-of k)
      (inl (subst (λ (t : List ℕ). IsFirstBad Place HasForm IsEnd for_version t (length all_lines + k)) (sym cut)
      (IsFirstBad-behind Place HasForm IsEnd tells_places for_version place all_lines rest k lead
      (IsFirstBad-answer H iterated whole for_prime rest k bad))))
  answer-fault (suc k) (inr other) =
      let same : length all_lines + suc k ≡ suc (length all_lines + k) = omega arith in
      subst (IsFaultLine bytes) (line-of k)
      (inr (subst (λ (n : ℕ). IsWhole Place HasForm IsEnd for_version bytes n) same (whole-behind (suc k) other.0), no_answer-text other.1))

  module _ (A : Answer) (writable : answers.IsWritable A) (text : rest ≡ answer_text A) where
    abbrev certificate : Certificate
    certificate = first_version H.presentation H.prime H.class iterated whole A

    -- the certificate is the one of the bytes
    pub certificate-read : IsCertificate certificate → IsWritable certificate × (bytes ≡ certificate_text certificate)
    certificate-read is = (
      record { version = refl; certificate = is; presentation = read.front.head.presentation; answer = writable },
      read.lines ∙ ap (λ (t : List ℕ). text_of_lines (lines_in_front H iterated whole) ++ (codes "answer" ++ 10 ∷ t)) text
          ∙ sym (certificate_text-parts certificate),
    )

    -- bytes that are some certificate's text are this one's
    this-certificate : IsCertificateText bytes → IsCertificate certificate
    this-certificate some =
        let d : Certificate = some.0 in
        let w : IsWritable d = some.1 in
        let same = same-front d w some.2 in
        let is : d ≡ certificate = certificate-same d certificate w.version (sym (ap head_at same.0)) (sym (ap earlier_at same.0))
        (sym (ap steps_at same.0))
        (one_text_one_answer d.answer A w.answer writable (sym same.1 ∙ text)) in
        subst IsCertificate is w.certificate

    -- where the parts make none, the fault is at the last line
    pub end-fault : ¬ IsCertificate certificate → IsFaultLine bytes (number - 1 + newlines rest)
    end-fault none = by (length (answer_lines A)) (subst (λ (t : List ℕ). answer_faults.IsWhole for_prime t (length (answer_lines A)))
        (sym text) (IsWhole-answer_text A writable)) where
          by : (m : ℕ) → answer_faults.IsWhole for_prime rest m → IsFaultLine bytes (number - 1 + newlines rest)
          by zero w = let bad : for_prime ≡ at_end = w.0 in cc
          by (suc k) w =
              let same : length all_lines + suc k ≡ suc (length all_lines + k) = omega arith in
              let count : newlines rest ≡ suc k =
              newlines-IsWhole place rest (suc k) (IsWhole-in_answer H iterated whole for_prime rest (suc k) w) in
              subst (IsFaultLine bytes) (line-of k ∙ ap (λ (n : ℕ). number - 1 + n) (sym count))
              (inr (
                subst (λ (n : ℕ). IsWhole Place HasForm IsEnd for_version bytes n) same (whole-behind (suc k) w),
                λ some. none (this-certificate some),
              ))

-- a fault in the answer is at most behind its last line
Begins-few : (P : _) (bytes : List ℕ) (m : ℕ) → answer_faults.Begins P bytes m → m ≤ length bytes
Begins-few P bytes zero b = omega arith
Begins-few P bytes (suc m) b =
    let sizes : length bytes ≡ length b.0 + suc (length b.2) = ap (λ (t : List ℕ). length t) b.4 ∙ length-append b.0 (10 ∷ b.2) in
    omega (arith, Begins-few b.1 b.2 m b.5)

IsWhole-few : (P : _) (bytes : List ℕ) (m : ℕ) → answer_faults.IsWhole P bytes m → m ≤ length bytes
IsWhole-few P bytes zero w = omega arith
IsWhole-few P bytes (suc m) w =
    let sizes : length bytes ≡ length w.0 + suc (length w.2) = ap (λ (t : List ℕ). length t) w.4 ∙ length-append w.0 (10 ∷ w.2) in
    omega (arith, IsWhole-few w.1 w.2 m w.5)

pub fault-few : (bytes : List ℕ) (n : ℕ) → answer_faults.IsFaultLine bytes n → n ≤ length bytes + 1
fault-few bytes zero fault = absurd fault
fault-few bytes (suc k) (inl bad) = omega (arith, Begins-few for_prime bytes k bad.begins)
fault-few bytes (suc k) (inr other) = omega (arith, IsWhole-few for_prime bytes (suc k) other.0)
