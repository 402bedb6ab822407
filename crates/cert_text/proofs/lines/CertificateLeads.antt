-- The lines of a certificate have their form in their places, up to the end of its answer.
use Rattle.std.proofs.Common.{◌≡◌, ℕ, zero, suc, Bool, true, false, List, [], ◌∷◌, ◌++◌, length, refl, ap, sym, subst, ◌∙◌, append_assoc}
use Rattle.std.proofs.Common.{append-nil}
use Rattle.std.specs.Prelude.{codes, reverse}
use Rattle.std.proofs.lemmas.List.{reverse-reverse}
use Rattle.pq_base.specs.Prime.{IsOffered}
use Rattle.pq_base.specs.Lines.{text_of_lines}
use Rattle.pq_base.proofs.LineLaws.{text_of_lines-append}
use Rattle.lpres_reader.specs.CanonicalText.{canonical_lines}
use Rattle.answer_text.specs.AnswerText.{answer_text, answer_lines}
use Rattle.answer_text.specs.AnswerPlaces.{prime_line, class_line}
use Rattle.answer_text.specs.AnswerPlaces as answers
use Rattle.answer_text.specs.AnswerPlaces.Place.{for_prime, at_end}
use Rattle.answer_text.specs.AnswerFaults as answer_faults
use Rattle.answer_text.proofs.AnswerForm.{IsWhole-answer_text}
use Rattle.derivation_log.specs.declared.source.Run.TheVariants.{Iterated, Whole}
use Rattle.derivation_log.specs.Certificates.{StepLines, Certificate, has_two_runs}
use Rattle.cert_text.specs.CertificateText.{IsWritable, version_line, run_line, steps_lines, iterated_lines, runs_lines, certificate_lines}
use Rattle.cert_text.specs.CertificateText.{certificate_text}
use Rattle.answer_text.specs.LineByLine.{Leads, IsWhole}
use Rattle.cert_text.specs.CertificatePlaces.{Place, HasForm, IsEnd, Head, head_of}
use Rattle.cert_text.specs.CertificatePlaces.Place.{for_version, for_generators, in_presentation, for_class, for_run, in_run, in_answer}
use Rattle.cert_text.specs.CertificatePlaces.HasForm.{version, prime, class, first_of_two_runs, only_run, second_run, answer, of_answer}
use Rattle.cert_text.specs.ReadSoFar.{IsFront, lines_in_front}
use Rattle.answer_text.proofs.lines.LineByLine.{Leads-append, IsWhole-Leads}
use Rattle.cert_text.proofs.lines.FormLaws.{tells_places}
use Rattle.cert_text.proofs.lines.PresentationLeads.{presentation-leads}
use Rattle.cert_text.proofs.lines.RunLeads.{steps-lead}

-- the lines before the answer
abbrev pub front_lines : Certificate → List (List ℕ)
front_lines c = version_line c.version ∷ (canonical_lines c.presentation ++ (prime_line c.prime ∷ class_line c.class ∷ runs_lines c))

abbrev pub head : Certificate → Head
head c = head_of c.presentation c.prime c.class

front_lines-answer : (c : Certificate) → certificate_lines c ≡ front_lines c ++ (codes "answer" ∷ answer_lines c.answer)
front_lines-answer c =
    ap (λ (ls : List (List ℕ)). version_line c.version ∷ ls)
    (sym (append_assoc (canonical_lines c.presentation) (prime_line c.prime ∷ class_line c.class ∷ runs_lines c)
    (codes "answer" ∷ answer_lines c.answer)))

pub certificate_text-parts : (c : Certificate)
    → certificate_text c ≡ text_of_lines (front_lines c) ++ (codes "answer" ++ 10 ∷ answer_text c.answer)
unfolding certificate_text answer_text
certificate_text-parts c =
    ap (λ (ls : List (List ℕ)). text_of_lines ls) (front_lines-answer c)
    ∙ text_of_lines-append (front_lines c) (codes "answer" ∷ answer_lines c.answer)

-- the lines in front of an answer, whatever the answer is
module _ (H : Head) (iterated whole : List StepLines) (front : IsFront H iterated whole) where
  -- the runs
  whole-leads : (earlier : List StepLines) → Leads Place HasForm (in_run H Whole earlier []) (steps_lines 0 whole)
      (in_run H Whole earlier (reverse whole))
  whole-leads earlier =
      subst (λ (ss : List StepLines). Leads Place HasForm (in_run H Whole earlier []) (steps_lines 0 whole) (in_run H Whole earlier ss))
      (append-nil (reverse whole))
      (steps-lead H front.head Whole earlier [] whole front.whole_steps)

  -- the steps of the run over the iterated part, read back in order
  in_order : reverse (reverse iterated ++ []) ≡ iterated
  in_order = ap (λ (ss : List StepLines). reverse ss) (append-nil (reverse iterated)) ∙ reverse-reverse iterated

  second-leads : Leads Place HasForm (in_run H Iterated [] (reverse iterated ++ [])) (run_line Whole ∷ steps_lines 0 whole)
      (in_run H Whole iterated (reverse whole))
  second-leads = (
    in_run H Whole (reverse (reverse iterated ++ [])) [],
    second_run H (reverse iterated ++ []),
    subst (λ (ss : List StepLines). Leads Place HasForm (in_run H Whole ss []) (steps_lines 0 whole)
        (in_run H Whole iterated (reverse whole))) (sym in_order) (whole-leads iterated),
  )

  runs-lead : (two : Bool) → has_two_runs H.presentation ≡ two
      → Leads Place HasForm (for_run H) (iterated_lines two iterated ++ (run_line Whole ∷ steps_lines 0 whole))
      (in_run H Whole iterated (reverse whole))
  runs-lead true e = (
    in_run H Iterated [] [],
    first_of_two_runs H e,
    Leads-append Place HasForm IsEnd tells_places (in_run H Iterated [] []) (in_run H Iterated [] (reverse iterated ++ []))
        (in_run H Whole iterated (reverse whole))
        (steps_lines 0 iterated) (run_line Whole ∷ steps_lines 0 whole)
        (steps-lead H front.head Iterated [] [] iterated front.iterated_steps) second-leads,
  )
  runs-lead false e =
      let none : iterated ≡ [] = front.one_run e in (
        in_run H Whole [] [],
        only_run H e,
        subst (λ (ss : List StepLines). Leads Place HasForm (in_run H Whole [] []) (steps_lines 0 whole)
            (in_run H Whole ss (reverse whole))) (sym none) (whole-leads []),
      )

  pub in_front-leads : Leads Place HasForm for_version (lines_in_front H iterated whole) (in_run H Whole iterated (reverse whole))
  in_front-leads = (
    for_generators,
    version,
    Leads-append Place HasForm IsEnd tells_places for_generators (in_presentation H.presentation) (in_run H Whole iterated (reverse whole))
        (canonical_lines H.presentation)
        (prime_line H.prime ∷ class_line H.class ∷ (iterated_lines (has_two_runs H.presentation) iterated
        ++ (run_line Whole ∷ steps_lines 0 whole)))
        (presentation-leads H.presentation front.head.presentation) (
          for_class H.presentation H.prime,
          prime H.presentation H.prime front.head.offered,
          (for_run H, class H.presentation H.prime H.class front.from_one front.limit, runs-lead (has_two_runs H.presentation) refl),
        ),
  )

  pub in_front-answer : HasForm (in_run H Whole iterated (reverse whole)) (codes "answer") (in_answer H iterated whole for_prime)
  in_front-answer = subst (λ (ss : List StepLines). HasForm (in_run H Whole iterated (reverse whole)) (codes "answer")
      (in_answer H iterated ss for_prime)) (reverse-reverse whole)
      (answer H iterated (reverse whole))

module _ (c : Certificate) (w : IsWritable c) where
  is_front : IsFront (head c) c.iterated c.whole
  is_front = record {
    head = record { presentation = w.presentation; offered = subst IsOffered w.certificate.prime w.answer.prime };
    from_one = w.certificate.class_from_one;
    limit = w.certificate.class_limit;
    one_run = w.certificate.one_run;
    iterated_steps = w.certificate.iterated_steps;
    whole_steps = w.certificate.whole_steps;
  }

  pub front-leads : Leads Place HasForm for_version (front_lines c) (in_run (head c) Whole c.iterated (reverse c.whole))
  front-leads =
      subst (λ (v : ℕ). Leads Place HasForm for_version
      (version_line v ∷ (canonical_lines c.presentation ++ (prime_line c.prime ∷ class_line c.class ∷ runs_lines c)))
      (in_run (head c) Whole c.iterated (reverse c.whole)))
      (sym w.version) (in_front-leads (head c) c.iterated c.whole is_front)

  pub answer-form : HasForm (in_run (head c) Whole c.iterated (reverse c.whole)) (codes "answer")
      (in_answer (head c) c.iterated c.whole for_prime)
  answer-form = in_front-answer (head c) c.iterated c.whole is_front

-- what is whole in an answer's text is so behind the runs
pub IsWhole-in_answer : (H : Head) (earlier steps : List StepLines) (P : answers.Place) (bytes : List ℕ) (m : ℕ)
    → answer_faults.IsWhole P bytes m
    → IsWhole Place HasForm IsEnd (in_answer H earlier steps P) bytes m
IsWhole-in_answer H earlier steps P bytes zero a = a
IsWhole-in_answer H earlier steps P bytes (suc m) a =
    (a.0, in_answer H earlier steps a.1, a.2, of_answer H earlier steps P a.0 a.1 a.3, a.4, IsWhole-in_answer H earlier steps a.1 a.2 m a.5)

pub IsWhole-certificate_text : (c : Certificate) → IsWritable c → (n : ℕ) × IsWhole Place HasForm IsEnd for_version (certificate_text c) n
IsWhole-certificate_text c w =
    let inside = IsWhole-in_answer (head c) c.iterated c.whole for_prime (answer_text c.answer) (length (answer_lines c.answer))
    (IsWhole-answer_text c.answer w.answer) in
    let behind : IsWhole Place HasForm IsEnd (in_run (head c) Whole c.iterated (reverse c.whole))
    (codes "answer" ++ 10 ∷ answer_text c.answer) (suc (length (answer_lines c.answer))) =
    (codes "answer", in_answer (head c) c.iterated c.whole for_prime, answer_text c.answer, answer-form c w, refl, inside) in
    let all = IsWhole-Leads Place HasForm IsEnd tells_places for_version (in_run (head c) Whole c.iterated (reverse c.whole))
    (front_lines c) (codes "answer" ++ 10 ∷ answer_text c.answer)
    (suc (length (answer_lines c.answer))) (front-leads c w) behind in
    (all.0, subst (λ (t : List ℕ). IsWhole Place HasForm IsEnd for_version t all.0) (sym (certificate_text-parts c)) all.1)
