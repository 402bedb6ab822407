-- Lines that haven't the form of a line in their place, place by place, and faults inside the answer.
use Rattle.std.proofs.Common.{◌≡◌, ◌≤◌, ℕ, zero, suc, Bool, true, false, List, [], ◌∷◌, ◌++◌, length, refl, ap, sym, subst, ◌∙◌}
use Rattle.std.proofs.Common.{append_assoc, append-nil}
use Rattle.std.specs.List.{AllByRecursion}
use Rattle.pq_base.specs.LPresentation.{LPresentation}
use Rattle.pq_base.specs.Limits.{max_class}
use Rattle.pq_base.specs.Prime.{IsOffered}
use Rattle.lpres_reader.specs.CanonicalText.{canonical_lines}
use Rattle.answer_text.specs.AnswerPlaces as answers
use Rattle.answer_text.specs.AnswerPlaces.{prime_line, class_line}
use Rattle.answer_text.specs.AnswerPlaces.Place.{at_end}
use Rattle.answer_text.specs.AnswerFaults as answer_faults
use Rattle.derivation_log.specs.declared.source.Run.{Run}
use Rattle.derivation_log.specs.declared.source.Run.TheVariants.{Iterated, Whole}
use Rattle.derivation_log.specs.declared.source.RowSource.{RowSource}
use Rattle.derivation_log.specs.Certificates.{TailLine, StepLines, has_two_runs}
use Rattle.derivation_log.specs.CertificateForms.{is_source_in, are_tail_lines}
use Rattle.cert_text.specs.CertificateText.{HasText, version_line, run_line, step_line, source_line, tail_line}
pub use Rattle.cert_text.specs.ReadSoFar.{end_line}
use Rattle.answer_text.specs.LineByLine.{Leads, Begins, IsWhole, IsFirstBad}
use Rattle.cert_text.specs.CertificatePlaces.{Place, HasForm, IsEnd, Head}
use Rattle.cert_text.specs.CertificatePlaces.Place.{for_version, for_generators, in_presentation, for_class, for_run, in_run, in_answer}
use Rattle.cert_text.specs.CertificatePlaces.HasForm.{version, generators, item, prime, class, first_of_two_runs, only_run, step, source}
use Rattle.cert_text.specs.CertificatePlaces.HasForm.{tail, second_run, answer, of_answer}
use Rattle.cert_text.proofs.lines.PresentationLines.{begins_with_p, no_prime-item}

pub no-version : (line : List ℕ) → (line ≡ version_line 1 → ⊥) → (Q : Place) → HasForm for_version line Q → ⊥
no-version line other Q version = other refl

-- behind the presentation, a line that begins as that of a prime does
pub no-prime : (L : LPresentation) (line : List ℕ) → begins_with_p line ≡ true → ((p : ℕ) → IsOffered p → ¬ (line ≡ prime_line p))
    → (Q : Place) → HasForm (in_presentation L) line Q → ⊥
no-prime L line begins none Q (item L2 M other a e) = let bad : true ≡ false = sym begins ∙ no_prime-item M (canonical_lines L) line e in cc
no-prime L line begins none Q (prime L2 p o) = none p o refl

pub no-class : (L : LPresentation) (p : ℕ) (line : List ℕ) → ((c : ℕ) → 1 ≤ c → c ≤ max_class → ¬ (line ≡ class_line c)) → (Q : Place)
    → HasForm (for_class L p) line Q → ⊥
no-class L p line none Q (class L2 q c a b) = none c a b refl

-- the run that comes first
abbrev pub first_run : Bool → Run
first_run true = Iterated
first_run false = Whole

pub no-run : (H : Head) (line : List ℕ) → (line ≡ run_line (first_run (has_two_runs H.presentation)) → ⊥) → (Q : Place)
    → HasForm (for_run H) line Q → ⊥
no-run H line other Q (first_of_two_runs H2 two) = other (ap (λ (b : Bool). run_line (first_run b)) (sym two))
no-run H line other Q (only_run H2 one) = other (ap (λ (b : Bool). run_line (first_run b)) (sym one))

-- no line of the step that is read follows
abbrev pub HasNoFurther : Head → Run → List StepLines → List ℕ → Type 0
HasNoFurther H run [] line = Unit {0}
HasNoFurther H run (s ∷ ss) line = ((a : RowSource) → s.tails ≡ [] → is_source_in H.presentation run a ≡ true → ¬ (line ≡ source_line a))
    × ((l : TailLine) → are_tail_lines H.prime (length s.sources) (s.tails ++ l ∷ []) 1 (s.tails ++ l ∷ []) ≡ true → ¬ (line ≡ tail_line l))

pub no-step : (H : Head) (run : Run) (earlier ss : List StepLines) (line : List ℕ) → (line ≡ step_line (suc (length ss)) → ⊥)
    → (line ≡ end_line run → ⊥) → HasNoFurther H run ss line
    → (Q : Place) → HasForm (in_run H run earlier ss) line Q → ⊥
no-step H run earlier ss line other end none Q (step H2 run2 earlier2 ss2) = other refl
no-step H run earlier ss line other end none Q (source H2 run2 earlier2 s ss2 a h empty inside) = none.0 a empty inside refl
no-step H run earlier ss line other end none Q (tail H2 run2 earlier2 s ss2 l h lines) = none.1 l lines refl
no-step H run earlier ss line other end none Q (second_run H2 ss2) = end refl
no-step H run earlier ss line other end none Q (answer H2 earlier2 ss2) = end refl

-- lines of which none begins as that of a prime does lead through the presentation

item-reached : (L : LPresentation) (l : List ℕ) (P : Place) → begins_with_p l ≡ false → HasForm (in_presentation L) l P
    → (M : LPresentation) × HasText M × (canonical_lines M ≡ canonical_lines L ++ l ∷ []) × (P ≡ in_presentation M)
item-reached L l P other (item L2 M line text e) = (M, text, e, refl)
item-reached L l P other (prime L2 p o) = let bad : true ≡ false = other in cc

pub presentation-reached : (L : LPresentation) (done ls : List (List ℕ)) (Q : Place) → HasText L → canonical_lines L ≡ done
    → AllByRecursion (λ l. begins_with_p l ≡ false) ls
    → Leads Place HasForm (in_presentation L) ls Q → (M : LPresentation) × HasText M × (canonical_lines M ≡ done ++ ls)
    × (Q ≡ in_presentation M)
presentation-reached L done [] Q text e others a = (L, text, e ∙ sym (append-nil done), sym a)
presentation-reached L done (l ∷ ls) Q text e others a =
    let next = item-reached L l a.0 others.0 a.1 in
    let more = presentation-reached next.0 (done ++ l ∷ []) ls Q next.1 (next.2 ∙ ap (λ (x : List (List ℕ)). x ++ l ∷ []) e) others.1
    (subst (λ (x : Place). Leads Place HasForm x ls Q) next.3 a.2) in
    (more.0, more.1, more.2 ∙ append_assoc done (l ∷ []) ls, more.3)

-- and so they are the lines of a canonical text
generators-reached : (l : List ℕ) (P : Place) → HasForm for_generators l P → (M : LPresentation) × HasText M × (canonical_lines M ≡ l ∷ [])
    × (P ≡ in_presentation M)
generators-reached l P (generators L line text e) = (L, text, e, refl)

pub canonical-reached : (l : List ℕ) (ls : List (List ℕ)) (Q : Place) → AllByRecursion (λ x. begins_with_p x ≡ false) (l ∷ ls)
    → Leads Place HasForm for_generators (l ∷ ls) Q
    → (M : LPresentation) × HasText M × (canonical_lines M ≡ l ∷ ls) × (Q ≡ in_presentation M)
canonical-reached l ls Q others a =
    let first = generators-reached l a.0 a.1 in
    presentation-reached first.0 (l ∷ []) ls Q first.1 first.2 others.1 (subst (λ (x : Place). Leads Place HasForm x ls Q) first.3 a.2)

-- inside the answer
module _ (H : Head) (earlier steps : List StepLines) where
  Begins-answer : (P : answers.Place) (bytes : List ℕ) (m : ℕ) → answer_faults.Begins P bytes m
      → Begins Place HasForm (in_answer H earlier steps P) bytes m
  Begins-answer P bytes zero b = tt
  Begins-answer P bytes (suc m) b =
      (b.0, in_answer H earlier steps b.1, b.2, of_answer H earlier steps P b.0 b.1 b.3, b.4, Begins-answer b.1 b.2 m b.5)

  back-form : (P : answers.Place) (line : List ℕ) (Q : Place) → HasForm (in_answer H earlier steps P) line Q → (A : answers.Place)
      × answers.HasForm P line A × (Q ≡ in_answer H earlier steps A)
  back-form P line Q (of_answer H2 earlier2 steps2 P2 l A f) = (A, f, refl)

  answer-Begins : (P : answers.Place) (bytes : List ℕ) (m : ℕ) → Begins Place HasForm (in_answer H earlier steps P) bytes m
      → answer_faults.Begins P bytes m
  answer-Begins P bytes zero b = tt
  answer-Begins P bytes (suc m) b =
      let back = back-form P b.0 b.1 b.3 in
      (b.0, back.0, b.2, back.1, b.4, answer-Begins back.0 b.2 m (subst (λ (x : Place). Begins Place HasForm x b.2 m) back.2 b.5))

  answer-IsWhole : (P : answers.Place) (bytes : List ℕ) (m : ℕ) → IsWhole Place HasForm IsEnd (in_answer H earlier steps P) bytes m
      → answer_faults.IsWhole P bytes m
  answer-IsWhole P bytes zero w = w
  answer-IsWhole P bytes (suc m) w =
      let back = back-form P w.0 w.1 w.3 in
      (w.0, back.0, w.2, back.1, w.4, answer-IsWhole back.0 w.2 m (subst (λ (x : Place). IsWhole Place HasForm IsEnd x w.2 m) back.2 w.5))

  pub IsFirstBad-answer : (P : answers.Place) (bytes : List ℕ) (k : ℕ) → answer_faults.IsFirstBad P bytes k
      → IsFirstBad Place HasForm IsEnd (in_answer H earlier steps P) bytes k
  IsFirstBad-answer P bytes k bad = record {
    begins = Begins-answer P bytes k bad.begins;
    no_further = λ b. bad.no_further (answer-Begins P bytes (suc k) b);
    not_whole = λ m w. bad.not_whole m (answer-IsWhole P bytes m w);
  }
