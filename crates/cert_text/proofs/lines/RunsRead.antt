-- The steps of a run are read one by one, and where neither a step nor the line behind all follows, the next line has no form.
use Rattle.std.proofs.Common.{◌≡◌, ◌+◌, ℕ, suc, true, ◌&&◌, List, [], ◌∷◌, ◌++◌, length, map, refl, ap, sym, subst, ◌∙◌, append_assoc}
use Rattle.std.proofs.Common.{append-nil, arith}
use Rattle.std.specs.Prelude.{reverse}
use Rattle.std.proofs.lemmas.Bool.{and_parts, and_from}
use Rattle.std.proofs.lemmas.List.{reverse-append, length-append, length-map, length-reverse}
use Rattle.pq_base.specs.LPresentation.{LPresentation}
use Rattle.pq_base.specs.Lines.{text_of_lines}
use Rattle.pq_base.proofs.LineLaws.{text_of_lines-append}
use Rattle.derivation_log.specs.declared.source.Run.{Run}
use Rattle.derivation_log.specs.Certificates.{StepLines}
use Rattle.derivation_log.specs.CertificateForms.{are_sources_in, are_tail_lines, are_steps_in}
use Rattle.cert_text.specs.CertificateText.{source_line, tail_line, step_line, step_lines, steps_lines}
use Rattle.answer_text.specs.LineByLine.{Leads, IsFirstBad}
use Rattle.cert_text.specs.CertificatePlaces.{Place, HasForm, IsEnd, Head, IsHead}
use Rattle.cert_text.specs.CertificatePlaces.Place.{in_run}
use Rattle.cert_text.specs.ReadSoFar.{IsStepRead, HasNoMore, AreStepsRead, end_line}
use Rattle.cert_text.proofs.lines.FormLaws.{tells_places}
use Rattle.answer_text.proofs.lines.FaultSteps.{IsFirstBad-here, IsFirstBad-behind}
use Rattle.cert_text.proofs.lines.RunLeads.{steps-lead}
use Rattle.cert_text.proofs.lines.StuckPlaces.{HasNoFurther, no-step}

steps_lines-append : (k : ℕ) (ss ks : List StepLines) → steps_lines k (ss ++ ks) ≡ steps_lines k ss ++ steps_lines (k + length ss) ks
steps_lines-append k [] ks = let same : k ≡ k + 0 = omega arith in ap (λ (n : ℕ). steps_lines n ks) same
steps_lines-append k (s ∷ ss) ks =
    let same : suc k + length ss ≡ k + suc (length ss) = omega arith in
    ap (λ (ls : List (List ℕ)). step_lines (suc k) s ++ ls)
    (steps_lines-append (suc k) ss ks ∙ ap (λ (n : ℕ). steps_lines (suc k) ss ++ steps_lines n ks) same)
    ∙ sym (append_assoc (step_lines (suc k) s) (steps_lines (suc k) ss) (steps_lines (k + suc (length ss)) ks))

-- the lines of some steps and of one more
steps_lines-grown : (ss : List StepLines) (s : StepLines) (j : ℕ) → j ≡ length ss + 1
    → steps_lines 0 (ss ++ s ∷ []) ≡ steps_lines 0 ss ++ step_lines j s
steps_lines-grown ss s j e =
    let same : suc (0 + length ss) ≡ j = omega arith in
    steps_lines-append 0 ss (s ∷ []) ∙ ap (λ (ls : List (List ℕ)). steps_lines 0 ss ++ ls) (append-nil (step_lines (suc (0 + length ss)) s))
    ∙ ap (λ (n : ℕ). steps_lines 0 ss ++ step_lines n s) same

are_steps-next : (L : LPresentation) (p : ℕ) (run : Run) (ss : List StepLines) (s : StepLines) → are_steps_in L p run ss ≡ true
    → are_sources_in L run s.sources ≡ true
    → are_tail_lines p (length s.sources) s.tails 1 s.tails ≡ true → are_steps_in L p run (ss ++ s ∷ []) ≡ true
are_steps-next L p run [] s h sources tails =
    and_from (are_sources_in L run s.sources) _ sources (and_from (are_tail_lines p (length s.sources) s.tails 1 s.tails) true tails refl)
are_steps-next L p run (k ∷ ss) s h sources tails =
    let first =
    and_parts (are_sources_in L run k.sources) (are_tail_lines p (length k.sources) k.tails 1 k.tails && are_steps_in L p run ss) h in
    let second = and_parts (are_tail_lines p (length k.sources) k.tails 1 k.tails) (are_steps_in L p run ss) first.1 in
    and_from (are_sources_in L run k.sources) _ first.0
    (and_from (are_tail_lines p (length k.sources) k.tails 1 k.tails) _ second.0 (are_steps-next L p run ss s second.1 sources tails))

step-grown : (text rest lines left : List ℕ) (ls part : List (List ℕ)) (line : List ℕ) → text ≡ text_of_lines ls ++ rest
    → rest ≡ line ++ 10 ∷ lines → lines ≡ text_of_lines part ++ left
    → text ≡ text_of_lines (ls ++ (line ∷ part)) ++ left
step-grown text rest lines left ls part line so_far first more =
    so_far ∙ ap (λ (t : List ℕ). text_of_lines ls ++ t)
    (first ∙ ap (λ (t : List ℕ). line ++ 10 ∷ t) more ∙ sym (append_assoc line (10 ∷ text_of_lines part) left))
    ∙ sym (append_assoc (text_of_lines ls) (line ++ 10 ∷ text_of_lines part) left)
    ∙ ap (λ (t : List ℕ). t ++ left) (sym (text_of_lines-append ls (line ∷ part)))

-- one step more was read
pub steps-next : (L : LPresentation) (p : ℕ) (run : Run) (text : List ℕ) (first : ℕ) (ss ks : List StepLines) (s : StepLines)
    (rest lines left : List ℕ) (number next j : ℕ)
    → ks ≡ ss ++ s ∷ [] → j ≡ length ss + 1 → rest ≡ step_line j ++ 10 ∷ lines → IsStepRead L p run lines s left
    → next ≡ number + 1 + (length s.sources + length s.tails)
    → AreStepsRead L p run text first ss rest number → AreStepsRead L p run text first ks left next
steps-next L p run text first ss ks s rest lines left number next j pushed count line read after so_far =
    subst (λ (xs : List StepLines). AreStepsRead L p run text first xs left next) (sym pushed) (record {
      steps = are_steps-next L p run ss s so_far.steps read.sources read.tails;
      lines =
          step-grown text rest lines left (steps_lines 0 ss) (map source_line s.sources ++ map tail_line s.tails)
          (step_line j) so_far.lines line read.lines
          ∙ ap (λ (ls : List (List ℕ)). text_of_lines ls ++ left) (sym (steps_lines-grown ss s j count));
      numbered = numbered;
      none = subst (λ (xs : List StepLines). HasNoMore L p run xs left) (sym (reverse-append ss (s ∷ []))) read.none;
    }) where
      numbered : next ≡ first + length (steps_lines 0 (ss ++ s ∷ []))
      numbered =
          let grown : length (steps_lines 0 (ss ++ s ∷ [])) ≡ length (steps_lines 0 ss) + length (step_lines j s) =
          ap (λ (ls : List (List ℕ)). length ls) (steps_lines-grown ss s j count) ∙ length-append (steps_lines 0 ss) (step_lines j s) in
          let part : length (map source_line s.sources ++ map tail_line s.tails) ≡ length (map source_line s.sources) + length
          (map tail_line s.tails) = length-append (map source_line s.sources) (map tail_line s.tails) in
          let sources : length (map source_line s.sources) ≡ length s.sources = length-map s.sources source_line in
          let tails : length (map tail_line s.tails) ≡ length s.tails = length-map s.tails tail_line in
          let before : number ≡ first + length (steps_lines 0 ss) = so_far.numbered in
          omega arith

pub steps-none : (L : LPresentation) (p : ℕ) (run : Run) (text : List ℕ) (first : ℕ) → AreStepsRead L p run text first [] text first
steps-none L p run text first = record { steps = refl; lines = refl; numbered = omega arith; none = tt }

module _ (H : Head) (run : Run) (earlier ss : List StepLines) (text rest : List ℕ) (first number : ℕ)
    (read : AreStepsRead H.presentation H.prime run text first ss rest number) where
  further : (xs : List StepLines) → HasNoMore H.presentation H.prime run xs rest → (l more : List ℕ) → rest ≡ l ++ 10 ∷ more
      → HasNoFurther H run xs l
  further [] none l more e = tt
  further (s ∷ xs) none l more e = (
    λ a empty named same. none.no_source empty a more named (e ∙ ap (λ (t : List ℕ). t ++ 10 ∷ more) same),
    λ t next same. none.no_tail t more next (e ∙ ap (λ (x : List ℕ). x ++ 10 ∷ more) same),
  )

  -- the next line has no form
  pub run-bad : IsHead H → ((more : List ℕ) → ¬ (rest ≡ step_line (suc (length ss)) ++ 10 ∷ more))
      → ((more : List ℕ) → ¬ (rest ≡ end_line run ++ 10 ∷ more))
      → IsFirstBad Place HasForm IsEnd (in_run H run earlier []) text (length (steps_lines 0 ss))
  run-bad head no_step no_end =
      let lead : Leads Place HasForm (in_run H run earlier []) (steps_lines 0 ss) (in_run H run earlier (reverse ss)) =
      subst (λ (xs : List StepLines). Leads Place HasForm (in_run H run earlier []) (steps_lines 0 ss) (in_run H run earlier xs))
      (append-nil (reverse ss)) (steps-lead H head run earlier [] ss read.steps) in
      let here : IsFirstBad Place HasForm IsEnd (in_run H run earlier (reverse ss)) rest 0 =
      IsFirstBad-here Place HasForm IsEnd tells_places (in_run H run earlier (reverse ss)) rest (λ l more Q f e.
      no-step H run earlier (reverse ss) l
      (λ same. no_step more (e ∙ ap (λ (t : List ℕ). t ++ 10 ∷ more) (same ∙ ap (λ (n : ℕ). step_line (suc n)) (length-reverse ss))))
      (λ same. no_end more (e ∙ ap (λ (t : List ℕ). t ++ 10 ∷ more) same)) (further (reverse ss) read.none l more e) Q f)
      (λ end empty. end) in
      let zero_more : length (steps_lines 0 ss) + 0 ≡ length (steps_lines 0 ss) = omega arith in
      subst (λ (n : ℕ). IsFirstBad Place HasForm IsEnd (in_run H run earlier []) text n) zero_more
      (subst (λ (t : List ℕ). IsFirstBad Place HasForm IsEnd (in_run H run earlier []) t (length (steps_lines 0 ss) + 0)) (sym read.lines)
      (IsFirstBad-behind Place HasForm IsEnd tells_places (in_run H run earlier []) (in_run H run earlier (reverse ss))
      (steps_lines 0 ss) rest 0 lead here))
