-- The lines of the steps of a run have their form in their places.
use Rattle.std.proofs.Common.{◌≡◌, ℕ, suc, true, ◌&&◌, List, [], ◌∷◌, ◌++◌, length, map, refl, ap, sym, subst, ◌∙◌, append_assoc}
use Rattle.std.proofs.Common.{append-nil}
use Rattle.std.specs.Prelude.{reverse}
use Rattle.std.proofs.lemmas.Bool.{and_parts}
use Rattle.std.proofs.lemmas.List.{reverse-append}
use Rattle.derivation_log.specs.declared.source.Run.{Run}
use Rattle.derivation_log.specs.declared.source.RowSource.{RowSource}
use Rattle.derivation_log.specs.Certificates.{TailLine, StepLines}
use Rattle.derivation_log.specs.CertificateForms.{are_tail_lines, is_source_in, are_sources_in, are_steps_in}
use Rattle.derivation_log.proofs.NextTailLines.{tail_lines-front}
use Rattle.cert_text.specs.CertificateText.{source_line, tail_line, steps_lines}
use Rattle.answer_text.specs.LineByLine.{Leads}
use Rattle.cert_text.specs.CertificatePlaces.{Place, HasForm, IsEnd, Head, IsHead, no_lines}
use Rattle.cert_text.specs.CertificatePlaces.Place.{in_run}
use Rattle.cert_text.specs.CertificatePlaces.HasForm.{step, source, tail}
use Rattle.answer_text.proofs.lines.LineByLine.{Leads-append}
use Rattle.cert_text.proofs.lines.FormLaws.{tells_places}

abbrev step_of : List RowSource → List TailLine → StepLines
step_of sources tails = record { sources = sources; tails = tails }

module _ (H : Head) (head : IsHead H) (run : Run) (earlier : List StepLines) where
  sources-lead : (ss : List StepLines) (done left : List RowSource) → are_sources_in H.presentation run left ≡ true
      → Leads Place HasForm (in_run H run earlier (step_of done [] ∷ ss)) (map source_line left)
      (in_run H run earlier (step_of (done ++ left) [] ∷ ss))
  sources-lead ss done [] h = ap (λ (xs : List RowSource). in_run H run earlier (step_of xs [] ∷ ss)) (sym (append-nil done))
  sources-lead ss done (a ∷ left) h =
      let parts = and_parts (is_source_in H.presentation run a) (are_sources_in H.presentation run left) h in
      let more = sources-lead ss (done ++ a ∷ []) left parts.1 in (
        in_run H run earlier (step_of (done ++ a ∷ []) [] ∷ ss),
        source H run earlier (step_of done []) ss a head refl parts.0,
        subst (λ (xs : List RowSource). Leads Place HasForm (in_run H run earlier (step_of (done ++ a ∷ []) [] ∷ ss)) (map source_line left)
            (in_run H run earlier (step_of xs [] ∷ ss)))
            (append_assoc done (a ∷ []) left) more,
      )

  tails-lead : (ss : List StepLines) (sources : List RowSource) (done left : List TailLine)
      → are_tail_lines H.prime (length sources) (done ++ left) 1 (done ++ left) ≡ true
      → Leads Place HasForm (in_run H run earlier (step_of sources done ∷ ss)) (map tail_line left)
      (in_run H run earlier (step_of sources (done ++ left) ∷ ss))
  tails-lead ss sources done [] h = ap (λ (xs : List TailLine). in_run H run earlier (step_of sources xs ∷ ss)) (sym (append-nil done))
  tails-lead ss sources done (l ∷ left) h =
      let same : (done ++ l ∷ []) ++ left ≡ done ++ l ∷ left = append_assoc done (l ∷ []) left in
      let whole : are_tail_lines H.prime (length sources) ((done ++ l ∷ []) ++ left) 1 ((done ++ l ∷ []) ++ left) ≡ true =
      ap (λ (xs : List TailLine). are_tail_lines H.prime (length sources) xs 1 xs) same ∙ h in
      let more = tails-lead ss sources (done ++ l ∷ []) left whole in (
        in_run H run earlier (step_of sources (done ++ l ∷ []) ∷ ss),
        tail H run earlier (step_of sources done) ss l head
            (tail_lines-front H.prime (length sources) 1 (done ++ l ∷ []) left (done ++ l ∷ []) left whole),
        subst (λ (xs : List TailLine). Leads Place HasForm (in_run H run earlier (step_of sources (done ++ l ∷ []) ∷ ss))
            (map tail_line left) (in_run H run earlier (step_of sources xs ∷ ss)))
            same more,
      )

  -- behind some steps, the last of them first
  pub steps-lead : (done ss : List StepLines) → are_steps_in H.presentation H.prime run ss ≡ true
      → Leads Place HasForm (in_run H run earlier done) (steps_lines (length done) ss) (in_run H run earlier (reverse ss ++ done))
  steps-lead done [] h = refl
  steps-lead done (s ∷ ss) h =
      let first = and_parts (are_sources_in H.presentation run s.sources)
      (are_tail_lines H.prime (length s.sources) s.tails 1 s.tails && are_steps_in H.presentation H.prime run ss) h in
      let second = and_parts (are_tail_lines H.prime (length s.sources) s.tails 1 s.tails)
      (are_steps_in H.presentation H.prime run ss) first.1 in
      let turned : reverse (s ∷ ss) ++ done ≡ reverse ss ++ s ∷ done = ap (λ (xs : List StepLines). xs ++ done) (reverse-append (s ∷ []) ss)
      ∙ append_assoc (reverse ss) (s ∷ []) done in
      let more : Leads Place HasForm (in_run H run earlier (s ∷ done)) (steps_lines (suc (length done)) ss)
      (in_run H run earlier (reverse (s ∷ ss) ++ done)) =
      subst (λ (xs : List StepLines). Leads Place HasForm (in_run H run earlier (s ∷ done)) (steps_lines (suc (length done)) ss)
      (in_run H run earlier xs)) (sym turned) (steps-lead (s ∷ done) ss second.1) in (
        in_run H run earlier (no_lines ∷ done),
        step H run earlier done,
        subst (λ (ls : List (List ℕ)). Leads Place HasForm (in_run H run earlier (no_lines ∷ done)) ls
            (in_run H run earlier (reverse (s ∷ ss) ++ done)))
            (sym (append_assoc (map source_line s.sources) (map tail_line s.tails) (steps_lines (suc (length done)) ss)))
            (Leads-append Place HasForm IsEnd tells_places (in_run H run earlier (no_lines ∷ done))
            (in_run H run earlier (step_of s.sources [] ∷ done)) (in_run H run earlier (reverse (s ∷ ss) ++ done))
            (map source_line s.sources) (map tail_line s.tails ++ steps_lines (suc (length done)) ss)
            (sources-lead done [] s.sources first.0)
            (Leads-append Place HasForm IsEnd tells_places (in_run H run earlier (step_of s.sources [] ∷ done))
            (in_run H run earlier (s ∷ done)) (in_run H run earlier (reverse (s ∷ ss) ++ done))
            (map tail_line s.tails) (steps_lines (suc (length done)) ss) (tails-lead done s.sources [] s.tails second.0) more)),
      )
