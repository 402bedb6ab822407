-- No step of a run names more sources than its cover has tails.
use Rattle.std.proofs.Common.{◌≡◌, ◌⊎◌, ℕ, zero, suc, ◌+◌, ◌<◌, ◌≤◌, List, [], ◌∷◌, ◌++◌, length, get_or, refl, ap, sym, ◌∙◌, subst, arith}
use Rattle.std.proofs.Common.{inl, inr, ⊎_elim, length-append}
use Rattle.std.proofs.lemmas.Bool.{cases_lt}
use Rattle.std.proofs.lemmas.List.{append-nil, length-map, get_or-append-add}
use Rattle.pq_base.specs.LPresentation.{LPresentation}
use Rattle.pq_base.specs.Answer.{Answer}
use Rattle.pc_presentation.specs.Collection.{plain_push}
use Rattle.pc_presentation.specs.Parts.{trivial_answer}
use Rattle.p_cover.specs.Covers.{CoverOf}
use Rattle.cover_quotient.specs.NextAnswer.{eliminated}
use Rattle.cover_quotient.specs.Stages.{full_cover_of}
use Rattle.derivation_log.specs.declared.source.Run.{Run}
use Rattle.derivation_log.specs.HeldSteps.{HeldStep}
use Rattle.derivation_log.specs.HeldRuns.{IsHeldStep, AreHeldSteps, AreStoppedSteps}
use Rattle.derivation_log.specs.HeldLines.{held_lines, IsTold, AreLinesOf}
use Rattle.derivation_log.specs.Certificates.{StepLines, Certificate, steps_of, step_of, presentation_of}
use Rattle.derivation_log.specs.CertificateRuns.{cover_at}
use Rattle.derivation_log.specs.CertificateParts.{full_kind}
use Rattle.derivation_log.proofs.BuiltRuns.{answer_of, held-at, told-at, line-at, step-is, step-told, cover-is}
use Rattle.derivation_log.proofs.PassedRuns.{presentation_of-names}
use Rattle.certified_runs.specs.RunLaws.{NamesFewSources, RunsNameFewSources}

own : (A : Answer) → (full_cover_of A).answer ≡ A
own A = refl

module _ (c : Certificate) (run : Run) where
  abbrev L : LPresentation
  L = presentation_of c run

  abbrev first : Answer
  first = trivial_answer c.prime c.presentation.names

  abbrev none : HeldStep
  none = record { sources = []; prime = 0; width = 0; added = []; rows = [] }

  -- a held step at its place
  few-at : (k : ℕ) (A : Answer) (s : HeldStep) → IsHeldStep L plain_push (full_cover_of A) (full_kind.tested A) s → IsTold s
      → cover_at full_cover_of c run k ≡ full_cover_of A → step_of c run k ≡ held_lines s → NamesFewSources full_cover_of c run k
  few-at k A s is told cover line =
      let sources = told.sources in
      let few = told.few in
      let width = is.width in
      let here : length s.sources ≤ length (full_cover_of A).sources = omega arith in
      subst (λ (D : CoverOf). length (step_of c run k).sources ≤ length D.sources) (sym cover)
      (subst (λ (l : StepLines). length l.sources ≤ length (full_cover_of A).sources) (sym line) here)

  answer-last : (ss : List HeldStep) (A B : Answer) → AreHeldSteps L plain_push full_cover_of full_kind.tested A ss B
      → answer_of L plain_push full_cover_of full_kind.tested own A ss (length ss) ≡ B
  answer-last [] A B all = all
  answer-last (s ∷ ss) A B all = answer-last ss (eliminated (full_cover_of A) s.rows) B all.2

  module _ (kept more : List HeldStep) (B : Answer) (lines : AreLinesOf (steps_of c run) (kept ++ more))
      (held : AreHeldSteps L plain_push full_cover_of full_kind.tested first kept B) where
    few-kept : (k : ℕ) → k < length kept → NamesFewSources full_cover_of c run (suc k)
    few-kept k l =
        few-at (suc k) (answer_of L plain_push full_cover_of full_kind.tested own first kept k) (get_or kept k none)
        (held-at L plain_push full_cover_of full_kind.tested own kept first B k none held l).is
        (step-told L plain_push full_cover_of full_kind.tested own c run kept more B lines held k l)
        (cover-is L plain_push full_cover_of full_kind.tested own c run kept more B lines held k (omega arith))
        (step-is L plain_push full_cover_of full_kind.tested own c run kept more B lines held k l)

    -- the step behind them that keeps no tail
    few-stopped : (t : HeldStep) → more ≡ t ∷ [] → IsHeldStep L plain_push (full_cover_of B) (full_kind.tested B) t
        → NamesFewSources full_cover_of c run (suc (length kept))
    few-stopped t e is =
        let long : length (kept ++ more) ≡ length kept + length more = length-append kept more in
        let one : length more ≡ 1 = ap (λ (ss : List HeldStep). length ss) e in
        let inside : length kept < length (kept ++ more) = omega arith in
        let place : length kept ≡ length kept + 0 = omega arith in
        let last : get_or (kept ++ more) (length kept) none ≡ t =
        ap (λ (k : ℕ). get_or (kept ++ more) k none) place ∙ get_or-append-add kept more 0 none
        ∙ ap (λ (ss : List HeldStep). get_or ss 0 none) e in
        few-at (suc (length kept)) B t is
        (subst IsTold last (told-at L plain_push full_cover_of full_kind.tested own (kept ++ more) (length kept) none lines.told inside))
        (cover-is L plain_push full_cover_of full_kind.tested own c run kept more B lines held (length kept) (omega arith)
        ∙ ap full_cover_of (answer-last kept first B held))
        (line-at L plain_push full_cover_of full_kind.tested own c run kept more B lines held (length kept) inside ∙ ap held_lines last)

  few-in : (steps : List HeldStep) (B : Answer) → AreLinesOf (steps_of c run) steps
      → (AreHeldSteps L plain_push full_cover_of full_kind.tested first steps B × (length steps ≡ c.class))
      ⊎ AreStoppedSteps L plain_push full_cover_of full_kind.tested c.class first steps B
      → (k : ℕ) → 1 ≤ k → k ≤ length (steps_of c run) → NamesFewSources full_cover_of c run k
  few-in steps B lines held zero some l = absurd (omega arith)
  few-in steps B lines (inl all) (suc k) some l =
      let long : length (steps_of c run) ≡ length steps = ap (λ (ls : List StepLines). length ls) lines.are ∙ length-map steps held_lines in
      few-kept steps [] B (subst (AreLinesOf (steps_of c run)) (sym (append-nil steps)) lines) all.0 k (omega arith)
  few-in steps B lines (inr h) (suc k) some l =
      let e : steps ≡ h.earlier ++ h.last ∷ [] = h.all in
      let longer : length steps ≡ length h.earlier + 1 = ap (λ (ss : List HeldStep). length ss) e ∙ length-append h.earlier (h.last ∷ []) in
      let long : length (steps_of c run) ≡ length steps = ap (λ (ls : List StepLines). length ls) lines.are ∙ length-map steps held_lines in
      let here : AreLinesOf (steps_of c run) (h.earlier ++ h.last ∷ []) = subst (AreLinesOf (steps_of c run)) e lines in
      ⊎_elim (λ before. few-kept h.earlier (h.last ∷ []) B here h.held k before)
      (λ not_before.
      let last : length h.earlier ≡ k = omega arith in
      subst (λ (j : ℕ). NamesFewSources full_cover_of c run (suc j)) last
      (few-stopped h.earlier (h.last ∷ []) B here h.held h.last refl h.is_step))
      (cases_lt k (length h.earlier))

pub runs_name_few_sources : RunsNameFewSources
runs_name_few_sources c run A is k first last =
    few-in c run is.steps A is.lines
    (subst
    (λ (ns : List (List ℕ)). (AreHeldSteps (presentation_of c run) plain_push full_cover_of full_kind.tested
    (trivial_answer c.prime ns) is.steps A
    × (length is.steps ≡ c.class))
    ⊎ AreStoppedSteps (presentation_of c run) plain_push full_cover_of full_kind.tested c.class (trivial_answer c.prime ns) is.steps A)
    (presentation_of-names c run) is.held) k first last
