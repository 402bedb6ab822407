-- One step that passes: where it keeps a tail, all elements that obey the presentation fit the next answer at the next level, which is an
-- answer of the next class; and where it keeps none they fit the same answer at every later level.
use Rattle.std.proofs.Common.{◌≡◌, ◌≢◌, ◌<◌, ◌≤◌, ℕ, suc, true, List, [], ◌∷◌, length, refl, ap, sym, ◌∙◌, subst, arith}
use Rattle.std.specs.List.{All}
use Rattle.std.proofs.lemmas.List.Elements.{All-weaker}
use Rattle.pq_base.specs.Limits.{max_class}
use Rattle.pq_base.specs.LPresentation.{LPresentation, IsLPresentation}
use Rattle.pq_base.specs.Prime.{IsOffered}
use Rattle.pq_base.specs.Answer.{Answer, class_of}
use Rattle.pq_base.proofs.PrimeLaws.{offered-two}
use Rattle.fp_echelon.specs.Reduced.{BasisRow}
use Rattle.p_cover.specs.Covers.{CoverOf}
use Rattle.cover_quotient.specs.AnswerLaws.{IsBasisOver, IsNextAnswer, kept_count}
use Rattle.cover_quotient.specs.Defining.{MayBeKept, KeptMayBeKept}
use Rattle.cover_quotient.specs.NextAnswer.{kept_sources, eliminated, sources_at}
use Rattle.cover_quotient.specs.Stages.{IsFitted, IsTrustedBasis, OwesToObeying}
use Rattle.cover_quotient.proofs.next_answers.AnswerLaws.{next_answers_are_answers, next_answers_have_the_next_class}
use Rattle.cover_quotient.proofs.stages.FittedSteps.{next_answers_are_fitted, fitted_answers_stay}
use Rattle.derivation_log.specs.Certificates.{StepLines}
use Rattle.derivation_log.specs.CertificateForms.{are_tail_lines}
use Rattle.derivation_log.specs.CertificateRuns.{kept_in, next_by}
use Rattle.derivation_log.specs.CertificateParts.{CertificateKind, AreSumsOfRows, GiveAnswer}
use Rattle.derivation_log.proofs.BuiltRuns.{next_where-kept, next_where-none}
use Rattle.valid_certificates.specs.LineBases.{HasBasis}
use Rattle.valid_certificates.specs.ReachedAnswers.{IsSoundKind, AreTrusted, IsReached}
use Rattle.valid_certificates.proofs.LineBases.{lines_have_bases}
use Rattle.valid_certificates.proofs.SourceRows.{rows_of_sources_are_trusted}

some-kept : (ts : List ℕ) → ts ≢ [] → 1 ≤ length ts
some-kept [] some = absurd (some refl)
some-kept (t ∷ ts) some = omega arith

-- a step that passes, over a cover of an answer that was reached
pub record PassesOver (kind : CertificateKind) (L : LPresentation) (p k : ℕ) (C : CoverOf) (s : StepLines) : Type 0 where
  pub reached : IsReached L p k C.answer
  pub owes : OwesToObeying L C
  pub form : are_tail_lines p (length s.sources) s.tails 1 s.tails ≡ true
  pub sums : AreSumsOfRows L C s
  pub rank : GiveAnswer kind C s

module _ (kind : CertificateKind) (sound : IsSoundKind kind) (L : LPresentation)
    (words : IsLPresentation L) (p k : ℕ) (C : CoverOf) (s : StepLines) (passes : PassesOver kind L p k C s) where
  prime : IsOffered C.answer.presentation.prime
  prime = subst IsOffered (sym passes.reached.fitted.prime) passes.reached.fitted.offered

  trusted : AreTrusted L C passes.sums.rows
  trusted =
      rows_of_sources_are_trusted L C s.sources passes.sums.rows words passes.owes.cover prime passes.reached.fitted.names passes.sums.are

  pub step_basis : HasBasis C passes.sums.rows s
  step_basis =
      let two = offered-two C.answer.presentation.prime prime in
      lines_have_bases C passes.sums.rows s (record {
        prime = omega arith;
        form = subst (λ (q : ℕ). are_tail_lines q (length s.sources) s.tails 1 s.tails ≡ true) (sym passes.reached.fitted.prime)
            passes.form;
        sums = passes.sums.lines;
      })

  abbrev bs : List BasisRow
  bs = step_basis.basis

  pub step-over : IsBasisOver C bs
  step-over = record { cover = passes.owes.cover; prime = prime; reduced = step_basis.is.reduced }

  trusted_basis : IsTrustedBasis L C passes.sums.rows bs
  trusted_basis = record { are = trusted.are; trusted = trusted.trusted; basis = step_basis.is }

  pub kept_allowed : All (kind.may_keep C.answer) (kept_sources C bs)
  kept_allowed = subst (λ (ts : List ℕ). All (kind.may_keep C.answer) (sources_at ts C.sources)) step_basis.kept passes.rank.may_keep

  kept_may : KeptMayBeKept C bs
  kept_may =
      All-weaker (kind.may_keep C.answer) (MayBeKept C.answer (class_of C.answer)) (sound.may_keep C.answer) (kept_sources C bs)
      kept_allowed

  pub step-count : kept_in C s ≢ [] → 1 ≤ kept_count C bs
  step-count some = subst (λ (ts : List ℕ). 1 ≤ length ts) step_basis.kept (some-kept (kept_in C s) some)

  -- a step that keeps a tail
  pub step-makes : kept_in C s ≢ [] → next_by C s ≡ eliminated C bs
  step-makes some = step_basis.next ∙ next_where-kept (kept_in C s) C.answer (eliminated C bs) some

  next-reached : kept_in C s ≢ [] → k < max_class → IsReached L p (suc k) (eliminated C bs)
  next-reached some few = record {
    fitted = next_answers_are_fitted L p k C passes.sums.rows bs passes.reached.fitted passes.owes trusted_basis
        passes.reached.shows kept_may few (step-count some);
    shows = (next_answers_are_answers C bs step-over kept_may (subst (λ (j : ℕ). j < max_class) (sym passes.reached.shows) few)
        (step-count some)).class ∙ ap suc passes.reached.shows;
    class = next_answers_have_the_next_class C bs step-over k passes.reached.class;
  }

  pub step-reaches : kept_in C s ≢ [] → k < max_class → IsReached L p (suc k) (next_by C s)
  step-reaches some few = subst (IsReached L p (suc k)) (sym (step-makes some)) (next-reached some few)

  pub step-is_next : kept_in C s ≢ [] → k < max_class → IsNextAnswer C.answer (next_by C s)
  step-is_next some few =
      subst (IsNextAnswer C.answer) (sym (step-makes some))
      (next_answers_are_answers C bs step-over kept_may (subst (λ (j : ℕ). j < max_class) (sym passes.reached.shows) few) (step-count some))

  -- a step that keeps none
  pub step-stays : kept_in C s ≡ [] → next_by C s ≡ C.answer
  step-stays none = step_basis.next ∙ next_where-none (kept_in C s) C.answer (eliminated C bs) none

  pub step-fitted : kept_in C s ≡ [] → (d : ℕ) → k ≤ d → IsFitted L p d (next_by C s)
  step-fitted none d l =
      subst (IsFitted L p d) (sym (step-stays none))
      (fitted_answers_stay L p k C passes.sums.rows bs passes.reached.fitted passes.owes trusted_basis
      (ap (λ (ts : List ℕ). length ts) (sym step_basis.kept ∙ none)) d l)
