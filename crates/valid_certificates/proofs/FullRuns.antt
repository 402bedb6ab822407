-- Runs by full covers: the kind is sound, full covers owe nothing, and where the answer that a run builds is consistent and kills the
-- relators it is canonical, since each answer before it is this one, cut to its class.
use Rattle.std.proofs.Common.{◌≡◌, ◌≢◌, ◌<◌, ◌≤◌, ℕ, zero, suc, List, [], refl, sym, ◌∙◌, subst, arith}
use Rattle.pq_base.specs.LPresentation.{LPresentation}
use Rattle.pq_base.specs.Joined.{IsConsistent}
use Rattle.pq_base.specs.Answer.{Answer}
use Rattle.pq_base.specs.Canonical.{IsCanonical}
use Rattle.pq_base.specs.Largest.{Kills}
use Rattle.p_cover.specs.Covers.{CoverOf, all_sources}
use Rattle.p_cover.proofs.PartLaws.{part_of_itself}
use Rattle.fp_echelon.specs.Reduced.{BasisRow}
use Rattle.cover_quotient.specs.NextAnswer.{eliminated}
use Rattle.cover_quotient.specs.Stages.{full_cover_of}
use Rattle.cover_quotient.proofs.canonical_answers.CanonicalAnswers.{trivial_answers_are_canonical}
use Rattle.cover_quotient.proofs.stages.OwedTails.{full_covers_owe}
use Rattle.derivation_log.specs.declared.source.Run.{Run}
use Rattle.derivation_log.specs.Certificates.{StepLines, Certificate, step_of, presentation_of}
use Rattle.derivation_log.specs.CertificateRuns.{kept_in, answer_after}
use Rattle.derivation_log.specs.CertificateParts.{full_kind, built_by}
use Rattle.derivation_log.specs.ValidParts.{KeepsRun}
use Rattle.valid_certificates.specs.ReachedAnswers.{HasForm, IsSoundKind, IsHandedOn}
use Rattle.valid_certificates.specs.ValidRuns.{IsBuilt}
use Rattle.valid_certificates.proofs.PassedStep.{step_basis, step-over, step-count, step-makes}
use Rattle.valid_certificates.proofs.ValidRuns.{words-of, passes, kept-is, few, answers-after}
use Rattle.valid_certificates.proofs.AnswerCuts.{cut-consistent, cut-kills}
use Rattle.valid_certificates.proofs.CanonicalSteps.{next-canonical}

pub full-sound : IsSoundKind full_kind
full-sound = record { same_answer = λ A. refl; may_keep = λ A d may. may }

-- they owe nothing, so nothing else is kept of the answers
abbrev pub Nothing : Answer → Type 0
Nothing A = Unit {0}

pub full-handed : IsHandedOn full_kind Nothing
full-handed = record {
  start = λ p names. tt;
  owes = λ L p k A reached holds.
      full_covers_owe L (full_cover_of A) (record { answer = reached.fitted.answer; sources = part_of_itself (all_sources A) }) refl;
  grows = λ A bs over few some allowed holds. tt;
}

module _ (c : Certificate) (form : HasForm c) (run : Run) (keeps : KeepsRun full_kind c run)
    (built : IsBuilt full_kind c run) (consistent : IsConsistent (built_by full_kind.cover c run).presentation)
    (kills : Kills (presentation_of c run) (built_by full_kind.cover c run)) where
  abbrev L : LPresentation
  L = presentation_of c run

  abbrev after : ℕ → Answer
  after k = answer_after full_kind.cover c run k

  abbrev cover : ℕ → CoverOf
  cover k = full_cover_of (answer_after full_kind.cover c run k)

  abbrev step : ℕ → StepLines
  step k = step_of c run (suc k)

  -- the answers before the last
  after-consistent : (k : ℕ) → k ≤ built.kept → IsConsistent (after k).presentation
  after-consistent k l =
      subst (λ (A : Answer). IsConsistent A.presentation) (built.after.cuts k l)
      (cut-consistent (after built.kept) built.after.reached.fitted.answer k
      (subst (λ (A : Answer). IsConsistent A.presentation) built.last consistent))

  after-kills : (k : ℕ) → k ≤ built.kept → Kills L (after k)
  after-kills k l =
      subst (Kills L) (built.after.cuts k l)
      (cut-kills (after built.kept) built.after.reached.fitted.answer k L (subst (Kills L) built.last kills))

  one-more : (k : ℕ) → k < built.kept → IsCanonical (after k) → IsCanonical (after (suc k))
  one-more k l canonical =
      let limit = built.limit in
      let within = built.count in
      let before =
      answers-after full_kind full-sound Nothing full-handed c form run keeps k (omega arith) (omega arith)
      (λ j first last. built.keep j first (omega arith)) in
      let over = passes full_kind full-sound Nothing full-handed c form run keeps k (omega arith) before.is.reached before.holds in
      let words = words-of c run form.words in
      let some : kept_in (cover k) (step k) ≢ [] =
      λ none. built.keep (suc k) (omega arith) l (kept-is full_kind full-sound Nothing full-handed c form run keeps k ∙ none) in
      let bs : List BasisRow = (step_basis full_kind full-sound L words c.prime k (cover k) (step k) over).basis in
      let makes : after (suc k) ≡ eliminated (cover k) bs =
      step-makes full_kind full-sound L words c.prime k (cover k) (step k) over some in
      subst IsCanonical (sym makes)
      (next-canonical L c.prime k (cover k) bs (record {
        over = step-over full_kind full-sound L words c.prime k (cover k) (step k) over;
        full = refl;
        reached = before.is.reached;
        consistent = after-consistent k (omega arith);
        canonical = canonical;
        next_consistent = subst (λ (A : Answer). IsConsistent A.presentation) makes (after-consistent (suc k) l);
        next_kills = subst (Kills L) makes (after-kills (suc k) l);
      })
      (few full_kind full-sound Nothing full-handed c form run keeps k (omega arith))
      (step-count full_kind full-sound L words c.prime k (cover k) (step k) over some))

  after-canonical : (k : ℕ) → k ≤ built.kept → IsCanonical (after k)
  after-canonical zero l = trivial_answers_are_canonical c.prime c.presentation.names
  after-canonical (suc k) l = one-more k l (after-canonical k (omega arith))

  pub run-canonical : IsCanonical (built_by full_kind.cover c run)
  run-canonical = subst IsCanonical (sym built.last) (after-canonical built.kept (omega arith))
