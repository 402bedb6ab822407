-- What a tower says of its runs is what the laws ask for: a run in which some overlaps are tested is one in which any may be, and where
-- no largest quotient has an order above the limit on ranks, the rank is within it.
use Rattle.std.proofs.Common.{ℕ, ◌<◌, ◌≤◌, List, [], ◌∷◌, inl, inr, ⊎_elim, arith}
use Rattle.std.proofs.lemmas.Bool.{cases_lt}
use Rattle.pq_base.specs.Limits.{max_rank}
use Rattle.pq_base.specs.LPresentation.{LPresentation}
use Rattle.pq_base.specs.Answer.{Answer}
use Rattle.pq_base.specs.Largest.{IsLargest, HasOrder}
use Rattle.pc_presentation.specs.Rowed.{RowedPresentation}
use Rattle.pc_presentation.specs.Collection.{State}
use Rattle.pc_presentation.specs.Parts.{trivial_answer}
use Rattle.pc_presentation.specs.declared.overlap.Overlap.{Overlap}
use Rattle.p_cover.specs.Covers.{CoverOf}
use Rattle.cover_quotient.specs.NextAnswer.{eliminated}
use Rattle.cover_quotient.proofs.stages.LargestOrders.{largest_quotients_have_the_order}
use Rattle.derivation_log.specs.HeldSteps.{HeldStep}
use Rattle.derivation_log.specs.HeldRuns.{IsHeldStep, AreHeldSteps, IsHeldRun}
use Rattle.derivation_log.specs.CertificateParts.{full_kind}
use Rattle.derivation_log.specs.declared.source.RowSource.{RowSource}
use Rattle.derivation_log.specs.declared.source.RowSource.TheVariants.{Test, Fixed, Iterated}
use Rattle.derivation_log.specs.HeldRuns.{IsTestedSource}
use Rattle.pq_base.specs.Prime.{IsOffered}
use Rattle.pq_base.proofs.PrimeLaws.{offered-two}
use Rattle.pc_presentation.specs.Collection.{plain_push}
use Rattle.cover_quotient.specs.Stages.{full_cover_of}
use Rattle.derivation_log.specs.declared.source.Run.{Run}
use Rattle.derivation_log.specs.HeldLines.{AreLinesOf}
use Rattle.derivation_log.specs.Certificates.{Certificate, steps_of, presentation_of}
use Rattle.certified_runs.specs.RunLaws.{IsRunToLargest}

any-tested : (s : RowSource) → IsTestedSource (λ (o : Overlap). Unit {0}) s
any-tested (Test o) = tt
any-tested (Fixed i) = tt
any-tested (Iterated i s) = tt

module _ (L : LPresentation) (meaning : RowedPresentation → State → ℕ → State) (cover : Answer → CoverOf)
    (tested : Answer → Overlap → Type 0) where
  any-step : (C : CoverOf) (test : Overlap → Type 0) (s : HeldStep) → IsHeldStep L meaning C test s
      → IsHeldStep L meaning C (full_kind.tested C.answer) s
  any-step C test s held = record {
    basis = held.basis;
    prime = held.prime;
    width = held.width;
    rows = held.rows;
    tests = λ k d l. any-tested _;
  }

  any-steps : (A : Answer) (ss : List HeldStep) (B : Answer) → AreHeldSteps L meaning cover tested A ss B
      → AreHeldSteps L meaning cover full_kind.tested A ss B
  any-steps A [] B all = all
  any-steps A (s ∷ ss) B all =
      (any-step (cover A) (tested A) s all.0, all.1, any-steps (eliminated (cover A) s.rows) ss B all.2)

  pub any-run : (p c : ℕ) (ss : List HeldStep) (B : Answer) → IsHeldRun L meaning cover tested p c ss B
      → IsHeldRun L meaning cover full_kind.tested p c ss B
  any-run p c ss B (inl all) = inl (any-steps (trivial_answer p L.names) ss B all.0, all.1)
  any-run p c ss B (inr h) = inr (record {
    earlier = h.earlier;
    last = h.last;
    all = h.all;
    held = any-steps (trivial_answer p L.names) h.earlier B h.held;
    few = h.few;
    is_step = any-step (cover B) (tested B) h.last h.is_step;
    none_kept = h.none_kept;
  })

pub rank-within : (L : LPresentation) (p c : ℕ) (A : Answer) → 1 < p → IsLargest L p c A → ((r : ℕ) → max_rank < r → ¬ HasOrder L p c r)
    → A.presentation.rank ≤ max_rank
rank-within L p c A big largest small =
    ⊎_elim (λ large. absurd (small A.presentation.rank large (largest_quotients_have_the_order L p c A big largest))) (λ few. omega arith)
    (cases_lt max_rank A.presentation.rank)

-- so the run of a tower, whose lines are those of a certificate, is one to the largest quotient
pub run-given : (tested : Answer → Overlap → Type 0) (c : Certificate) (run : Run) (A : Answer) (steps : List HeldStep) → IsOffered c.prime
    → 1 ≤ c.class → AreLinesOf (steps_of c run) steps
    → IsHeldRun (presentation_of c run) plain_push full_cover_of tested c.prime c.class steps A
    → IsLargest (presentation_of c run) c.prime c.class A
    → ((r : ℕ) → max_rank < r → ¬ HasOrder (presentation_of c run) c.prime c.class r) → IsRunToLargest c run A
run-given tested c run A steps offered some lines held largest small = record {
  made = record {
    some_class = some;
    steps = steps;
    lines = lines;
    held = any-run (presentation_of c run) plain_push full_cover_of tested c.prime c.class steps A held;
  };
  largest = largest;
  rank_limit = rank-within (presentation_of c run) c.prime c.class A (offered-two c.prime offered) largest small;
}
