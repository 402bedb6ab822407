-- In the full cover of an answer that is the largest quotient at each class, modulo a basis of the rows of all overlaps and relators,
-- each kept tail may define a generator. That a tail may is decided, so it holds once it can't fail to.
use Rattle.std.proofs.Common.{◌≡◌, ℕ, zero, suc, ◌-◌, ◌≤◌, Bool, true, false, List, length, refl, sym, subst, arith}
use Rattle.std.specs.List.{All}
use Rattle.pq_base.specs.LPresentation.{LPresentation, Obeys}
use Rattle.pq_base.specs.Presentation.{power_word, commutator_word}
use Rattle.pq_base.specs.Joined.{IsConsistent}
use Rattle.pq_base.specs.Prime.{IsOffered}
use Rattle.pq_base.specs.Answer.{Answer, Definition as Source, class_of}
use Rattle.pq_base.specs.Answer.Definition.{image, commutator, power}
use Rattle.pq_base.specs.Canonical.{is_qualifying}
use Rattle.pq_base.specs.Largest.{IsLargest}
use Rattle.pq_base.proofs.Restrictions.{restrictions_are_whole}
use Rattle.pq_base.proofs.tables.LevelQuotients.{LevelQuotient, level-quotient_stands}
use Rattle.fp_echelon.specs.Basis.{Echelon}
use Rattle.fp_echelon.proofs.BasisSpans.{BasisAt, basis-at}
use Rattle.pc_presentation.specs.Rowed.{flat}
use Rattle.pc_presentation.specs.Collection.{State}
use Rattle.pc_presentation.specs.NormalTable.{NormalWordsAreATable}
use Rattle.pc_presentation.specs.OverlapRows.{overlap_row}
use Rattle.p_cover.specs.Covers.{CoverOf, IsCover, all_sources, rowed_cover}
use Rattle.p_cover.specs.RowedAnswer.{RowedAnswer, rowed}
use Rattle.p_cover.specs.Sources.{IsPartOf}
use Rattle.p_cover.proofs.PartLaws.{part_of_itself}
use Rattle.cover_quotient.specs.AnswerLaws.{IsBasisOver, HoldsOverlaps}
use Rattle.cover_quotient.specs.Defining.{HasEmptySide, MayDefine, KeptMayDefine}
use Rattle.cover_quotient.specs.KeptTailLaws.{flat_table, image_elements, IsStepOfLargestQuotients, KeptTailsOfLargestQuotientsMayDefine}
use Rattle.cover_quotient.specs.Levels.{IsReady}
use Rattle.cover_quotient.specs.NextAnswer.{kept_sources, cover_modulo, eliminated}
use Rattle.cover_quotient.proofs.fitting.FittingLaws.{full_covers_fit}
use Rattle.cover_quotient.proofs.largest_quotients.LargestFits.{largest-fits}
use Rattle.cover_quotient.proofs.largest_quotients.LargestReady.{empty-stable, largest-ready}
use Rattle.cover_quotient.proofs.next_answers.AnswerLaws.{next_answers_are_consistent}
use Rattle.cover_quotient.proofs.qualifying.KeptTailLaws.{kept_images_may_define, kept_tails_may_define}
use Rattle.cover_quotient.proofs.stages.CoverTables.{modulo-table, modulo-obeys}

-- what may define a generator is decided
true-stable : (b : Bool) → ¬ ¬ (b ≡ true) → b ≡ true
true-stable true h = refl
true-stable false h = absurd (h (λ e. cc))

empty_side-stable : (A : Answer) (d : Source) → ¬ ¬ HasEmptySide A d → HasEmptySide A d
empty_side-stable A (image i) h = h (λ e. e)
empty_side-stable A (commutator zero i) h = h (λ e. e)
empty_side-stable A (commutator (suc j) zero) h = h (λ e. e)
empty_side-stable A (commutator (suc j) (suc i)) h = empty-stable (commutator_word A.presentation j i) h
empty_side-stable A (power zero) h = h (λ e. e)
empty_side-stable A (power (suc j)) h = empty-stable (power_word A.presentation j) h

may_define-stable : (A : Answer) (k : ℕ) (d : Source) → ¬ ¬ MayDefine A (suc k) d → MayDefine A (suc k) d
may_define-stable A k d h = record {
  kept = empty_side-stable A d (λ fails. h (λ may. fails may.kept));
  allowed = true-stable (is_qualifying A (suc k) d) (λ fails. h (λ may. fails may.allowed));
}

module _ (L : LPresentation) (p : ℕ) (C : CoverOf) (push : State → ℕ → State) (B : Echelon)
    (step : IsStepOfLargestQuotients L p C push B) where
  abbrev A : Answer
  A = C.answer

  abbrev k : ℕ
  k = class_of C.answer

  abbrev Y : RowedAnswer
  Y = cover_modulo C B.rows

  -- the answer at its own class
  here : IsLargest L p (class_of C.answer) C.answer
  here = subst (λ (D : Answer). IsLargest L p (class_of C.answer) D) (restrictions_are_whole A step.answer k (omega arith))
      (step.largest k (omega arith))

  cover : IsCover C
  cover = record {
    answer = step.answer;
    sources = subst (λ (ds : List Source). IsPartOf ds (all_sources C.answer)) (sym step.full) (part_of_itself (all_sources C.answer));
  }

  at : BasisAt C.answer.presentation.prime (length C.sources) B.added B.rows
  at = basis-at B C.answer.presentation.prime (length C.sources) step.prime step.width step.basis

  over : IsBasisOver C B.rows
  over = record { cover = cover; prime = subst IsOffered (sym here.prime) step.offered; reduced = at.reduced }

  holds : HoldsOverlaps C B.rows push
  holds = record {
    over = over;
    consistent = here.consistent;
    meaning = step.meaning;
    overlaps = λ o h. (at.spans (overlap_row (rowed (rowed_cover C)) push o)).0 (step.overlaps o h);
  }

  consistent : IsConsistent (eliminated C B.rows).presentation
  consistent = next_answers_are_consistent C B.rows push holds

  -- the table of the cover modulo the span
  table : NormalWordsAreATable (flat (rowed (cover_modulo C B.rows)))
  table = modulo-table C B.rows over consistent

  obeys : Obeys (flat_table (cover_modulo C B.rows)) (image_elements (cover_modulo C B.rows)) L
  obeys =
      modulo-obeys C B.rows over consistent L step.words (sym here.names)
      (λ r e.
      let row = step.relators r e in
      record { row = row.row; span = (at.spans row.row).0 row.span; joined = row.joined })

  module _ (some : 1 ≤ class_of C.answer) where
    ready : IsReady C.answer (class_of C.answer)
    ready = largest-ready L p A step.answer some here (step.largest (k - 1) (omega arith))

    by_quotient : LevelQuotient (flat_table (cover_modulo C B.rows)) p (class_of C.answer) (image_elements (cover_modulo C B.rows))
        → KeptMayDefine C B.rows
    by_quotient Q =
        kept_tails_may_define C B.rows push holds some ready
        (largest-fits L p k A here (flat_table Y) (image_elements Y) table.group obeys Q)
        (full_covers_fit (flat_table Y) (image_elements Y) k C table.group obeys.elements cover step.full)

    later : KeptMayDefine C B.rows
    later = by_class (class_of A) refl
      where
        by_class : (n : ℕ) → class_of C.answer ≡ n → KeptMayDefine C B.rows
        by_class zero e = absurd (omega arith)
        by_class (suc n) e =
            subst (λ (c : ℕ). All (MayDefine C.answer c) (kept_sources C B.rows)) (sym e)
            (λ i d l.
            may_define-stable A n _
            (λ fails.
            level-quotient_stands (flat_table Y) table.group p k (image_elements Y) obeys.elements
            (λ Q. fails (subst (λ (c : ℕ). All (MayDefine C.answer c) (kept_sources C B.rows)) e (by_quotient Q) i d l))))

pub kept_tails_of_largest_quotients_may_define : KeptTailsOfLargestQuotientsMayDefine
kept_tails_of_largest_quotients_may_define L p C push B step = by_class (class_of C.answer) refl
  where
    by_class : (n : ℕ) → class_of C.answer ≡ n → KeptMayDefine C B.rows
    by_class zero e = kept_images_may_define C B.rows (over L p C push B step) e
    by_class (suc n) e = later L p C push B step (omega arith)
