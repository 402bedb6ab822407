-- One class of an L-presentation: a basis of the rows of all overlaps and relators makes the table of the cover obey, and its rows
-- are trusted wherever the presentation is obeyed. So it is a step over the condition that the relators are obeyed.
use Rattle.std.proofs.Common.{◌≡◌, ℕ, List, length, sym, subst}
use Rattle.std.proofs.lemmas.List.Elements.{All-weaker}
use Rattle.pq_base.specs.LPresentation.{LPresentation}
use Rattle.pq_base.specs.Joined.{IsConsistent}
use Rattle.pq_base.specs.Prime.{IsOffered}
use Rattle.fp_echelon.specs.Basis.{Echelon}
use Rattle.fp_echelon.proofs.BasisSpans.{BasisAt, basis-at}
use Rattle.pc_presentation.specs.Collection.{State}
use Rattle.p_cover.specs.RowedAnswer.{rowed}
use Rattle.p_cover.specs.Covers.{CoverOf, rowed_cover}
use Rattle.cover_quotient.specs.NextAnswer.{eliminated}
use Rattle.cover_quotient.specs.AnswerLaws.{IsBasisOver}
use Rattle.pc_presentation.specs.OverlapRows.{overlap_row}
use Rattle.cover_quotient.specs.Stages.{Obeying, IsTrusted, IsTrustedOver, IsBasisOfRowsOver, IsStepOver}
use Rattle.cover_quotient.specs.StageLaws.{IsStepOf, KeptTailsOfStagesMayDefine, NextAnswersAreStages, StagesStay}
use Rattle.cover_quotient.proofs.next_answers.AnswerLaws.{next_answers_are_consistent}
use Rattle.cover_quotient.proofs.stages.CoverTables.{modulo-obeys}
use Rattle.cover_quotient.proofs.stages.StepsOver.{kept-tails, next-stage, stage-stays}

module _ (L : LPresentation) (p c : ℕ) (C : CoverOf) (push : State → ℕ → State) (B : Echelon) (step : IsStepOf L p c C push B) where
  at : BasisAt C.answer.presentation.prime (length C.sources) B.added B.rows
  at = basis-at B C.answer.presentation.prime (length C.sources) step.rows.prime step.rows.width step.rows.basis

  over : IsBasisOver C B.rows
  over = record {
    cover = step.owes.cover;
    prime = subst IsOffered (sym step.stage.prime) step.stage.offered;
    reduced = at.reduced;
  }

  consistent : IsConsistent (eliminated C B.rows).presentation
  consistent =
      next_answers_are_consistent C B.rows push (record {
        over = over;
        consistent = step.stage.consistent;
        meaning = step.meaning;
        overlaps = λ o h. (at.spans (overlap_row (rowed (rowed_cover C)) push o)).0 (step.rows.overlaps o h);
      })

  rows-over : IsBasisOfRowsOver (Obeying L) L.names C push B
  rows-over = record {
    basis = step.rows.basis;
    prime = step.rows.prime;
    width = step.rows.width;
    overlaps = step.rows.overlaps;
    admits =
        modulo-obeys C B.rows over consistent L step.words (sym step.stage.names)
        (λ r e.
        let row = step.rows.relators r e in
        record { row = row.row; span = (at.spans row.row).0 row.span; joined = row.joined });
    trusted = All-weaker (IsTrusted L C) (IsTrustedOver (Obeying L) L.names C) (λ x t T f a. t T f a.admitted) B.added step.rows.trusted;
  }

  pub step-over : IsStepOver (Obeying L) L.names p c C push B
  step-over = record { stage = step.stage; class = step.class; owes = step.owes; meaning = step.meaning; rows = rows-over }

pub kept_tails_of_stages_may_define : KeptTailsOfStagesMayDefine
kept_tails_of_stages_may_define L p c C push B step = kept-tails (Obeying L) L.names p c C push B (step-over L p c C push B step)

pub next_answers_are_stages : NextAnswersAreStages
next_answers_are_stages L p c C push B step few some = next-stage (Obeying L) L.names p c C push B (step-over L p c C push B step) few some

pub stages_stay : StagesStay
stages_stay L p c C push B step none d l = stage-stays (Obeying L) L.names p c C push B (step-over L p c C push B step) none d l
