-- The next answer of a canonical and consistent answer is canonical, where the span holds the overlap rows: the tail of a heavy
-- commutator is trivial, so its row is in the span and becomes zero.
use Rattle.std.proofs.Common.{◌≡◌, ℕ, suc, ◌+◌, ◌<◌, List, length, replicate, ◌∙◌, arith}
use Rattle.pq_base.specs.Answer.{class_of, weight_at}
use Rattle.pq_base.specs.Canonical.{ObeysWeights, IsCanonical}
use Rattle.fp_echelon.specs.Reduced.{BasisRow, rows_of}
use Rattle.fp_echelon.proofs.ReductionLaws.{AreRows-reduced}
use Rattle.pc_presentation.specs.Rowed.{commutator_row}
use Rattle.pc_presentation.specs.Collection.{State}
use Rattle.pq_base.proofs.PrimeLaws.{offered-two}
use Rattle.pq_base.specs.Answer.Definition.{commutator}
use Rattle.p_cover.specs.RowedAnswer.{rowed}
use Rattle.p_cover.specs.Covers.{CoverOf, rowed_cover}
use Rattle.cover_quotient.specs.AnswerLaws.{IsBasisOver, HoldsOverlaps}
use Rattle.cover_quotient.specs.CanonicalAnswerLaws.{NextAnswersAreCanonical, TrivialAnswersAreCanonical}
use Rattle.cover_quotient.specs.Kept.{kept_columns, kept_rows}
use Rattle.cover_quotient.specs.NextAnswer.{kept_sources, cover_modulo, eliminated}
use Rattle.cover_quotient.proofs.next_answers.AnswerLaws.{quotients_are_rowed_answers}
use Rattle.cover_quotient.proofs.canonical_answers.CanonicalSteps.{next-turns}
use Rattle.cover_quotient.proofs.carried_rows.CarriedAnswers.{row_at-carried}
use Rattle.cover_quotient.proofs.carried_rows.CarriedRows.{row_from_normal}
use Rattle.cover_quotient.proofs.kept_tails.CoverUnits.{HasUnitRows, cover-units}
use Rattle.cover_quotient.proofs.canonical_answers.HeavyTails.{heavy-trivial}
use Rattle.cover_quotient.proofs.kept_tails.KeptRows.{kept_rows-are_rows, carried-zero}
use Rattle.cover_quotient.proofs.canonical_answers.NextObeys.{next-obeys}
use Rattle.cover_quotient.proofs.spans.TrivialRows.{trivial_rows_are_in_the_span}

module _ (C : CoverOf) (bs : List BasisRow) (push : State → ℕ → State) (holds : HoldsOverlaps C bs push)
    (canonical : IsCanonical C.answer) where
  basis : IsBasisOver C bs
  basis = holds.over

  abbrev p : ℕ
  p = C.answer.presentation.prime

  abbrev q : ℕ
  q = length C.sources

  abbrev s : ℕ
  s = length (kept_columns (length C.sources) bs)

  big : 1 < p
  big = offered-two C.answer.presentation.prime basis.prime

  units : HasUnitRows C
  units = cover-units C basis.cover big

  heavy-row : (j i : ℕ) → j < C.answer.presentation.rank → i < j → suc (class_of C.answer) < weight_at C.answer j + weight_at C.answer i
      → commutator_row (rowed (cover_modulo C bs)) j i ≡ replicate s 0
  heavy-row j i l b above =
      let x : List ℕ = commutator_row (rowed (rowed_cover C)) j i in
      let normal = units.rowed.presentation.commutator_rows j i l b in
      let spanned =
      trivial_rows_are_in_the_span (rowed (rowed_cover C)) push (rows_of bs) units.rowed.presentation basis.prime holds.meaning
      holds.consistent
      (AreRows-reduced p q bs basis.reduced) holds.overlaps x normal (heavy-trivial (rowed_cover C) units.rowed canonical j i l b above) in
      row_at-carried (rowed_cover C) units.rowed (omega arith) s (kept_rows p q bs) (kept_rows-are_rows p q big bs basis.reduced)
      (commutator (suc j) (suc i)) (l, b)
      ∙ (carried-zero p q big bs basis.reduced x (row_from_normal p q x normal)).1 spanned

  pub obeys-next : ObeysWeights (eliminated C bs)
  obeys-next = next-obeys (cover_modulo C bs) (quotients_are_rowed_answers C bs basis) (kept_sources C bs) canonical.weights heavy-row

pub next_answers_are_canonical : NextAnswersAreCanonical
next_answers_are_canonical C bs push holds canonical may some few = record {
  weights = obeys-next C bs push holds canonical;
  turns = next-turns C bs holds.over may few some canonical.turns;
}

-- an answer of class 0 has no relation and nothing to meet
pub trivial_answers_are_canonical : TrivialAnswersAreCanonical
trivial_answers_are_canonical p names = record {
  weights = record { commutators = λ j i m l b other. absurd (omega arith); powers = λ i m l other. absurd (omega arith) };
  turns = λ k l. absurd (omega arith);
}
