-- One class, over any condition: in a cover of a stage that owes what it leaves out, modulo a basis of trusted rows that holds
-- the overlap rows and makes the cover's table meet the condition, each kept tail may define a generator; where one is kept the
-- next answer is the next stage, and where none is the answer is every later stage.
use Rattle.std.proofs.Common.{◌≡◌, ℕ, zero, suc, ◌+◌, ◌-◌, ◌<◌, ◌≤◌, ℤ, List, [], ◌∷◌, length, map, refl, ap, sym, ◌∙◌, subst, arith}
use Rattle.pq_base.specs.Limits.{max_class}
use Rattle.pq_base.specs.Table.{Table, value}
use Rattle.pq_base.specs.Joined.{IsConsistent}
use Rattle.pq_base.specs.Prime.{IsOffered}
use Rattle.pq_base.specs.Answer.{Answer, class_of}
use Rattle.pq_base.specs.Canonical.{up_to_class}
use Rattle.fp_echelon.specs.Basis.{Echelon}
use Rattle.fp_echelon.proofs.BasisSpans.{BasisAt, basis-at, basis-in_span}
use Rattle.pc_presentation.specs.Rowed.{flat}
use Rattle.pc_presentation.specs.Collection.{State}
use Rattle.pc_presentation.specs.NormalTable.{normal_table, generator_numbers, NormalWordsAreATable}
use Rattle.p_cover.specs.RowedAnswer.{RowedAnswer, rowed}
use Rattle.p_cover.specs.Covers.{CoverOf, IsCover, rowed_cover}
use Rattle.cover_quotient.specs.NextAnswer.{cover_modulo, eliminated}
use Rattle.cover_quotient.specs.AnswerLaws.{IsBasisOver, HoldsOverlaps, kept_count}
use Rattle.cover_quotient.specs.Fits.{Fits}
use Rattle.cover_quotient.specs.Levels.{IsReady}
use Rattle.pc_presentation.specs.OverlapRows.{overlap_row}
use Rattle.cover_quotient.specs.Defining.{KeptMayDefine}
use Rattle.cover_quotient.specs.KeptTailLaws.{flat_table, image_elements}
use Rattle.cover_quotient.specs.Stages.{Condition, IsAdmitted, image_numbers, IsFittedOver, IsStageOver, IsNextStageOver}
use Rattle.cover_quotient.specs.Stages.{IsTrustedBasisOver, IsStepOver}
use Rattle.cover_quotient.proofs.canonical_answers.CanonicalAnswers.{next_answers_are_canonical}
use Rattle.cover_quotient.proofs.canonical_answers.ReadyAnswers.{consistent_answers_are_ready}
use Rattle.cover_quotient.proofs.kept_tails.EliminatedAnswers.{kept-defining}
use Rattle.cover_quotient.proofs.next_answers.AnswerLaws.{next_answers_are_answers, next_answers_are_consistent}
use Rattle.cover_quotient.proofs.qualifying.KeptTailLaws.{kept_images_may_define, kept_tails_may_define}
use Rattle.cover_quotient.proofs.stages.FittedSteps.{stage-fitted, fitted-next, fitted-stays}
use Rattle.cover_quotient.proofs.stages.CoverTables.{modulo-table, image_elements-below, length-image_elements, image_words-modulo}

module _ (Adm : Condition) (given : List (List ℕ)) (p c : ℕ) (C : CoverOf) (push : State → ℕ → State) (B : Echelon)
    (step : IsStepOver Adm given p c C push B) where
  abbrev A : Answer
  A = C.answer

  abbrev Y : RowedAnswer
  Y = cover_modulo C B.rows

  cover : IsCover C
  cover = step.owes.cover

  offered : IsOffered C.answer.presentation.prime
  offered = subst IsOffered (sym step.stage.prime) step.stage.offered

  at : BasisAt C.answer.presentation.prime (length C.sources) B.added B.rows
  at = basis-at B C.answer.presentation.prime (length C.sources) step.rows.prime step.rows.width step.rows.basis

  over : IsBasisOver C B.rows
  over = record { cover = cover; prime = offered; reduced = at.reduced }

  holds : HoldsOverlaps C B.rows push
  holds = record {
    over = over;
    consistent = step.stage.consistent;
    meaning = step.meaning;
    overlaps = λ o h. (at.spans (overlap_row (rowed (rowed_cover C)) push o)).0 (step.rows.overlaps o h);
  }

  consistent : IsConsistent (eliminated C B.rows).presentation
  consistent = next_answers_are_consistent C B.rows push holds

  -- the table of the cover modulo the span, with its images
  admitted : IsAdmitted Adm given (flat_table (cover_modulo C B.rows)) (image_elements (cover_modulo C B.rows))
  admitted = record {
    group = (modulo-table C B.rows over consistent).group;
    elements = image_elements-below C B.rows over consistent;
    count = length-image_elements C B.rows over consistent ∙ ap length step.stage.names;
    admitted = step.rows.admits;
  }

  next-admits : Adm (normal_table (eliminated C B.rows).presentation) (image_numbers (eliminated C B.rows))
  next-admits =
      subst (λ (words : List (List ℤ)). Adm (flat_table Y) (map (value (flat_table Y) (generator_numbers (flat (rowed Y)))) words))
      (sym (image_words-modulo C B.rows over consistent)) step.rows.admits

  ready : IsReady C.answer (class_of C.answer)
  ready = consistent_answers_are_ready C.answer step.stage.answer step.stage.canonical.weights step.stage.consistent

  pub kept-tails : KeptMayDefine C B.rows
  kept-tails = by_class (class_of A) refl
    where
      by_class : (k : ℕ) → class_of C.answer ≡ k → KeptMayDefine C B.rows
      by_class zero e = kept_images_may_define C B.rows over e
      by_class (suc k) e =
          let here : Fits (flat_table Y) (image_elements Y) (class_of C.answer) C.answer =
          subst (λ (n : ℕ). Fits (flat_table Y) (image_elements Y) n C.answer) (sym step.class)
          (step.stage.fits (flat_table Y) (image_elements Y) admitted) in
          kept_tails_may_define C B.rows push holds (omega arith) ready here
          (step.owes.left_out (flat_table Y) (image_elements Y) (class_of C.answer) admitted here)

  basis : IsTrustedBasisOver Adm given C B.added B.rows
  basis = record {
    are = at.are;
    trusted = step.rows.trusted;
    basis = record { reduced = at.reduced; each = basis-in_span C.answer.presentation.prime (length C.sources) B.added B.rows at };
  }

  fitted : IsFittedOver Adm given p c C.answer
  fitted = stage-fitted Adm given p c C.answer step.stage

  pub next-stage : c < max_class → 1 ≤ kept_count C B.rows → IsNextStageOver Adm given p c C.answer (eliminated C B.rows)
  next-stage few some =
      let same = step.class in
      let may = kept-defining C B.rows kept-tails in
      let next = next_answers_are_answers C B.rows over may (omega arith) some in
      let class : class_of (eliminated C B.rows) ≡ suc c = next.class ∙ ap suc same in
      let after = fitted-next Adm given p c C B.added B.rows fitted step.owes basis same may few some in
      let stage : IsStageOver Adm given p (suc c) (eliminated C B.rows) = record {
        answer = after.answer;
        offered = after.offered;
        prime = after.prime;
        names = after.names;
        class_limit = after.class_limit;
        consistent = consistent;
        canonical = next_answers_are_canonical C B.rows push holds step.stage.canonical kept-tails some (omega arith);
        admits = next-admits;
        fits = after.fits;
      } in
      record { stage = stage; class = class; restricts = subst (λ (n : ℕ). up_to_class (eliminated C B.rows) n ≡ A) same next.restricts }

  -- without a kept tail
  pub stage-stays : kept_count C B.rows ≡ 0 → (d : ℕ) → c ≤ d → IsStageOver Adm given p d C.answer
  stage-stays none d l =
      let after = fitted-stays Adm given p c C B.added B.rows fitted step.owes basis none d l in
      record {
        answer = after.answer;
        offered = after.offered;
        prime = after.prime;
        names = after.names;
        class_limit = after.class_limit;
        consistent = step.stage.consistent;
        canonical = step.stage.canonical;
        admits = step.stage.admits;
        fits = after.fits;
      }
