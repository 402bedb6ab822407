-- One class of an answer that elements fit, consistent or not: over a cover that owes what it leaves out, modulo a reduced basis in
-- the span of trusted rows whose kept tails may be kept, they fit the next answer at the next level; and where no tail is kept they
-- fit the answer at every later level.
use Rattle.std.proofs.Common.{◌≡◌, ℕ, zero, suc, ◌+◌, ◌-◌, ◌<◌, ◌≤◌, List, [], ◌∷◌, length, refl, ap, sym, ◌∙◌, subst, arith}
use Rattle.std.proofs.lemmas.List.Elements.{All-weaker}
use Rattle.pq_base.specs.Limits.{max_class}
use Rattle.pq_base.specs.LPresentation.{Obeys}
use Rattle.pq_base.specs.Table.{Table, HasTableClass}
use Rattle.pq_base.specs.Prime.{IsOffered}
use Rattle.pq_base.specs.Answer.{Answer, class_of}
use Rattle.pq_base.specs.Largest.{FactorsOnce}
use Rattle.pq_base.proofs.Generated.{generated}
use Rattle.fp_echelon.specs.Reduced.{BasisRow}
use Rattle.p_cover.specs.Covers.{CoverOf, rowed_cover}
use Rattle.cover_quotient.specs.Kept.{kept_columns}
use Rattle.cover_quotient.specs.NextAnswer.{eliminated}
use Rattle.cover_quotient.specs.AnswerLaws.{IsBasisOver, kept_count}
use Rattle.cover_quotient.specs.Fits.{Fits, IsJustified}
use Rattle.cover_quotient.specs.FittingLaws.{FitsCovered, AreJustified}
use Rattle.cover_quotient.specs.Defining.{KeptMayBeKept}
use Rattle.cover_quotient.specs.Stages.{Condition, IsAdmitted, IsFittedOver, IsStageOver, OwesWhatItLeavesOut, IsTrustedOver}
use Rattle.cover_quotient.specs.Stages.{IsTrustedBasisOver, Obeying}
use Rattle.cover_quotient.specs.StageLaws.{StagesAreFitted, NextAnswersAreFitted, FittedAnswersStay, FittedAnswersAreLargest}
use Rattle.cover_quotient.proofs.fitting.FitsStart.{fits_factors}
use Rattle.cover_quotient.proofs.fitting.FittingLaws.{one_class_fits, no_tail_kept_fits}
use Rattle.cover_quotient.proofs.next_answers.AnswerLaws.{next_answers_are_answers}

no_entries : (x : List ℕ) → length x ≡ 0 → x ≡ []
no_entries [] h = refl
no_entries (a ∷ x) h = absurd (omega arith)

module _ (Adm : Condition) (given : List (List ℕ)) (p c : ℕ) (C : CoverOf) (rows : List (List ℕ)) (bs : List BasisRow)
    (fitted : IsFittedOver Adm given p c C.answer) (owes : OwesWhatItLeavesOut Adm given C)
    (basis : IsTrustedBasisOver Adm given C rows bs) where
  prime : IsOffered C.answer.presentation.prime
  prime = subst IsOffered (sym fitted.prime) fitted.offered

  over : IsBasisOver C bs
  over = record { cover = owes.cover; prime = prime; reduced = basis.basis.reduced }

  justified : (T : Table) (f : List ℕ) → IsAdmitted Adm given T f → AreJustified T f C rows
  justified T f a = record {
    count = a.count ∙ ap length (sym fitted.names);
    are = basis.are;
    justified = All-weaker (IsTrustedOver Adm given C) (IsJustified (rowed_cover C) T f) (λ x t. t T f a) rows basis.trusted;
  }

  covered : (T : Table) (f : List ℕ) (k : ℕ) → IsAdmitted Adm given T f → Fits T f k C.answer → FitsCovered T f k C
  covered T f k a fits = record {
    group = a.group;
    elements = a.elements;
    cover = owes.cover;
    prime = prime;
    fits = fits;
    left_out = owes.left_out T f k a fits;
  }

  pub fitted-next : class_of C.answer ≡ c → KeptMayBeKept C bs → c < max_class → 1 ≤ kept_count C bs
      → IsFittedOver Adm given p (suc c) (eliminated C bs)
  fitted-next class may few some =
      let next = next_answers_are_answers C bs over may (subst (λ (k : ℕ). k < max_class) (sym class) few) some in
      let same : class_of (eliminated C bs) ≡ suc c = next.class ∙ ap suc class in
      record {
        answer = next.answer;
        offered = fitted.offered;
        prime = fitted.prime;
        names = fitted.names;
        class_limit = omega arith;
        fits = λ T f a. one_class_fits T f c C rows bs (covered T f c a (fitted.fits T f a)) (justified T f a) basis.basis may;
      }

  later-fits : kept_count C bs ≡ 0 → (n : ℕ) (T : Table) (f : List ℕ) → IsAdmitted Adm given T f → Fits T f (c + n) C.answer
  later-fits none zero T f a =
      let place : c ≡ c + 0 = omega arith in
      subst (λ (m : ℕ). Fits T f m C.answer) place (fitted.fits T f a)
  later-fits none (suc n) T f a =
      let place : suc (c + n) ≡ c + suc n = omega arith in
      subst (λ (m : ℕ). Fits T f m C.answer) place
      (no_tail_kept_fits T f (c + n) C rows bs (covered T f (c + n) a (later-fits none n T f a)) (justified T f a) basis.basis
      (no_entries (kept_columns (length C.sources) bs) none))

  pub fitted-stays : kept_count C bs ≡ 0 → (d : ℕ) → c ≤ d → IsFittedOver Adm given p d C.answer
  fitted-stays none d l =
      let limit = fitted.class_limit in
      let place : c + (d - c) ≡ d = omega arith in
      record {
        answer = fitted.answer;
        offered = fitted.offered;
        prime = fitted.prime;
        names = fitted.names;
        class_limit = omega arith;
        fits = λ T f a. subst (λ (m : ℕ). Fits T f m C.answer) place (later-fits none (d - c) T f a);
      }

-- a stage without what is known of its presentation
pub stage-fitted : (Adm : Condition) (given : List (List ℕ)) (p c : ℕ) (A : Answer) → IsStageOver Adm given p c A
    → IsFittedOver Adm given p c A
stage-fitted Adm given p c A stage = record {
  answer = stage.answer;
  offered = stage.offered;
  prime = stage.prime;
  names = stage.names;
  class_limit = stage.class_limit;
  fits = stage.fits;
}

-- a map that is admitted factors exactly once
pub fitted-factors : (Adm : Condition) (given : List (List ℕ)) (p c : ℕ) (A : Answer) → IsFittedOver Adm given p c A
    → (T : Table) (f : List ℕ) → IsAdmitted Adm given T f → HasTableClass T p c → FactorsOnce T f A
fitted-factors Adm given p c A fitted T f a class =
    fits_factors T f c A a.group a.elements fitted.answer (a.count ∙ ap length (sym fitted.names))
    (subst (λ (q : ℕ). HasTableClass T q c) (sym fitted.prime) class) (fitted.fits T f a)

pub stages_are_fitted : StagesAreFitted
stages_are_fitted L p c A stage = stage-fitted (Obeying L) L.names p c A stage

pub next_answers_are_fitted : NextAnswersAreFitted
next_answers_are_fitted L p c C rows bs fitted owes basis class may few some =
    fitted-next (Obeying L) L.names p c C rows bs fitted owes basis class may few some

pub fitted_answers_stay : FittedAnswersStay
fitted_answers_stay L p c C rows bs fitted owes basis none d l = fitted-stays (Obeying L) L.names p c C rows bs fitted owes basis none d l

pub fitted_answers_are_largest : FittedAnswersAreLargest
fitted_answers_are_largest L p c A fitted consistent class kills = record {
  answer = fitted.answer;
  prime = fitted.prime;
  names = fitted.names;
  class_limit = fitted.class_limit;
  consistent = consistent;
  class = class;
  kills = kills;
  generated = generated A fitted.answer;
  universal = λ T f g of_class obeys.
      fitted-factors (Obeying L) L.names p c A fitted T f
      (record { group = g; elements = obeys.elements; count = obeys.count; admitted = obeys }) of_class;
}
