-- The trivial answer is a stage of class 0. Each stage is the largest quotient of its class, has the class that it shows and no
-- smaller one, and is a stage over each stronger condition that its table meets.
use Rattle.std.proofs.Common.{◌≡◌, ℕ, zero, suc, ◌<◌, ◌≤◌, ℤ, pos, negsuc, List, [], ◌∷◌, ◌++◌, get_or, length, map, replicate, refl, ap}
use Rattle.std.proofs.Common.{sym, ◌∙◌, subst, arith}
use Rattle.pq_base.specs.Limits.{max_names}
use Rattle.pq_base.specs.SignedWord.{inv, sub, HasLetters}
use Rattle.pq_base.specs.LPresentation.{LPresentation, Obeys, AreDistinct}
use Rattle.pq_base.specs.Table.{Table}
use Rattle.pq_base.specs.Largest.{Kills}
use Rattle.pc_presentation.specs.NormalTable.{normal_table}
use Rattle.pq_base.specs.Presentation.{normal_word}
use Rattle.pq_base.specs.Joined.{Joined}
use Rattle.pq_base.specs.Series.{HasClass}
use Rattle.pq_base.specs.Prime.{IsOffered}
use Rattle.pq_base.specs.Answer.{Answer, IsAnswer, class_of}
use Rattle.pq_base.specs.Elementary.{elementary}
use Rattle.pq_base.proofs.words.JoinedLaws.{joined-refl, joined-from_equal}
use Rattle.pq_base.proofs.SeriesLaws.{class-weaken}
use Rattle.pq_base.proofs.ElementaryLaws.{elementary_laws}
use Rattle.pc_presentation.specs.Pcp.{plain_presentation}
use Rattle.pc_presentation.specs.Parts.{trivial_answer}
use Rattle.pc_presentation.proofs.presentations.TrivialLaws.{answer_of-trivial, trivial_parts}
use Rattle.pq_base.proofs.PrimeLaws.{offered-two}
use Rattle.cover_quotient.proofs.fitting.FitsStart.{fits_at_zero}
use Rattle.cover_quotient.specs.Stages.{Condition, image_numbers, IsStageOver, Obeying, IsStage}
use Rattle.cover_quotient.specs.StageLaws.{TrivialAnswersAreStages, StagesAreLargest, StagesHaveTheirClass, StagesHaveNoSmallerClass}
use Rattle.cover_quotient.specs.StageLaws.{StagesOfMoreRelators}
use Rattle.cover_quotient.proofs.stages.FittedSteps.{stage-fitted, fitted_answers_are_largest}
use Rattle.cover_quotient.proofs.stages.ImageNumbers.{obeys-from_kills, kills-from_obeys}
use Rattle.cover_quotient.proofs.canonical_answers.CanonicalAnswers.{trivial_answers_are_canonical}
use Rattle.cover_quotient.proofs.canonical_answers.ExactClasses.{own-class, canonical_answers_have_no_smaller_class}

-- words under empty images are empty
no_image : (n i : ℕ) → get_or (map normal_word (replicate n [])) i [] ≡ []
no_image zero i = refl
no_image (suc n) zero = refl
no_image (suc n) (suc i) = no_image n i

sub-no_images : (n : ℕ) (w : List ℤ) → sub w (map normal_word (replicate n [])) ≡ []
sub-no_images n [] = refl
sub-no_images n (pos zero ∷ w) = sub-no_images n w
sub-no_images n (pos (suc i) ∷ w) =
    ap (λ (u : List ℤ). u ++ sub w (map normal_word (replicate n []))) (no_image n i) ∙ sub-no_images n w
sub-no_images n (negsuc i ∷ w) =
    ap (λ (u : List ℤ). inv u ++ sub w (map normal_word (replicate n []))) (no_image n i) ∙ sub-no_images n w

-- over no generators there is no word but the empty one
no_letters : (w : List ℤ) → HasLetters 0 w → w ≡ []
no_letters [] h = refl
no_letters (pos zero ∷ w) h = absurd h.0
no_letters (pos (suc i) ∷ w) h = let l = h.0 in absurd (omega arith)
no_letters (negsuc i ∷ w) h = let l = h.0 in absurd (omega arith)

class-zero : (p : ℕ) → HasClass (elementary p 0) 0
class-zero p w h = joined-from_equal (elementary p 0) (no_letters w h)

trivial-answer : (p : ℕ) (names : List (List ℕ)) → 1 < p → 1 ≤ length names → length names ≤ max_names → AreDistinct names
    → IsAnswer (trivial_answer p names)
trivial-answer p names big some limit distinct =
    subst IsAnswer (answer_of-trivial p names (plain_presentation p [] 0) (replicate (length names) []) refl refl)
    (trivial_parts p names (plain_presentation p [] 0) (replicate (length names) []) refl refl (omega arith) some limit distinct).answer

-- over any condition that its table meets
pub trivial-stage : (Adm : Condition) (given : List (List ℕ)) (p : ℕ) → IsOffered p → 1 ≤ length given → length given ≤ max_names
    → AreDistinct given → Adm (normal_table (elementary p 0)) (image_numbers (trivial_answer p given))
    → IsStageOver Adm given p 0 (trivial_answer p given)
trivial-stage Adm given p offered some limit distinct admits =
    let big : 1 < p = offered-two p offered in
    record {
      answer = trivial-answer p given big some limit distinct;
      offered = offered;
      prime = refl;
      names = refl;
      class_limit = omega arith;
      consistent = (elementary_laws p 0 (omega arith)).consistent;
      canonical = trivial_answers_are_canonical p given;
      admits = admits;
      fits = λ T f a. fits_at_zero T f (trivial_answer p given) a.group a.elements;
    }

pub trivial_answers_are_stages : TrivialAnswersAreStages
trivial_answers_are_stages L p offered some limit distinct =
    let big : 1 < p = offered-two p offered in
    trivial-stage (Obeying L) L.names p offered some limit distinct
    (obeys-from_kills (trivial_answer p L.names) (trivial-answer p L.names big some limit distinct)
    (elementary_laws p 0 (omega arith)).consistent L
    refl (λ r e. joined-from_equal (elementary p 0) (sub-no_images (length L.names) r)))

-- a stage has the class that it shows
pub stage-class : (Adm : Condition) (given : List (List ℕ)) (p c : ℕ) (A : Answer) → IsStageOver Adm given p c A
    → HasClass A.presentation (class_of A)
stage-class Adm given p c A stage = own-class A stage.answer stage.canonical.weights

-- and kills what its table obeys
pub stage-kills : (L : LPresentation) (p c : ℕ) (A : Answer) → IsStage L p c A → Kills L A
stage-kills L p c A stage = kills-from_obeys A stage.answer stage.consistent L stage.names stage.admits

pub stages_are_largest : StagesAreLargest
stages_are_largest L p c A stage =
    fitted_answers_are_largest L p c A (stage-fitted (Obeying L) L.names p c A stage) stage.consistent
    (class-weaken A.presentation (class_of A) c stage.class_limit (stage-class (Obeying L) L.names p c A stage)) (stage-kills L p c A stage)

pub stages_have_their_class : StagesHaveTheirClass
stages_have_their_class L p c A stage = stage-class (Obeying L) L.names p c A stage

pub stages_have_no_smaller_class : StagesHaveNoSmallerClass
stages_have_no_smaller_class L p c A stage = canonical_answers_have_no_smaller_class A stage.answer stage.canonical stage.consistent

-- a stage over one condition is a stage over each that is stronger, where its table meets it
pub stage-stronger : (Adm More : Condition) (given : List (List ℕ)) (p c : ℕ) (A : Answer)
    → ((T : Table) (f : List ℕ) → More T f → Adm T f) → More (normal_table A.presentation) (image_numbers A)
    → IsStageOver Adm given p c A → IsStageOver More given p c A
stage-stronger Adm More given p c A stronger admits stage = record {
  answer = stage.answer;
  offered = stage.offered;
  prime = stage.prime;
  names = stage.names;
  class_limit = stage.class_limit;
  consistent = stage.consistent;
  canonical = stage.canonical;
  admits = admits;
  fits = λ T f a.
      stage.fits T f (record { group = a.group; elements = a.elements; count = a.count; admitted = stronger T f a.admitted });
}

pub stages_of_more_relators : StagesOfMoreRelators
stages_of_more_relators L M p c A more stage kills =
    let fewer : (T : Table) (f : List ℕ) → Obeys T f M → Obeys T f L =
    λ T f o. record { count = o.count ∙ ap length more.names; elements = o.elements; kills = λ r e. o.kills r (more.relators r e) } in
    let obeys = obeys-from_kills A stage.answer stage.consistent M (stage.names ∙ sym more.names) kills in
    subst (λ (names : List (List ℕ)). IsStageOver (Obeying M) names p c A) (sym more.names)
    (stage-stronger (Obeying L) (Obeying M) L.names p c A fewer obeys stage)
