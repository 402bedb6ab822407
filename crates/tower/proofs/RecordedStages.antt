-- Towers of the iterated relators along endomorphisms whose answers are stages of finitely many relators that were recorded. A span of
-- rows of the relators recorded now, which holds a row of each iterated relator, makes the next class of both: rows of recorded relators
-- are trusted, and the stage of those recorded before kills all iterated ones, so it is a stage of the new ones too.
use Rattle.std.proofs.Common.{◌≡◌, ℕ, suc, ◌-◌, ◌+◌, ◌<◌, ◌≤◌, ℤ, List, [], ◌++◌, length, refl, ap, sym, ◌∙◌, subst, arith}
use Rattle.std.specs.List.{Contains}
use Rattle.std.proofs.lemmas.List.Elements.{All-nil, All-append, All-weaker, All-contains_itself, Contains-append_left}
use Rattle.std.proofs.lemmas.List.Elements.{Contains-append_right}
use Rattle.pq_base.specs.Limits.{max_class, max_rank, max_names}
use Rattle.pq_base.specs.SignedWord.{sub}
use Rattle.pq_base.specs.LPresentation.{LPresentation, IsLPresentation, IsRelator, AreDistinct, part}
use Rattle.pq_base.specs.LPresentation.IsRelator.{iterated_relator}
use Rattle.pq_base.specs.LPresentation.Part.{iterated_part}
use Rattle.pq_base.specs.Joined.{Joined}
use Rattle.pq_base.specs.Relators.{HasMoreRelators}
use Rattle.pq_base.specs.declared.prime.Prime.{Prime}
use Rattle.pq_base.specs.Prime.{prime_value}
use Rattle.pq_base.proofs.PrimeLaws.{prime_value-offered}
use Rattle.pq_base.specs.Answer.{Answer, image_words}
use Rattle.pq_base.specs.Largest.{Kills}
use Rattle.pq_base.proofs.tables.TableSeries.{table_class-weaken}
use Rattle.pc_presentation.specs.Collection.{State}
use Rattle.pc_presentation.specs.Arithmetic.{IsMeaning}
use Rattle.pc_presentation.specs.declared.overlap.Overlap.{Overlap}
use Rattle.pc_presentation.specs.Parts.{trivial_answer}
use Rattle.p_cover.specs.RowedAnswer.{rowed}
use Rattle.p_cover.specs.Covers.{CoverOf, rowed_cover}
use Rattle.cover_quotient.specs.AnswerLaws.{HasRowOf}
use Rattle.cover_quotient.specs.OverlapRows.{SpanOverlaps}
use Rattle.cover_quotient.specs.Stages.{IsStage, OwesToObeying, IsBasisOfRows}
use Rattle.cover_quotient.specs.StageLaws.{IsStepOf}
use Rattle.cover_quotient.proofs.stages.FirstStages.{trivial_answers_are_stages, stages_are_largest, stage-kills, stages_of_more_relators}
use Rattle.class_step.specs.declared.step.Step.{Step}
use Rattle.class_step.specs.declared.step.Step.TheVariants.{Next, Same, TooLarge}
use Rattle.class_step.specs.Steps.{IsStep}
use Rattle.tower.specs.declared.relator.Relator.{Relator}
use Rattle.tower.specs.declared.relator.Relator.TheVariants.{Fixed, Iterated}
use Rattle.tower.specs.NamedParts.{named_word, IsNamed, named_part}
use Rattle.tower.specs.StepRows.{StepRows, AreOver, HaveTaken, step_sources}
use Rattle.tower.specs.Answers.{IsStepFrom, IsGrown}
use Rattle.tower.specs.SpunParts.{AreIterated, AreEnough, IsSpunGrown, IsSpunStep}
use Rattle.tower.proofs.ClassSteps.{step-from}
use Rattle.tower.proofs.InducedStages.{died-zero}
use Rattle.tower.proofs.NamedLaws.{named-part_is, named-relator, named-all}
use Rattle.tower.proofs.Quotients.{grown-first, grown-next}
use Rattle.tower.proofs.TakenSources.{taken-trusted}

-- an iterated relator by its numbers
pub iterated-relator : (L : LPresentation) (r : Relator) → IsNamed (part L iterated_part) r
    → IsRelator (part L iterated_part) (named_word L r)
iterated-relator L (Fixed i) named = let first = named.0 in let last = named.1 in absurd (omega arith)
iterated-relator L (Iterated i s) named =
    let first = named.0 in
    let last = named.1 in
    iterated_relator s (i - 1) named.2 (omega arith)

-- what holds of all iterated relators holds of those that are recorded
recorded-all : (L : LPresentation) (recorded : List Relator) → AreIterated L recorded → (Q : List ℤ → Type 0)
    → ((r : List ℤ) → IsRelator (part L iterated_part) r → Q r) → (r : List ℤ) → IsRelator (named_part L recorded) r → Q r
recorded-all L recorded iterated Q every =
    named-all L recorded Q
    (All-weaker (IsNamed (part L iterated_part)) (λ (r : Relator). Q (named_word L r))
    (λ r h. every (named_word L r) (iterated-relator L r h)) recorded iterated)

part-is : (L : LPresentation) → IsLPresentation L → IsLPresentation (part L iterated_part)
part-is L is = record { distinct = is.distinct; fixed_words = tt; iterated_words = is.iterated_words; endo_words = is.endo_words }

more-recorded : (L : LPresentation) (recorded new : List Relator) → HasMoreRelators (named_part L recorded) (named_part L (recorded ++ new))
more-recorded L recorded new = record {
  names = refl;
  relators = named-all L recorded (IsRelator (named_part L (recorded ++ new)))
      (All-weaker (Contains recorded) (λ (r : Relator). IsRelator (named_part L (recorded ++ new)) (named_word L r))
      (λ r h. named-relator L (recorded ++ new) r (Contains-append_left recorded new r h)) recorded (All-contains_itself recorded));
}

-- a stage of recorded relators that kills all iterated ones is a stage of more recorded ones
recorded-stage : (L : LPresentation) (recorded new : List Relator) (p c : ℕ) (A : Answer) → AreIterated L recorded → AreIterated L new
    → Kills (part L iterated_part) A → IsStage (named_part L recorded) p c A → IsStage (named_part L (recorded ++ new)) p c A
recorded-stage L recorded new p c A before after kills stage =
    stages_of_more_relators (named_part L recorded) (named_part L (recorded ++ new)) p c A (more-recorded L recorded new) stage
    (recorded-all L (recorded ++ new) (All-append (IsNamed (part L iterated_part)) recorded new before after)
    (λ (r : List ℤ). Joined A.presentation (sub r (image_words A)) []) kills)

grown-kills : (L : LPresentation) (p c : ℕ) (A : Answer) → IsGrown (part L iterated_part) p c A → Kills (part L iterated_part) A
grown-kills L p c A grown = stage-kills (part L iterated_part) p c A grown.tower.stage

module _ (L : LPresentation) (is : IsLPresentation L) (p c : ℕ) (recorded new : List Relator) (C : CoverOf) (push : State → ℕ → State)
    (R : StepRows) (grown : IsSpunGrown L recorded p c C.answer) (iterated : AreIterated L new)
    (meaning : IsMeaning (rowed (rowed_cover C)) push) (over : AreOver C R) (tests : List Overlap)
    (taken : HaveTaken L C push (step_sources tests new) R) (overlaps : SpanOverlaps (rowed (rowed_cover C)) push R.basis.added)
    (every : (r : List ℤ) → IsRelator (part L iterated_part) r → HasRowOf C R.basis.added r) where
  -- for any presentation whose relators have rows in the span, and that has those which were taken
  rows-of : (M : LPresentation) → OwesToObeying M C → ((r : List ℤ) → IsRelator M r → HasRowOf C R.basis.added r)
      → ((r : Relator) → Contains new r → IsRelator M (named_word L r)) → IsBasisOfRows M C push R.basis
  rows-of M owes rows relators = record {
    basis = over.basis;
    prime = over.prime;
    width = over.width;
    overlaps = overlaps;
    relators = rows;
    trusted = taken-trusted L C push tests new R taken is owes.cover meaning grown.stage.names M relators;
  }

  -- the step of all iterated relators
  pub iterated-step : OwesToObeying (part L iterated_part) C → IsStepOf (part L iterated_part) p c C push R.basis
  iterated-step owes = record {
    words = part-is L is;
    stage = grown.grown.tower.stage;
    class = grown.grown.class;
    owes = owes;
    meaning = meaning;
    rows =
        rows-of (part L iterated_part) owes every
        (λ r h. iterated-relator L r (contained-iterated r h));
  }
    where
      contained-iterated : (r : Relator) → Contains new r → IsNamed (part L iterated_part) r
      contained-iterated r h = subst (IsNamed (part L iterated_part)) h.2 (iterated h.0 r h.1)

  abbrev all : List Relator
  all = recorded ++ new

  all-iterated : AreIterated L (recorded ++ new)
  all-iterated = All-append (IsNamed (part L iterated_part)) recorded new grown.iterated iterated

  -- and that of the recorded ones
  pub recorded-step : OwesToObeying (named_part L (recorded ++ new)) C → IsStepOf (named_part L (recorded ++ new)) p c C push R.basis
  recorded-step owes = record {
    words = named-part_is L is all;
    stage = recorded-stage L recorded new p c C.answer grown.iterated iterated (grown-kills L p c C.answer grown.grown) grown.stage;
    class = grown.grown.class;
    owes = owes;
    meaning = meaning;
    rows =
        rows-of (named_part L (recorded ++ new)) owes (recorded-all L all all-iterated (HasRowOf C R.basis.added) every)
        (λ r h. named-relator L (recorded ++ new) r (Contains-append_right recorded new r h));
  }

  -- what the elimination answers
  module _ (owes : OwesToObeying (part L iterated_part) C) (owes-recorded : OwesToObeying (named_part L (recorded ++ new)) C)
      (few : c < max_class) (small : C.answer.presentation.rank ≤ max_rank) where
    from-iterated : (step : Step) → IsStep C R.basis.rows step → IsStepFrom (part L iterated_part) p c C.answer step
    from-iterated step h = step-from (part L iterated_part) p c C push R.basis (iterated-step owes) few small step h

    from-recorded : (step : Step) → IsStep C R.basis.rows step → IsStepFrom (named_part L (recorded ++ new)) p c C.answer step
    from-recorded step h = step-from (named_part L (recorded ++ new)) p c C push R.basis (recorded-step owes-recorded) few small step h

    spun-answer : (step : Step) → IsStep C R.basis.rows step → IsSpunStep L (recorded ++ new) p c C.answer step
    spun-answer (Next N) h =
        let place : c + 1 ≡ suc c = omega arith in
        record {
          iterated = all-iterated;
          grown =
              subst (λ (k : ℕ). IsGrown (part L iterated_part) p k N) place
              (grown-next (part L iterated_part) p c C.answer N grown.grown (from-iterated (Next N) h));
          stage = (from-recorded (Next N) h).stage;
        }
    spun-answer Same h = from-recorded Same h
    spun-answer (TooLarge rank) h = tt

    pub spun-step : (step : Step) → IsStep C R.basis.rows step
        → IsStepFrom (part L iterated_part) p c C.answer step × IsSpunStep L (recorded ++ new) p c C.answer step
    spun-step step h = (from-iterated step h, spun-answer step h)

-- the recorded relators are enough: elements that obey them factor through the stage, which kills all iterated ones
pub enough-from_kills : (L : LPresentation) (recorded : List Relator) (p c : ℕ) (A : Answer) → IsStage (named_part L recorded) p c A
    → Kills (part L iterated_part) A → AreEnough L recorded p c
enough-from_kills L recorded p c A stage kills T f group class obeys = record {
  count = obeys.count;
  elements = obeys.elements;
  kills = λ r h.
      died-zero (named_part L recorded) p c A (stages_are_largest (named_part L recorded) p c A stage) T f group class obeys r (kills r h);
}

pub spun-enough : (L : LPresentation) (recorded : List Relator) (p c : ℕ) (A : Answer) → IsSpunGrown L recorded p c A
    → AreEnough L recorded p c
spun-enough L recorded p c A grown = enough-from_kills L recorded p c A grown.stage (grown-kills L p c A grown.grown)

-- also at a later class, where the answer stays
pub spun-enough_stopped : (L : LPresentation) (recorded : List Relator) (p c d : ℕ) (A : Answer) → IsGrown (part L iterated_part) p c A
    → IsStage (named_part L recorded) p d A → AreEnough L recorded p d
spun-enough_stopped L recorded p c d A grown stage = enough-from_kills L recorded p d A stage (grown-kills L p c A grown)

-- what is enough for a class is enough for each one before it
pub enough-before : (L : LPresentation) (recorded : List Relator) (p k c : ℕ) → k ≤ c → AreEnough L recorded p c → AreEnough L recorded p k
enough-before L recorded p k c l enough T f group class obeys = enough T f group (table_class-weaken T group p k c l class) obeys

-- nothing is recorded at first
pub spun-first : (L : LPresentation) (q : Prime) (names : List (List ℕ)) (A : Answer) → names ≡ L.names → 1 ≤ length L.names
    → length L.names ≤ max_names → AreDistinct L.names → A ≡ trivial_answer (prime_value q) names → IsSpunGrown L [] (prime_value q) 0 A
spun-first L q names A named some limit distinct is =
    let same : A ≡ trivial_answer (prime_value q) L.names = is ∙ ap (trivial_answer (prime_value q)) named in
    record {
      iterated = All-nil _;
      grown = grown-first (part L iterated_part) q names A named some limit distinct is;
      stage =
          subst (IsStage (named_part L []) (prime_value q) 0) (sym same)
          (trivial_answers_are_stages (named_part L []) (prime_value q) (prime_value-offered q) some limit distinct);
    }
