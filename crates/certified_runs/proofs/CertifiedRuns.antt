-- A certificate that is made of runs to largest quotients is valid, part by part.
use Rattle.std.proofs.Common.{◌≡◌, ◌⊎◌, ℕ, ◌≤◌, Bool, true, false, not, ltb, ◌&&◌, ℤ, List, length, refl, ap, sym, ◌∙◌, subst, arith}
use Rattle.std.specs.List.{All}
use Rattle.std.proofs.lemmas.Bool.{ltb-false}
use Rattle.pq_base.specs.LPresentation.{LPresentation, IsLPresentation, part}
use Rattle.pq_base.specs.LPresentation.Part.{iterated_part}
use Rattle.pq_base.specs.Prime.{IsOffered}
use Rattle.pq_base.specs.Answer.{Answer}
use Rattle.pc_presentation.specs.Collection.{plain_push}
use Rattle.pc_presentation.specs.Parts.{trivial_answer}
use Rattle.cover_quotient.specs.Stages.{full_cover_of}
use Rattle.derivation_log.specs.declared.source.Run.{Run}
use Rattle.derivation_log.specs.declared.source.Run.TheVariants.{Iterated, Whole}
use Rattle.derivation_log.specs.declared.part.Part.TheVariants as part_of_run
use Rattle.derivation_log.specs.HeldRuns.{AreHeldSteps, AreStoppedSteps}
use Rattle.derivation_log.specs.Certificates.{Certificate, has_two_runs, steps_of, presentation_of}
use Rattle.derivation_log.specs.PlainValues.{MakeMap, InducesPlainly, images_of}
use Rattle.derivation_log.specs.CertificateParts.{full_kind, OverlapsAgree, AreCarriedToIdentity, built_by}
use Rattle.derivation_log.specs.Validity.{Keeps, judges_endos}
use Rattle.certified_runs.specs.RunLaws.{IsRunTo, StepsPass, IsWithinLimits, StepsGiveAnswers, RunsAreNotShort, RunsBuildTheirAnswers}
use Rattle.certified_runs.specs.RunLaws.{OverlapsOfConsistentAnswersAgree, KilledWordsAreCarried, EndomorphismsInducePlainly}
use Rattle.certified_runs.specs.RunLaws.{ImagesMakeMaps, IsRunToLargest, HasFirstRun, CertificatesOfRunsAreValid}
use Rattle.derivation_log.specs.ValidParts.{KeepsStep, KeepsRun, KeepsAll}
use Rattle.derivation_log.proofs.ValidParts.{keeps-valid}
use Rattle.derivation_log.proofs.PassedRuns.{PassesSteps, presentation_of-names, held-run-passes}
use Rattle.derivation_log.proofs.JudgedOverlaps.{consistent-overlaps}
use Rattle.certified_runs.proofs.RunAnswers.{give-answers}
use Rattle.certified_runs.proofs.AnswerParts.{iterated-carried, fixed-carried}
use Rattle.derivation_log.proofs.PlainGroups.{dead-carried}
use Rattle.certified_runs.proofs.MapParts.{endos-induce, part-makes_map}

-- what is judged of the steps before the rank, of their end, and what they build
passes : (c : Certificate) (run : Run) (A : Answer) → IsRunTo c run A → PassesSteps full_kind c run A
passes c run A is = held-run-passes full_kind (λ D. refl) full_kind.tested (λ D o t. t) c run is.steps A is.lines is.held

rank : (c : Certificate) (run : Run) (A : Answer) → IsRunTo c run A → IsWithinLimits c A → (k : ℕ) → 1 ≤ k → k ≤ length (steps_of c run)
    → Keeps full_kind c run k part_of_run.Rank
rank c run A is limits =
    give-answers full_kind.tested (presentation_of c run) c run is.steps A is.lines
    (subst
    (λ (ns : List (List ℕ)). (AreHeldSteps (presentation_of c run) plain_push full_cover_of full_kind.tested
    (trivial_answer c.prime ns) is.steps A
    × (length is.steps ≡ c.class))
    ⊎ AreStoppedSteps (presentation_of c run) plain_push full_cover_of full_kind.tested c.class (trivial_answer c.prime ns) is.steps A)
    (presentation_of-names c run) is.held) limits.offered limits.answer limits.names limits.rank_limit

-- the laws of the parts
pub steps_are_not_extra : StepsPass part_of_run.Extra
steps_are_not_extra c run A is k first last = ((passes c run A is).steps k first last).extra

pub steps_have_plain_rows : StepsPass part_of_run.Row
steps_have_plain_rows c run A is k first last = ((passes c run A is).steps k first last).rows

pub lines_are_sums_of_rows : StepsPass part_of_run.Sum
lines_are_sums_of_rows c run A is k first last = ((passes c run A is).steps k first last).sums

pub steps_give_answers : StepsGiveAnswers
steps_give_answers = rank

pub runs_are_not_short : RunsAreNotShort
runs_are_not_short c run A is = (passes c run A is).short

pub runs_build_their_answers : RunsBuildTheirAnswers
runs_build_their_answers c run A is = (passes c run A is).builds

pub overlaps_of_consistent_answers_agree : OverlapsOfConsistentAnswersAgree
overlaps_of_consistent_answers_agree A is consistent = consistent-overlaps A is.presentation consistent

pub killed_words_are_carried : KilledWordsAreCarried
killed_words_are_carried = dead-carried

pub endomorphisms_induce_plainly : EndomorphismsInducePlainly
endomorphisms_induce_plainly L p c A words none largest =
    endos-induce L words (ap (λ (rs : List (List ℤ)). length rs) none) p c A largest

pub images_make_maps : ImagesMakeMaps
images_make_maps = part-makes_map

-- the iterated part has distinct names and words of its names
part-words : (L : LPresentation) → IsLPresentation L → IsLPresentation (part L iterated_part)
part-words L is = record {
  distinct = is.distinct;
  fixed_words = tt;
  iterated_words = is.iterated_words;
  endo_words = is.endo_words;
}

-- the presentation of a run
run-words : (c : Certificate) (run : Run) → IsLPresentation c.presentation → IsLPresentation (presentation_of c run)
run-words c Iterated words = part-words c.presentation words
run-words c Whole words = words

run-iterated : (c : Certificate) (run : Run) → (presentation_of c run).iterated ≡ c.presentation.iterated
run-iterated c Iterated = refl
run-iterated c Whole = refl

run-endos : (c : Certificate) (run : Run) → (presentation_of c run).endos ≡ c.presentation.endos
run-endos c Iterated = refl
run-endos c Whole = refl

no-more : (a b : Bool) → a && not b ≡ true → b ≡ false
no-more true true e = cc
no-more true false e = refl
no-more false b e = cc

-- where endomorphisms are judged, the run has no fixed relators
run-fixed : (c : Certificate) (run : Run) → judges_endos c.presentation run ≡ true → length (presentation_of c run).fixed ≡ 0
run-fixed c Iterated e = refl
run-fixed c Whole e =
    let few : length c.presentation.fixed ≤ 0 =
    ltb-false 0 (length c.presentation.fixed) (no-more (ltb 0 (length c.presentation.endos)) (ltb 0 (length c.presentation.fixed)) e) in
    omega arith

module _ (c : Certificate) (words : IsLPresentation c.presentation) (offered : IsOffered c.prime) where
  module _ (run : Run) (A : Answer) (is : IsRunToLargest c run A) where
    abbrev M : LPresentation
    M = presentation_of c run

    limits : IsWithinLimits c A
    limits = record {
      offered = offered;
      answer = is.largest.answer;
      names = is.largest.names ∙ presentation_of-names c run;
      rank_limit = is.rank_limit;
    }

    built : built_by full_kind.cover c run ≡ A
    built = runs_build_their_answers c run A is.made

    -- what is judged at a step
    step : (k : ℕ) → 1 ≤ k → k ≤ length (steps_of c run) → KeepsStep full_kind c run k
    step k first last = let p = (passes c run A is.made).steps k first last in record {
      extra = p.extra;
      rows = p.rows;
      sums = p.sums;
      rank = rank c run A is.made limits k first last;
    }

    -- those of the answer
    overlap : Keeps full_kind c run c.class part_of_run.Overlap
    overlap = subst (OverlapsAgree full_kind) (sym built) (consistent-overlaps A is.largest.answer.presentation is.largest.consistent)

    iterated : Keeps full_kind c run c.class part_of_run.Iterated
    iterated =
        subst (λ (D : Answer). AreCarriedToIdentity D c.presentation.iterated) (sym built)
        (subst (AreCarriedToIdentity A) (run-iterated c run)
        (iterated-carried A is.largest.answer is.largest.consistent M (run-words c run words) is.largest.names is.largest.kills))

    endo : judges_endos c.presentation run ≡ true → Keeps full_kind c run c.class part_of_run.Endo
    endo judged =
        subst (λ (D : Answer). All (InducesPlainly D) c.presentation.endos) (sym built)
        (subst (All (InducesPlainly A)) (run-endos c run)
        (endos-induce M (run-words c run words) (run-fixed c run judged) c.prime c.class A is.largest))

    pub run-keeps : KeepsRun full_kind c run
    run-keeps = record {
      steps = step;
      short = runs_are_not_short c run A is.made;
      overlaps = overlap;
      iterated = iterated;
      endos = endo;
    }

  module _ (whole : IsRunToLargest c Whole c.answer) (iterated : has_two_runs c.presentation ≡ true → HasFirstRun c) where
    end : built_by full_kind.cover c Whole ≡ c.answer
    end = built Whole c.answer whole

    fixed : Keeps full_kind c Whole c.class part_of_run.Fixed
    fixed =
        subst (λ (D : Answer). AreCarriedToIdentity D c.presentation.fixed) (sym end)
        (fixed-carried c.answer whole.largest.answer whole.largest.consistent c.presentation words whole.largest.names whole.largest.kills)

    map_of : HasFirstRun c → Keeps full_kind c Whole c.class part_of_run.Map
    map_of first =
        subst (λ (D : Answer). MakeMap D (built_by full_kind.cover c Whole) (images_of (built_by full_kind.cover c Whole)))
        (sym (built Iterated first.answer first.run))
        (subst (λ (D : Answer). MakeMap first.answer D (images_of D)) (sym end)
        (part-makes_map c.presentation c.prime c.class first.answer c.answer first.run.largest whole.largest))

    pub keeps-all : KeepsAll full_kind c
    keeps-all = record {
      iterated = λ two. let first = iterated two in run-keeps Iterated first.answer first.run;
      whole = run-keeps Whole c.answer whole;
      fixed = fixed;
      map = λ two. map_of (iterated two);
      answer = sym end;
    }

-- the whole
pub certificates_of_runs_are_valid : CertificatesOfRunsAreValid
certificates_of_runs_are_valid c is = keeps-valid full_kind c (keeps-all c is.words is.offered is.whole is.iterated)
