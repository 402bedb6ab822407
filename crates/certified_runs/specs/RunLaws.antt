-- What is proved of certificates that are made of the steps of runs, by the plain rule over all tails and all overlaps. Each statement
-- is the contract of a function of `laws`.
-- From: Newman and O'Brien's p-quotient method, with the reasons for each class.
use Rattle.std.specs.Prelude.{◌≡◌, ◌≤◌, ℕ, true, ℤ, List, [], length}
use Rattle.std.specs.List.{All}
use Rattle.pq_base.specs.Limits.{max_rank}
use Rattle.pq_base.specs.SignedWord.{sub, HasLetters}
use Rattle.pq_base.specs.LPresentation.{LPresentation, IsLPresentation, part}
use Rattle.pq_base.specs.LPresentation.Part.{iterated_part}
use Rattle.pq_base.specs.Prime.{IsOffered}
use Rattle.pq_base.specs.Joined.{Joined, IsConsistent}
use Rattle.pq_base.specs.Answer.{Answer, IsAnswer, image_words}
use Rattle.pq_base.specs.Largest.{IsLargest}
use Rattle.pc_presentation.specs.Collection.{plain_push}
use Rattle.p_cover.specs.Covers.{CoverOf}
use Rattle.cover_quotient.specs.Stages.{full_cover_of}
use Rattle.derivation_log.specs.declared.source.Run.{Run}
use Rattle.derivation_log.specs.declared.source.Run.TheVariants.{Iterated, Whole}
use Rattle.derivation_log.specs.declared.part.Part.{Part}
use Rattle.derivation_log.specs.declared.part.Part.TheVariants as part_of_run
use Rattle.derivation_log.specs.HeldSteps.{HeldStep}
use Rattle.derivation_log.specs.HeldRuns.{IsHeldRun}
use Rattle.derivation_log.specs.HeldLines.{AreLinesOf}
use Rattle.derivation_log.specs.Certificates.{Certificate, has_two_runs, steps_of, step_of, presentation_of}
use Rattle.derivation_log.specs.CertificateRuns.{cover_at}
use Rattle.derivation_log.specs.PlainValues.{IsCarriedToIdentity, MakeMap, InducesPlainly, images_of}
use Rattle.derivation_log.specs.CertificateParts.{full_kind, IsNotShort, OverlapsAgree, built_by}
use Rattle.derivation_log.specs.Validity.{Keeps, IsValid}

-- a run of a certificate has the lines of steps that lead to an answer
pub record IsRunTo (c : Certificate) (run : Run) (A : Answer) : Type 0 where
  pub some_class : 1 ≤ c.class
  pub steps : List HeldStep
  pub lines : AreLinesOf (steps_of c run) steps
  pub held : IsHeldRun (presentation_of c run) plain_push full_cover_of full_kind.tested c.prime c.class steps A

-- a part that is judged at a step passes at each step
abbrev pub StepsPass : Part → Type 0
StepsPass p = (c : Certificate) (run : Run) (A : Answer) → IsRunTo c run A → (k : ℕ) → 1 ≤ k → k ≤ length (steps_of c run)
    → Keeps full_kind c run k p

-- the last answer is an answer within the limits, for the certificate's prime and names
pub record IsWithinLimits (c : Certificate) (A : Answer) : Type 0 where
  pub offered : IsOffered c.prime
  pub answer : IsAnswer A
  pub names : A.names ≡ c.presentation.names
  pub rank_limit : A.presentation.rank ≤ max_rank

-- so each step keeps tails that may be kept, within the limit on ranks
abbrev pub StepsGiveAnswers : Type 0
StepsGiveAnswers = (c : Certificate) (run : Run) (A : Answer) → IsRunTo c run A → IsWithinLimits c A → (k : ℕ) → 1 ≤ k
    → k ≤ length (steps_of c run) → Keeps full_kind c run k part_of_run.Rank

-- step k of a run names no more sources than its cover has tails
abbrev pub NamesFewSources : (Answer → CoverOf) → Certificate → Run → ℕ → Type 0
NamesFewSources cover c run k = length (step_of c run k).sources ≤ length (cover_at cover c run k).sources

-- so does each step
abbrev pub RunsNameFewSources : Type 0
RunsNameFewSources = (c : Certificate) (run : Run) (A : Answer) → IsRunTo c run A → (k : ℕ) → 1 ≤ k → k ≤ length (steps_of c run)
    → NamesFewSources full_cover_of c run k

-- the steps are as many as classes, or the last of them kept no tail
abbrev pub RunsAreNotShort : Type 0
RunsAreNotShort = (c : Certificate) (run : Run) (A : Answer) → IsRunTo c run A → IsNotShort full_kind.cover c run

-- what the lines build is the answer that the steps lead to
abbrev pub RunsBuildTheirAnswers : Type 0
RunsBuildTheirAnswers = (c : Certificate) (run : Run) (A : Answer) → IsRunTo c run A → built_by full_kind.cover c run ≡ A

-- in a consistent answer all overlaps agree by the plain rule
abbrev pub OverlapsOfConsistentAnswersAgree : Type 0
OverlapsOfConsistentAnswersAgree = (A : Answer) → IsAnswer A → IsConsistent A.presentation → OverlapsAgree full_kind A

-- and a word that is trivial under the images is carried to the identity
abbrev pub KilledWordsAreCarried : Type 0
KilledWordsAreCarried = (A : Answer) → IsAnswer A → IsConsistent A.presentation → (w : List ℤ) → HasLetters (length A.names) w
    → Joined A.presentation (sub w (image_words A)) [] → IsCarriedToIdentity A w

-- without fixed relators each endomorphism makes a map of the largest quotient into itself
abbrev pub EndomorphismsInducePlainly : Type 0
EndomorphismsInducePlainly = (L : LPresentation) (p c : ℕ) (A : Answer) → IsLPresentation L → L.fixed ≡ [] → IsLargest L p c A
    → All (InducesPlainly A) L.endos

-- the images of the largest quotient of the whole make a map of that of the iterated part
abbrev pub ImagesMakeMaps : Type 0
ImagesMakeMaps = (L : LPresentation) (p c : ℕ) (B A : Answer) → IsLargest (part L iterated_part) p c B → IsLargest L p c A
    → MakeMap B A (images_of A)

-- a run to the largest quotient of its presentation
pub record IsRunToLargest (c : Certificate) (run : Run) (A : Answer) : Type 0 where
  pub made : IsRunTo c run A
  pub largest : IsLargest (presentation_of c run) c.prime c.class A
  pub rank_limit : A.presentation.rank ≤ max_rank

-- the run over the iterated part, to its largest quotient
pub record HasFirstRun (c : Certificate) : Type 0 where
  pub answer : Answer
  pub run : IsRunToLargest c Iterated answer

-- a certificate made of one run to the largest quotient, or of two, where there are fixed relators and endomorphisms
pub record IsMadeOfRuns (c : Certificate) : Type 0 where
  pub words : IsLPresentation c.presentation
  pub offered : IsOffered c.prime
  pub whole : IsRunToLargest c Whole c.answer
  pub iterated : has_two_runs c.presentation ≡ true → HasFirstRun c

-- is valid
abbrev pub CertificatesOfRunsAreValid : Type 0
CertificatesOfRunsAreValid = (c : Certificate) → IsMadeOfRuns c → IsValid full_kind c
