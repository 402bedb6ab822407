-- What each part of a certificate has to keep. A part fails where it doesn't keep it.
-- From: covers, sums of rows and final overlaps, as Newman and O'Brien's p-quotient method finds them, without the search.
use Rattle.std.specs.Prelude.{◌≡◌, ◌≢◌, ◌⊎◌, ◌+◌, ◌≤◌, ◌<◌, ℕ, ℤ, List, [], length}
use Rattle.std.specs.List.{All}
use Rattle.pq_base.specs.Limits.{max_rank}
use Rattle.pq_base.specs.LPresentation.{LPresentation}
use Rattle.pq_base.specs.Answer.{Answer, Definition as Source, class_of}
use Rattle.fp_rows.specs.Differences.{difference}
use Rattle.fp_echelon.specs.Span.{combine}
use Rattle.pc_presentation.specs.Pcp.{unit_row}
use Rattle.pc_presentation.specs.Rowed.{without_rows}
use Rattle.pc_presentation.specs.Collection.{plain_push}
use Rattle.pc_presentation.specs.Tailed.{rowed_presentation}
use Rattle.pc_presentation.specs.declared.overlap.Overlap.{Overlap}
use Rattle.pc_presentation.specs.OverlapNumbers.{AreOverlapNumbers, overlap_of}
use Rattle.pc_presentation.specs.Overlaps.{AgreesPlainly}
use Rattle.p_cover.specs.Covers.{CoverOf, cover_presentation}
use Rattle.cover_quotient.specs.Defining.{MayBeKept}
use Rattle.cover_quotient.specs.Stages.{full_cover_of}
use Rattle.derivation_log.specs.declared.source.RowSource.{RowSource}
use Rattle.derivation_log.specs.declared.source.Run.{Run}
use Rattle.derivation_log.specs.RowSources.{IsRowOf, AreRowsOf}
use Rattle.derivation_log.specs.HeldRuns.{IsTestedSource}
use Rattle.derivation_log.specs.Certificates.{TailLine, StepLines, Certificate, steps_of}
use Rattle.derivation_log.specs.CertificateRuns.{row_of_pairs, kept_in, kept_sources_in, answer_after, kept_at}
use Rattle.derivation_log.specs.PlainValues.{IsCarriedToIdentity}

-- what the version of a certificate decides: the cover of a step, the overlaps that a step may name, the sources whose tails it may
-- keep, and the overlaps that are judged after the last step
pub record CertificateKind : Type 1 where
  pub cover : Answer → CoverOf
  pub tested : Answer → Overlap → Type 0
  pub may_keep : Answer → Source → Type 0
  pub judged : Answer → Overlap → Type 0

-- version 1: full covers and all overlaps
abbrev pub full_kind : CertificateKind
full_kind = record {
  cover = full_cover_of;
  tested = λ A o. Unit {0};
  may_keep = λ A d. MayBeKept A (class_of A) d;
  judged = λ A o. Unit {0};
}

-- step k is of a class that is asked for, and no step before it kept no tail
pub record IsNotExtra (cover : Answer → CoverOf) (c : Certificate) (run : Run) (k : ℕ) : Type 0 where
  pub class : k ≤ c.class
  pub earlier : (j : ℕ) → 1 ≤ j → j < k → kept_at cover c run j ≢ []

-- a source has a row in a cover by the plain rule: its numbers are in range, the ways of an overlap reach the same exponents, and the
-- value of a relator has none
pub record HasPlainRow (L : LPresentation) (C : CoverOf) (s : RowSource) : Type 0 where
  pub row : List ℕ
  pub is : IsRowOf L C (plain_push (rowed_presentation (cover_presentation C))) s row

-- each source of a step has, and is one that the step may name
pub record HavePlainRows (kind : CertificateKind) (L : LPresentation) (C : CoverOf) (s : StepLines) : Type 0 where
  pub rows : All (HasPlainRow L C) s.sources
  pub tested : All (IsTestedSource (kind.tested C.answer)) s.sources

-- the sum of the rows that a line names is the tail minus the tails that it equals
pub record IsSumOfRows (C : CoverOf) (rows : List (List ℕ)) (l : TailLine) : Type 0 where
  pub in_range : l.tail ≤ length C.sources
  pub sum : combine C.answer.presentation.prime (length C.sources) (row_of_pairs (length rows) l.sums) rows
      ≡ difference C.answer.presentation.prime (unit_row (length C.sources) l.tail) (row_of_pairs (length C.sources) l.kept)

-- each line is a sum of the rows of the sources
pub record AreSumsOfRows (L : LPresentation) (C : CoverOf) (s : StepLines) : Type 0 where
  pub rows : List (List ℕ)
  pub are : AreRowsOf L C (plain_push (rowed_presentation (cover_presentation C))) s.sources rows
  pub lines : All (IsSumOfRows C rows) s.tails

-- the tails that a step keeps give an answer, of a rank within the limit
pub record GiveAnswer (kind : CertificateKind) (C : CoverOf) (s : StepLines) : Type 0 where
  pub limit : C.answer.presentation.rank + length (kept_in C s) ≤ max_rank
  pub may_keep : All (kind.may_keep C.answer) (kept_sources_in C s)

-- there are as many steps as classes, or the last one kept no tail
abbrev pub IsNotShort : (Answer → CoverOf) → Certificate → Run → Type 0
IsNotShort cover c run =
    (c.class ≤ length (steps_of c run)) ⊎ ((1 ≤ length (steps_of c run)) × (kept_at cover c run (length (steps_of c run)) ≡ []))

-- the answer that a run builds
abbrev pub built_by : (Answer → CoverOf) → Certificate → Run → Answer
built_by cover c run = answer_after cover c run (length (steps_of c run))

-- the two ways of each overlap that is judged reach one state
abbrev pub OverlapsAgree : CertificateKind → Answer → Type 0
OverlapsAgree kind A = (o : Overlap) → AreOverlapNumbers A.presentation.rank o → kind.judged A o
    → AgreesPlainly (without_rows A.presentation) (overlap_of o)

-- the images of the answer carry each of these words to the identity
abbrev pub AreCarriedToIdentity : Answer → List (List ℤ) → Type 0
AreCarriedToIdentity A words = All (IsCarriedToIdentity A) words
