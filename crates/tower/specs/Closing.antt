-- Which iterated relators along endomorphisms suffice in a cover, and copies of bases.
-- From: the closure under endomorphisms in the nilpotent quotient algorithm of L. Bartholdi, B. Eick and R. Hartung for L-presented
-- groups.
use Rattle.std.specs.Prelude.{◌≡◌, ℕ, ℤ, List, [], length}
use Rattle.std.specs.List.{All, Contains}
use Rattle.pq_base.specs.LPresentation.{LPresentation, IsRelator, part}
use Rattle.pq_base.specs.LPresentation.Part.{iterated_part}
use Rattle.fp_echelon.specs.Span.{AreRows, EachInSpan}
use Rattle.fp_echelon.specs.Basis.{Echelon, IsBasis}
use Rattle.pc_presentation.specs.Collection.{State}
use Rattle.p_cover.specs.RowedAnswer.{rowed, tails_word}
use Rattle.p_cover.specs.Covers.{CoverOf, rowed_cover}
use Rattle.cover_quotient.specs.AnswerLaws.{HasRowOf}
use Rattle.cover_quotient.specs.OverlapRows.{SpanOverlaps}
use Rattle.endo_lift.specs.Lifts.{AreJoinedIn}
use Rattle.tower.specs.declared.relator.Relator.{Relator}
use Rattle.tower.specs.NamedParts.{recorded_source}
use Rattle.tower.specs.StepRows.{HasSpannedRow}

-- a basis of the same span, to which rows were added that were added to the other
pub record IsCopy (B K : Echelon) : Type 0 where
  pub basis : IsBasis K
  pub prime : K.prime ≡ B.prime
  pub width : K.width ≡ B.width
  pub members : All (Contains B.added) K.added
  pub span : EachInSpan B.prime B.width K.added B.added

-- a row whose word is trivial in the cover
abbrev pub IsTrivialRow : CoverOf → List ℕ → Type 0
IsTrivialRow C x = AreJoinedIn C (tails_word (rowed_cover C) x) []

-- rows that span the rows of all overlaps, and a row of each of these relators, span a row of each iterated relator along each list of
-- endomorphisms
abbrev pub SufficeIn : LPresentation → CoverOf → (State → ℕ → State) → List Relator → Type 0
SufficeIn L C push relators =
    (rows : List (List ℕ)) → AreRows C.answer.presentation.prime (length C.sources) rows → SpanOverlaps (rowed (rowed_cover C)) push rows
    → ((r : Relator) → Contains relators r → HasSpannedRow L C push rows (recorded_source r))
    → (r : List ℤ) → IsRelator (part L iterated_part) r → HasRowOf C rows r
