-- What is proved of matrices over the tails of covers. Each statement is the contract of a function of `laws`.
-- From: the endomorphisms induced on the p-covering groups of L-presented groups, L. Bartholdi, B. Eick and R. Hartung, A nilpotent
-- quotient algorithm for certain infinitely presented groups and its applications, 2008.
use Rattle.std.specs.Prelude.{◌≡◌, ℕ, ℤ, List, length}
use Rattle.fp_echelon.specs.Span.{AreRows}
use Rattle.p_cover.specs.Covers.{CoverOf, IsCover, all_sources}
use Rattle.cover_quotient.specs.Stages.{IsLightCover}
use Rattle.endo_lift.specs.Lifts.{Induces, LeavesOutTrivial, AreImageRows, CarriesRows}

-- what a full cover leaves out has trivial rows
abbrev pub FullCoversLeaveOutNothing : Type 0
FullCoversLeaveOutNothing = (C : CoverOf) → IsCover C → C.sources ≡ all_sources C.answer → LeavesOutTrivial C

-- so has what a light cover leaves out
abbrev pub LightCoversLeaveOutTrivialRows : Type 0
LightCoversLeaveOutTrivialRows = (C : CoverOf) → IsLightCover C → LeavesOutTrivial C

-- where an endomorphism induces one of the answer, and what a cover leaves out has trivial rows, the matrix whose rows are the values
-- of the images carries each row of a word to a row of the word's image; the answer and the cover need not be consistent
abbrev pub MatricesCarryRows : Type 0
MatricesCarryRows = (C : CoverOf) → IsCover C → LeavesOutTrivial C → (endo : List (List ℤ)) → length endo ≡ length C.answer.names
    → Induces C.answer endo → (rows : List (List ℕ)) → length rows ≡ length C.sources
    → AreRows C.answer.presentation.prime (length C.sources) rows → AreImageRows C endo rows → CarriesRows C endo rows
