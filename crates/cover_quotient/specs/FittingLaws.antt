-- What is proved of elements that fit an answer up to a level. Each statement is the contract of a function of
-- `laws_of_fitting`.
-- From: the universal property of the p-covering group.
use Rattle.std.specs.Prelude.{◌≡◌, ◌<◌, ℕ, suc, ℤ, None, List, [], get_or, length}
use Rattle.std.specs.List.{All}
use Rattle.pq_base.specs.Table.{Table, IsGroup, AllBelow, InLevel, HasTableClass, times, inverse, value}
use Rattle.pq_base.specs.Presentation.{IsNormal, IsRelatorOf}
use Rattle.pq_base.specs.Joined.{Joined}
use Rattle.pq_base.specs.Prime.{IsOffered}
use Rattle.pq_base.specs.Answer.{Answer, Definition as Source, IsAnswer, definition_at}
use Rattle.pq_base.specs.Answer.Definition.{image}
use Rattle.pq_base.specs.Largest.{FactorsOnce}
use Rattle.fp_echelon.specs.Span.{AreRows, InSpan, EachInSpan}
use Rattle.fp_echelon.specs.Reduced.{BasisRow, rows_of, IsReduced}
use Rattle.pc_presentation.specs.Rowed.{flat, row_sum}
use Rattle.p_cover.specs.RowedAnswer.{rowed, rowed_images, tails_word}
use Rattle.pq_base.specs.EntryWords.{IsSourceOf}
use Rattle.p_cover.specs.Sources.{place_in}
use Rattle.p_cover.specs.Covers.{CoverOf, IsCover, all_sources, rowed_cover}
use Rattle.cover_quotient.specs.Fits.{Fits, tail_element, cover_elements, LeftOutFit, IsJustified}
use Rattle.cover_quotient.specs.Kept.{kept_columns}
use Rattle.cover_quotient.specs.NextAnswer.{eliminated}
use Rattle.cover_quotient.specs.Defining.{KeptMayBeKept}

-- all elements fit each answer at level 0
abbrev pub FitsAtZero : Type 0
FitsAtZero = (T : Table) (f : List ℕ) (A : Answer) → IsGroup T → AllBelow T.size f → Fits T f 0 A

-- at a level that is trivial, the map of the given generators factors through the answer exactly once
abbrev pub FitsFactors : Type 0
FitsFactors = (T : Table) (f : List ℕ) (c : ℕ) (A : Answer) → IsGroup T → AllBelow T.size f → IsAnswer A → length f ≡ length A.names
    → HasTableClass T A.presentation.prime c → Fits T f c A → FactorsOnce T f A

-- elements of a group table that fit the answer of a cover at level c, and at which what the cover leaves out holds up to the
-- next level
pub record FitsCovered (T : Table) (f : List ℕ) (c : ℕ) (C : CoverOf) : Type 0 where
  pub group : IsGroup T
  pub elements : AllBelow T.size f
  pub cover : IsCover C
  pub prime : IsOffered C.answer.presentation.prime
  pub fits : Fits T f c C.answer
  pub left_out : LeftOutFit T f c C

-- elements for the generators and the tails of a cover
pub record CoverFits (T : Table) (f : List ℕ) (c : ℕ) (C : CoverOf) : Type 0 where
  -- the tails are in level c
  pub tails : (t : ℕ) → t < length C.sources
      → InLevel T C.answer.presentation.prime c (tail_element T f C.answer (get_or C.sources t (image 0)))
  -- up to level c + 1 each relation of the cover holds, and each image is the element given
  pub relators : (r : List ℤ) → IsRelatorOf (flat (rowed (rowed_cover C))) r
      → InLevel T C.answer.presentation.prime (suc c) (value T (cover_elements T f C) r)
  pub images : (i : ℕ) → i < length C.answer.images
      → InLevel T C.answer.presentation.prime (suc c)
      (times T (inverse T (value T (cover_elements T f C) (get_or (rowed_images (rowed_cover C)) i []))) (get_or f i 0))
  -- so joined words have values that differ by an element of level c + 1
  pub joined : (u v : List ℤ) → Joined (flat (rowed (rowed_cover C))) u v
      → InLevel T C.answer.presentation.prime (suc c)
      (times T (inverse T (value T (cover_elements T f C) u)) (value T (cover_elements T f C) v))
  -- and the words of rows multiply as the rows add up
  pub sums : (x y : List ℕ) → IsNormal C.answer.presentation.prime (length C.sources) x
      → IsNormal C.answer.presentation.prime (length C.sources) y
      → InLevel T C.answer.presentation.prime (suc c)
      (times T (inverse T (value T (cover_elements T f C) (tails_word (rowed_cover C) (row_sum C.answer.presentation.prime x y))))
      (times T (value T (cover_elements T f C) (tails_word (rowed_cover C) x))
      (value T (cover_elements T f C) (tails_word (rowed_cover C) y))))

-- where the elements fit the answer at level c, and what carries no tail holds up to level c + 1
abbrev pub CoversFit : Type 0
CoversFit = (T : Table) (f : List ℕ) (c : ℕ) (C : CoverOf) → FitsCovered T f c C → CoverFits T f c C

-- what defines a generator fails by nothing
abbrev pub DefinitionsHold : Type 0
DefinitionsHold = (T : Table) (f : List ℕ) (A : Answer) → IsGroup T → AllBelow T.size f → IsAnswer A
    → (k : ℕ) → k < A.presentation.rank → tail_element T f A (definition_at A k) ≡ 0

-- so in a full cover what carries no tail fails by nothing
abbrev pub FullCoversLeaveNothingOut : Type 0
FullCoversLeaveNothingOut = (T : Table) (f : List ℕ) (C : CoverOf) → IsGroup T → AllBelow T.size f → IsCover C
    → C.sources ≡ all_sources C.answer → (d : Source) → IsSourceOf C.answer d → place_in C.sources d ≡ None
    → tail_element T f C.answer d ≡ 0

-- and it holds up to every level
abbrev pub FullCoversFit : Type 0
FullCoversFit = (T : Table) (f : List ℕ) (c : ℕ) (C : CoverOf) → IsGroup T → AllBelow T.size f → IsCover C
    → C.sources ≡ all_sources C.answer → LeftOutFit T f c C

-- where all that carries no tail fails by nothing, the images are exactly the elements given
abbrev pub ImagesAreExact : Type 0
ImagesAreExact = (T : Table) (f : List ℕ) (C : CoverOf) → IsGroup T → AllBelow T.size f → IsCover C → IsOffered C.answer.presentation.prime
    → ((d : Source) → IsSourceOf C.answer d → place_in C.sources d ≡ None → tail_element T f C.answer d ≡ 0)
    → (i : ℕ) → i < length C.answer.images → value T (cover_elements T f C) (get_or (rowed_images (rowed_cover C)) i []) ≡ get_or f i 0

-- rows over the tails that are justified at elements, one for each given generator
pub record AreJustified (T : Table) (f : List ℕ) (C : CoverOf) (rows : List (List ℕ)) : Type 0 where
  pub count : length f ≡ length C.answer.names
  pub are : AreRows C.answer.presentation.prime (length C.sources) rows
  pub justified : All (IsJustified (rowed_cover C) T f) rows

-- a reduced basis in the span of rows over the tails
pub record IsBasisIn (C : CoverOf) (rows : List (List ℕ)) (bs : List BasisRow) : Type 0 where
  pub reduced : IsReduced C.answer.presentation.prime (length C.sources) bs
  pub each : EachInSpan C.answer.presentation.prime (length C.sources) rows (rows_of bs)

-- the words of rows in the span of justified rows have values in level c + 1
abbrev pub JustifiedRowsFit : Type 0
JustifiedRowsFit = (T : Table) (f : List ℕ) (c : ℕ) (C : CoverOf) (rows : List (List ℕ)) → FitsCovered T f c C → AreJustified T f C rows
    → (x : List ℕ) → InSpan C.answer.presentation.prime (length C.sources) rows x
    → InLevel T C.answer.presentation.prime (suc c) (value T (cover_elements T f C) (tails_word (rowed_cover C) x))

-- modulo a basis in the span of justified rows, the elements fit the next answer at level c + 1; c need not be the class, and what
-- is kept need not qualify
abbrev pub OneClassFits : Type 0
OneClassFits = (T : Table) (f : List ℕ) (c : ℕ) (C : CoverOf) (rows : List (List ℕ)) (bs : List BasisRow) → FitsCovered T f c C
    → AreJustified T f C rows → IsBasisIn C rows bs → KeptMayBeKept C bs → Fits T f (suc c) (eliminated C bs)

-- where no tail is kept, they fit the same answer at level c + 1
abbrev pub NoTailKeptFits : Type 0
NoTailKeptFits = (T : Table) (f : List ℕ) (c : ℕ) (C : CoverOf) (rows : List (List ℕ)) (bs : List BasisRow) → FitsCovered T f c C
    → AreJustified T f C rows → IsBasisIn C rows bs → kept_columns (length C.sources) bs ≡ [] → Fits T f (suc c) C.answer
