-- Which tails a step keeps, and that what it makes of them is ready for the next class. Each statement is the contract of a
-- function of `laws_of_kept_tails`.
-- From: Newman and O'Brien's p-quotient method: new generators of the next class are defined by the relations that have to
-- be looked at.
use Rattle.std.specs.Prelude.{◌<◌, ◌≡◌, ◌≤◌, ℕ, suc, ℤ, List, length, map}
use Rattle.pq_base.specs.Limits.{max_class}
use Rattle.pq_base.specs.LPresentation.{LPresentation, IsLPresentation, IsRelator}
use Rattle.pq_base.specs.Table.{Table, value}
use Rattle.pq_base.specs.Series.{HasClass}
use Rattle.pq_base.specs.Prime.{IsOffered}
use Rattle.pq_base.specs.Answer.{IsAnswer, class_of}
use Rattle.pq_base.specs.Canonical.{up_to_class}
use Rattle.pq_base.specs.Largest.{IsLargest}
use Rattle.fp_echelon.specs.Reduced.{BasisRow}
use Rattle.fp_echelon.specs.Basis.{Echelon, IsBasis}
use Rattle.pc_presentation.specs.Rowed.{flat}
use Rattle.pc_presentation.specs.Collection.{State}
use Rattle.pc_presentation.specs.Arithmetic.{IsMeaning}
use Rattle.pc_presentation.specs.NormalTable.{normal_table, generator_numbers}
use Rattle.p_cover.specs.RowedAnswer.{RowedAnswer, rowed, rowed_images}
use Rattle.p_cover.specs.Covers.{CoverOf, all_sources, rowed_cover}
use Rattle.cover_quotient.specs.AnswerLaws.{IsBasisOver, HoldsOverlaps, HasRowOf, kept_count}
use Rattle.cover_quotient.specs.Fits.{Fits, LeftOutFit}
use Rattle.cover_quotient.specs.Levels.{IsReady}
use Rattle.cover_quotient.specs.NextAnswer.{cover_modulo, eliminated}
use Rattle.cover_quotient.specs.Defining.{KeptMayBeKept, KeptMayDefine}
use Rattle.cover_quotient.specs.OverlapRows.{SpanOverlaps}

-- the table of normal words of the flat reading of an answer with rows, and the elements of the images there
abbrev pub flat_table : RowedAnswer → Table
flat_table Y = normal_table (flat (rowed Y))

abbrev pub image_elements : RowedAnswer → List ℕ
image_elements Y = map (value (flat_table Y) (generator_numbers (flat (rowed Y)))) (rowed_images Y)

-- at class 0 all sources of a cover are images, so each kept tail may define a generator
abbrev pub KeptImagesMayDefine : Type 0
KeptImagesMayDefine = (C : CoverOf) (bs : List BasisRow) → IsBasisOver C bs → class_of C.answer ≡ 0 → KeptMayDefine C bs

-- at a later class, over an answer that is ready, where the span holds the overlap rows, the images of the cover modulo the
-- span fit the answer at its class, and what the cover leaves out holds there up to the next level, each kept tail comes from a
-- qualifying relation with the empty word
abbrev pub KeptTailsMayDefine : Type 0
KeptTailsMayDefine = (C : CoverOf) (bs : List BasisRow) (push : State → ℕ → State) → HoldsOverlaps C bs push
    → 1 ≤ class_of C.answer → IsReady C.answer (class_of C.answer)
    → Fits (flat_table (cover_modulo C bs)) (image_elements (cover_modulo C bs)) (class_of C.answer) C.answer
    → LeftOutFit (flat_table (cover_modulo C bs)) (image_elements (cover_modulo C bs)) (class_of C.answer) C → KeptMayDefine C bs

-- a basis of rows over all tails of the full cover of an answer which, cut at each class up to its own, is the largest quotient of
-- that class; the span holds the rows of all overlaps and of all relators
pub record IsStepOfLargestQuotients (L : LPresentation) (p : ℕ) (C : CoverOf) (push : State → ℕ → State) (B : Echelon) : Type 0 where
  pub words : IsLPresentation L
  pub offered : IsOffered p
  pub answer : IsAnswer C.answer
  pub largest : (j : ℕ) → j ≤ class_of C.answer → IsLargest L p j (up_to_class C.answer j)
  pub full : C.sources ≡ all_sources C.answer
  pub meaning : IsMeaning (rowed (rowed_cover C)) push
  pub basis : IsBasis B
  pub prime : B.prime ≡ C.answer.presentation.prime
  pub width : B.width ≡ length C.sources
  pub overlaps : SpanOverlaps (rowed (rowed_cover C)) push B.added
  pub relators : (r : List ℤ) → IsRelator L r → HasRowOf C B.added r

-- each kept tail may define a generator: an image at class 0, and later a qualifying relation with the empty word
abbrev pub KeptTailsOfLargestQuotientsMayDefine : Type 0
KeptTailsOfLargestQuotientsMayDefine = (L : LPresentation) (p : ℕ) (C : CoverOf) (push : State → ℕ → State) (B : Echelon)
    → IsStepOfLargestQuotients L p C push B → KeptMayDefine C B.rows

-- the next answer is ready for the class after it
abbrev pub NextAnswersAreReady : Type 0
NextAnswersAreReady = (C : CoverOf) (bs : List BasisRow) (push : State → ℕ → State) → HoldsOverlaps C bs push → KeptMayBeKept C bs
    → 1 ≤ kept_count C bs → class_of C.answer < max_class → HasClass C.answer.presentation (class_of C.answer)
    → IsReady (eliminated C bs) (suc (class_of C.answer))
