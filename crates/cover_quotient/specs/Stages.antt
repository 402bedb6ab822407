-- The stages of a tower: what is kept of the answer of each class, and the bases that lead from one to the next. A stage is over
-- a condition on a group table and elements of it, as that they obey an L-presentation.
-- From: Newman and O'Brien's p-quotient method, one term of the lower exponent-p series after the other.
use Rattle.std.specs.Prelude.{◌≡◌, ◌⊎◌, ◌<◌, ◌≤◌, ◌+◌, None, ℕ, suc, ℤ, List, length, map}
use Rattle.std.specs.List.{All}
use Rattle.pq_base.specs.LPresentation.{LPresentation, IsRelator, Obeys}
use Rattle.pq_base.specs.Table.{Table, IsGroup, AllBelow, value}
use Rattle.pq_base.specs.Joined.{IsConsistent}
use Rattle.pq_base.specs.Prime.{IsOffered}
use Rattle.pq_base.specs.Answer.{Answer, Definition as Source, IsAnswer, class_of, image_words}
use Rattle.pq_base.specs.Answer.Definition.{image, commutator, power}
use Rattle.pq_base.specs.Canonical.{weight_of, up_to_class, IsCanonical}
use Rattle.pq_base.specs.EntryWords.{IsSourceOf}
use Rattle.fp_echelon.specs.Span.{AreRows}
use Rattle.fp_echelon.specs.Reduced.{BasisRow}
use Rattle.fp_echelon.specs.Basis.{Echelon, IsBasis}
use Rattle.pc_presentation.specs.Collection.{State}
use Rattle.pc_presentation.specs.Arithmetic.{IsMeaning}
use Rattle.pc_presentation.specs.NormalTable.{normal_table, generator_numbers}
use Rattle.p_cover.specs.RowedAnswer.{rowed}
use Rattle.p_cover.specs.Sources.{place_in}
use Rattle.p_cover.specs.Covers.{CoverOf, IsCover, all_sources, rowed_cover}
use Rattle.cover_quotient.specs.AnswerLaws.{HasRowOf}
use Rattle.cover_quotient.specs.Fits.{Fits, LeftOutFit, IsJustified}
use Rattle.cover_quotient.specs.FittingLaws.{IsBasisIn}
use Rattle.cover_quotient.specs.NextAnswer.{cover_modulo}
use Rattle.cover_quotient.specs.OverlapRows.{SpanOverlaps}
use Rattle.cover_quotient.specs.KeptTailLaws.{flat_table, image_elements}

-- a condition on a table and elements of it, as that they obey an L-presentation
abbrev pub Condition : Type 1
Condition = Table → List ℕ → Type 0

-- elements of a group table, one for each given name, that meet a condition
pub record IsAdmitted (Adm : Condition) (given : List (List ℕ)) (T : Table) (f : List ℕ) : Type 0 where
  pub group : IsGroup T
  pub elements : AllBelow T.size f
  pub count : length f ≡ length given
  pub admitted : Adm T f

-- the elements of the images in an answer's table of normal words
abbrev pub image_numbers : Answer → List ℕ
image_numbers A = map (value (normal_table A.presentation) (generator_numbers A.presentation)) (image_words A)

-- an answer that all elements which meet the condition fit at level c, consistent or not
pub record IsFittedOver (Adm : Condition) (given : List (List ℕ)) (p c : ℕ) (A : Answer) : Type 0 where
  pub answer : IsAnswer A
  pub offered : IsOffered p
  pub prime : A.presentation.prime ≡ p
  pub names : A.names ≡ given
  pub class_limit : class_of A ≤ c
  pub fits : (T : Table) (f : List ℕ) → IsAdmitted Adm given T f → Fits T f c A

-- the answer of class c, or of an earlier class where the series has stopped: its table of normal words meets the condition, and
-- all elements that meet it fit the answer at level c
pub record IsStageOver (Adm : Condition) (given : List (List ℕ)) (p c : ℕ) (A : Answer) : Type 0 where
  pub answer : IsAnswer A
  pub offered : IsOffered p
  pub prime : A.presentation.prime ≡ p
  pub names : A.names ≡ given
  pub class_limit : class_of A ≤ c
  pub consistent : IsConsistent A.presentation
  pub canonical : IsCanonical A
  pub admits : Adm (normal_table A.presentation) (image_numbers A)
  pub fits : (T : Table) (f : List ℕ) → IsAdmitted Adm given T f → Fits T f c A

-- the stage of the next class, which cut to the class before is the stage of that class
pub record IsNextStageOver (Adm : Condition) (given : List (List ℕ)) (p c : ℕ) (A N : Answer) : Type 0 where
  pub stage : IsStageOver Adm given p (suc c) N
  pub class : class_of N ≡ suc c
  pub restricts : up_to_class N c ≡ A

-- an answer that cut at each class up to c is the stage of that class
pub record IsTowerOver (Adm : Condition) (given : List (List ℕ)) (p c : ℕ) (A : Answer) : Type 0 where
  pub stage : IsStageOver Adm given p c A
  pub stages : (j : ℕ) → j ≤ c → IsStageOver Adm given p j (up_to_class A j)

-- a part of the full cover, where what it leaves out holds up to the next level wherever the answer fits
pub record OwesWhatItLeavesOut (Adm : Condition) (given : List (List ℕ)) (C : CoverOf) : Type 0 where
  pub cover : IsCover C
  pub left_out : (T : Table) (f : List ℕ) (c : ℕ) → IsAdmitted Adm given T f → Fits T f c C.answer → LeftOutFit T f c C

-- a row that is to be trivial wherever the condition is met
abbrev pub IsTrustedOver : Condition → List (List ℕ) → CoverOf → List ℕ → Type 0
IsTrustedOver Adm given C x = (T : Table) (f : List ℕ) → IsAdmitted Adm given T f → IsJustified (rowed_cover C) T f x

-- trusted rows over the tails of a cover, and a reduced basis in their span
pub record IsTrustedBasisOver (Adm : Condition) (given : List (List ℕ)) (C : CoverOf) (rows : List (List ℕ))
    (bs : List BasisRow) : Type 0 where
  pub are : AreRows C.answer.presentation.prime (length C.sources) rows
  pub trusted : All (IsTrustedOver Adm given C) rows
  pub basis : IsBasisIn C rows bs

-- a basis whose span holds the rows of all overlaps, modulo which the cover's table meets the condition, and which was made of
-- trusted rows alone
pub record IsBasisOfRowsOver (Adm : Condition) (given : List (List ℕ)) (C : CoverOf) (push : State → ℕ → State) (B : Echelon) : Type 0 where
  pub basis : IsBasis B
  pub prime : B.prime ≡ C.answer.presentation.prime
  pub width : B.width ≡ length C.sources
  pub overlaps : SpanOverlaps (rowed (rowed_cover C)) push B.added
  pub admits : Adm (flat_table (cover_modulo C B.rows)) (image_elements (cover_modulo C B.rows))
  pub trusted : All (IsTrustedOver Adm given C) B.added

-- such a basis for a cover of the stage of class c that owes what it leaves out
pub record IsStepOver (Adm : Condition) (given : List (List ℕ)) (p c : ℕ) (C : CoverOf) (push : State → ℕ → State)
    (B : Echelon) : Type 0 where
  pub stage : IsStageOver Adm given p c C.answer
  pub class : class_of C.answer ≡ c
  pub owes : OwesWhatItLeavesOut Adm given C
  pub meaning : IsMeaning (rowed (rowed_cover C)) push
  pub rows : IsBasisOfRowsOver Adm given C push B

-- the condition that relators say: stages over it are those of an L-presentation
abbrev pub Obeying : LPresentation → Condition
Obeying L T f = Obeys T f L

abbrev pub IsStage : LPresentation → ℕ → ℕ → Answer → Type 0
IsStage L p c A = IsStageOver (Obeying L) L.names p c A

abbrev pub IsNextStage : LPresentation → ℕ → ℕ → Answer → Answer → Type 0
IsNextStage L p c A N = IsNextStageOver (Obeying L) L.names p c A N

abbrev pub IsTower : LPresentation → ℕ → ℕ → Answer → Type 0
IsTower L p c A = IsTowerOver (Obeying L) L.names p c A

abbrev pub IsFitted : LPresentation → ℕ → ℕ → Answer → Type 0
IsFitted L p c A = IsFittedOver (Obeying L) L.names p c A

abbrev pub IsTrustedBasis : LPresentation → CoverOf → List (List ℕ) → List BasisRow → Type 0
IsTrustedBasis L C rows bs = IsTrustedBasisOver (Obeying L) L.names C rows bs

-- the cover owes what it leaves out wherever the presentation is obeyed
abbrev pub OwesToObeying : LPresentation → CoverOf → Type 0
OwesToObeying L C = OwesWhatItLeavesOut (Obeying L) L.names C

-- a row that is to be trivial wherever the presentation is obeyed
abbrev pub IsTrusted : LPresentation → CoverOf → List ℕ → Type 0
IsTrusted L C x = (T : Table) (f : List ℕ) → Obeys T f L → IsJustified (rowed_cover C) T f x

-- a basis whose span holds the rows of all overlaps and of all relators, and which was made of trusted rows alone
pub record IsBasisOfRows (L : LPresentation) (C : CoverOf) (push : State → ℕ → State) (B : Echelon) : Type 0 where
  pub basis : IsBasis B
  pub prime : B.prime ≡ C.answer.presentation.prime
  pub width : B.width ≡ length C.sources
  pub overlaps : SpanOverlaps (rowed (rowed_cover C)) push B.added
  pub relators : (r : List ℤ) → IsRelator L r → HasRowOf C B.added r
  pub trusted : All (IsTrusted L C) B.added

-- the cover with every tail
abbrev pub full_cover_of : Answer → CoverOf
full_cover_of A = record { answer = A; sources = all_sources A }

-- a commutator of generators whose weights have a sum above the class and one
abbrev pub IsHeavy : Answer → Source → Type 0
IsHeavy A (image i) = ⊥
IsHeavy A (commutator j i) = suc (class_of A) < weight_of A j + weight_of A i
IsHeavy A (power j) = ⊥

-- a cover that leaves out heavy commutators at most
pub record IsLightCover (C : CoverOf) : Type 0 where
  pub cover : IsCover C
  pub canonical : IsCanonical C.answer
  pub left_out : (d : Source) → IsSourceOf C.answer d → place_in C.sources d ≡ None
      → (place_in (all_sources C.answer) d ≡ None) ⊎ IsHeavy C.answer d
