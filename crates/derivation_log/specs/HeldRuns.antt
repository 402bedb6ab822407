-- The steps of a run: what a log holds after it. Each step has a basis of rows of its sources in a cover of the answer before it,
-- and the next answer is what this basis makes of the cover.
-- From: Newman and O'Brien's p-quotient method, one class after the other.
use Rattle.std.specs.Prelude.{◌≡◌, ◌≢◌, ◌⊎◌, ◌<◌, ℕ, List, [], ◌∷◌, ◌++◌, length, All}
use Rattle.pq_base.specs.LPresentation.{LPresentation}
use Rattle.pq_base.specs.Answer.{Answer}
use Rattle.fp_echelon.specs.Basis.{IsBasis}
use Rattle.pc_presentation.specs.Rowed.{RowedPresentation}
use Rattle.pc_presentation.specs.Collection.{State}
use Rattle.pc_presentation.specs.Parts.{trivial_answer}
use Rattle.pc_presentation.specs.declared.overlap.Overlap.{Overlap}
use Rattle.pc_presentation.specs.Tailed.{rowed_presentation}
use Rattle.p_cover.specs.Covers.{CoverOf, cover_presentation}
use Rattle.cover_quotient.specs.Kept.{kept_columns}
use Rattle.cover_quotient.specs.NextAnswer.{eliminated}
use Rattle.derivation_log.specs.declared.source.RowSource.{RowSource}
use Rattle.derivation_log.specs.declared.source.RowSource.TheVariants.{Test, Fixed, Iterated}
use Rattle.derivation_log.specs.RowSources.{AreRowsOf}
use Rattle.derivation_log.specs.HeldSteps.{HeldStep, held_basis}

-- a source of a step in which some overlaps are tested: one of these, or a relator
abbrev pub IsTestedSource : (Overlap → Type 0) → RowSource → Type 0
IsTestedSource tested (Test o) = tested o
IsTestedSource tested (Fixed i) = Unit {0}
IsTestedSource tested (Iterated i s) = Unit {0}

-- a step over a cover in which some overlaps are tested, by a collector's pushes: its basis has the cover's prime and a column for each
-- tail, and the rows that were added to it are those of its sources
pub record IsHeldStep (L : LPresentation) (meaning : RowedPresentation → State → ℕ → State) (C : CoverOf) (tested : Overlap → Type 0)
    (s : HeldStep) : Type 0 where
  pub basis : IsBasis (held_basis s)
  pub prime : s.prime ≡ C.answer.presentation.prime
  pub width : s.width ≡ length C.sources
  pub rows : AreRowsOf L C (meaning (rowed_presentation (cover_presentation C))) s.sources s.added
  pub tests : All (IsTestedSource tested) s.sources

-- the columns of the tails that a step keeps
abbrev pub kept_by : CoverOf → HeldStep → List ℕ
kept_by C s = kept_columns (length C.sources) s.rows

-- steps from one answer to another, each of which keeps a tail; each answer has its cover and the overlaps that are tested
abbrev pub AreHeldSteps : LPresentation → (RowedPresentation → State → ℕ → State) → (Answer → CoverOf) → (Answer → Overlap → Type 0)
    → Answer → List HeldStep → Answer → Type 0
AreHeldSteps L meaning cover tested A [] B = A ≡ B
AreHeldSteps L meaning cover tested A (s ∷ ss) B =
    IsHeldStep L meaning (cover A) (tested A) s × (kept_by (cover A) s ≢ [])
    × AreHeldSteps L meaning cover tested (eliminated (cover A) s.rows) ss B

-- fewer than c steps to an answer, and behind them one that keeps no tail: the answer stays as it is
pub record AreStoppedSteps (L : LPresentation) (meaning : RowedPresentation → State → ℕ → State) (cover : Answer → CoverOf)
    (tested : Answer → Overlap → Type 0) (c : ℕ) (A : Answer) (steps : List HeldStep) (B : Answer) : Type 0 where
  pub earlier : List HeldStep
  pub last : HeldStep
  pub all : steps ≡ earlier ++ last ∷ []
  pub held : AreHeldSteps L meaning cover tested A earlier B
  pub few : length earlier < c
  pub is_step : IsHeldStep L meaning (cover B) (tested B) last
  pub none_kept : kept_by (cover B) last ≡ []

-- the steps of a run to class c: one for each class from 1 on, the last of class c or of the first class that keeps no tail
abbrev pub IsHeldRun : LPresentation → (RowedPresentation → State → ℕ → State) → (Answer → CoverOf) → (Answer → Overlap → Type 0)
    → ℕ → ℕ → List HeldStep → Answer → Type 0
IsHeldRun L meaning cover tested p c steps B =
    (AreHeldSteps L meaning cover tested (trivial_answer p L.names) steps B × (length steps ≡ c))
    ⊎ AreStoppedSteps L meaning cover tested c (trivial_answer p L.names) steps B
