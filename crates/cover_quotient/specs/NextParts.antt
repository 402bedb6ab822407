-- The parts of the next answer in the making: which relations already have their right sides.
use Rattle.std.specs.Prelude.{◌≡◌, ◌<◌, ◌≤◌, ◌+◌, ◌⊎◌, ℕ, suc, List, length}
use Rattle.pq_base.specs.Presentation.{IsPresentation}
use Rattle.pq_base.specs.Answer.{Answer, Definition as Source}
use Rattle.pc_presentation.specs.declared.syllable.Syllable.{Syllable}
use Rattle.pc_presentation.specs.declared.relation.Relation.{Relation}
use Rattle.pc_presentation.specs.declared.relation.Relation.TheVariants.{Power, Commutator}
use Rattle.pc_presentation.specs.Syllable.{syllable}
use Rattle.pc_presentation.specs.Relation.{IsRelation}
use Rattle.pc_presentation.specs.Pcp.{TailedPresentation, HasShape, sides_of, right_side}
use Rattle.pc_presentation.specs.Builder.{Draft, WasGiven}
use Rattle.p_cover.specs.Given.{IsDraftOf}

-- a place of a list, counted from 1
pub record IsPlace (ds : List Source) (k : ℕ) : Type 0 where
  pub first : 1 ≤ k
  pub last : k ≤ length ds

-- a syllable of the generator that comes so many later
abbrev pub shifted : ℕ → Syllable → Syllable
shifted by s = syllable (by + s.generator) s.exponent

-- the powers of the first a of n generators, the commutators of the first b with those before them, and of the next one with
-- the first c, and the relations of generators after the n
abbrev pub IsAmong : ℕ → ℕ → ℕ → ℕ → Relation → Type 0
IsAmong n a b c (Power i) = (i ≤ a) ⊎ (n < i)
IsAmong n a b c (Commutator j i) = (j ≤ b) ⊎ ((j ≡ suc b) × (i ≤ c)) ⊎ (n < j)

-- a draft of the answer's presentation, in which these relations have their right sides, and no others were given
pub record IsDraft (A : Answer) (n a b c : ℕ) (D : Draft) : Type 0 where
  pub of : IsPresentation A.presentation
  pub prime : D.built.presentation.prime ≡ A.presentation.prime
  pub rank : D.built.presentation.rank ≡ A.presentation.rank
  pub weights : D.built.weights ≡ A.weights
  pub tails : D.built.tails ≡ 0
  pub side_shape : HasShape A.presentation.rank (sides_of D.built.presentation)
  pub given_shape : HasShape A.presentation.rank D.given
  pub sides : (r : Relation) → IsRelation A.presentation.rank r → IsAmong n a b c r
      → right_side D.built.presentation r ≡ right_side A.presentation r
  pub given : (r : Relation) → IsRelation A.presentation.rank r → WasGiven D r → IsAmong n a b c r

-- a draft with the prime and the generators of the answer's presentation, to which the relation wasn't given yet
pub record Awaits (A : Answer) (r : Relation) (D : Draft) : Type 0 where
  pub of : IsPresentation A.presentation
  pub draft : IsDraftOf A D
  pub new : ¬ WasGiven D r

-- a presentation without tails is the answer's
pub record IsPresentationOf (A : Answer) (T : TailedPresentation) : Type 0 where
  pub presentation : T.presentation ≡ A.presentation
  pub weights : T.weights ≡ A.weights
  pub tails : T.tails ≡ 0
