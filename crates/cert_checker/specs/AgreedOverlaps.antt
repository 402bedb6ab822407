-- Overlaps that agree, by their latest generator. Numbers of generators count from 1.
-- From: the consistency relations of M. R. Vaughan-Lee, An aspect of the nilpotent quotient algorithm, 1984.
use Rattle.std.specs.Prelude.{◌≤◌, ◌<◌, ℕ}
use Rattle.pq_base.specs.Presentation.{Presentation}
use Rattle.pc_presentation.specs.declared.overlap.Overlap.{Overlap}
use Rattle.pc_presentation.specs.declared.overlap.Overlap.TheVariants.{Triple, Left, Right, Own}
use Rattle.pc_presentation.specs.Rowed.{without_rows}
use Rattle.pc_presentation.specs.OverlapNumbers.{overlap_of}
use Rattle.pc_presentation.specs.Overlaps.{AgreesPlainly}

-- both ways of an overlap reach one state by the plain rule
abbrev pub Agrees : Presentation → Overlap → Type 0
Agrees P o = AgreesPlainly (without_rows P) (overlap_of o)

-- those of generator k and one below n
abbrev pub PairsAgree : Presentation → ℕ → ℕ → Type 0
PairsAgree P k n = (i : ℕ) → 1 ≤ i → i < n → Agrees P (Left k i) × Agrees P (Right k i)

-- those of generators k and j and one below n
abbrev pub LastAgree : Presentation → ℕ → ℕ → ℕ → Type 0
LastAgree P k j n = (i : ℕ) → 1 ≤ i → i < n → Agrees P (Triple k j i)

-- those of generator k, one below n, and one below that
abbrev pub TriplesAgree : Presentation → ℕ → ℕ → Type 0
TriplesAgree P k n = (j : ℕ) → 1 ≤ j → j < n → LastAgree P k j j

-- those of which generator k is the latest
pub record AgreeUpTo (P : Presentation) (k : ℕ) : Type 0 where
  pub own : Agrees P (Own k)
  pub pairs : PairsAgree P k k
  pub triples : TriplesAgree P k k

-- those of generators below n
abbrev pub AllAgree : Presentation → ℕ → Type 0
AllAgree P n = (k : ℕ) → 1 ≤ k → k < n → AgreeUpTo P k
