-- Presentations with tails as presentations with rows, and their elements: exponents of the generators, and a row over
-- the tails.
use Rattle.std.specs.Prelude.{◌≡◌, ◌-◌, ℕ, List, [], ◌∷◌, ◌++◌, length, replicate, take, Option}
use Rattle.pc_presentation.specs.declared.syllable.Syllable.{Syllable}
use Rattle.pc_presentation.specs.declared.relation.Relation.{Relation}
use Rattle.pc_presentation.specs.Relation.{side_start}
use Rattle.pc_presentation.specs.Pcp.{TailedPresentation, IsTailedPresentation, right_side, tail_of, row_of, tail_rows}
use Rattle.pc_presentation.specs.Rowed.{RowedPresentation}
use Rattle.pc_presentation.specs.Collection.{Configuration, State, IsState, identity, spelled}

-- the rows of the relations are those of their tails
abbrev pub rowed_presentation : TailedPresentation → RowedPresentation
rowed_presentation T = record {
  base = T.presentation;
  width = T.tails;
  power_rows = (tail_rows T).powers;
  commutator_rows = (tail_rows T).commutators;
}

-- what contracts see of an element
pub record Element : Type 0 where
  -- the prime of the row
  pub prime : ℕ
  pub state : State

-- an element of a presentation with tails
pub record IsElement (T : TailedPresentation) (e : Element) : Type 0 where
  pub presentation : IsTailedPresentation T
  pub prime : e.prime ≡ T.presentation.prime
  pub state : IsState (rowed_presentation T) T.presentation.rank e.state

-- the element one
abbrev pub one_of : TailedPresentation → Element
one_of T = record { prime = T.presentation.prime; state = identity (rowed_presentation T) T.presentation.rank }

abbrev pub with_state : Element → State → Element
with_state e s = record { prime = e.prime; state = s }

-- exponents of which those after generator i are 0
abbrev pub cleared_after : ℕ → List ℕ → List ℕ
cleared_after i e = take i e ++ replicate (length e - i) 0

-- the places of the letters of a sparse word
abbrev pub places_of : List Syllable → List ℕ
places_of [] = []
places_of (s ∷ w) = replicate s.exponent (s.generator - 1) ++ places_of w

-- the letters of a sparse word, and the row of a tail, of so many
abbrev pub sparse_configuration : ℕ → List Syllable → Option ℕ → Configuration
sparse_configuration width w t = record { word = places_of w; row = row_of width t }

-- the right side of a relation, with its tail
abbrev pub side_with_tail : TailedPresentation → Relation → Configuration
side_with_tail T r = record { word = spelled (side_start r) (right_side T.presentation r); row = row_of T.tails (tail_of T r) }
