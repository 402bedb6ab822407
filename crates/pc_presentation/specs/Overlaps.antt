-- Overlaps: words with two ways of collecting them, which agree in a consistent presentation.
-- From: the consistency relations of M. R. Vaughan-Lee, An aspect of the nilpotent quotient algorithm, 1984.
use Rattle.std.specs.Prelude.{◌≡◌, ◌<◌, ℕ, suc, List, [], ◌∷◌, ◌++◌, replicate, pred}
use Rattle.pq_base.specs.Presentation.{power_side, commutator_side}
use Rattle.pc_presentation.specs.Rowed.{RowedPresentation, power_row, commutator_row}
use Rattle.pc_presentation.specs.Collection.{Configuration, State, IsState, identity, spelled, configuration_of, DirectedRun, add_row}
use Rattle.pc_presentation.specs.Collection.{push_configuration, plain_push}

-- the places of generators, counted from 0
pub data Overlap : Type 0 where
  -- a_k a_j a_i
  triple : (k j i : ℕ) → Overlap
  -- a_j^p a_i
  left : (j i : ℕ) → Overlap
  -- a_j a_i^p
  right : (j i : ℕ) → Overlap
  -- a_i^(p + 1)
  own : (i : ℕ) → Overlap

-- an overlap of n generators
abbrev pub IsOverlap : ℕ → Overlap → Type 0
IsOverlap n (triple k j i) = (i < j) × (j < k) × (k < n)
IsOverlap n (left j i) = (i < j) × (j < n)
IsOverlap n (right j i) = (i < j) × (j < n)
IsOverlap n (own i) = i < n

-- the letters that the left way pushes; it adds no row
abbrev pub left_way : RowedPresentation → Overlap → Configuration
left_way Y (triple k j i) = record { word = k ∷ j ∷ i ∷ []; row = replicate Y.width 0 }
left_way Y (left j i) = record { word = replicate Y.base.prime j ++ i ∷ []; row = replicate Y.width 0 }
left_way Y (right j i) = record { word = j ∷ replicate Y.base.prime i; row = replicate Y.width 0 }
left_way Y (own i) = record { word = i ∷ replicate Y.base.prime i; row = replicate Y.width 0 }

-- the letters that the right way pushes, and the row that it adds
abbrev pub right_way : RowedPresentation → Overlap → Configuration
right_way Y (triple k j i) = record { word = k ∷ i ∷ j ∷ spelled (suc j) (commutator_side Y.base j i); row = commutator_row Y j i }
right_way Y (left j i) = record {
  word = replicate (pred Y.base.prime) j ++ i ∷ j ∷ spelled (suc j) (commutator_side Y.base j i);
  row = commutator_row Y j i;
}
right_way Y (right j i) = record { word = j ∷ spelled (suc i) (power_side Y.base i); row = power_row Y i }
right_way Y (own i) = record { word = i ∷ spelled (suc i) (power_side Y.base i); row = power_row Y i }

-- both ways reach one state by the plain rule
abbrev pub AgreesPlainly : RowedPresentation → Overlap → Type 0
AgreesPlainly Y o =
    push_configuration Y (plain_push Y) (identity Y Y.base.rank) (left_way Y o)
    ≡ push_configuration Y (plain_push Y) (identity Y Y.base.rank) (right_way Y o)

-- a state t of n generators that some run of replacements reaches where the letter i is pushed on s
pub record IsPushed (Y : RowedPresentation) (s : State) (i : ℕ) (t : State) : Type 0 where
  pub run : DirectedRun Y (record { word = spelled 0 s.exponents ++ i ∷ []; row = s.row }) (configuration_of t)
  pub state : IsState Y Y.base.rank t

-- the letters of a word pushed one after the other, each by some run
pub data PushChain (Y : RowedPresentation) : State → List ℕ → State → Type 0 where
  no_push : {s : State} → PushChain Y s [] s
  then_push : {s t u : State} {i : ℕ} {w : List ℕ} → IsPushed Y s i t → PushChain Y t w u → PushChain Y s (i ∷ w) u

-- both ways reach one state by some chains of pushes
pub record Agrees (Y : RowedPresentation) (o : Overlap) : Type 0 where
  pub left_end : State
  pub right_end : State
  pub left_chain : PushChain Y (identity Y Y.base.rank) (left_way Y o).word left_end
  pub right_chain : PushChain Y (identity Y Y.base.rank) (right_way Y o).word right_end
  pub same : add_row Y.base.prime (left_way Y o).row left_end ≡ add_row Y.base.prime (right_way Y o).row right_end
