-- The presentation of a cover in the making: which relations were given, and what is known of them.
use Rattle.std.specs.Prelude.{◌≡◌, ◌⊎◌, ◌<◌, ◌≤◌, ℕ, List, get_or, length, Option}
use Rattle.pq_base.specs.Answer.{Answer, Definition as Source}
use Rattle.pq_base.specs.Answer.Definition.{image}
use Rattle.pc_presentation.specs.declared.syllable.Syllable.{Syllable}
use Rattle.pc_presentation.specs.declared.relation.Relation.{Relation}
use Rattle.pc_presentation.specs.declared.relation.Relation.TheVariants.{Power, Commutator}
use Rattle.pc_presentation.specs.Relation.{IsRelation}
use Rattle.pc_presentation.specs.Pcp.{HasShape, sides_of, right_side, tail_of}
use Rattle.pc_presentation.specs.Builder.{Draft, WasGiven, extended}
use Rattle.p_cover.specs.Sources.{relation_source, place_in}

-- each relation that was given has its right side in the answer, and its place in the list as its tail
pub record IsFaithful (A : Answer) (ds : List Source) (D : Draft) : Type 0 where
  pub prime : D.built.presentation.prime ≡ A.presentation.prime
  pub rank : D.built.presentation.rank ≡ A.presentation.rank
  pub weights : D.built.weights ≡ A.weights
  pub tails : D.built.tails ≡ length ds
  pub side_shape : HasShape A.presentation.rank (sides_of D.built.presentation)
  pub tail_shape : HasShape A.presentation.rank D.built.tail_table
  pub given_shape : HasShape A.presentation.rank D.given
  pub sides : (r : Relation) → IsRelation A.presentation.rank r → WasGiven D r
      → right_side D.built.presentation r ≡ right_side A.presentation r
  pub tail_numbers : (r : Relation) → IsRelation A.presentation.rank r → WasGiven D r → tail_of D.built r ≡ place_in ds (relation_source r)

-- and the relations among the first k entries of the list were given
pub record IsBegun (A : Answer) (ds : List Source) (k : ℕ) (D : Draft) : Type 0 where
  pub faithful : IsFaithful A ds D
  pub listed : (i : ℕ) (r : Relation) → i < k → IsRelation A.presentation.rank r → get_or ds i (image 0) ≡ relation_source r → WasGiven D r

-- the answer's prime and generators
pub record IsDraftOf (A : Answer) (D : Draft) : Type 0 where
  pub prime : D.built.presentation.prime ≡ A.presentation.prime
  pub rank : D.built.presentation.rank ≡ A.presentation.rank

-- a relation is given, if it wasn't before
abbrev pub Gives : Draft → Draft → Relation → List Syllable → Option ℕ → Type 0
Gives D E r word tail = ((¬ WasGiven D r) × (E ≡ extended D r word tail)) ⊎ (WasGiven D r × (E ≡ D))

-- relations are given, among them those of which P holds, and all on the list were given before
pub record GoesOn (A : Answer) (P : Relation → Type 0) (ds : List Source) (D E : Draft) : Type 0 where
  pub begun : IsBegun A ds (length ds) E
  pub kept : (r : Relation) → IsRelation A.presentation.rank r → WasGiven D r → WasGiven E r
  pub given : (r : Relation) → IsRelation A.presentation.rank r → P r → WasGiven E r

-- this is so for each list that tails may come from
abbrev pub Completes : Answer → (Relation → Type 0) → Draft → Draft → Type 0
Completes A P D E = (ds : List Source) → IsBegun A ds (length ds) D → GoesOn A P ds D E

-- the powers of the first k generators
abbrev pub IsPowerTo : ℕ → Relation → Type 0
IsPowerTo k (Power i) = i ≤ k
IsPowerTo k (Commutator j i) = ⊥

-- the commutators of generator j with the first k
abbrev pub IsCommutatorOf : ℕ → ℕ → Relation → Type 0
IsCommutatorOf j k (Power i) = ⊥
IsCommutatorOf j k (Commutator l i) = (l ≡ j) × (i ≤ k)

-- the commutators of the first k generators with those before them
abbrev pub IsCommutatorTo : ℕ → Relation → Type 0
IsCommutatorTo k (Power i) = ⊥
IsCommutatorTo k (Commutator j i) = j ≤ k

-- each relation
abbrev pub IsAny : Relation → Type 0
IsAny r = Unit {0}
