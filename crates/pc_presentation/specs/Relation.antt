-- The relations of n generators, and tables with an entry for each of them.
use Rattle.std.specs.Prelude.{◌<◌, ◌≤◌, ◌+◌, ◌-◌, ℕ, zero, suc, List, [], ◌∷◌, get_or, slice_set, Option, Some, None}
use Rattle.pc_presentation.specs.declared.relation.Relation.{Relation}
use Rattle.pc_presentation.specs.declared.relation.Relation.TheVariants.{Power, Commutator}

-- one of the relations of n generators, which count from 1
abbrev pub IsRelation : ℕ → Relation → Type 0
IsRelation n (Power i) = (1 ≤ i) × (i ≤ n)
IsRelation n (Commutator j i) = (1 ≤ i) × (i < j) × (j ≤ n)

-- the place, counted from 0, at which the generators of its right side begin
abbrev pub side_start : Relation → ℕ
side_start (Power i) = i
side_start (Commutator j i) = j

-- an entry for each relation: entry i is that of the power of generator i + 1, and entry i of row j that of the
-- commutator of generators j + 1 and i + 1
pub record PerRelation (X : Type 0) : Type 0 where
  pub powers : List X
  pub commutators : List (List X)

-- the entry of a relation, or d
abbrev pub entry_at : {X : Type 0} → X → PerRelation X → Relation → X
entry_at d t (Power i) = get_or t.powers (i - 1) d
entry_at d t (Commutator j i) = get_or (get_or t.commutators (j - 1) []) (i - 1) d

-- the entry of a relation replaced
abbrev pub with_entry : {X : Type 0} → PerRelation X → Relation → X → PerRelation X
with_entry t (Power i) x = record { powers = slice_set t.powers (i - 1) x; commutators = t.commutators }
with_entry t (Commutator j i) x = record {
  powers = t.powers;
  commutators = slice_set t.commutators (j - 1) (slice_set (get_or t.commutators (j - 1) []) (i - 1) x);
}

-- f 0, f 1, .., of n entries
abbrev pub tabulate : {X : Type 0} → ℕ → (ℕ → X) → List X
tabulate zero f = []
tabulate (suc n) f = f 0 ∷ tabulate n (λ i. f (suc i))

-- the table of a function of the relations of n generators
abbrev pub per_relation : {X : Type 0} → ℕ → (Relation → X) → PerRelation X
per_relation n f = record {
  powers = tabulate n (λ i. f (Power (suc i)));
  commutators = tabulate n (λ j. tabulate j (λ i. f (Commutator (suc j) (suc i))));
}

-- 0 + 1 + .. + (n - 1)
abbrev pub triangular : ℕ → ℕ
triangular zero = 0
triangular (suc n) = triangular n + n

-- the place of a relation in a list of all: the powers, then the commutators, row by row
abbrev pub relation_number : ℕ → Relation → ℕ
relation_number n (Power i) = i - 1
relation_number n (Commutator j i) = n + triangular (j - 1) + (i - 1)

abbrev pub relation_count : ℕ → ℕ
relation_count n = n + triangular n

-- one of n tails, or none
abbrev pub IsTail : ℕ → Option ℕ → Type 0
IsTail n None = Unit {0}
IsTail n (Some t) = (1 ≤ t) × (t ≤ n)
