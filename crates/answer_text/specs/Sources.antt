-- Definitions by a number in place of a name.
use Rattle.std.specs.Prelude.{◌≡◌, ◌<◌, ◌≤◌, ◌-◌, ℕ, List, [], ◌∷◌, get_or, length}
use Rattle.pq_base.specs.Limits.{max_names}
use Rattle.pq_base.specs.Answer.{Definition}
use Rattle.pq_base.specs.Answer.Definition.{image, commutator, power}
use Rattle.pc_presentation.specs.declared.relation.Relation.TheVariants.{Power, Commutator}
use Rattle.answer_text.specs.declared.source.Source.{Source}
use Rattle.answer_text.specs.declared.source.Source.TheVariants.{Image, RightSide}

-- where the name is one of as many as an answer may have, the number, counted from 1, is that of a name equal to it
abbrev pub FindsName : List (List ℕ) → List ℕ → ℕ → Type 0
FindsName names name n =
    (i : ℕ) → i < length names → i < max_names → get_or names i [] ≡ name → (1 ≤ n) × (n ≤ length names) × (get_or names (n - 1) [] ≡ name)

-- the definition is the one that the source means
abbrev pub Resolves : List (List ℕ) → Source → Definition → Type 0
Resolves names (Image name) d = (n : ℕ) × (d ≡ image n) × FindsName names name n
Resolves names (RightSide (Power j)) d = d ≡ power j
Resolves names (RightSide (Commutator j i)) d = d ≡ commutator j i

-- each definition is the one that its source means
abbrev pub AreResolved : List (List ℕ) → List Source → List Definition → Type 0
AreResolved names [] [] = Unit {0}
AreResolved names [] (d ∷ ds) = ⊥
AreResolved names (s ∷ ss) [] = ⊥
AreResolved names (s ∷ ss) (d ∷ ds) = Resolves names s d × AreResolved names ss ds
