-- From which generator on all commute: a number for each generator of a presentation with tails, and what a relation that was
-- bare before makes of these numbers. Numbers of generators count from 1.
use Rattle.std.specs.Prelude.{◌≡◌, ◌<◌, ◌-◌, ℕ, suc, max, Option, None, Some, List, [], ◌∷◌, ◌++◌, get_or, length, map, take, drop}
use Rattle.pc_presentation.specs.declared.syllable.Syllable.{Syllable}
use Rattle.pc_presentation.specs.declared.relation.Relation.{Relation}
use Rattle.pc_presentation.specs.declared.relation.Relation.TheVariants.{Power, Commutator}
use Rattle.pc_presentation.specs.Pcp.{TailedPresentation}
use Rattle.pc_presentation.specs.Tailed.{rowed_presentation}
use Rattle.pc_presentation.specs.Commuting.{IsFirstCommuting}

-- entry m is the number of the first generator after that at place m from which on all commute
pub record AreCommutingNumbers (T : TailedPresentation) (numbers : List ℕ) : Type 0 where
  pub count : length numbers ≡ T.presentation.rank
  pub first : (m : ℕ) → m < T.presentation.rank → IsFirstCommuting (rowed_presentation T) m (get_or numbers m 0 - 1)

-- the first i numbers made at least n
abbrev pub raised_to : ℕ → ℕ → List ℕ → List ℕ
raised_to n i numbers = map (max n) (take i numbers) ++ drop i numbers

-- a commutator with a word or a tail doesn't let generators up to its lower one commute with its higher one
abbrev pub numbers_with : Relation → List Syllable → Option ℕ → List ℕ → List ℕ
numbers_with (Power i) word tail numbers = numbers
numbers_with (Commutator j i) [] None numbers = numbers
numbers_with (Commutator j i) [] (Some t) numbers = raised_to (suc j) i numbers
numbers_with (Commutator j i) (s ∷ word) tail numbers = raised_to (suc j) i numbers
