-- Answers of class 1: some of the given generators are left, and each generator of the answer is the image of one of
-- these.
-- From: the first step of Newman and O'Brien's p-quotient method.
use Rattle.std.specs.Prelude.{ℕ, suc, Bool, true, false, List, [], ◌∷◌}
use Rattle.pq_base.specs.Answer.{Answer, Definition, IsAnswer}
use Rattle.pq_base.specs.Answer.Definition.{image}
use Rattle.pq_base.specs.Largest.{IsGenerated}

-- how many flags are false: that many generators are left
abbrev pub left_count : List Bool → ℕ
left_count [] = 0
left_count (true ∷ flags) = left_count flags
left_count (false ∷ flags) = suc (left_count flags)

-- the definitions of the generators that are left, where the first flag is of given generator i, counted from 1
abbrev pub class_one_definitions : ℕ → List Bool → List Definition
class_one_definitions i [] = []
class_one_definitions i (true ∷ flags) = class_one_definitions (suc i) flags
class_one_definitions i (false ∷ flags) = image i ∷ class_one_definitions (suc i) flags

-- in every answer the images generate: each generator is joined to what its definition spells
abbrev pub AnswersAreGenerated : Type 0
AnswersAreGenerated = (A : Answer) → IsAnswer A → IsGenerated A
