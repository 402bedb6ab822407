-- What is proved of the orders of largest quotients. Each statement is the contract of a function of `laws_of_orders`.
-- From: two finite groups with the same universal property are isomorphic.
use Rattle.std.specs.Prelude.{◌≡◌, ◌<◌, ℕ}
use Rattle.pq_base.specs.LPresentation.{LPresentation}
use Rattle.pq_base.specs.Answer.{Answer}
use Rattle.pq_base.specs.Largest.{IsLargest, HasOrder}

-- an answer that is the largest quotient has the order of its rank
abbrev pub LargestQuotientsHaveTheOrder : Type 0
LargestQuotientsHaveTheOrder = (L : LPresentation) (p k : ℕ) (A : Answer) → 1 < p → IsLargest L p k A → HasOrder L p k A.presentation.rank
