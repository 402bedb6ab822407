-- The presentation of the elementary abelian group of each rank: every right side is empty.
-- From: the first step of Newman and O'Brien's p-quotient method.
use Rattle.std.specs.Prelude.{◌≤◌, ℕ, zero, suc, List, [], ◌∷◌, replicate}
use Rattle.pq_base.specs.Presentation.{Presentation, IsPresentation}
use Rattle.pq_base.specs.Joined.{IsConsistent}
use Rattle.pq_base.specs.Series.{HasClass}

abbrev pub zeros : ℕ → List ℕ
zeros n = replicate n 0

-- the right sides of the powers of the last n generators
abbrev pub zero_powers : ℕ → List (List ℕ)
zero_powers zero = []
zero_powers (suc n) = zeros n ∷ zero_powers n

-- the rows of right sides of the commutators of the last n generators, where j generators stand before them
abbrev pub zero_rows : ℕ → ℕ → List (List (List ℕ))
zero_rows j zero = []
zero_rows j (suc n) = replicate j (zeros n) ∷ zero_rows (suc j) n

abbrev pub elementary : ℕ → ℕ → Presentation
elementary p n = record {
  prime = p;
  rank = n;
  powers = zero_powers n;
  commutators = zero_rows 0 n;
}

-- what is proved of them, for any number above 1 as the prime
pub record ElementaryLaws (p n : ℕ) : Type 0 where
  pub presentation : IsPresentation (elementary p n)
  pub consistent : IsConsistent (elementary p n)
  pub class : HasClass (elementary p n) 1

abbrev pub ElementaryIsConsistentOfClassOne : Type 0
ElementaryIsConsistentOfClassOne = (p n : ℕ) → 2 ≤ p → ElementaryLaws p n
