-- What the tails of a cover become: some are kept, and each becomes a combination of the kept ones, wherever the
-- combinations come from.
-- From: the elimination of tails in Newman and O'Brien's method.
use Rattle.std.specs.Prelude.{◌≡◌, ◌<◌, ◌≤◌, ◌+◌, ◌-◌, ℕ, suc, List, [], get_or, length}
use Rattle.pq_base.specs.Limits.{max_rank}
use Rattle.fp_echelon.specs.Span.{AreRows}
use Rattle.pc_presentation.specs.Pcp.{unit_row}
use Rattle.p_cover.specs.Covers.{CoverOf}

-- the tails that are kept, and for each tail its row over the kept ones
pub record TailCombinations : Type 0 where
  pub prime : ℕ
  pub kept : List ℕ
  pub rows : List (List ℕ)

-- the rows are rows over the kept tails
pub record AreCombinations (K : TailCombinations) : Type 0 where
  pub prime : 2 ≤ K.prime
  pub rows : AreRows K.prime (length K.kept) K.rows

-- each tail of a cover has a row, and the next rank is not too great
pub record AreCombinationsOf (C : CoverOf) (K : TailCombinations) : Type 0 where
  pub prime : K.prime ≡ C.answer.presentation.prime
  pub count : length K.rows ≡ length C.sources
  pub limit : C.answer.presentation.rank + length K.kept ≤ max_rank

-- the tail that is kept at place k, counted from 0, becomes itself
pub record IsKeptAt (K : TailCombinations) (k : ℕ) : Type 0 where
  pub first : 1 ≤ get_or K.kept k 0
  pub last : get_or K.kept k 0 ≤ length K.rows
  pub itself : get_or K.rows (get_or K.kept k 0 - 1) [] ≡ unit_row (length K.kept) (suc k)

-- each kept tail becomes itself
abbrev pub AreKept : TailCombinations → Type 0
AreKept K = (k : ℕ) → k < length K.kept → IsKeptAt K k
