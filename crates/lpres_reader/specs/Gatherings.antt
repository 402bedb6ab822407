-- What a line gives so far, counted and measured together with the lines before it.
use Rattle.std.specs.Prelude.{ℕ, ℤ, List}
use Rattle.lpres_reader.specs.declared.fault.Which.{Which}
use Rattle.lpres_reader.specs.declared.gathered.Arrow.{Arrow}

pub record Gathering : Type 0 where
  -- the limit on relators of this sort, and how many there are
  pub which : Which
  pub count : ℕ
  -- the letters of all words
  pub total : ℕ
  pub relators : List (List ℤ)
  pub arrows : List Arrow
