-- An L-presentation of the parts that a value holds.
use Rattle.std.specs.Prelude.{◌≤◌, ℕ, ℤ, List, length, All, map, sum_by}
use Rattle.std.specs.Global.{Vec}
use Rattle.lpres_reader.specs.Limits.{letters_in}
use Rattle.pq_base.specs.Name.{IsName}
use Rattle.pq_base.specs.LPresentation.{LPresentation, AreDistinct}

abbrev pub made_of : List (List ℕ) → List (List ℤ) → List (List ℤ) → List (Vec (List ℤ)) → LPresentation
made_of names fixed iterated endos = record { names = names; fixed = fixed; iterated = iterated; endos = map (λ f. f.items) endos }

-- names of generators
pub record AreGenerators (names : List (List ℕ)) : Type 0 where
  pub each : All IsName names
  pub most : length names ≤ 32
  pub distinct : AreDistinct names

-- the letters of all images, of lists as a value holds them
abbrev pub endo_letters : List (Vec (List ℤ)) → ℕ
endo_letters endos = sum_by (λ f. letters_in f.items) endos
