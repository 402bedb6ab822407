-- What a line that is read makes of what the lines before it are: the presentation without relators that a line of
-- generators is, or a presentation with one item more.
use Rattle.std.specs.Prelude.{◌≡◌, ℕ, List, Option, Some, None}
use Rattle.pq_base.specs.LPresentation.{LPresentation, AreDistinct}
use Rattle.lpres_reader.specs.Items.{ReadsItem, Item}
use Rattle.lpres_reader.specs.Limits.{IsWithinLimits}
use Rattle.lpres_reader.specs.Reads.{ReadsLine, IsGenerators}
use Rattle.lpres_reader.specs.Trials.{added}
use Rattle.lpres_reader.specs.Verdicts.{bare}

pub record MakesNames (line : List ℕ) (L : LPresentation) : Type 0 where
  pub reads : ReadsLine (IsGenerators L.names) line
  pub distinct : AreDistinct L.names
  pub is : L ≡ bare L.names
  pub within : IsWithinLimits L

pub record MakesItem (M : LPresentation) (line : List ℕ) (L : LPresentation) : Type 0 where
  pub item : Item
  pub reads : ReadsLine (λ ts. ReadsItem M.names ts item) line
  pub is : L ≡ added M item
  pub within : IsWithinLimits L

abbrev pub Makes : Option LPresentation → List ℕ → LPresentation → Type 0
Makes None line L = MakesNames line L
Makes (Some M) line L = MakesItem M line L
