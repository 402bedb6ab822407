-- Two L-presentations on the same names, one of which has the relators of the other.
-- From: a group and its quotients by further relators.
use Rattle.std.specs.Prelude.{◌≡◌, ◌↔◌, ℤ, List}
use Rattle.pq_base.specs.LPresentation.{LPresentation, IsRelator}

-- the second has each relator of the first
pub record HasMoreRelators (L M : LPresentation) : Type 0 where
  pub names : M.names ≡ L.names
  pub relators : (r : List ℤ) → IsRelator L r → IsRelator M r

-- and no others
pub record HasSameRelators (L M : LPresentation) : Type 0 where
  pub names : M.names ≡ L.names
  pub relators : (r : List ℤ) → IsRelator L r ↔ IsRelator M r
