-- Generators that commute: relations with an empty right side and no tail, and from where on all generators have them. Places of
-- generators count from 0.
-- From: collection by whole powers, which leaves alone what commutes, as in the collectors of C. R. Leedham-Green and L. H. Soicher,
-- Collection from the left and other strategies, 1990.
use Rattle.std.specs.Prelude.{◌≡◌, ◌<◌, ◌≤◌, ℕ, suc, List, ◌++◌, ◌-◌, length, get_or, replicate, take, drop}
use Rattle.pq_base.specs.Limits.{max_rank}
use Rattle.pq_base.specs.Presentation.{commutator_side}
use Rattle.pc_presentation.specs.Rowed.{RowedPresentation, commutator_row}
use Rattle.pc_presentation.specs.Collection.{spelled}

-- the commutator of the generators at places l > m is trivial: its right side is empty, and it has no row
pub record IsBare (Y : RowedPresentation) (l m : ℕ) : Type 0 where
  pub side : commutator_side Y.base l m ≡ replicate (Y.base.rank - suc l) 0
  pub row : commutator_row Y l m ≡ replicate Y.width 0

-- each generator from place z on commutes with each generator from place m on that is before it
abbrev pub CommuteFrom : RowedPresentation → ℕ → ℕ → Type 0
CommuteFrom Y m z = (l k : ℕ) → z ≤ l → l < Y.base.rank → m ≤ k → k < l → IsBare Y l k

-- z is the first place after m from which on all commute
pub record IsFirstCommuting (Y : RowedPresentation) (m z : ℕ) : Type 0 where
  pub after : m < z
  pub within : z ≤ Y.base.rank
  pub commute : CommuteFrom Y m z
  pub first : (y : ℕ) → m < y → CommuteFrom Y m y → z ≤ y

-- exponents with 0 at the places after i and before z
abbrev pub cleared_between : ℕ → ℕ → List ℕ → List ℕ
cleared_between i z e = take (suc i) e ++ (replicate (z - suc i) 0 ++ drop z e)

-- the exponents at the places from a on and before z, each at its place, and 0 at each other place
pub record AreBetween (a z : ℕ) (e part : List ℕ) : Type 0 where
  pub count : length part ≡ max_rank
  pub same : (k : ℕ) → a ≤ k → k < z → get_or part k 0 ≡ get_or e k 0
  pub before : (k : ℕ) → k < a → get_or part k 0 ≡ 0
  pub behind : (k : ℕ) → z ≤ k → get_or part k 0 ≡ 0

-- the letters of the exponents at the places after i and before z
abbrev pub letters_between : ℕ → ℕ → List ℕ → List ℕ
letters_between i z e = spelled (suc i) (take (z - suc i) (drop (suc i) e))
