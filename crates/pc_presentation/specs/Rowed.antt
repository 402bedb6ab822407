-- Power-commutator presentations with rows: each relation has, beside its right side, a row of residues modulo the
-- prime, an entry for each tail. Without tails, at width 0, this is the presentation alone. The flat reading makes the
-- tails the last generators: a right side is followed by its row, and the relations of the tails have empty right sides.
-- From: the covers of M. F. Newman and E. A. O'Brien, Application of computers to questions like those of Burnside, II, 1996.
use Rattle.std.specs.Prelude.{◌≡◌, ◌<◌, ◌+◌, ◌%◌, ℕ, zero, suc, List, [], ◌∷◌, ◌++◌, get_or, length, map, replicate}
use Rattle.pq_base.specs.Presentation.{Presentation, IsPresentation, IsNormal}

pub record RowedPresentation : Type 0 where
  pub base : Presentation
  -- the number of tails
  pub width : ℕ
  -- entry i: the row of the power of generator i + 1
  pub power_rows : List (List ℕ)
  -- row j, entry i: the row of the commutator of generators j + 1 and i + 1, for i below j
  pub commutator_rows : List (List (List ℕ))

abbrev pub power_row : RowedPresentation → ℕ → List ℕ
power_row Y i = get_or Y.power_rows i []

abbrev pub commutator_row : RowedPresentation → ℕ → ℕ → List ℕ
commutator_row Y j i = get_or (get_or Y.commutator_rows j []) i []

-- lengths are exact, so that one presentation with rows is one value
pub record IsRowed (Y : RowedPresentation) : Type 0 where
  pub base : IsPresentation Y.base
  pub power_count : length Y.power_rows ≡ Y.base.rank
  pub power_rows : (i : ℕ) → i < Y.base.rank → IsNormal Y.base.prime Y.width (power_row Y i)
  pub commutator_count : length Y.commutator_rows ≡ Y.base.rank
  pub commutator_counts : (j : ℕ) → j < Y.base.rank → length (get_or Y.commutator_rows j []) ≡ j
  pub commutator_rows : (j i : ℕ) → j < Y.base.rank → i < j → IsNormal Y.base.prime Y.width (commutator_row Y j i)

-- a presentation without tails
abbrev pub without_rows : Presentation → RowedPresentation
without_rows P = record {
  base = P;
  width = 0;
  power_rows = map (λ (e : List ℕ). []) P.powers;
  commutator_rows = map (λ (r : List (List ℕ)). map (λ (e : List ℕ). []) r) P.commutators;
}

-- the sum of two rows modulo p; a row that ends before the other has zeros there
abbrev pub row_sum : ℕ → List ℕ → List ℕ → List ℕ
row_sum p [] y = y
row_sum p (a ∷ x) [] = a ∷ x
row_sum p (a ∷ x) (b ∷ y) = (a + b) % p ∷ row_sum p x y

-- each list of the one followed by its list of the other
abbrev pub followed_by : List (List ℕ) → List (List ℕ) → List (List ℕ)
followed_by [] ys = []
followed_by (x ∷ xs) [] = []
followed_by (x ∷ xs) (y ∷ ys) = (x ++ y) ∷ followed_by xs ys

abbrev pub tables_followed_by : List (List (List ℕ)) → List (List (List ℕ)) → List (List (List ℕ))
tables_followed_by [] ys = []
tables_followed_by (x ∷ xs) [] = []
tables_followed_by (x ∷ xs) (y ∷ ys) = followed_by x y ∷ tables_followed_by xs ys

-- the empty right sides of the powers of q tails
abbrev pub tail_powers : ℕ → List (List ℕ)
tail_powers zero = []
tail_powers (suc q) = replicate q 0 ∷ tail_powers q

-- the empty right sides of the commutators of q tails, the first of which has n generators before it
abbrev pub tail_commutators : ℕ → ℕ → List (List (List ℕ))
tail_commutators n zero = []
tail_commutators n (suc q) = replicate n (replicate q 0) ∷ tail_commutators (suc n) q

abbrev pub flat : RowedPresentation → Presentation
flat Y = record {
  prime = Y.base.prime;
  rank = Y.base.rank + Y.width;
  powers = followed_by Y.base.powers Y.power_rows ++ tail_powers Y.width;
  commutators = tables_followed_by Y.base.commutators Y.commutator_rows ++ tail_commutators Y.base.rank Y.width;
}
