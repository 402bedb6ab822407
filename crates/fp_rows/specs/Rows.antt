-- Rows of residues: lists of numbers below a number p, added and scaled place by place modulo p.
-- From: vector spaces over the field of p elements.
use Rattle.std.specs.Prelude.{◌≡◌, ◌+◌, ◌-◌, ◌*◌, ◌%◌, ℕ, List, [], ◌∷◌, length}
use Rattle.pq_base.specs.Table.{AllBelow}

-- a row of this width, with entries below p
pub record IsRow (p width : ℕ) (xs : List ℕ) : Type 0 where
  pub count : length xs ≡ width
  pub below : AllBelow p xs

-- the sum of two rows; of lists of unequal lengths it has the shorter length
abbrev pub add_rows : ℕ → List ℕ → List ℕ → List ℕ
add_rows p [] ys = []
add_rows p (x ∷ xs) [] = []
add_rows p (x ∷ xs) (y ∷ ys) = ((x + y) % p) ∷ add_rows p xs ys

-- k times a row
abbrev pub scale_row : ℕ → ℕ → List ℕ → List ℕ
scale_row p k [] = []
scale_row p k (x ∷ xs) = ((k * x) % p) ∷ scale_row p k xs

-- minus a row
abbrev pub negative_row : ℕ → List ℕ → List ℕ
negative_row p [] = []
negative_row p (x ∷ xs) = ((p - x) % p) ∷ negative_row p xs

-- a row plus k times another
abbrev pub add_scaled : ℕ → ℕ → List ℕ → List ℕ → List ℕ
add_scaled p k xs ys = add_rows p xs (scale_row p k ys)
