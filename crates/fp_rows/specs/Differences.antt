-- Differences of rows of residues modulo p.
-- From: vector spaces over the field of p elements.
use Rattle.std.specs.Prelude.{ℕ, List, ◌-◌}
use Rattle.fp_rows.specs.Rows.{add_scaled}

-- x - y
abbrev pub difference : ℕ → List ℕ → List ℕ → List ℕ
difference p x y = add_scaled p (p - 1) x y
