-- Bytes that a text avoids.
use Rattle.std.specs.Prelude.{ℕ, eqb, cond, Bool, true, false, List, [], ◌∷◌}

-- the byte c isn't in the text
abbrev pub avoids : ℕ → List ℕ → Bool
avoids c [] = true
avoids c (b ∷ bs) = cond (eqb b c) false (avoids c bs)
