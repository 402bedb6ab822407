-- What a write does to the bytes that a sink has taken, where it tells them.
use Rattle.std.specs.Prelude.{◌≡◌, ◌<◌, ⊤, ℕ, List, ◌++◌, length, take, Option, None, Some}

-- what was taken grew by these bytes, if the sink told it before and tells it after
abbrev pub Gains : Option (List ℕ) → Option (List ℕ) → List ℕ → Type 0
Gains None after bytes = ⊤
Gains (Some old) None bytes = ⊤
Gains (Some old) (Some new) bytes = new ≡ old ++ bytes

-- what was taken grew by a proper prefix of these bytes, if the sink told it before and tells it after
abbrev pub GainsProperPrefix : Option (List ℕ) → Option (List ℕ) → List ℕ → Type 0
GainsProperPrefix old new bytes = (n : ℕ) × (n < length bytes) × Gains old new (take n bytes)
