-- Vectors of 16 lanes.
use Rattle.std.specs.Prelude.{ℕ, List}
use Rattle.std.specs.List.{range_with_len}

-- the numbers below 16
abbrev pub lane_numbers : List ℕ
lane_numbers = range_with_len 0 16
