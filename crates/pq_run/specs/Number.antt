-- How a number in canonical digits begins: with no sign, and with 0 only where it is 0 alone.
use Rattle.std.specs.Prelude.{◌≡◌, ◌≢◌, ℕ, List, get_or, length}

pub record BeginsCanonically (text : List ℕ) : Type 0 where
  pub no_sign : get_or text 0 0 ≢ 43
  pub no_zero : get_or text 0 0 ≡ 48 → length text ≡ 1
