-- Numbers below 1000 as they are read from their digits.
use Rattle.std.specs.Prelude.{◌+◌, ◌-◌, ◌*◌, ℕ, Bool, cond, nat_le, nat_lt, ◌&&◌, List, [], ◌∷◌, Option, Some, None}

-- 0 to 9
abbrev pub is_digit : ℕ → Bool
is_digit b = nat_le 48 b && nat_le b 57

-- the number that is written in these digits, of which the first is 0 only where it is the last
abbrev pub number_of : List ℕ → Option ℕ
number_of [] = None
number_of (c ∷ []) = cond (is_digit c) (Some (c - 48)) None
number_of (b ∷ c ∷ []) = cond (nat_lt 48 b && (is_digit b && is_digit c)) (Some (10 * (b - 48) + (c - 48))) None
number_of (a ∷ b ∷ c ∷ []) =
    cond (nat_lt 48 a && (is_digit a && (is_digit b && is_digit c))) (Some (100 * (a - 48) + (10 * (b - 48) + (c - 48)))) None
number_of (a ∷ b ∷ c ∷ d ∷ more) = None
