-- Numbers at the front of a text, for the reader's own functions.
use Rattle.std.specs.Prelude.{◌≡◌, ◌+◌, ◌-◌, ◌*◌, ◌==◌, ◌&&◌, length, ℕ, Bool, true, false, not, List, [], ◌∷◌}
use Rattle.answer_text.specs.Numbers.{is_digit}

abbrev pub is_no_digit : ℕ → Bool
is_no_digit b = not (is_digit b)

module _ {X : Type 0} (test : X → Bool) where
  -- no member passes the test
  abbrev pub AllFail : List X → Type 0
  AllFail [] = Unit {0}
  AllFail (x ∷ xs) = (test x ≡ false) × AllFail xs

  -- there is no first member, or it passes the test
  abbrev pub StartsWell : List X → Type 0
  StartsWell [] = Unit {0}
  StartsWell (x ∷ xs) = test x ≡ true

-- no digits are those of a number, nor are some in front of which a 0 stands
abbrev pub is_padded : List ℕ → Bool
is_padded [] = true
is_padded (d ∷ ds) = (d == 48) && not (length ds == 0)

-- the number that digits are behind those of another
abbrev pub read_on : ℕ → List ℕ → ℕ
read_on n [] = n
read_on n (d ∷ ds) = read_on (10 * n + (d - 48)) ds
