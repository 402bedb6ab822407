-- The names of generators, as lists of bytes.
use Rattle.std.specs.Prelude.{◌==◌, ◌≤◌, ◌&&◌, ◌||◌, nat_le, ℕ, zero, suc, Bool, false, IsTrue, List, [], ◌∷◌, get_or, length}
use Rattle.std.specs.List.{list_all}
use Rattle.pq_base.specs.Limits.{max_name_bytes}

-- A to Z, a to z
abbrev pub is_letter : ℕ → Bool
is_letter b = (nat_le 65 b && nat_le b 90) || (nat_le 97 b && nat_le b 122)

-- a letter, 0 to 9, or _
abbrev pub is_name_byte : ℕ → Bool
is_name_byte b = is_letter b || ((nat_le 48 b && nat_le b 57) || (b == 95))

-- a letter, and then bytes of a name
abbrev pub is_name_text : List ℕ → Bool
is_name_text [] = false
is_name_text (b ∷ bs) = is_letter b && list_all is_name_byte bs

-- such a text of any length
abbrev pub IsNameText : List ℕ → Type 0
IsNameText bs = IsTrue (is_name_text bs)

-- name number i of a list, counted from 1
abbrev pub name_text : List (List ℕ) → ℕ → List ℕ
name_text names zero = []
name_text names (suc i) = get_or names i []

-- such a text that is not too long
pub record IsName (bs : List ℕ) : Type 0 where
  pub text : IsNameText bs
  pub count : length bs ≤ max_name_bytes
