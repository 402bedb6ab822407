-- Texts that are judged line by line: which lines may stand at a place, and where the first fault is. A last piece without a newline
-- is no line. The first line that hasn't the form of a line in its place is the fault.
-- From: this project's own formats.
use Rattle.std.specs.Prelude.{◌≡◌, ℕ, zero, suc, List, [], ◌∷◌, ◌++◌}

-- by the form of a line between two places
module _ (Place : Type 0) (HasForm : Place → List ℕ → Place → Type 0) where
  -- the lines lead from the first place to the second
  abbrev pub Leads : Place → List (List ℕ) → Place → Type 0
  Leads P [] Q = P ≡ Q
  Leads P (l ∷ ls) Q = (M : Place) × HasForm P l M × Leads M ls Q

  -- from this place on, the first m lines have the form of a line in their place
  abbrev pub Begins : Place → List ℕ → ℕ → Type 0
  Begins P bytes zero = Unit {0}
  Begins P bytes (suc m) = (l : List ℕ) × (Q : Place) × (rest : List ℕ) × HasForm P l Q × (bytes ≡ l ++ 10 ∷ rest) × Begins Q rest m

-- and by the places behind which nothing follows
module _ (Place : Type 0) (HasForm : Place → List ℕ → Place → Type 0) (IsEnd : Place → Type 0) where
  -- from this place on, the bytes are m lines that have the form of a line in their place, and nothing follows the last
  abbrev pub IsWhole : Place → List ℕ → ℕ → Type 0
  IsWhole P bytes zero = IsEnd P × (bytes ≡ [])
  IsWhole P bytes (suc m) = (l : List ℕ) × (Q : Place) × (rest : List ℕ) × HasForm P l Q × (bytes ≡ l ++ 10 ∷ rest) × IsWhole Q rest m

  -- k lines have the form of a line in their place, and what follows has none
  pub record IsFirstBad (P : Place) (bytes : List ℕ) (k : ℕ) : Type 0 where
    pub begins : Begins Place HasForm P bytes k
    pub no_further : ¬ Begins Place HasForm P bytes (suc k)
    pub not_whole : (m : ℕ) → ¬ IsWhole P bytes m
