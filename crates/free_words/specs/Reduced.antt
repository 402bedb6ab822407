-- Free reduction: words in which nothing cancels, and how a word comes down to one.
use Rattle.std.specs.Prelude.{◌≡◌, ◌≢◌, ◌⊎◌, ℤ, neg_ℤ, List, [], ◌∷◌, ◌++◌}

-- no letter stands before its inverse
abbrev pub IsReduced : List ℤ → Type 0
IsReduced [] = Unit {0}
IsReduced (k ∷ []) = Unit {0}
IsReduced (k ∷ l ∷ w) = (l ≢ neg_ℤ k) × IsReduced (l ∷ w)

-- cancelling pairs are deleted, one after the other, and nothing else changes
pub data ReducesTo (w : List ℤ) : List ℤ → Type 0 where
  same : ReducesTo w w
  delete : (a b : List ℤ) (k : ℤ) → ReducesTo w (a ++ (k ∷ neg_ℤ k ∷ b)) → ReducesTo w (a ++ b)

-- the word ends in a letter that this one cancels, and loses it, or it does not, and gets this one
abbrev pub TakesLetter : List ℤ → ℤ → List ℤ → Type 0
TakesLetter u k v = (u ≡ v ++ neg_ℤ k ∷ []) ⊎ ((v ≡ u ++ k ∷ []) × ((a : List ℤ) → u ≢ a ++ neg_ℤ k ∷ []))
