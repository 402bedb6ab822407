-- What the steps of a recipe write: each puts letters behind those that are written, or changes the last ones.
use Rattle.std.specs.Prelude.{◌≡◌, ◌≤◌, ℕ, suc, ◌+◌, ◌-◌, Bool, true, false, ℤ, pos, List, [], ◌∷◌, ◌++◌, length, take, drop}
use Rattle.pq_base.specs.SignedWord.{inv, copies, comm, conj}
use Rattle.lpres_reader.specs.declared.recipe.Step.{Step}
use Rattle.lpres_reader.specs.declared.recipe.Step.TheVariants.{Generator, Raise, Conjugate, Commute}

-- a word, or its inverse
abbrev pub signed : Bool → List ℤ → List ℤ
signed true u = inv u
signed false u = u

-- so many copies of a word, or of its inverse
abbrev pub power_of : Bool → List ℤ → ℕ → List ℤ
power_of b u n = copies (signed b u) n

-- the last n letters, and those before them
abbrev pub last : ℕ → List ℤ → List ℤ
last n out = drop (length out - n) out

abbrev pub without_last : ℕ → List ℤ → List ℤ
without_last n out = take (length out - n) out

abbrev pub step_on : List ℤ → Step → List ℤ
step_on out (Generator k) = out ++ pos (suc k) ∷ []
step_on out (Raise n b t) = without_last n out ++ power_of b (last n out) t
step_on out (Conjugate n m) = without_last (n + m) out ++ conj (drop n (last (n + m) out)) (take n (last (n + m) out))
step_on out (Commute n m) = without_last (n + m) out ++ comm (take n (last (n + m) out)) (drop n (last (n + m) out))

-- what is written behind what is written already
abbrev pub written : List ℤ → List Step → List ℤ
written out [] = out
written out (s ∷ ss) = written (step_on out s) ss

-- the steps write a word of so many letters behind whatever is written already
pub record IsRecipe (ss : List Step) (letters : ℕ) : Type 0 where
  pub behind : (out : List ℤ) → written out ss ≡ out ++ written [] ss
  pub count : letters ≡ length (written [] ss)
  pub limit : letters ≤ 65536
