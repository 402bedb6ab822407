-- The maximal runs of equal letters of a word.
use Rattle.std.specs.Prelude.{ℕ, suc, ℤ, Bool, true, false, List, [], ◌∷◌}
use Rattle.std.specs.Ordering.{int_eq}
use Rattle.lpres_reader.specs.declared.canonical.Run.{Run}

-- a letter, and how often it comes
abbrev pub run : ℤ → ℕ → Run
run k n = record { letter = k; size = n }

-- one letter more in front of a run, which it joins or not
abbrev pub onto_run : Bool → ℤ → Run → List Run → List Run
onto_run true k r rs = run k (suc r.size) ∷ rs
onto_run false k r rs = run k 1 ∷ r ∷ rs

abbrev pub onto_runs : ℤ → List Run → List Run
onto_runs k [] = run k 1 ∷ []
onto_runs k (r ∷ rs) = onto_run (int_eq k r.letter) k r rs

abbrev pub runs_of : List ℤ → List Run
runs_of [] = []
runs_of (k ∷ w) = onto_runs k (runs_of w)
