-- The runs of a word, written out, are the word.
use Rattle.std.proofs.Common.{◌≡◌, ◌≤◌, ◌+◌, ℕ, zero, suc, Bool, true, false, List, [], ◌∷◌, ◌++◌, length, refl, sym, ap, ◌∙◌, arith}
use Rattle.std.proofs.Common.{length-append}
use Rattle.std.specs.Prelude.{ℤ}
use Rattle.std.specs.Ordering.{int_eq}
use Rattle.std.proofs.lemmas.Bool.Decides.{Decides-int_eq}
use Rattle.pq_base.specs.SignedWord.{copies, IsLetter, HasLetters}
use Rattle.lpres_reader.specs.declared.canonical.Run.{Run}
use Rattle.lpres_reader.specs.Runs.{onto_run, onto_runs, runs_of}

abbrev pub spread : List Run → List ℤ
spread [] = []
spread (r ∷ rs) = copies (r.letter ∷ []) r.size ++ spread rs

abbrev pub sizes : List Run → ℕ
sizes [] = 0
sizes (r ∷ rs) = r.size + sizes rs

pub length-copies_of : (k : ℤ) (n : ℕ) → length (copies (k ∷ []) n) ≡ n
length-copies_of k zero = refl
length-copies_of k (suc n) = ap (λ (m : ℕ). suc m) (length-copies_of k n)

spread-onto_run : (b : Bool) (k : ℤ) (r : Run) (rs : List Run) → int_eq k r.letter ≡ b → spread (onto_run b k r rs) ≡ k ∷ spread (r ∷ rs)
spread-onto_run true k r rs e = ap (λ (j : ℤ). k ∷ (copies (j ∷ []) r.size ++ spread rs)) ((Decides-int_eq k r.letter).0 e)
spread-onto_run false k r rs e = refl

spread-onto_runs : (k : ℤ) (rs : List Run) → spread (onto_runs k rs) ≡ k ∷ spread rs
spread-onto_runs k [] = refl
spread-onto_runs k (r ∷ rs) = spread-onto_run (int_eq k r.letter) k r rs refl

pub spread-runs_of : (w : List ℤ) → spread (runs_of w) ≡ w
spread-runs_of [] = refl
spread-runs_of (k ∷ w) = spread-onto_runs k (runs_of w) ∙ ap (λ (v : List ℤ). k ∷ v) (spread-runs_of w)

length-spread : (rs : List Run) → length (spread rs) ≡ sizes rs
length-spread [] = refl
length-spread (r ∷ rs) =
    omega (arith, length-append (copies (r.letter ∷ []) r.size) (spread rs), length-copies_of r.letter r.size, length-spread rs)

pub sizes-runs_of : (w : List ℤ) → sizes (runs_of w) ≡ length w
sizes-runs_of w = sym (length-spread (runs_of w)) ∙ ap (λ (v : List ℤ). length v) (spread-runs_of w)

-- no run is empty, and each is of a letter of n generators
abbrev pub AreRuns : ℕ → List Run → Type 0
AreRuns n [] = Unit {0}
AreRuns n (r ∷ rs) = IsLetter n r.letter × (1 ≤ r.size) × AreRuns n rs

AreRuns-onto_run : (n : ℕ) (b : Bool) (k : ℤ) (r : Run) (rs : List Run) → IsLetter n k → AreRuns n (r ∷ rs) → AreRuns n (onto_run b k r rs)
AreRuns-onto_run n true k r rs l h = (l, omega arith, h.2)
AreRuns-onto_run n false k r rs l h = (l, omega arith, h)

AreRuns-onto_runs : (n : ℕ) (k : ℤ) (rs : List Run) → IsLetter n k → AreRuns n rs → AreRuns n (onto_runs k rs)
AreRuns-onto_runs n k [] l h = (l, omega arith, tt)
AreRuns-onto_runs n k (r ∷ rs) l h = AreRuns-onto_run n (int_eq k r.letter) k r rs l h

pub AreRuns-runs_of : (n : ℕ) (w : List ℤ) → HasLetters n w → AreRuns n (runs_of w)
AreRuns-runs_of n [] h = tt
AreRuns-runs_of n (k ∷ w) h = AreRuns-onto_runs n k (runs_of w) h.0 (AreRuns-runs_of n w h.1)
