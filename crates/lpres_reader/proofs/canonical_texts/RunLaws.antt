-- The first run of a word has the letters at its front that are equal to the first one, and the other runs are those of
-- the rest.
use Rattle.std.proofs.Common.{◌≡◌, ◌≤◌, ◌+◌, ℕ, suc, Bool, true, false, cond, List, [], ◌∷◌, get_or, length, drop, refl, sym, ap, ◌∙◌}
use Rattle.std.proofs.Common.{arith}
use Rattle.std.specs.Prelude.{ℤ}
use Rattle.std.specs.List.{prefix_len}
use Rattle.std.specs.Ordering.{int_eq}
use Rattle.std.proofs.lemmas.Bool.{cond-true}
use Rattle.std.proofs.lemmas.Bool.Decides.{Decides-int_eq}
use Rattle.lpres_reader.specs.declared.canonical.Run.{Run}
use Rattle.lpres_reader.specs.Runs.{run, onto_run, onto_runs, runs_of}

-- how many letters at the front are k
abbrev size_at : ℤ → List ℤ → ℕ
size_at k w = prefix_len (int_eq k) w

size_at-own : (k : ℤ) (w : List ℤ) → size_at k (k ∷ w) ≡ suc (size_at k w)
size_at-own k w = cond-true (int_eq k k) (1 + size_at k w) 0 ((Decides-int_eq k k).1 refl) ∙ omega arith

runs_of-first : (k : ℤ) (w : List ℤ) → runs_of (k ∷ w) ≡ run k (suc (size_at k w)) ∷ runs_of (drop (size_at k w) w)
runs_of-first k [] = refl
runs_of-first k (j ∷ w) = ap (onto_runs k) (runs_of-first j w) ∙ by (int_eq k j) refl (runs_of-first j w)
  where
    by : (b : Bool) → int_eq k j ≡ b → runs_of (j ∷ w) ≡ run j (suc (size_at j w)) ∷ runs_of (drop (size_at j w) w)
        → onto_run b k (run j (suc (size_at j w))) (runs_of (drop (size_at j w) w))
        ≡ run k (suc (cond b (1 + size_at k w) 0)) ∷ runs_of (drop (cond b (1 + size_at k w) 0) (j ∷ w))
    by true e first =
        let same : k ≡ j = (Decides-int_eq k j).0 e in
        ap (λ (i : ℤ). run k (suc (suc (size_at i w))) ∷ runs_of (drop (size_at i w) w)) (sym same)
        ∙ ap (λ (n : ℕ). run k (suc n) ∷ runs_of (drop n (j ∷ w))) (omega arith)
    by false e first = ap (λ (rs : List Run). run k 1 ∷ rs) (sym first)

-- the first run, where its letter and its size are known
pub runs_of-next : (w : List ℤ) (k d : ℤ) (n : ℕ) → 1 ≤ length w → get_or w 0 d ≡ k → n ≡ prefix_len (int_eq k) w
    → (runs_of w ≡ run k n ∷ runs_of (drop n w)) × (1 ≤ n)
runs_of-next [] k d n some first size = absurd (omega arith)
runs_of-next (j ∷ w) k d n some first size =
    let own : suc (size_at j w) ≡ n = sym (size_at-own j w) ∙ ap (λ (i : ℤ). size_at i (j ∷ w)) first ∙ sym size in (
      runs_of-first j w ∙ ap (λ (i : ℤ). run i (suc (size_at j w)) ∷ runs_of (drop (size_at j w) w)) first
          ∙ ap (λ (m : ℕ). run k m ∷ runs_of (drop m (j ∷ w))) own,
      omega arith,
    )
