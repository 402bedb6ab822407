-- The answers that the steps of a run build have the prime and the names of the certificate, and a class that is at most the number of
-- steps.
use Rattle.std.proofs.Common.{◌≡◌, ◌≤◌, ℕ, zero, suc, List, [], ◌∷◌, ◌++◌, length, replicate, refl, sym, ◌∙◌, subst, arith, append-nil}
use Rattle.pq_base.specs.Answer.{Answer, class_of, last_or_zero}
use Rattle.pq_base.proofs.LastWeights.{last-followed}
use Rattle.cover_quotient.specs.NextAnswer.{combined_answer}
use Rattle.cover_quotient.specs.Stages.{full_cover_of}
use Rattle.derivation_log.specs.declared.source.Run.{Run}
use Rattle.derivation_log.specs.Certificates.{Certificate, step_of}
use Rattle.derivation_log.specs.CertificateRuns.{kept_in, combinations_in, next_where, answer_after}

module _ (c : Certificate) (run : Run) where
  abbrev after : ℕ → Answer
  after k = answer_after full_cover_of c run k

  where-prime : (ts : List ℕ) (A N : Answer) → N.presentation.prime ≡ A.presentation.prime
      → (next_where ts A N).presentation.prime ≡ A.presentation.prime
  where-prime [] A N same = refl
  where-prime (t ∷ ts) A N same = same

  pub built-prime : (k : ℕ) → (answer_after full_cover_of c run k).presentation.prime ≡ c.prime
  built-prime zero = refl
  built-prime (suc k) = where-prime (kept_in (full_cover_of (after k)) (step_of c run (suc k))) (after k) _ refl ∙ built-prime k

  where-names : (ts : List ℕ) (A N : Answer) → N.names ≡ A.names → (next_where ts A N).names ≡ A.names
  where-names [] A N same = refl
  where-names (t ∷ ts) A N same = same

  pub built-names : (k : ℕ) → (answer_after full_cover_of c run k).names ≡ c.presentation.names
  built-names zero = refl
  built-names (suc k) = where-names (kept_in (full_cover_of (after k)) (step_of c run (suc k))) (after k) _ refl ∙ built-names k

  last-more : (ws : List ℕ) (n m : ℕ) → last_or_zero ws ≤ m → last_or_zero (ws ++ replicate n m) ≤ m
  last-more ws zero m l = subst (λ (us : List ℕ). last_or_zero us ≤ m) (sym (append-nil ws)) l
  last-more ws (suc n) m l = let same = last-followed ws m n in omega arith

  where-class : (ts : List ℕ) (A N : Answer) (m : ℕ) → class_of A ≤ m → class_of N ≤ m → class_of (next_where ts A N) ≤ m
  where-class [] A N m l l' = l
  where-class (t ∷ ts) A N m l l' = l'

  pub built-class : (k : ℕ) → class_of (answer_after full_cover_of c run k) ≤ k
  built-class zero = omega arith
  built-class (suc k) =
      let before = built-class k in
      let kept : List ℕ = kept_in (full_cover_of (after k)) (step_of c run (suc k)) in
      where-class kept (after k) (combined_answer (full_cover_of (after k))
      (combinations_in (full_cover_of (after k)) (step_of c run (suc k)))) (suc k)
      (omega arith)
      (let last = last-more (after k).weights (length kept) (suc (class_of (after k))) (omega arith) in omega arith)
