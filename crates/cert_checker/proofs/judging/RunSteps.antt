-- The steps of a run pass one after the other, up to the first part that fails.
use Rattle.std.proofs.Common.{◌≡◌, ◌≢◌, ◌<◌, ◌≤◌, ◌+◌, ◌-◌, ℕ, zero, suc, Result, Ok, Err, IsErrAnd, IfErr, OnOk, List, [], ◌∷◌, ◌++◌, ap}
use Rattle.std.proofs.Common.{sym, ◌∙◌, subst, arith, append-nil}
use Rattle.std.specs.List.{flat_map}
use Rattle.std.proofs.lemmas.List.Elements.{All-nil}
use Rattle.std.proofs.lemmas.Grind.{flat_map-append}
use Rattle.pq_base.specs.Canonical.{numbers_from}
use Rattle.pq_base.proofs.NumberLists.{numbers-more}
use Rattle.cover_quotient.specs.Stages.{full_cover_of}
use Rattle.derivation_log.specs.declared.source.Run.{Run}
use Rattle.derivation_log.specs.declared.part.Part.TheVariants as part
use Rattle.derivation_log.specs.Certificates.{Certificate}
use Rattle.derivation_log.specs.CertificateRuns.{kept_at}
use Rattle.derivation_log.specs.CertificateParts.{full_kind}
use Rattle.derivation_log.specs.Validity.{Trial, Passes, step_trials}
use Rattle.cert_checker.specs.declared.refusal.CheckRefusal.{CheckRefusal}
use Rattle.cert_checker.specs.Judging.{AllPass, IsRefusedAt, BuiltSoFar, HasBuilt, trials_of_steps}
use Rattle.cert_checker.proofs.judging.Judging.{refused-before, refused-behind, both-pass}

-- the first k steps of a run pass, and what they build
pub record IsStepsDone (c : Certificate) (run : Run) (k : ℕ) (b : BuiltSoFar) : Type 0 where
  pub built : HasBuilt c run k b
  pub pass : AllPass c (trials_of_steps run k)
  pub class : k ≤ c.class
  pub earlier : (j : ℕ) → 1 ≤ j → j < k → kept_at full_cover_of c run j ≢ []

pub trials-more : (run : Run) (k : ℕ) → trials_of_steps run (k + 1) ≡ trials_of_steps run k ++ step_trials run (k + 1)
trials-more run k =
    ap (flat_map (step_trials run)) (numbers-more k)
    ∙ flat_map-append (step_trials run) (numbers_from 1 k) ((k + 1) ∷ [])
    ∙ ap (λ (ts : List Trial). trials_of_steps run k ++ ts) (append-nil (step_trials run (k + 1)))

module _ (c : Certificate) (run : Run) where
  pub steps-none : (b : BuiltSoFar) → HasBuilt c run 0 b → IsStepsDone c run 0 b
  steps-none b built = record {
    built = built;
    pass = All-nil (Passes full_kind c);
    class = omega arith;
    earlier = λ j first last. absurd (omega arith);
  }

  pub steps-more : (k : ℕ) (b next : BuiltSoFar) → IsStepsDone c run k b → HasBuilt c run (k + 1) next
      → AllPass c (step_trials run (k + 1)) → IsStepsDone c run (k + 1) next
  steps-more k b next done built pass =
      let extra = pass zero (record { run = run; class = k + 1; part = part.Extra }) (omega arith) in
      record {
        built = built;
        pass = subst (AllPass c) (sym (trials-more run k)) (both-pass c (trials_of_steps run k) (step_trials run (k + 1)) done.pass pass);
        class = extra.class;
        earlier = extra.earlier;
      }

  -- a refusal at a step is one among those of more steps
  refused-among : (k m : ℕ) (e : CheckRefusal) → IsRefusedAt c (trials_of_steps run k) e → IsRefusedAt c (trials_of_steps run (k + m)) e
  refused-among k zero e refused =
      let same : k ≡ k + 0 = omega arith in subst (λ (n : ℕ). IsRefusedAt c (trials_of_steps run n) e) same refused
  refused-among k (suc m) e refused =
      let same : (k + m) + 1 ≡ k + suc m = omega arith in
      subst (λ (n : ℕ). IsRefusedAt c (trials_of_steps run n) e) same
      (subst (λ (ts : List Trial). IsRefusedAt c ts e) (sym (trials-more run (k + m)))
      (refused-before c (trials_of_steps run (k + m)) (step_trials run (k + m + 1)) e (refused-among k m e refused)))

  pub steps-refused : (k n : ℕ) (b : BuiltSoFar) (e : CheckRefusal) → IsStepsDone c run k b → k < n
      → IsRefusedAt c (step_trials run (k + 1)) e → IsRefusedAt c (trials_of_steps run n) e
  steps-refused k n b e done l refused =
      let same : (k + 1) + (n - (k + 1)) ≡ n = omega arith in
      subst (λ (i : ℕ). IsRefusedAt c (trials_of_steps run i) e) same
      (refused-among (k + 1) (n - (k + 1)) e
      (subst (λ (ts : List Trial). IsRefusedAt c ts e) (sym (trials-more run k))
      (refused-behind c (trials_of_steps run k) (step_trials run (k + 1)) e done.pass refused)))

-- a refusal that is handed on
pub handed-on : {X : Type 0} (P : CheckRefusal → Type 0) (r : Result X CheckRefusal) (e : CheckRefusal) → IsErrAnd r (λ d. d ≡ e) → P e
    → IfErr r P
handed-on P (Ok x) e is refused = absurd is
handed-on P (Err d) e is refused = subst P (sym is) refused

pub on-ok : {X E : Type 0} {P : Type 0} (r : Result X E) → P → OnOk r P
on-ok (Ok x) holds = holds
on-ok (Err e) holds = tt
