-- The lines of steps that are kept make a certificate, where their prime is its own and their sources may be named.
use Rattle.std.proofs.Common.{◌≡◌, ◌≤◌, ℕ, true, false, List, [], ◌∷◌, length, map, refl, ap, ◌∙◌, subst, inl}
use Rattle.pq_base.specs.Limits.{max_class}
use Rattle.pq_base.specs.LPresentation.{LPresentation}
use Rattle.pq_base.specs.Answer.{Answer}
use Rattle.derivation_log.specs.declared.source.Run.{Run}
use Rattle.derivation_log.specs.declared.source.Run.TheVariants.{Iterated, Whole}
use Rattle.derivation_log.specs.HeldSteps.{HeldStep}
use Rattle.derivation_log.specs.Certificates.{has_two_runs}
use Rattle.derivation_log.specs.CertificateForms.{are_tail_lines, are_steps_in, first_version, IsCertificate}
use Rattle.derivation_log.specs.HeldLines.{held_lines, AreTold, FitCertificate, LinesOfRuns, KeepsLines, HoldsFitting}
use Rattle.derivation_log.proofs.PairForms.{both_true}
use Rattle.derivation_log.proofs.HeldForms.{lines-are}

held-steps_in : (L : LPresentation) (p : ℕ) (run : Run) (steps : List HeldStep) → AreTold steps → FitCertificate L p run steps
    → are_steps_in L p run (map held_lines steps) ≡ true
held-steps_in L p run [] told fit = refl
held-steps_in L p run (s ∷ steps) told fit =
    both_true fit.0.sources
    (both_true
    (subst (λ (q : ℕ). are_tail_lines q (length s.sources) (held_lines s).tails 1 (held_lines s).tails
    ≡ true) fit.0.prime (lines-are s told.0))
    (held-steps_in L p run steps told.1 fit.1))

pub kept-certificate : (L : LPresentation) (p c : ℕ) (l : LinesOfRuns) (A : Answer) → 1 ≤ c → c ≤ max_class → A.presentation.prime ≡ p
    → A.names ≡ L.names → ((run : Run) → HoldsFitting L p run (KeepsLines l run)) → (has_two_runs L ≡ false → l.iterated ≡ [])
    → IsCertificate (first_version L p c l.iterated l.whole A)
kept-certificate L p c l A from_one limit prime names holds one_run =
    let iterated = holds Iterated in
    let whole = holds Whole in
    record {
      version = inl refl;
      class_from_one = from_one;
      class_limit = limit;
      prime = prime;
      names = names;
      one_run = one_run;
      iterated_steps = ap (are_steps_in L p Iterated) iterated.kept.are
          ∙ held-steps_in L p Iterated iterated.steps iterated.kept.told iterated.fit;
      whole_steps = ap (are_steps_in L p Whole) whole.kept.are ∙ held-steps_in L p Whole whole.steps whole.kept.told whole.fit;
    }
