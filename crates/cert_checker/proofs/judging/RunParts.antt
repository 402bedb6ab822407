-- The answer that a run builds has the generators of the certificate's presentation, and its words.
use Rattle.std.proofs.Common.{◌≡◌, ℕ, ℤ, List, length, refl, ap, sym, ◌∙◌, subst}
use Rattle.pq_base.specs.LPresentation.{LPresentation, AreWords}
use Rattle.pq_base.specs.Answer.{Answer}
use Rattle.cover_quotient.specs.Stages.{full_cover_of}
use Rattle.derivation_log.specs.declared.source.Run.{Run}
use Rattle.derivation_log.specs.Certificates.{Certificate, steps_of}
use Rattle.derivation_log.specs.CertificateParts.{built_by}
use Rattle.cert_checker.proofs.judging.BuiltAnswers.{built-names}

module _ (c : Certificate) (run : Run) (A : Answer) (built : A ≡ built_by full_cover_of c run) where
  pub names-built : (L : LPresentation) → L ≡ c.presentation → A.names ≡ L.names
  names-built L same =
      ap (λ (B : Answer). B.names) built ∙ built-names c run (length (steps_of c run)) ∙ ap (λ (M : LPresentation). M.names) (sym same)

  pub words-built : (words given : List (List ℤ)) → words ≡ given → AreWords (length c.presentation.names) given
      → AreWords (length A.names) words
  words-built words given same are =
      subst (AreWords (length A.names)) (sym same)
      (subst (λ (n : ℕ). AreWords n given) (ap (λ (ns : List (List ℕ)). length ns) (sym (names-built c.presentation refl))) are)
