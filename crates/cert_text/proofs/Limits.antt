-- A certificate whose presentation and answer are values of the program is within the limits of texts.
use Rattle.std.proofs.Common.{◌≡◌, sym, subst, ap, ◌∙◌}
use Rattle.pq_base.specs.LPresentation.{LPresentation}
use Rattle.pq_base.specs.Answer.{Answer, IsAnswer}
use Rattle.pc_presentation.specs.Pcp.{TailedPresentation, IsTailedPresentation}
use Rattle.answer_text.specs.OneText.{AreNames}
use Rattle.answer_text.specs.OneText as answers
use Rattle.answer_text.proofs.Limits.{AreNames-All, answer-writable}
use Rattle.derivation_log.specs.Certificates.{Certificate}
use Rattle.derivation_log.specs.CertificateForms.{IsCertificate}
use Rattle.cert_text.specs.CertificateText.{HasText, IsWritable}

pub IsWritable-parts : (c : Certificate) (L : LPresentation) (A : Answer) (T : TailedPresentation) → L ≡ c.presentation → A ≡ c.answer
    → IsCertificate c → HasText L
    → T.presentation ≡ A.presentation → IsTailedPresentation T → IsAnswer A → c.version ≡ 1 → IsWritable c
IsWritable-parts c L A T l a is text same tailed answer version =
    let texts : HasText c.presentation = subst HasText l text in
    let names : AreNames A.names = subst AreNames (sym is.names ∙ ap (λ (x : Answer). x.names) (sym a))
    (AreNames-All c.presentation.names texts.names) in
    record {
      version = version;
      certificate = is;
      presentation = texts;
      answer = subst answers.IsWritable a (answer-writable A T same tailed answer names);
    }
