use Rattle.std.proofs.Common.{◌≡◌, ℕ, true, List, ap, sym, ◌∙◌}
use Rattle.derivation_log.specs.declared.source.RowSource.{RowSource}
use Rattle.derivation_log.specs.CertificateForms.{is_source_in}
use Rattle.answer_text.proofs.Splits.{avoids, split-same}
use Rattle.answer_text.proofs.texts.PieceTexts.{IfNone-at, avoids-not}
use Rattle.cert_text.specs.CertificateText.{source_line}
use Rattle.cert_text.proofs.texts.SourceTexts.{avoids-source_line}
use Rattle.cert_text.proofs.step_reading.next_source.Goals as goal

pub returns-in_default-clause-none : goal.returns-in_default-clause-none
returns-in_default-clause-none c a more named e =
    avoids-not 10 (source_line a) more (ap (λ (t : List ℕ). avoids 10 t) (sym e) ∙ c.in_default.ensures.none)

pub returns-in-None-clause-none : goal.returns-in-None-clause-none
returns-in-None-clause-none c a more named e =
    IfNone-at c.in_ok-source.field-0 ((b : RowSource) → is_source_in c.args.pres.now c.args.run b ≡ true
    → ¬ (c.in-Some.line.now ≡ source_line b)) c.in-None.is c.in_ok-source.ensures.none
    a named (split-same 10 c.in-Some.line.now (source_line a) c.in-Some.rest.now more c.in-Some.ensures.first (avoids-source_line a)
    (sym c.in-Some.ensures.some ∙ e)).0
