use Rattle.std.proofs.Common.{◌≡◌, ℕ, List}
use Rattle.pq_base.specs.Table.{AllBelow}
use Rattle.answer_text.proofs.texts.PieceTexts.{IfNone-at}
use Rattle.cert_text.specs.CertificateText.{along_text}
use Rattle.cert_text.proofs.texts.SourcesRead.{iterated-read}
use Rattle.cert_text.proofs.source_reading.iterated_behind.Goals as goal

pub returns-in-None-clause-none : goal.returns-in-None-clause-none
returns-in-None-clause-none c i s h small same =
    IfNone-at c.in_ok-path.field-0 ((t : List ℕ) → AllBelow 256 t → ¬ (c.in-Some.rest.now ≡ along_text t)) c.in-None.is
    c.in_ok-path.ensures.none s small
    (iterated-read c.args.text.now c.in-Some.rest.now c.in-Some.relator i s c.in-Some.ensures.some c.in-Some.ensures.small
    c.in-Some.ensures.stops h same)
