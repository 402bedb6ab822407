use Rattle.std.proofs.Common.{◌≡◌, true, false, sym, ap, ◌∙◌}
use Rattle.derivation_log.specs.declared.source.RowSource.{RowSource}
use Rattle.derivation_log.specs.CertificateForms.{is_source_in}
use Rattle.answer_text.proofs.DraftAdded.{IfSome-at}
use Rattle.cert_text.specs.CertificateText.{source_text}
use Rattle.cert_text.specs.WrittenNumbers.{IsWrittenSource}
use Rattle.cert_text.proofs.texts.SourcesRead.{named-read}
use Rattle.cert_text.proofs.source_reading.source_line.Goals as goal

pub returns-else-is_source_in-clause-none : goal.returns-else-is_source_in-clause-none
returns-else-is_source_in-clause-none c a named e =
    let found : RowSource = c.in-Some-2.found in
    let read = IfSome-at c.in_ok-found.field-0 found (λ (b : RowSource). c.in-Some.text.now ≡ source_text b) c.in-Some-2.is
    c.in_ok-found.ensures.some in
    let written =
    IfSome-at c.in_ok-found.field-0 found (λ (b : RowSource). IsWrittenSource b) c.in-Some-2.is c.in_ok-found.ensures.written in
    let same = named-read c.args.pres.now c.args.run a c.names-names.ensures.limits named c.args.line.now c.in-Some.text.now found
    c.in-Some.ensures.some read written e in
    let bad : true ≡ false = sym named ∙ ap (λ (b : RowSource). is_source_in c.args.pres.now c.args.run b) (sym same)
    ∙ sym c.if-is_source_in.ensures in
    cc
