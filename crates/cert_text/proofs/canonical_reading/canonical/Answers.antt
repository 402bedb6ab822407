use Rattle.cert_text.proofs.lines.CanonicalTexts.{not-canonical-refused}
use Rattle.cert_text.proofs.canonical_reading.canonical.Goals as goal

pub returns-in-Err-Text-clause-none : goal.returns-in-Err-Text-clause-none
returns-in-Err-Text-clause-none c =
    not-canonical-refused c.args.text.now c.in-Err-Text.field-0 c.in-Err-Text.field-0-0 c.in-Err-Text.field-0-is
    c.in-Err-Text.ensures.refused
