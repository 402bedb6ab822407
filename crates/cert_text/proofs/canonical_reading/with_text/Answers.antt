use Rattle.std.proofs.Common.{◌≡◌, true, false, sym, ◌∙◌}
use Rattle.cert_text.proofs.lines.CanonicalTexts.{not-canonical-other}
use Rattle.cert_text.proofs.canonical_reading.with_text.Goals as goal

pub returns-else-are_same-clause-none : goal.returns-else-are_same-clause-none
returns-else-are_same-clause-none c =
    not-canonical-other c.args.text.now c.in_ok-written.written.items c.args.pres c.requires c.in_ok-written.ensures.text
    (λ e. let bad : true ≡ false = sym (c.are_same.ensures.1 (e ∙ sym c.deref.ensures.value)) ∙ c.if-are_same.false in cc)
