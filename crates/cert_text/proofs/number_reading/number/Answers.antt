use Rattle.std.proofs.Common.{◌≡◌, true, false, sym, ap, ◌∙◌, arith}
use Rattle.std.proofs.lemmas.List.{drop_all}
use Rattle.cert_text.specs.NumberFronts.{is_padded, read_on}
use Rattle.cert_text.proofs.texts.NumbersRead.{decimal-read, not-padded, too_large, read-next}
use Rattle.cert_text.proofs.number_reading.number.Goals as goal

pub returns-then-is_padded-clause-none : goal.returns-then-is_padded-clause-none
returns-then-is_padded-clause-none c n small e =
    let bad : true ≡ false = sym c.if-is_padded.true ∙ c.is_padded.ensures ∙ ap is_padded e ∙ not-padded n small in
    cc

pub returns-then-value-gt65535-clause-none : goal.returns-then-value-gt65535-clause-none
returns-then-value-gt65535-clause-none c n small e =
    too_large n c.with_digit-value.result c.loop-digit.digit-index c.args.digits.now small e (omega (arith, c.if-value-gt65535.true))
    (read-next c.loop-digit.value c.with_digit-value.result c.loop-digit.digit-index c.args.digits.now
    (omega (arith, c.loop-digit-test.true)) c.with_digit-value.ensures c.loop-digit.invariant.read)

pub returns-clause-some : goal.returns-clause-some
returns-clause-some c =
    decimal-read c.args.digits.now c.loop-digit.value c.requires (sym c.is_padded.ensures ∙ c.if-is_padded.false)
    (sym c.loop-digit.invariant.read ∙ ap (read_on c.loop-digit.value)
    (drop_all c.loop-digit.digit-index c.args.digits.now (omega (arith, c.loop-digit-test.false))))
    (omega (arith, c.loop-digit.invariant.small))
