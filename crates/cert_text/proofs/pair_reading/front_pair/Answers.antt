use Rattle.std.proofs.Common.{◌≡◌, ℕ, List, ◌++◌, drop, decimal, ap, sym, ◌∙◌, arith}
use Rattle.answer_text.proofs.texts.PieceTexts.{IfNone-of}
use Rattle.cert_text.specs.CertificateText.{pair_text}
use Rattle.cert_text.specs.NumberFronts.{is_no_digit, StartsWell}
use Rattle.cert_text.specs.WrittenNumbers.{IsSmallPair}
use Rattle.cert_text.proofs.texts.PairsRead.{pair-number, pair-coefficient}
use Rattle.cert_text.proofs.pair_reading.front_pair.Goals as goal

pub returns-in_err-behind-clause-none : goal.returns-in_err-behind-clause-none
returns-in_err-behind-clause-none c =
    IfNone-of _ ((a : ℕ × ℕ) (rest : List ℕ) → IsSmallPair a → StartsWell is_no_digit rest → ¬ (c.args.text.now ≡ pair_text a ++ rest))
    (λ a more h well same.
    c.in_err-behind.ensures.none (decimal a.1 ++ more)
    (pair-number c.args.text.now c.in_ok-number.rest.now more c.in_ok-number.number a c.in_ok-number.ensures.some
    c.in_ok-number.ensures.small c.in_ok-number.ensures.stops h same).1)

pub returns-in_err-coefficient-clause-none : goal.returns-in_err-coefficient-clause-none
returns-in_err-coefficient-clause-none c =
    IfNone-of _ ((a : ℕ × ℕ) (rest : List ℕ) → IsSmallPair a → StartsWell is_no_digit rest → ¬ (c.args.text.now ≡ pair_text a ++ rest))
    (λ a more h well same.
    let colon =
    (pair-number c.args.text.now c.in_ok-number.rest.now more c.in_ok-number.number a c.in_ok-number.ensures.some
    c.in_ok-number.ensures.small c.in_ok-number.ensures.stops h same).1 in
    c.in_err-coefficient.ensures.none a.1 more (omega (arith, h.1)) well
    (ap (λ (t : List ℕ). drop 1 t) (sym c.in_ok-behind.ensures.some ∙ colon)))

pub returns-else-coefficient-lt256-clause-none : goal.returns-else-coefficient-lt256-clause-none
returns-else-coefficient-lt256-clause-none c a more h well same =
    let coefficient =
    pair-coefficient c.args.text.now c.in_ok-behind.field-0.now c.in_ok-number.rest.now more c.in_ok-coefficient.rest.now
    c.in_ok-number.number c.in_ok-coefficient.coefficient a
    c.in_ok-number.ensures.some c.in_ok-number.ensures.small c.in_ok-number.ensures.stops c.in_ok-behind.ensures.some
    c.in_ok-coefficient.ensures.some c.in_ok-coefficient.ensures.small c.in_ok-coefficient.ensures.stops h well same in
    omega (arith, c.if-coefficient-lt256.false, h.1)
