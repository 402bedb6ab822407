use Rattle.std.proofs.Common.{◌≡◌, ◌∷◌, ◌++◌, ℕ, List, true, false, length, ap, sym, ◌∙◌}
use Rattle.std.specs.Prelude.{◌==◌}
use Rattle.answer_text.proofs.DraftAdded.{IfSome-at}
use Rattle.answer_text.proofs.texts.PieceTexts.{IfNone-at}
use Rattle.cert_text.specs.CertificateText.{pair_text, further_pairs_text}
use Rattle.cert_text.specs.NumberFronts.{is_no_digit, StartsWell}
use Rattle.cert_text.specs.WrittenNumbers.{IsSmallPair, AreSmallPairs, EndsPairs}
use Rattle.cert_text.proofs.texts.TailsRead.{no-sums, more-sums}
use Rattle.cert_text.proofs.tail_reading.pairs.Goals as goal

pub returns-in_default-clause-none : goal.returns-in_default-clause-none
returns-in_default-clause-none c sums h some e =
    no-sums c.args.text.now
    (IfNone-at c.in_ok-pairs.field-0 ((a : ℕ × ℕ) (more : List ℕ) → IsSmallPair a → StartsWell is_no_digit more
    → ¬ (c.args.text.now ≡ pair_text a ++ more)) c.in_default.is c.in_ok-pairs.ensures.none)
    sums h some e

pub returns-else-is_empty-clause-none : goal.returns-else-is_empty-clause-none
returns-else-is_empty-clause-none c sums h some e =
    more-sums c.args.text.now c.in-Some.rest.now c.in-Some.pairs.items
    (IfSome-at c.in_ok-pairs.field-0 (c.in-Some.pairs, c.in-Some.rest) (λ x. 32 ∷ c.args.text.now ≡ further_pairs_text x.0.items ++ x.1.now)
    c.in-Some.is c.in_ok-pairs.ensures.some)
    (IfSome-at c.in_ok-pairs.field-0 (c.in-Some.pairs, c.in-Some.rest)
    (λ x. AreSmallPairs x.0.items) c.in-Some.is c.in_ok-pairs.ensures.small)
    (IfSome-at c.in_ok-pairs.field-0 (c.in-Some.pairs, c.in-Some.rest) (λ x. EndsPairs x.1.now) c.in-Some.is c.in_ok-pairs.ensures.end)
    (λ none. let bad : true ≡ false = ap (λ (t : List ℕ). length t == 0) (sym none) ∙ sym c.if-is_empty.ensures in cc)
    sums h some e
