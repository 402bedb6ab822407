use Rattle.std.proofs.Common.{◌≡◌, ◌∷◌, ◌++◌, ℕ, List}
use Rattle.answer_text.proofs.DraftAdded.{IfSome-at}
use Rattle.answer_text.proofs.texts.PieceTexts.{IfNone-at}
use Rattle.cert_text.specs.CertificateText.{pair_text, further_pairs_text}
use Rattle.cert_text.specs.NumberFronts.{is_no_digit, StartsWell}
use Rattle.cert_text.specs.WrittenNumbers.{IsSmallPair, AreSmallPairs, EndsPairs}
use Rattle.cert_text.proofs.texts.TailsRead.{no-kept, no-by}
use Rattle.cert_text.proofs.tail_reading.kept.Goals as goal

pub returns-in_default-2-clause-none : goal.returns-in_default-2-clause-none
returns-in_default-2-clause-none c kept rest h e =
    no-kept c.args.text.now c.in_default.ensures.none
    (IfNone-at c.in_ok-kept.field-0 ((a : ℕ × ℕ) (more : List ℕ) → IsSmallPair a → StartsWell is_no_digit more
    → ¬ (c.args.text.now ≡ pair_text a ++ more)) c.in_default-2.is c.in_ok-kept.ensures.none)
    kept rest h e

pub returns-in-None-clause-none : goal.returns-in-None-clause-none
returns-in-None-clause-none c kept rest h e =
    no-by c.args.text.now c.in-Some-2.rest.now c.in-Some-2.kept.items c.in_default.ensures.none
    (IfSome-at c.in_ok-kept.field-0 (c.in-Some-2.kept, c.in-Some-2.rest)
    (λ x. 32 ∷ c.args.text.now ≡ further_pairs_text x.0.items ++ x.1.now) c.in-Some-2.is c.in_ok-kept.ensures.some)
    (IfSome-at c.in_ok-kept.field-0 (c.in-Some-2.kept, c.in-Some-2.rest) (λ x. AreSmallPairs x.0.items) c.in-Some-2.is
    c.in_ok-kept.ensures.small)
    (IfSome-at c.in_ok-kept.field-0 (c.in-Some-2.kept, c.in-Some-2.rest) (λ x. EndsPairs x.1.now) c.in-Some-2.is c.in_ok-kept.ensures.end)
    c.in-None.ensures.none kept rest h e
