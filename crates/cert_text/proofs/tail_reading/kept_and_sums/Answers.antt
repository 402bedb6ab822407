use Rattle.std.proofs.Common.{◌≡◌, ◌≤◌, ◌++◌, ℕ, List, length}
use Rattle.std.specs.Prelude.{codes}
use Rattle.answer_text.proofs.DraftAdded.{IfSome-at}
use Rattle.answer_text.proofs.texts.PieceTexts.{IfNone-at}
use Rattle.cert_text.specs.CertificateText.{kept_text, pairs_text}
use Rattle.cert_text.specs.WrittenNumbers.{AreSmallPairs}
use Rattle.cert_text.proofs.texts.TailsRead.{sums-behind}
use Rattle.cert_text.proofs.tail_reading.kept_and_sums.Goals as goal

pub returns-in-None-clause-none : goal.returns-in-None-clause-none
returns-in-None-clause-none c kept sums h g some e =
    IfNone-at c.in_ok-sums.field-0 ((xs : List (ℕ × ℕ)) → AreSmallPairs xs → 1 ≤ length xs → ¬ (c.in-Some.rest.now ≡ pairs_text xs))
    c.in-None.is c.in_ok-sums.ensures.none
    sums g some
    (sums-behind c.args.text.now c.in-Some.rest.now c.in-Some.kept.items kept (pairs_text sums)
    (IfSome-at c.in_ok-kept.field-0 (c.in-Some.kept, c.in-Some.rest)
    (λ x. c.args.text.now ≡ kept_text x.0.items ++ (codes " by " ++ x.1.now)) c.in-Some.is c.in_ok-kept.ensures.some)
    (IfSome-at c.in_ok-kept.field-0 (c.in-Some.kept, c.in-Some.rest) (λ x. AreSmallPairs x.0.items) c.in-Some.is c.in_ok-kept.ensures.small)
    h e)
