use Rattle.std.proofs.Common.{◌≡◌, ◌≤◌, ◌++◌, ℕ, List, length, drop, ap, sym, ◌∙◌}
use Rattle.std.specs.Prelude.{codes}
use Rattle.answer_text.proofs.texts.PieceTexts.{IfNone-at}
use Rattle.cert_text.specs.CertificateText.{kept_text, pairs_text}
use Rattle.cert_text.specs.WrittenNumbers.{AreSmallPairs}
use Rattle.cert_text.proofs.texts.TailsRead.{tail-number}
use Rattle.cert_text.proofs.tail_reading.tail.Goals as goal

pub returns-in_default-behind-clause-none : goal.returns-in_default-behind-clause-none
returns-in_default-behind-clause-none c l h some e =
    c.in_default-behind.ensures.none (kept_text l.kept ++ (codes " by " ++ pairs_text l.sums))
    (tail-number c.args.line.now c.in-Some.text.now c.in-Some-front_number.rest.now c.in-Some-front_number.tail l c.in-Some.ensures.some
    c.in-Some-front_number.ensures.some
    c.in-Some-front_number.ensures.small c.in-Some-front_number.ensures.stops h e)

pub returns-in-None-clause-none : goal.returns-in-None-clause-none
returns-in-None-clause-none c l h some e =
    let rest =
    tail-number c.args.line.now c.in-Some.text.now c.in-Some-front_number.rest.now c.in-Some-front_number.tail l c.in-Some.ensures.some
    c.in-Some-front_number.ensures.some
    c.in-Some-front_number.ensures.small c.in-Some-front_number.ensures.stops h e in
    IfNone-at c.in_ok-kept.field-0 ((kept sums : List (ℕ × ℕ)) → AreSmallPairs kept → AreSmallPairs sums → 1 ≤ length sums
    → ¬ (c.in-Some-behind.rest.now ≡ kept_text kept ++ (codes " by " ++ pairs_text sums))) c.in-None.is c.in_ok-kept.ensures.none
    l.kept l.sums h.kept h.sums some (ap (λ (t : List ℕ). drop 3 t) (sym c.in-Some-behind.ensures.some ∙ rest))
