use Rattle.std.proofs.Common.{◌≡◌, ◌≤◌, ◌∷◌, ◌++◌, [], ℕ, List, true, false, length, ap, sym, ◌∙◌}
use Rattle.pq_base.specs.Prime.{prime_value}
use Rattle.derivation_log.specs.Certificates.{TailLine}
use Rattle.derivation_log.specs.CertificateForms.{are_tail_lines}
use Rattle.answer_text.proofs.DraftAdded.{IfSome-at}
use Rattle.answer_text.proofs.texts.PieceTexts.{IfNone-at}
use Rattle.cert_text.specs.CertificateText.{tail_line}
use Rattle.cert_text.specs.WrittenNumbers.{IsSmallTail}
use Rattle.cert_text.proofs.texts.TailsRead.{small-tail, small-prime, tail-read}
use Rattle.cert_text.proofs.tail_reading.tail_line.Goals as goal

pub returns-in_default-clause-none : goal.returns-in_default-clause-none
returns-in_default-clause-none c l fits e =
    let small = small-tail (prime_value c.args.prime) c.args.n c.args.lines.now l (small-prime c.args.prime) fits in
    IfNone-at c.in_ok-found.field-0 ((m : TailLine) → IsSmallTail m → 1 ≤ length m.sums → ¬ (c.args.line.now ≡ tail_line m)) c.in_default.is
    c.in_ok-found.ensures.none l small.0 small.1 e

pub returns-else-is_next_tail_line-clause-none : goal.returns-else-is_next_tail_line-clause-none
returns-else-is_next_tail_line-clause-none c l fits e =
    let found : TailLine = c.in-Some.found in
    let lines : List TailLine = c.args.lines.now in
    let small = small-tail (prime_value c.args.prime) c.args.n lines l (small-prime c.args.prime) fits in
    let read =
    IfSome-at c.in_ok-found.field-0 found (λ (m : TailLine). c.args.line.now ≡ tail_line m) c.in-Some.is c.in_ok-found.ensures.some in
    let numbers = IfSome-at c.in_ok-found.field-0 found (λ (m : TailLine). IsSmallTail m) c.in-Some.is c.in_ok-found.ensures.small in
    let same : l ≡ found = tail-read c.args.line.now l found e small.0 numbers read in
    let bad : true ≡ false =
    sym fits ∙ ap (λ (m : TailLine). are_tail_lines (prime_value c.args.prime) c.args.n (lines ++ m ∷ []) 1 (lines ++ m ∷ [])) same
    ∙ ap (λ (p : ℕ). are_tail_lines p c.args.n (lines ++ found ∷ []) 1 (lines ++ found ∷ [])) (sym c.value.ensures.value)
    ∙ sym c.if-is_next_tail_line.ensures in
    cc
