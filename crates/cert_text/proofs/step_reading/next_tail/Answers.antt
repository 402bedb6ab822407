use Rattle.std.proofs.Common.{◌≡◌, ◌∷◌, ◌++◌, [], ℕ, true, List, ap, sym, ◌∙◌}
use Rattle.pq_base.specs.Prime.{prime_value}
use Rattle.derivation_log.specs.Certificates.{TailLine}
use Rattle.derivation_log.specs.CertificateForms.{are_tail_lines}
use Rattle.answer_text.proofs.Splits.{avoids, split-same}
use Rattle.answer_text.proofs.texts.PieceTexts.{IfNone-at, avoids-not}
use Rattle.cert_text.specs.CertificateText.{tail_line}
use Rattle.cert_text.proofs.texts.TailTexts.{avoids-tail_line}
use Rattle.cert_text.proofs.step_reading.next_tail.Goals as goal

pub returns-in_default-clause-none : goal.returns-in_default-clause-none
returns-in_default-clause-none c l more next e =
    avoids-not 10 (tail_line l) more (ap (λ (t : List ℕ). avoids 10 t) (sym e) ∙ c.in_default.ensures.none)

pub returns-in-None-clause-none : goal.returns-in-None-clause-none
returns-in-None-clause-none c l more next e =
    IfNone-at c.in_ok-tail.field-0 ((m : TailLine) → are_tail_lines (prime_value c.args.prime) c.args.n (c.args.lines.now ++ m ∷ []) 1
    (c.args.lines.now ++ m ∷ []) ≡ true → ¬ (c.in-Some.line.now ≡ tail_line m))
    c.in-None.is c.in_ok-tail.ensures.none
    l next (split-same 10 c.in-Some.line.now (tail_line l) c.in-Some.rest.now more c.in-Some.ensures.first (avoids-tail_line l)
    (sym c.in-Some.ensures.some ∙ e)).0
