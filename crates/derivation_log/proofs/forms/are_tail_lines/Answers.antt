use Rattle.std.proofs.Common.{◌<◌, ◌+◌, ℕ, List, length, sym, ap, ◌∙◌, arith}
use Rattle.std.proofs.lemmas.List.{get_or_read}
use Rattle.derivation_log.specs.Certificates.{TailLine}
use Rattle.derivation_log.specs.CertificateForms.{are_tail_lines}
use Rattle.derivation_log.proofs.NextTailLines.{no_line, take-next, not-front}
use Rattle.derivation_log.proofs.forms.are_tail_lines.Goals as goal

pub returns-then-not-is_next_tail_line : goal.returns-then-not-is_next_tail_line
returns-then-not-is_next_tail_line c =
    let ls : List TailLine = c.args.lines.now in
    let k : ℕ = c.loop-place.place in
    let inside : k < length ls = omega (arith, c.loop-place-test.true) in
    let line = get_or_read ls k c.index-lines-place.result inside c.index-lines-place.is no_line in
    sym (not-front c.args.p c.args.n (k + 1) ls
    (ap (λ (xs : List TailLine). are_tail_lines c.args.p c.args.n xs 1 xs) (sym (take-next ls k c.index-lines-place.result inside line))
    ∙ sym c.if-not-is_next_tail_line.ensures))
