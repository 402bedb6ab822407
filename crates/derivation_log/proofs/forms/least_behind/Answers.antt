use Rattle.std.proofs.Common.{◌≡◌, ◌<◌, ◌-◌, ◌+◌, ℕ, List, length, sym, ap, ◌∙◌, arith}
use Rattle.std.proofs.lemmas.Bool.{eqb-false}
use Rattle.std.proofs.lemmas.List.{get_or_read}
use Rattle.derivation_log.specs.Certificates.{TailLine}
use Rattle.derivation_log.proofs.NextTailLines.{no_line, least_behind-last}
use Rattle.derivation_log.proofs.forms.least_behind.Goals as goal

pub returns : goal.returns
returns c =
    let ls : List TailLine = c.args.lines.now in
    let some : length ls ≡ 0 → ⊥ = eqb-false (length ls) 0 (sym c.is_empty.ensures ∙ c.if-is_empty.false) in
    let inside : length ls - 1 < length ls = omega (arith, some) in
    let line : c.index-lines-lines.result.tail ≡ _ =
    ap (λ (l : TailLine). l.tail) (get_or_read ls (length ls - 1) c.index-lines-lines.result inside c.index-lines-lines.is no_line) in
    ap (λ (n : ℕ). n + 1) (c.from.ensures ∙ c.tail.ensures ∙ line) ∙ sym (least_behind-last 1 ls (length ls - 1) (omega arith))
