use Rattle.std.proofs.Common.{◌≤◌, ℕ, true, false, leb, refl, sym, ap, ◌∙◌, arith}
use Rattle.std.proofs.lemmas.Bool.{le-leb, lt-leb}
use Rattle.derivation_log.specs.CertificateForms.{max_number, is_tail_line}
use Rattle.derivation_log.proofs.NextTailLines.{AreRising-tail_lines, next-test}
use Rattle.derivation_log.proofs.forms.is_next_tail_line.Goals as goal

pub is_tail_line-requires : goal.is_tail_line-requires
is_tail_line-requires c = AreRising-tail_lines c.args.p c.args.n 1 c.args.lines.now c.args.lines.now c.requires

pub returns-then-least_behind-from : goal.returns-then-least_behind-from
returns-then-least_behind-from c =
    let small : c.args.line.now.tail ≤ max_number = omega (arith, c.tail.ensures, c.from.ensures) in
    next-test c.args.p c.args.n c.args.lines.now c.args.line.now c.least_behind.result true c.is_tail_line.result small c.requires
    c.least_behind.ensures
    (sym (le-leb c.least_behind.result c.from.result c.if-least_behind-from.true)
    ∙ ap (λ (t : ℕ). leb c.least_behind.result t) (c.from.ensures ∙ c.tail.ensures)) c.is_tail_line.ensures

pub returns-else-least_behind-from : goal.returns-else-least_behind-from
returns-else-least_behind-from c =
    let small : c.args.line.now.tail ≤ max_number = omega (arith, c.tail.ensures, c.from.ensures) in
    lt-leb c.least_behind.result c.from.result c.if-least_behind-from.false
    ∙ next-test c.args.p c.args.n c.args.lines.now c.args.line.now c.least_behind.result false
    (is_tail_line c.args.p c.args.n c.args.lines.now c.args.line.now) small c.requires c.least_behind.ensures
    (sym (lt-leb c.least_behind.result c.from.result c.if-least_behind-from.false)
    ∙ ap (λ (t : ℕ). leb c.least_behind.result t) (c.from.ensures ∙ c.tail.ensures)) refl
