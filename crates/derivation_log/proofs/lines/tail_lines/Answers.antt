use Rattle.std.proofs.Common.{◌+◌, ◌++◌, ◌∷◌, [], List, sym, ap, ◌∙◌}
use Rattle.std.proofs.lemmas.Bool.{iff_false}
use Rattle.derivation_log.specs.Certificates.{TailLine}
use Rattle.derivation_log.specs.HeldLines.{tail_line}
use Rattle.derivation_log.proofs.LineParts.{lines-pivot, lines-no_pivot}
use Rattle.derivation_log.proofs.lines.tail_lines.Goals as goal
use Rattle.derivation_log.proofs.lines.tail_lines.Goals.{then-is_pivot+in_ok-tail_line+in_ok-push, else-is_pivot}

pub loop-c-preserved : goal.loop-c-preserved
loop-c-preserved c =
    let p = c.args.basis.now.prime in
    let bs = c.args.basis.now.rows in
    elim c.if-is_pivot.branch [
      | then-is_pivot+in_ok-tail_line+in_ok-push w ↦
          ap (λ v. v.items) w.lines-is ∙ w.in_ok-push.ensures.items
          ∙ ap (λ (l : TailLine). c.loop-c.lines.items ++ l ∷ []) w.in_ok-tail_line.ensures
          ∙ ap (λ (ls : List TailLine). ls ++ tail_line p bs (c.loop-c.c + 1) ∷ []) c.loop-c.invariant
          ∙ sym (lines-pivot p c.loop-c.c bs (c.is_pivot.ensures.pivot.0 w.if-is_pivot.true))
      | else-is_pivot w ↦
          ap (λ v. v.items) w.lines-is ∙ c.loop-c.invariant
          ∙ sym (lines-no_pivot p c.loop-c.c bs (iff_false c.is_pivot.ensures.pivot w.if-is_pivot.false))
    ]
