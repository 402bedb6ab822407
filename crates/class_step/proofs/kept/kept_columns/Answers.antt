use Rattle.std.proofs.Common.{◌+◌, ◌++◌, ◌∷◌, [], List, ℕ, sym, ap, ◌∙◌}
use Rattle.class_step.proofs.kept_tails.KeptSteps.{kept_columns-kept, kept_columns-pivot}
use Rattle.class_step.proofs.kept.kept_columns.Goals as goal
use Rattle.class_step.proofs.kept.kept_columns.Goals.{then-not-is_pivot+in_ok-push, else-not-is_pivot}

pub loop-c-preserved : goal.loop-c-preserved
loop-c-preserved c = elim c.if-not-is_pivot.branch [
  | then-not-is_pivot+in_ok-push w ↦
      ap (λ v. v.items) w.kept-is ∙ w.in_ok-push.ensures.items
      ∙ ap (λ (l : List ℕ). l ++ (c.loop-c.c + 1) ∷ []) c.loop-c.invariant
      ∙ sym (kept_columns-kept c.loop-c.c c.args.basis.now.rows
      (λ pivot. let yes = c.is_pivot.ensures.pivot.1 pivot in let no = w.if-not-is_pivot.true in cc))
  | else-not-is_pivot w ↦
      ap (λ v. v.items) w.kept-is ∙ c.loop-c.invariant
      ∙ sym (kept_columns-pivot c.loop-c.c c.args.basis.now.rows (c.is_pivot.ensures.pivot.0 w.if-not-is_pivot.false))
]
