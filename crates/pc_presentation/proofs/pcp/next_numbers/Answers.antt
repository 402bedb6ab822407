use Rattle.std.proofs.Common.{ℕ, ◌+◌, List, [], ◌∷◌, ◌++◌, ap, ◌∙◌}
use Rattle.pc_presentation.proofs.presentations.RelationTables.{tabulate_more}
use Rattle.pc_presentation.proofs.pcp.next_numbers.Goals as goal

pub loop-m-preserved : goal.loop-m-preserved
loop-m-preserved c =
    c.in_ok-push.ensures.items ∙ ap (λ (l : List ℕ). l ++ (c.loop-m.m + 2) ∷ []) c.loop-m.invariant ∙ tabulate_more c.loop-m.m (λ m. m + 2)
