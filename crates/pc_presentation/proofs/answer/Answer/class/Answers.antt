use Rattle.std.proofs.Common.{ℕ, ◌-◌, List, get_or, length, ap, sym, ◌∙◌}
use Rattle.pc_presentation.proofs.presentations.PartsLaws.{last_or_zero-get_or}
use Rattle.pc_presentation.proofs.answer.Answer.class.Goals as goal

pub returns-in-Some : goal.returns-in-Some
returns-in-Some c = rw (← c.self.view_is)
    (c.in-Some.ensures.item.3.1 0
    ∙ ap (λ (ws : List ℕ). get_or ws (length ws - 1) 0) c.weights.ensures
    ∙ sym (last_or_zero-get_or c.self.inside.pcp.weights))
