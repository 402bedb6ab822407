-- The limit of each input in digits.
use Rattle.std.proofs.Common.{sym, ap, ◌∙◌}
use Rattle.pq_run.specs.Refusals.{too_long_line}
use Rattle.pq_run.proofs.TooLongLines.{too_long_line-Presentation, too_long_line-Certificate}
use Rattle.pq_run.proofs.refusal_lines.too_long_line.Goals as goal

pub returns-in-Presentation : goal.returns-in-Presentation
returns-in-Presentation c = sym (ap too_long_line c.in-Presentation.is ∙ too_long_line-Presentation)

pub returns-in-Certificate : goal.returns-in-Certificate
returns-in-Certificate c = sym (ap too_long_line c.in-Certificate.is ∙ too_long_line-Certificate)
