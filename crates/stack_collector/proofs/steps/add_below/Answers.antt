use Rattle.std.proofs.Common.{◌+◌, ◌-◌, sym, subst, arith}
use Rattle.pc_presentation.specs.Tailed.{Element, IsElement}
use Rattle.pc_presentation.proofs.quotients.ElementConditions.{set-element}
use Rattle.pc_presentation.proofs.commuting.Shortcuts.{copies-added}
use Rattle.stack_collector.proofs.steps.add_below.Goals as goal

pub returns-clause-element : goal.returns-clause-element
returns-clause-element c =
    let is = c.exponent-exponent.ensures in
    let below = c.requires.below in
    subst (λ (e : Element). IsElement c.args.pcp.now e) (sym c.set_exponent.ensures)
    (set-element c.args.pcp.now c.args.at.now c.requires.element (c.args.generator - 1) (c.exponent-exponent.result + c.args.copies)
    (omega arith))

pub returns-clause-added : goal.returns-clause-added
returns-clause-added c =
    let is = c.exponent-exponent.ensures in
    let below = c.requires.below in
    copies-added c.args.pcp.now c.args.at.now c.requires.element c.args.generator c.args.copies c.requires.from_one c.requires.in_range
    (c.exponent-exponent.result + c.args.copies) c.set_exponent.new.self c.requires.commutes (omega arith)
    (omega arith) c.set_exponent.ensures
