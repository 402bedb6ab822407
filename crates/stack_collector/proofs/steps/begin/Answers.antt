use Rattle.std.proofs.Common.{◌-◌, length, sym, subst}
use Rattle.pc_presentation.specs.Tailed.{Element, IsElement}
use Rattle.pc_presentation.proofs.commuting.Shortcuts.{cleared_between-element}
use Rattle.stack_collector.proofs.Begun.{begun-pushes}
use Rattle.stack_collector.proofs.steps.begin.Goals as goal

pub raise-requires-clause-element : goal.raise-requires-clause-element
raise-requires-clause-element c =
    let first = c.commuting_from-commuting.ensures in
    subst (λ (e : Element). IsElement c.args.pcp.now e) (sym c.clear_between.ensures)
    (cleared_between-element c.args.pcp.now c.args.at.now c.requires.element (c.args.generator - 1)
    (c.commuting_from-commuting.result - 1) first.after first.within)

pub returns-clause-pushed : goal.returns-clause-pushed
returns-clause-pushed c =
    begun-pushes c.args.pcp.now c.args.at.now c.requires.element c.args.generator (c.commuting_from-commuting.result - 1) c.raise.result
    (length c.word.result.now)
    c.exponents_between.result c.requires.from_one c.requires.in_range c.commuting_from-commuting.ensures c.clear_between.new.self
    c.raise.new.at c.exponents_between.ensures c.clear_between.ensures c.raise.ensures.raised
