use Rattle.std.proofs.Common.{ℕ, Option, Some, length, ap, sym, ◌∙◌, subst}
use Rattle.pc_presentation.specs.Pcp.{unit_row, row_of}
use Rattle.pc_presentation.specs.Collection.{add_row}
use Rattle.pc_presentation.specs.Tailed.{Element, IsElement, with_state}
use Rattle.pc_presentation.proofs.quotients.ElementConditions.{add_tail-element}
use Rattle.pc_presentation.proofs.commuting.AddedTails.{no_tail-added}
use Rattle.pc_presentation.proofs.tails.add_tail.Goals as goal

pub returns-in-Some-clause-element : goal.returns-in-Some-clause-element
returns-in-Some-clause-element c =
    let width = c.requires.element.state.row.count in
    subst (λ (e : Element). IsElement c.args.pcp.now e)
    (sym (c.add_tail.ensures
    ∙ ap (λ (p : ℕ). with_state c.args.at.now (add_row p (unit_row (length c.args.at.now.state.row) c.in-Some.column) c.args.at.now.state))
    c.requires.element.prime
    ∙ ap (λ (n : ℕ). with_state c.args.at.now (add_row c.args.pcp.now.presentation.prime (unit_row n c.in-Some.column) c.args.at.now.state))
    width))
    (add_tail-element c.args.pcp.now c.args.at.now c.requires.element (Some c.in-Some.column))

pub returns-in_default-clause-added : goal.returns-in_default-clause-added
returns-in_default-clause-added c =
    no_tail-added c.args.pcp.now c.args.at.now c.requires.element
    ∙ ap (λ (t : Option ℕ). with_state c.args.at.now
    (add_row c.args.pcp.now.presentation.prime (row_of c.args.pcp.now.tails t) c.args.at.now.state)) (sym c.in_default.is)
