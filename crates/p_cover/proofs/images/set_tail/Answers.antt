use Rattle.std.proofs.Common.{ℕ, List, length, ap, sym, ◌∙◌}
use Rattle.pc_presentation.specs.Pcp.{unit_row, row_of}
use Rattle.pc_presentation.specs.Rowed.{row_sum}
use Rattle.pc_presentation.specs.Tailed.{with_state}
use Rattle.pc_presentation.proofs.presentations.WrittenWords.{zeros_sum-unit}
use Rattle.p_cover.proofs.images.set_tail.Goals as goal

pub returns-in-Some : goal.returns-in-Some
returns-in-Some c =
    let e = c.args.element.now in
    let n : ℕ = length e.state.row in
    c.add_tail.ensures
    ∙ ap (λ (x : List ℕ). with_state e (record { exponents = e.state.exponents; row = x }))
    (ap (λ (x : List ℕ). row_sum e.prime x (unit_row n c.in-Some.t)) c.requires.zeros
    ∙ zeros_sum-unit e.prime n c.in-Some.t c.requires.prime
    ∙ ap (row_of n) (sym c.in-Some.is))
