use Rattle.std.proofs.Common.{ℕ, ap, ◌∙◌}
use Rattle.pc_presentation.specs.Collection.{State, plain_push}
use Rattle.pc_presentation.specs.Tailed.{rowed_presentation}
use Rattle.pc_presentation.specs.OverlapNumbers.{overlap_of}
use Rattle.pc_presentation.specs.OverlapRows.{left_end, right_end}
use Rattle.pc_presentation.proofs.consistent.OverlapRows.{same_exponents}
use Rattle.fp_rows.specs.Differences.{difference}
use Rattle.p_cover.specs.Covers.{cover_presentation}
use Rattle.cert_checker.proofs.found_rows.SourceRows.{end_of_way}
use Rattle.cert_checker.proofs.overlap_rows.overlap_row.Goals as goal

pub returns-clause-agrees : goal.returns-clause-agrees
returns-clause-agrees c =
    let T = cover_presentation c.args.cover.now in
    let Y = rowed_presentation T in
    let o = overlap_of c.args.overlap in
    same_exponents c.subtract_if_alike.result c.left.result.now.state (left_end Y (plain_push Y) o) c.right.result.now.state
    (right_end Y (plain_push Y) o)
    (end_of_way left_end T c.pcp.result.now o c.left.result.now c.two_ways.new.s.left c.left.ensures c.pcp.ensures.presentation
    c.two_ways.ensures.left)
    (end_of_way right_end T c.pcp.result.now o c.right.result.now c.two_ways.new.s.right c.right.ensures c.pcp.ensures.presentation
    c.two_ways.ensures.right)
    c.subtract_if_alike.ensures.alike

pub returns-clause-row : goal.returns-clause-row
returns-clause-row c = λ t.
    let T = cover_presentation c.args.cover.now in
    let Y = rowed_presentation T in
    let o = overlap_of c.args.overlap in
    c.subtract_if_alike.ensures.row t
    ∙ ap (λ (p : ℕ). difference p c.left.result.now.state.row c.right.result.now.state.row) c.requires.prime
    ∙ ap (λ (s : State). difference T.presentation.prime s.row c.right.result.now.state.row)
    (end_of_way left_end T c.pcp.result.now o c.left.result.now c.two_ways.new.s.left c.left.ensures c.pcp.ensures.presentation
    c.two_ways.ensures.left)
    ∙ ap (λ (s : State). difference T.presentation.prime (left_end Y (plain_push Y) o).row s.row)
    (end_of_way right_end T c.pcp.result.now o c.right.result.now c.two_ways.new.s.right c.right.ensures c.pcp.ensures.presentation
    c.two_ways.ensures.right)
