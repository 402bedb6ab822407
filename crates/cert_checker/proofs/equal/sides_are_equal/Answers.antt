use Rattle.std.proofs.Common.{◌≡◌, ℕ, length, subst, arith}
use Rattle.pc_presentation.specs.Relation.{IsRelation, side_start}
use Rattle.pc_presentation.specs.Pcp.{right_side}
use Rattle.pc_presentation.proofs.presentations.SideLaws.{right_side-count}
use Rattle.cert_checker.proofs.EqualAnswers.{words-decided}
use Rattle.cert_checker.proofs.equal.sides_are_equal.Goals as goal

pub returns : goal.returns
returns c =
    let P = c.args.left.now.presentation in
    let Q = c.args.right.now.presentation in
    let r = c.args.relation in
    let first = right_side-count c.args.left.now.presentation c.rank-left.ensures.presentation.presentation r c.requires.relation in
    let second = right_side-count c.args.right.now.presentation c.rank-right.ensures.presentation.presentation r
    (subst (λ (n : ℕ). IsRelation n r) c.requires.rank c.requires.relation) in
    let long : length (right_side c.args.left.now.presentation c.args.relation)
    ≡ length (right_side c.args.right.now.presentation c.args.relation) =
    omega (arith, first, second, c.requires.rank) in
    words-decided (side_start r) (right_side P r) (right_side Q r) c.word.result.now c.word-2.result.now c.words_are_equal.result long
    c.word.ensures c.word-2.ensures c.words_are_equal.ensures
