use Rattle.std.proofs.Common.{ap, ◌∙◌}
use Rattle.pc_presentation.specs.Collection.{Configuration, identity, push_configuration}
use Rattle.pc_presentation.specs.Tailed.{rowed_presentation, with_state, side_with_tail}
use Rattle.pq_base.proofs.PrimeLaws.{positive_prime}
use Rattle.pc_presentation.proofs.rows.RowLaws.{identity-state}
use Rattle.pc_presentation.proofs.quotients.TailedLaws.{rowed_presentation-is}
use Rattle.pc_presentation.proofs.presentations.RelationSides.{side-generators, side-read}
use Rattle.pc_presentation.proofs.consistent.OverlapWays.{word-before}
use Rattle.pc_presentation.proofs.overlap.collect_with_side.Goals as goal

pub push_word-requires-clause-generators : goal.push_word-requires-clause-generators
push_word-requires-clause-generators g c =
    side-generators c.args.pcp.now c.requires.element.presentation c.args.relation c.requires.relation c.word.result.now c.word.ensures

pub returns-clause-collected : goal.returns-clause-collected
returns-clause-collected g c =
    let T = c.args.pcp.now in
    let is = c.requires.element.presentation in
    let positive = positive_prime T.presentation is.presentation in
    let push = g.C.Collect.meaning (rowed_presentation T) in
    word-before T push is (g.met.C.Collect.reaches (rowed_presentation T) (rowed_presentation-is T is)) c.args.at.now c.collect.new.at
    c.push_word.new.at
    (identity (rowed_presentation T) T.presentation.rank) (identity-state (rowed_presentation T) T.presentation.rank positive)
    c.args.word.now
    (side_with_tail T c.args.relation) c.requires.generators c.collect.ensures.collected
    (c.push_word.ensures.pushed
    ∙ ap (λ (d : Configuration). with_state c.collect.new.at (push_configuration (rowed_presentation T) push c.collect.new.at.state d))
    (side-read T c.args.relation c.word.result.now c.tail-tail.result c.word.ensures c.tail-tail.ensures))
