use Rattle.std.proofs.Common.{◌≡◌, ◌++◌, ◌/◌, ℕ, map, ap, ◌∙◌, arith}
use Rattle.pq_base.specs.Answer.{class_of}
use Rattle.pq_base.specs.Canonical.{numbers_from, rank_up_to}
use Rattle.pc_presentation.specs.declared.overlap.Overlap.TheVariants.{Own}
use Rattle.pq_base.specs.Presentation.{Presentation}
use Rattle.cover_quotient.proofs.canonical_answers.ClassesByWeight.{rank-within}
use Rattle.tails_by_weight.proofs.PushedLists.{pushed-map}
use Rattle.tails_by_weight.proofs.light_overlaps.push_owns.Goals as goal

pub loop-i-preserved : goal.loop-i-preserved
loop-i-preserved c =
    pushed-map Own c.loop-i.i c.args.tests.now.items c.loop-i.tests.items c.push.new.self.items
    c.loop-i.invariant c.in_ok-push.ensures.items

pub returns : goal.returns
returns c =
    let A = c.args.answer.now in
    let rank = c.rank.ensures.rank in
    let same = ap (λ (P : Presentation). P.rank) c.pcp.ensures.presentation in
    let within = rank-within A c.pcp.ensures.answer (class_of A / 2) in
    let half : rank_up_to A (c.class.result / 2) ≡ rank_up_to A (class_of A / 2) = ap (λ (k : ℕ). rank_up_to A (k / 2)) c.class.ensures in
    let all : c.loop-i.i ≡ rank_up_to A (class_of A / 2) = omega arith in
    c.loop-i.invariant ∙ ap (λ (k : ℕ). c.args.tests.now.items ++ map Own (numbers_from 1 k)) all
