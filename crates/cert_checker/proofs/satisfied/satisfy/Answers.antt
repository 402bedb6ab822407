use Rattle.std.proofs.Common.{◌≡◌, ◌∙◌, ◌↔◌, ℕ, IsTrue, List, ℤ, ap, sym, subst}
use Rattle.pq_base.specs.SignedWord.{sub}
use Rattle.pq_base.specs.Joined.{Joined}
use Rattle.pq_base.specs.Presentation.{Presentation}
use Rattle.pc_presentation.specs.Relation.{IsRelation}
use Rattle.pc_presentation.specs.Rowed.{flat}
use Rattle.pc_presentation.specs.Syllable.{AreGenerators}
use Rattle.pc_presentation.specs.Tailed.{rowed_presentation}
use Rattle.pc_presentation.proofs.presentations.RelationSides.{side-generators}
use Rattle.cert_checker.specs.MapWords.{words_of, left_word}
use Rattle.cert_checker.proofs.words.RelationWords.{sides-decided, right-letters}
use Rattle.cert_checker.proofs.satisfied.satisfy.Goals as goal

pub multiply_out-requires-clause-generators : goal.multiply_out-requires-clause-generators
multiply_out-requires-clause-generators c =
    let P = c.args.answer.now.presentation in
    let same : c.pcp-own.result.now.presentation ≡ P = c.pcp-own.ensures.presentation in
    subst (λ (n : ℕ). AreGenerators n c.word.result.now) (ap (λ (Q : Presentation). Q.rank) same ∙ sym c.requires.count)
    (side-generators c.pcp-own.result.now c.rank-presentation.ensures.presentation c.args.relation
    (subst (λ (Q : Presentation). IsRelation Q.rank c.args.relation) (sym same) c.requires.relation) c.word.result.now c.word.ensures)

pub returns-clause-satisfied : goal.returns-clause-satisfied
returns-clause-satisfied c =
    let T = c.args.pcp.now in
    let P = c.args.answer.now.presentation in
    let G = words_of T c.args.elements.now in
    subst (λ (w : List ℤ). IsTrue c.are_joined.result ↔ Joined (flat (rowed_presentation T)) (sub (left_word P c.args.relation) G)
    (sub w G))
    (right-letters P c.pcp-own.result.now.presentation c.args.relation c.word.result.now c.requires.relation
    c.pcp-own.ensures.presentation c.word.ensures)
    (sides-decided (rowed_presentation T) c.are_joined.result c.left_side.ensures.value.joined c.multiply_out.ensures.value.joined
    c.are_joined.ensures)
