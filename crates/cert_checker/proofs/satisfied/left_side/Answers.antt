use Rattle.std.proofs.Common.{◌∙◌, ap}
use Rattle.pq_base.specs.Presentation.{Presentation}
use Rattle.cert_checker.proofs.words.RelationWords.{power-side, commutator-side}
use Rattle.cert_checker.proofs.satisfied.left_side.Goals as goal

pub returns-in-Power-clause-value : goal.returns-in-Power-clause-value
returns-in-Power-clause-value c =
    power-side c.args.pcp.now c.args.answer.now.presentation c.args.elements.now c.requires.count c.args.relation c.requires.relation
    c.in-Power.i c.value-prime.result c.in-Power.is c.index-elements-i.result c.power.new.out c.index-elements-i.is
    (c.value-prime.ensures.value ∙ c.prime.ensures ∙ ap (λ (P : Presentation). P.prime) c.pcp.ensures.presentation)
    c.power.ensures.element c.power.ensures.joined

pub returns-in-Commutator-clause-value : goal.returns-in-Commutator-clause-value
returns-in-Commutator-clause-value c =
    commutator-side c.args.pcp.now c.args.answer.now.presentation c.args.elements.now c.requires.count c.args.relation c.requires.relation
    c.in-Commutator.j c.in-Commutator.i c.in-Commutator.is c.index-elements-j.result c.index-elements-i-in-Commutator.result
    c.commutator.new.out
    c.index-elements-j.is c.index-elements-i-in-Commutator.is c.commutator.ensures.element c.commutator.ensures.joined
