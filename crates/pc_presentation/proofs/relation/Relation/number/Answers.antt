use Rattle.std.proofs.Common.{arith, subst}
use Rattle.pc_presentation.specs.declared.relation.Relation.{Relation}
use Rattle.pc_presentation.specs.declared.relation.Relation.TheVariants.{Commutator}
use Rattle.pc_presentation.specs.Relation.{IsRelation}
use Rattle.pc_presentation.proofs.presentations.RelationNumbers.{relation_number-below}
use Rattle.pc_presentation.proofs.relation.Relation.number.Goals as goal

pub returns-in-Commutator-clause-below : goal.returns-in-Commutator-clause-below
returns-in-Commutator-clause-below c =
    let r : IsRelation c.args.rank (Commutator c.in-Commutator.j c.in-Commutator.i) =
    subst (λ (r : Relation). IsRelation c.args.rank r) c.in-Commutator.is c.requires.relation in
    omega (arith, relation_number-below c.args.rank (Commutator c.in-Commutator.j c.in-Commutator.i) r)
