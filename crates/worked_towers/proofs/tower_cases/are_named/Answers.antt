use Rattle.std.proofs.Common.{subst}
use Rattle.std.proofs.lemmas.List.Elements.{All-more}
use Rattle.tower.specs.NamedParts.{IsNamed}
use Rattle.worked_towers.proofs.tower_cases.are_named.Goals as goal

pub loop-relator-preserved : goal.loop-relator-preserved
loop-relator-preserved c =
    All-more (IsNamed c.args.pres.now) c.args.relators.now c.loop-relator.relator-index c.relator-item.result c.loop-relator-test.true
    c.loop-relator.invariant
    (subst (IsNamed c.args.pres.now) c.relator-item.is (c.is_named.ensures c.if-not-is_named.false))
