use Rattle.std.proofs.Common.{subst}
use Rattle.pq_base.specs.LPresentation.{IsLPresentation}
use Rattle.lpres_reader.specs.Limits.{IsWithinLimits}
use Rattle.lpres_reader.proofs.items.ItemMakes.{adds_soundly, makes_or_misses}
use Rattle.lpres_reader.proofs.item.read_behind.Goals as goal

pub with-requires : goal.with-requires
with-requires c =
    let sound = subst IsLPresentation c.pres.view_is c.pres.invariant.1 in
    let within = subst IsWithinLimits c.pres.view_is c.pres.invariant.2 in
    adds_soundly c.args.pres sound within c.args.line.now c.in_ok-gathered.gathered c.in_ok-gathered.ensures

pub returns : goal.returns
returns c =
    let sound = subst IsLPresentation c.pres.view_is c.pres.invariant.1 in
    let within = subst IsWithinLimits c.pres.view_is c.pres.invariant.2 in
    makes_or_misses c.args.pres sound within c.args.line.now c.in_ok-gathered.gathered c.in_ok-gathered.ensures c.with.result c.with.ensures
