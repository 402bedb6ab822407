use Rattle.lpres_reader.specs.PlainFactors.{nowhere, further}
use Rattle.lpres_reader.proofs.recipes.PlainRuns.{rest_behind_plain}
use Rattle.lpres_reader.proofs.plain.behind_plain_factors.Goals as goal

pub loop-after-init : goal.loop-after-init
loop-after-init c = nowhere

pub loop-after-smaller : goal.loop-after-smaller
loop-after-smaller c =
    rest_behind_plain c.args.names.now.keys c.loop-after.rest.now c.in-Some.after.now c.in-Some.field-0-0 c.in-Some.ensures

pub loop-after-preserved : goal.loop-after-preserved
loop-after-preserved c = further c.loop-after.rest.now c.in-Some.field-0-0 c.loop-after.invariant c.in-Some.ensures
