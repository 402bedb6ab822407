use Rattle.worked_towers.proofs.EmptyCounts.{no_steps}
use Rattle.worked_towers.proofs.tower_cases.with_fixed_of.Goals as goal

pub with_fixed-requires-clause-log : goal.with_fixed-requires-clause-log
with_fixed-requires-clause-log c = no_steps c.args.log.now c.requires.empty
