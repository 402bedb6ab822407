use Rattle.worked_towers.proofs.EmptyCounts.{no_steps}
use Rattle.worked_towers.proofs.tower_cases.finite_of.Goals as goal

pub finite-requires-clause-log : goal.finite-requires-clause-log
finite-requires-clause-log c = no_steps c.args.log.now c.requires.empty
