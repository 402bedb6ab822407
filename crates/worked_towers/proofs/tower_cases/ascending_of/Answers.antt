use Rattle.derivation_log.specs.declared.source.Run.TheVariants.{Iterated}
use Rattle.worked_towers.proofs.EmptyCounts.{no_steps_of}
use Rattle.worked_towers.proofs.tower_cases.ascending_of.Goals as goal

pub ascending-requires-clause-log : goal.ascending-requires-clause-log
ascending-requires-clause-log c = no_steps_of c.args.log.now Iterated c.requires.empty
