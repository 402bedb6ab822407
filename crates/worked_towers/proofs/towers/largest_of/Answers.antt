use Rattle.derivation_log.specs.declared.source.Run.TheVariants.{Iterated}
use Rattle.worked_towers.proofs.EmptyCounts.{no_steps, no_steps_of}
use Rattle.worked_towers.proofs.towers.largest_of.Goals as goal

pub largest-requires-clause-log : goal.largest-requires-clause-log
largest-requires-clause-log c = no_steps c.args.log.now c.requires.empty

pub largest-requires-clause-part_log : goal.largest-requires-clause-part_log
largest-requires-clause-part_log c _ = no_steps_of c.args.log.now Iterated c.requires.empty_part
