use Rattle.std.proofs.Common.{length}
use Rattle.lpres_reader.specs.Values.{RunsOn}
use Rattle.lpres_reader.proofs.item.gather.Given as goal

abbrev pub invariant-loop-so_far : goal.invariant-loop-so_far
invariant-loop-so_far l = RunsOn l.fn.names.keys l.fn.line l.rest l.fn.first l.so_far

abbrev pub decreases-loop-so_far : goal.decreases-loop-so_far
decreases-loop-so_far l = length l.rest
