use Rattle.std.proofs.Common.{length}
use Rattle.lpres_reader.proofs.trees.FormRuns.{InForm}
use Rattle.lpres_reader.proofs.names.KnownRuns.{KnownSoFar}
use Rattle.lpres_reader.proofs.syntax.check_form.Given as goal

abbrev pub invariant-loop-so_far : goal.invariant-loop-so_far
invariant-loop-so_far l = record {
  form : InForm l.fn.line l.rest l.so_far;
  known : KnownSoFar l.names.keys l.initial.rest l.rest l.known;
}

abbrev pub decreases-loop-so_far : goal.decreases-loop-so_far
decreases-loop-so_far l = length l.rest
