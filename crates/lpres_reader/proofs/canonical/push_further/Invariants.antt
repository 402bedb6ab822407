use Rattle.std.proofs.Common.{◌≡◌, ◌++◌, codes, map, length}
use Rattle.lpres_reader.specs.Runs.{runs_of}
use Rattle.lpres_reader.specs.CanonicalText.{preceded, run_text}
use Rattle.lpres_reader.proofs.canonical.push_further.Given as goal

-- what is written, and the runs that are left, are all
abbrev pub invariant-loop-run : goal.invariant-loop-run
invariant-loop-run l =
    l.out.items ++ preceded (codes "*") (map (run_text l.names) (runs_of l.rest))
    ≡ l.initial.out.items ++ preceded (codes "*") (map (run_text l.names) (runs_of l.word))

abbrev pub decreases-loop-run : goal.decreases-loop-run
decreases-loop-run l = length l.rest
