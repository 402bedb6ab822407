-- None of the lines so far begins with `generators`; each line shortens what is left.
use Rattle.std.proofs.Common.{option_map}
use Rattle.lpres_reader.proofs.names.GeneratorSearch.{NoneSoFar}
use Rattle.lpres_reader.proofs.texts.TextRuns.{size_left}
use Rattle.lpres_reader.proofs.reading.has_generators.Given as goal

abbrev pub invariant-loop-left : goal.invariant-loop-left
invariant-loop-left l = NoneSoFar l.fn.text (option_map (λ t. t.now) l.left)

abbrev pub decreases-loop-left : goal.decreases-loop-left
decreases-loop-left l = size_left (option_map (λ t. t.now) l.left)
