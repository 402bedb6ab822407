-- The lines so far lead to what is read so far; each line shortens what is left.
use Rattle.std.proofs.Common.{option_map}
use Rattle.lpres_reader.proofs.texts.TextRuns.{ReadSoFar, size_left}
use Rattle.lpres_reader.proofs.reading.read_lines.Given as goal

abbrev pub invariant-loop-left : goal.invariant-loop-left
invariant-loop-left l = ReadSoFar l.fn.text l.count (option_map (λ t. t.now) l.left) l.so_far

abbrev pub decreases-loop-left : goal.decreases-loop-left
decreases-loop-left l = size_left (option_map (λ t. t.now) l.left)
