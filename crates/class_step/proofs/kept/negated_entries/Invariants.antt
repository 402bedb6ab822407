use Rattle.std.proofs.Common.{[]}
use Rattle.fp_rows.specs.Row.{at_column}
use Rattle.fp_echelon.specs.Reduction.{negative}
use Rattle.pc_presentation.proofs.presentations.SyllableParts.{Written}
use Rattle.class_step.proofs.kept.negated_entries.Given as goal

abbrev pub invariant-loop-k : goal.invariant-loop-k
invariant-loop-k l = Written (λ c. negative l.row.prime (at_column l.row.entries c)) 0 l.kept [] l.k l.word.items
