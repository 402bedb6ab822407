use Rattle.std.proofs.Common.{◌≡◌, ◌++◌, drop}
use Rattle.pq_base.specs.Lines.{text_of_lines}
use Rattle.lpres_reader.specs.CanonicalText.{relator_lines}
use Rattle.lpres_reader.proofs.canonical.push_relators.Given as goal

-- what is written, and the lines of the relators that are left, are all
abbrev pub invariant-loop-word : goal.invariant-loop-word
invariant-loop-word l =
    l.out.items ++ text_of_lines (relator_lines l.keyword l.names (drop l.word-index l.words))
    ≡ l.initial.out.items ++ text_of_lines (relator_lines l.keyword l.names l.words)
