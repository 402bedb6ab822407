use Rattle.std.proofs.Common.{◌≡◌, ◌++◌, drop, map}
use Rattle.pq_base.specs.Lines.{text_of_lines}
use Rattle.lpres_reader.specs.CanonicalText.{endo_lines}
use Rattle.lpres_reader.proofs.canonical.push_endos.Given as goal

-- what is written, and the lines of the endomorphisms that are left, are all
abbrev pub invariant-loop-images : goal.invariant-loop-images
invariant-loop-images l =
    l.out.items ++ text_of_lines (endo_lines l.names (map (λ f. f.items) (drop l.images-index l.endos)))
    ≡ l.initial.out.items ++ text_of_lines (endo_lines l.names (map (λ f. f.items) l.endos))
