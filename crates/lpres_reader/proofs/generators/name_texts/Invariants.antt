-- The names of the line are those so far and those that are left; each name shortens the rest.
use Rattle.std.proofs.Common.{◌≡◌, ◌++◌, length, option_map}
use Rattle.lpres_reader.specs.GeneratorNames.{line_names, names_on, texts_of}
use Rattle.lpres_reader.proofs.generators.name_texts.Given as goal

abbrev pub invariant-loop-texts : goal.invariant-loop-texts
invariant-loop-texts l = line_names l.fn.line ≡ option_map (λ names. texts_of l.texts.items ++ names) (names_on l.rest)

abbrev pub decreases-loop-texts : goal.decreases-loop-texts
decreases-loop-texts l = length l.rest
