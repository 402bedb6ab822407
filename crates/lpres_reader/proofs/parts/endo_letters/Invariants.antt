use Rattle.std.proofs.Common.{take, map}
use Rattle.lpres_reader.specs.Parts.{HasEndoLetters}
use Rattle.lpres_reader.proofs.parts.endo_letters.Given as goal

-- the letters of the images so far
abbrev pub invariant-loop-images : goal.invariant-loop-images
invariant-loop-images l = HasEndoLetters l.generators l.before (take l.images-index (map (λ f. f.items) l.endos)) l.letters
