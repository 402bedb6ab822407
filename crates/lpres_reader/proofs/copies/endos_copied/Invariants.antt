use Rattle.std.proofs.Common.{◌≡◌, map, take}
use Rattle.lpres_reader.proofs.copies.endos_copied.Given as goal

-- the images so far
abbrev pub invariant-loop-images : goal.invariant-loop-images
invariant-loop-images l = map (λ f. f.items) l.copies.items ≡ map (λ f. f.items) (take l.images-index l.endos)
