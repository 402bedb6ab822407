use Rattle.std.proofs.Common.{◌≡◌, take}
use Rattle.p_cover.specs.Images.{lifted_images}
use Rattle.p_cover.proofs.images.lifted_images.Given as goal

abbrev pub invariant-loop-k : goal.invariant-loop-k
invariant-loop-k l = l.images.items ≡ take l.k (lifted_images l.cover)
