use Rattle.std.proofs.Common.{◌≡◌, suc, drop, map}
use Rattle.pq_base.specs.Answer.Definition.{image}
use Rattle.pc_presentation.specs.Definition.{definition_of}
use Rattle.p_cover.specs.Sources.{place_from, place_in}
use Rattle.p_cover.proofs.image_tails.place_of_image.Given as goal

abbrev pub invariant-loop-k : goal.invariant-loop-k
invariant-loop-k l =
    place_from (suc l.k) (drop l.k (map definition_of l.sources)) (image l.i) ≡ place_in (map definition_of l.sources) (image l.i)
