use Rattle.std.proofs.Common.{ℕ, Option, List, [], ◌∷◌, ◌++◌, map, ap₂, sym, ◌∙◌}
use Rattle.pq_base.specs.Answer.Definition.{image}
use Rattle.pc_presentation.specs.Definition.{definition_of}
use Rattle.p_cover.specs.Sources.{place_in}
use Rattle.pq_base.proofs.NumberLists.{map_numbers-more}
use Rattle.p_cover.proofs.image_tails.image_tails.Goals as goal

pub loop-k-preserved : goal.loop-k-preserved
loop-k-preserved c =
    c.in_ok-push.ensures.items
    ∙ ap₂ (λ (front : List (Option ℕ)) (t : Option ℕ). front ++ t ∷ []) c.loop-k.invariant c.place_of_image.ensures
    ∙ sym (map_numbers-more (λ i. place_in (map definition_of c.args.sources.now) (image i)) c.loop-k.k)
