use Rattle.std.proofs.Common.{ℕ, List, length, sym, subst, ◌∙◌}
use Rattle.lpres_reader.specs.declared.gathered.Arrow.{Arrow}
use Rattle.lpres_reader.specs.Arrows.{mappings}
use Rattle.lpres_reader.specs.Items.{GivesEach}
use Rattle.lpres_reader.proofs.items.Adding.{adds_fixed, adds_iterated, adds_images}
use Rattle.lpres_reader.proofs.presentation.LPres.with.Goals as goal

pub with_fixed-requires-clause-presentation : goal.with_fixed-requires-clause-presentation
with_fixed-requires-clause-presentation c =
    (c.requires _ (adds_fixed c.args.self c.args.gathered c.into_relators.result.items
    (sym c.which.ensures ∙ c.in-Fixed.is) c.into_relators.ensures)).0

pub with_fixed-requires-clause-limits : goal.with_fixed-requires-clause-limits
with_fixed-requires-clause-limits c =
    (c.requires _ (adds_fixed c.args.self c.args.gathered c.into_relators.result.items
    (sym c.which.ensures ∙ c.in-Fixed.is) c.into_relators.ensures)).1

pub with_iterated-requires-clause-presentation : goal.with_iterated-requires-clause-presentation
with_iterated-requires-clause-presentation c =
    (c.requires _ (adds_iterated c.args.self c.args.gathered c.into_relators-in-Iterated.result.items
    (sym c.which.ensures ∙ c.in-Iterated.is) c.into_relators-in-Iterated.ensures)).0

pub with_iterated-requires-clause-limits : goal.with_iterated-requires-clause-limits
with_iterated-requires-clause-limits c =
    (c.requires _ (adds_iterated c.args.self c.args.gathered c.into_relators-in-Iterated.result.items
    (sym c.which.ensures ∙ c.in-Iterated.is) c.into_relators-in-Iterated.ensures)).1

pub with_endo-requires : goal.with_endo-requires
with_endo-requires c =
    let words = c.in_ok-images-in_default.images.items in
    let counted =
    subst (λ (names : List (List ℕ)). GivesEach (length names) (mappings c.arrows.result.now) words) c.names.ensures.names
    c.in_ok-images-in_default.ensures in
    let gives = subst (λ (arrows : List Arrow). GivesEach (length c.args.self.names) (mappings arrows) words) c.arrows.ensures counted in
    let kept =
    c.requires _ (adds_images c.args.self c.args.gathered (λ e. c.in_default.not-Fixed (c.which.ensures ∙ e))
    (λ e. c.in_default.not-Iterated (c.which.ensures ∙ e)) c.in_ok-images-in_default.images.items gives) in
    record { presentation = kept.0; limits = kept.1 }
