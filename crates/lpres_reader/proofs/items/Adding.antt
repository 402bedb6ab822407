-- What is made of a presentation by relators of a sort, or by the images that arrows give.
use Rattle.std.proofs.Common.{◌≡◌, ℤ, List, length, refl, ap, sym, subst}
use Rattle.pq_base.specs.LPresentation.{LPresentation}
use Rattle.lpres_reader.specs.declared.fault.Which.{Which}
use Rattle.lpres_reader.specs.declared.fault.Which.TheVariants as which
use Rattle.lpres_reader.specs.Adds.{AddsAs, Adds}
use Rattle.lpres_reader.specs.Arrows.{mappings}
use Rattle.lpres_reader.specs.Gatherings.{Gathering}
use Rattle.lpres_reader.specs.Items.{GivesEach, fixed, iterated, endo}
use Rattle.lpres_reader.specs.Trials.{added}

pub adds_fixed : (M : LPresentation) (g : Gathering) (ws : List (List ℤ)) → g.which ≡ which.Fixed → ws ≡ g.relators
    → Adds M g (added M (fixed ws))
adds_fixed M g ws e is = subst (λ (w : Which). AddsAs w M g (added M (fixed ws))) (sym e) (ap (λ (r : List (List ℤ)). added M (fixed r)) is)

pub adds_iterated : (M : LPresentation) (g : Gathering) (ws : List (List ℤ)) → g.which ≡ which.Iterated → ws ≡ g.relators
    → Adds M g (added M (iterated ws))
adds_iterated M g ws e is =
    subst (λ (w : Which). AddsAs w M g (added M (iterated ws))) (sym e) (ap (λ (r : List (List ℤ)). added M (iterated r)) is)

-- arrows
module _ (M : LPresentation) (g : Gathering) where
  images_added : (w : Which) → ¬ (w ≡ which.Fixed) → ¬ (w ≡ which.Iterated) → (f : List (List ℤ))
      → GivesEach (length M.names) (mappings g.arrows) f → AddsAs w M g (added M (endo f))
  images_added which.Fixed h k f e = absurd (h refl)
  images_added which.Iterated h k f e = absurd (k refl)
  images_added which.Name h k f e = (f, e, refl)
  images_added which.Generators h k f e = (f, e, refl)
  images_added which.Endos h k f e = (f, e, refl)
  images_added which.Exponent h k f e = (f, e, refl)
  images_added which.Letters h k f e = (f, e, refl)
  images_added which.Total h k f e = (f, e, refl)

  pub adds_images : ¬ (g.which ≡ which.Fixed) → ¬ (g.which ≡ which.Iterated) → (f : List (List ℤ))
      → GivesEach (length M.names) (mappings g.arrows) f → Adds M g (added M (endo f))
  adds_images = images_added g.which
