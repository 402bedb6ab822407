-- The tails of the images of a cover.
use Rattle.std.specs.Prelude.{ℕ, Option, List, length, map}
use Rattle.pq_base.specs.Answer.{Answer, Definition as Source}
use Rattle.pq_base.specs.Answer.Definition.{image}
use Rattle.pq_base.specs.Canonical.{numbers_from}
use Rattle.p_cover.specs.Sources.{place_in}

-- for each given generator the tail of its image
abbrev pub tails_of_images : Answer → List Source → List (Option ℕ)
tails_of_images A sources = map (λ i. place_in sources (image i)) (numbers_from 1 (length A.names))
