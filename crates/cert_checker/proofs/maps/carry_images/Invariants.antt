use Rattle.std.proofs.Common.{◌<◌, ℕ}
use Rattle.pc_presentation.specs.Tailed.{rowed_presentation}
use Rattle.cert_checker.specs.MapWords.{words_of, CarriesImage, IsBench}
use Rattle.cert_checker.proofs.maps.carry_images.Given as goal

abbrev pub invariant-loop-i : goal.invariant-loop-i
invariant-loop-i l =
    IsBench l.pcp l.bench
    × ((i : ℕ) → i < l.i → CarriesImage (rowed_presentation l.pcp) l.from (words_of l.pcp l.given) (words_of l.pcp l.elements) i)
