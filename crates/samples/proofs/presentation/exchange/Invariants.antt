use Rattle.std.proofs.Common.{◌≡◌, ◌++◌, ℤ, List, drop, map}
use Rattle.samples.specs.Samples.{exchanged, exchange}
use Rattle.samples.proofs.presentation.exchange.Given as goal

-- the images so far and those of the words that are left are all
abbrev pub invariant-loop-word : goal.invariant-loop-word
invariant-loop-word l = l.images.items ++ map (λ (w : List ℤ). map exchanged w) (drop l.word-index l.words) ≡ exchange l.words
