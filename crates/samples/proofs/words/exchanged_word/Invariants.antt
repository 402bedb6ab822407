use Rattle.std.proofs.Common.{◌≡◌, map, take}
use Rattle.samples.specs.Samples.{exchanged}
use Rattle.samples.proofs.words.exchanged_word.Given as goal

-- the letters so far
abbrev pub invariant-loop-k : goal.invariant-loop-k
invariant-loop-k l = l.letters.items ≡ map exchanged (take l.k-index l.word)
