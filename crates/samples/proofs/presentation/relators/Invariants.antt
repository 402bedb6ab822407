use Rattle.std.proofs.Common.{◌≡◌, ◌+◌, ◌++◌, drop}
use Rattle.samples.specs.Samples.{relators_from}
use Rattle.samples.proofs.presentation.relators.Given as goal

-- the relators so far and those of the words that are left are all
abbrev pub invariant-loop-word : goal.invariant-loop-word
invariant-loop-word l =
    (l.relators.items ++ relators_from l.i (drop l.word-index l.words) ≡ relators_from 3 l.words) × (l.i ≡ 3 + l.word-index)
