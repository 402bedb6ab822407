use Rattle.std.proofs.Common.{◌≡◌, take}
use Rattle.lpres_reader.specs.Limits.{letters_in}
use Rattle.lpres_reader.proofs.presentation.letters_in.Given as goal

abbrev pub invariant-loop-word : goal.invariant-loop-word
invariant-loop-word l = l.total ≡ letters_in (take l.word-index l.words.items)
