use Rattle.std.proofs.Common.{◌≡◌, take}
use Rattle.lpres_reader.proofs.copies.words_copied.Given as goal

-- the words so far
abbrev pub invariant-loop-word : goal.invariant-loop-word
invariant-loop-word l = l.copies.items ≡ take l.word-index l.words
