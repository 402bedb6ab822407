use Rattle.std.proofs.Common.{◌≡◌, take}
use Rattle.pc_presentation.specs.Parts.{words_of}
use Rattle.pc_presentation.proofs.copies.words_copied.Given as goal

abbrev pub invariant-loop-word : goal.invariant-loop-word
invariant-loop-word l = words_of l.copies.items ≡ words_of (take l.word-index l.words)
