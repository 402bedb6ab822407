use Rattle.std.proofs.Common.{ℕ, ◌<◌, List, get_or}
use Rattle.pc_presentation.specs.declared.syllable.Syllable.{Syllable}
use Rattle.pc_presentation.specs.Syllable.{AreSyllables}
use Rattle.pc_presentation.specs.Parts.{words_of}
use Rattle.pc_presentation.proofs.parts.are_images.Given as goal

-- the images so far are normal
abbrev pub invariant-loop-word : goal.invariant-loop-word
invariant-loop-word l = (k : ℕ) (d : List Syllable) → k < l.word-index → AreSyllables l.prime l.rank 0 (get_or (words_of l.images) k d)
