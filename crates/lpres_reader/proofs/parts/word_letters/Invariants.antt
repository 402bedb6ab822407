use Rattle.std.proofs.Common.{take}
use Rattle.lpres_reader.specs.Parts.{HasWordLetters}
use Rattle.lpres_reader.proofs.parts.word_letters.Given as goal

-- the letters of the words so far
abbrev pub invariant-loop-word : goal.invariant-loop-word
invariant-loop-word l = HasWordLetters l.generators l.before (take l.word-index l.words) l.letters
