use Rattle.std.proofs.Common.{◌≡◌, ◌++◌, drop}
use Rattle.answer_text.specs.Words.{further_text}
use Rattle.answer_text.proofs.words.push_further.Given as goal

-- what is written, and the syllables that are left, are all
abbrev pub invariant-loop-s : goal.invariant-loop-s
invariant-loop-s l = l.out.items ++ further_text (drop l.s-index l.word) ≡ l.initial.out.items ++ further_text l.word
