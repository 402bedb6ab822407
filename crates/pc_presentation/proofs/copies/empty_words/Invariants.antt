use Rattle.std.proofs.Common.{◌≡◌, replicate, []}
use Rattle.pc_presentation.specs.Parts.{words_of}
use Rattle.pc_presentation.proofs.copies.empty_words.Given as goal

abbrev pub invariant-loop : goal.invariant-loop
invariant-loop l = words_of l.words.items ≡ replicate l.counter []
